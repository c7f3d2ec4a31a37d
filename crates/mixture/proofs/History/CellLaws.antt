-- A cell goes by its inputs alone, so a setting that doesn't make it stale leaves its exponential; what the mixture makes
-- stale is what has an input set; and values go by the cells.
use mathlib.Core.Path.{◌≡◌, refl, sym, ap, subst, subst⁻¹}
use mathlib.Core.Bool.{true, false, ◌&&◌, ◌||◌, or-false}
use mathlib.Core.Logic.{inl, inr}
use mathlib.Core.List.{List}
use mathlib.Core.Option.{Option}
use Prim.Native.Nat.{ℕ, ◌<◌}
use native.Mathlib.Omega.{arith}
use lib.Dec.{eqb}
use lib.Ieee.{Float}
use borrow.Author.Tests.{lt-ltb, ne_eqb, eqb-true}
use Rattle.arithmetic.specs.Tables.{at}
use Rattle.arithmetic.specs.Parameters.{td_at}
use Rattle.arithmetic.specs.declared.parameters.TdParam.{TdParam}
use Rattle.arithmetic.proofs.Tests.{either}
use Rattle.models.specs.declared.answers.Quantity.{Quantity}
use Rattle.models.specs.Faults.{index_fault}
use Rattle.models.specs.Exponentials.{energy, group_energy}
use Rattle.models.specs.Wilson.{wilson_at}
use Rattle.models.specs.Uniquac.{uniquac_at}
use Rattle.models.specs.Nrtl.{nrtl_at}
use Rattle.models.specs.Unifac.{unifac_at}
use Rattle.models.proofs.ExponentialLaws.{energy-same}
use Rattle.models.proofs.NrtlLaws.{nonrandomness-same, nrtl-same}
use Rattle.models.proofs.UnifacLaws.{unifac-same}
use Rattle.models.proofs.WilsonLaws.{wilson-same}
use Rattle.models.proofs.UniquacLaws.{uniquac-same}
use Rattle.models.specs.declared.model.Model.{Model}
use Rattle.models.specs.declared.model.Model.TheVariants.{Wilson, Uniquac, Nrtl, Unifac}
use Rattle.mixture.specs.declared.setting.Setting.{Setting}
use Rattle.mixture.specs.declared.setting.Setting.TheVariants.{Temperature, Entry, TdEntry, Size, Count, Tolerance}
use Rattle.mixture.specs.Lists.{any_of}
use Rattle.mixture.specs.Holdings.{Held, temperature, entry, td_entry, named}
use Rattle.mixture.specs.Cells.{width, is_cell, inputs}
use Rattle.models.specs.Model.{ModelData, by_model}
use Rattle.mixture.specs.Faults.{has_entry, has_td_entry, has_size, has_count, case_fault}
use Rattle.mixture.specs.Calls.{exponential, value_by, stales}
use Rattle.mixture.specs.Book.{Call, Load, Set, Fractions, replaced, set_in, set_t, gives, plain}
use Rattle.mixture.proofs.ListLaws.{never, or-none}
use Rattle.mixture.proofs.PlaceLaws.{had}
use Rattle.mixture.proofs.History.AgreeLaws.{Agrees}

-- ---- names that are there

module _ (d : Held) (i j : ℕ) where
  entry_there : (k : Model) → by_model k true true true false ≡ true → d.model ≡ k → i < d.n → j < d.n → has_entry d i j ≡ true
  unfolding has_entry
  entry_there Wilson t e a b = rw (e, lt-ltb i d.n a, lt-ltb j d.n b)
  entry_there Uniquac t e a b = rw (e, lt-ltb i d.n a, lt-ltb j d.n b)
  entry_there Nrtl t e a b = rw (e, lt-ltb i d.n a, lt-ltb j d.n b)
  entry_there Unifac t e a b = never (sym t)

  nrtl_td : d.model ≡ Nrtl → i < d.n → j < d.n → has_td_entry d i j ≡ true
  unfolding has_td_entry
  nrtl_td e a b = rw (e, lt-ltb i d.n a, lt-ltb j d.n b)

  unifac_td : d.model ≡ Unifac → i < d.ng → j < d.ng → has_td_entry d i j ≡ true
  unfolding has_td_entry
  unifac_td e a b = rw (e, lt-ltb i d.ng a, lt-ltb j d.ng b)

  unifac-count : d.model ≡ Unifac → i < d.n → j < d.lists.length i → has_count d i j ≡ true
  unfolding has_count
  unifac-count e a b = rw (e, lt-ltb i d.n a, lt-ltb j (d.lists.length i) b)

module _ (d : Held) (i : ℕ) where
  wilson-size : d.model ≡ Wilson → i < d.n → has_size d i 0 ≡ true
  unfolding has_size
  wilson-size e a = rw (e, lt-ltb i d.n a)

  uniquac-size : (w : ℕ) → w < 2 → d.model ≡ Uniquac → i < d.n → has_size d i w ≡ true
  unfolding has_size
  uniquac-size w h e a = rw (e, lt-ltb i d.n a, lt-ltb w 2 h)

  unifac-size : (w : ℕ) → w < 2 → d.model ≡ Unifac → i < d.ng → has_size d i w ≡ true
  unfolding has_size
  unifac-size w h e a = rw (e, lt-ltb i d.ng a, lt-ltb w 2 h)

-- ---- equal names, equal exponentials

pub exponential-same : (c d : Held) → Agrees c d → (T : Float) (i j : ℕ) → i < width d → j < width d → exponential c T i j ≡ exponential d T i j
unfolding exponential group_energy width
exponential-same c d a T i j hi hj = go d.model a.alike.model refl
  where
    energies : (k : Model) → by_model k true true true false ≡ true → d.model ≡ k → i < d.n → j < d.n → energy c.entry T i j ≡ energy d.entry T i j
    energies k u e b g = energy-same c.entry d.entry T T i j (a.entry i j (entry_there d i j k u e b g)) (a.entry i i (entry_there d i i k u e b b)) refl

    go : (k : Model) → c.model ≡ k → d.model ≡ k → exponential c T i j ≡ exponential d T i j
    go Wilson f e = rw (f, e) (energies Wilson refl e (rw e at hi) (rw e at hj))
    go Uniquac f e = rw (f, e) (energies Uniquac refl e (rw e at hi) (rw e at hj))
    go Nrtl f e =
        rw (f, e)
        (nonrandomness-same c.entry d.entry (λ i j. td_at (c.td_entry i j) T) (λ i j. td_at (d.td_entry i j) T) i j
        (a.entry i j (entry_there d i j Nrtl refl e (rw e at hi) (rw e at hj)))
        (ap (λ (p : TdParam). td_at p T) (a.td_entry i j (nrtl_td d i j e (rw e at hi) (rw e at hj)))))
    go Unifac f e = rw (f, e) (rw (a.td_entry i j (unifac_td d i j e (rw e at hi) (rw e at hj))))

-- ---- a setting leaves the exponentials of the cells that it doesn't make stale

-- the test of an energy is false at both of E_ij's energies
energy-off : (i j r s : ℕ) → (eqb i r && (eqb j s || eqb r s)) ≡ false → ((eqb i r && eqb j s) ≡ false) × ((eqb i r && eqb i s) ≡ false)
energy-off i j r s h =
    elim (either (eqb i r)) [
      | inl e ↦
          let q : i ≡ r = eqb-true i r e in
          let b = or-none (eqb j s) (eqb r s) (rw e at h) in
          (rw (e, b.0), rw (e, q, b.1))
      | inr e ↦ (rw e, rw e)
    ]

replaced-off : {A : Type 0} (f : ℕ → ℕ → A) (r s : ℕ) (v : A) (i j : ℕ) → (eqb i r && eqb j s) ≡ false → replaced f r s v i j ≡ f i j
unfolding replaced
replaced-off f r s v i j h = rw h

pub exponential-still : (d : Held) (s : Setting) (T : Float) (i j : ℕ) → stales d s i j ≡ false → exponential (set_in s d) T i j ≡ exponential d T i j
unfolding exponential stales set_in group_energy
exponential-still d (Temperature U) T i j h = refl
exponential-still d (Entry r s v) T i j h = go d.model refl
  where
    energies : (eqb i r && (eqb j s || eqb r s)) ≡ false → energy (replaced d.entry r s v) T i j ≡ energy d.entry T i j
    energies q =
        let b = energy-off i j r s q in
        energy-same _ d.entry T T i j (replaced-off d.entry r s v i j b.0) (replaced-off d.entry r s v i i b.1) refl

    go : (k : Model) → d.model ≡ k → exponential (set_in (Entry r s v) d) T i j ≡ exponential d T i j
    go Wilson e = rw e (energies (rw e at h))
    go Uniquac e = rw e (energies (rw e at h))
    go Nrtl e = rw e (nonrandomness-same _ d.entry _ (λ i j. td_at (d.td_entry i j) T) i j (replaced-off d.entry r s v i j (rw e at h)) refl)
    go Unifac e = rw e
exponential-still d (TdEntry r s p) T i j h = go d.model refl
  where
    go : (k : Model) → d.model ≡ k → exponential (set_in (TdEntry r s p) d) T i j ≡ exponential d T i j
    go Wilson e = rw e
    go Uniquac e = rw e
    go Nrtl e =
        rw e
        (nonrandomness-same d.entry d.entry _ (λ i j. td_at (d.td_entry i j) T) i j refl
        (ap (λ (p : TdParam). td_at p T) (replaced-off d.td_entry r s p i j h)))
    go Unifac e = rw e (rw (replaced-off d.td_entry r s p i j h))
exponential-still d (Size r w v) T i j h = refl
exponential-still d (Count r s v) T i j h = refl
exponential-still d (Tolerance ε) T i j h = refl

-- nor T
pub set_t-still : (d : Held) (s : Setting) (i j : ℕ) (o : Option Float) → stales d s i j ≡ false → set_t s o ≡ o
unfolding stales set_t
set_t-still d (Temperature T) i j o h = never h
set_t-still d (Entry r s v) i j o h = refl
set_t-still d (TdEntry r s p) i j o h = refl
set_t-still d (Size r w v) i j o h = refl
set_t-still d (Count r s v) i j o h = refl
set_t-still d (Tolerance ε) i j o h = refl

-- ---- what is made stale is what has an input set

energy-inputs : (i j r s : ℕ) → (eqb i r && (eqb j s || eqb r s)) ≡ ((eqb i r && eqb j s) || ((eqb i r && eqb i s) || false))
energy-inputs i j r s =
    elim (either (eqb i r)) [
      | inl e ↦ let q : i ≡ r = eqb-true i r e in rw (e, q, or-false (eqb r s))
      | inr e ↦ rw e
    ]

-- a call that gives no T, entry or td entry
no_inputs : (k : Model) (i j : ℕ) (c : Call) → gives c temperature ≡ false → ((r s : ℕ) → gives c (entry r s) ≡ false) → ((r s : ℕ) → gives c (td_entry r s) ≡ false)
    → false ≡ any_of (inputs k i j) (gives c)
unfolding any_of inputs
no_inputs Wilson i j c t e p = rw (t, e i j, e i i)
no_inputs Uniquac i j c t e p = rw (t, e i j, e i i)
no_inputs Nrtl i j c t e p = rw (t, e i j, p i j)
no_inputs Unifac i j c t e p = rw (t, p i j)

pub stales-inputs : (d : Held) (s : Setting) (i j : ℕ) → case_fault d s ≡ 0 → stales d s i j ≡ any_of (inputs d.model i j) (gives (Set s))
unfolding stales any_of inputs gives named case_fault has_entry has_td_entry
stales-inputs d (Temperature T) i j f = refl
stales-inputs d (Entry r s v) i j f = go d.model refl (had (has_entry d r s) 0 f)
  where
    go : (k : Model) → d.model ≡ k → has_entry d r s ≡ true → stales d (Entry r s v) i j ≡ any_of (inputs d.model i j) (gives (Set (Entry r s v)))
    go Wilson e h = rw e (energy-inputs i j r s)
    go Uniquac e h = rw e (energy-inputs i j r s)
    go Nrtl e h = rw e (sym (or-false (eqb i r && eqb j s)))
    go Unifac e h = never (sym (rw e at h))
stales-inputs d (TdEntry r s p) i j f = go d.model refl (had (has_td_entry d r s) 0 f)
  where
    go : (k : Model) → d.model ≡ k → has_td_entry d r s ≡ true → stales d (TdEntry r s p) i j ≡ any_of (inputs d.model i j) (gives (Set (TdEntry r s p)))
    go Wilson e h = never (sym (rw e at h))
    go Uniquac e h = never (sym (rw e at h))
    go Nrtl e h = rw e (sym (or-false (eqb i r && eqb j s)))
    go Unifac e h = rw e (sym (or-false (eqb i r && eqb j s)))
stales-inputs d (Size r w v) i j f = no_inputs d.model i j (Set (Size r w v)) refl (λ a b. refl) (λ a b. refl)
stales-inputs d (Count r s v) i j f = no_inputs d.model i j (Set (Count r s v)) refl (λ a b. refl) (λ a b. refl)
stales-inputs d (Tolerance ε) i j f = no_inputs d.model i j (Set (Tolerance ε)) refl (λ a b. refl) (λ a b. refl)

-- a load loads an input of every cell
pub load_inputs : (k : Model) (d : ModelData) (i j : ℕ) → any_of (inputs k i j) (gives (Load d)) ≡ true
unfolding any_of inputs gives
load_inputs Wilson d i j = refl
load_inputs Uniquac d i j = refl
load_inputs Nrtl d i j = refl
load_inputs Unifac d i j = refl

pub fractions-inputs : (k : Model) (x : List Float) (i j : ℕ) → false ≡ any_of (inputs k i j) (gives (Fractions x))
unfolding gives
fractions-inputs k x i j = no_inputs k i j (Fractions x) refl (λ r s. refl) (λ r s. refl)

-- ---- values go by names and cells

-- i < n, j < n and i ≢ j is a cell of Wilson, UNIQUAC and NRTL
off : (d : Held) (k : Model) → by_model k true true true false ≡ true → d.model ≡ k → (i j : ℕ) → (i ≡ j → ⊥) → is_cell d i j ≡ true
unfolding is_cell
off d Wilson t e i j ne = rw (e, ne_eqb i j ne)
off d Uniquac t e i j ne = rw (e, ne_eqb i j ne)
off d Nrtl t e i j ne = rw (e, ne_eqb i j ne)
off d Unifac t e i j ne = never (sym t)

module _ (c d : Held) (a : Agrees c d) (T : Float) (E F : ℕ → ℕ → Float) (x y : ℕ → Float)
    (cells : (i j : ℕ) → i < width d → j < width d → is_cell d i j ≡ true → E i j ≡ F i j)
    (xs : (i : ℕ) → i < d.n → x i ≡ y i)
    (groups : d.model ≡ Unifac → (i p : ℕ) → i < d.n → p < d.lists.length i → d.lists.group i p < d.ng) where
  pub value_by-same : (q : Quantity) → index_fault d.n q ≡ 0 → value_by c T E x q ≡ value_by d T F y q
  unfolding value_by width is_cell
  value_by-same q z = go d.model a.alike.model refl
    where
      go : (k : Model) → c.model ≡ k → d.model ≡ k → value_by c T E x q ≡ value_by d T F y q
      go Wilson f e =
          rw (f, e, a.alike.n)
          (wilson-same d.n (λ i. c.size i 0) (λ i. d.size i 0) E F x y (λ i h. a.size i 0 (wilson-size d i e h)) xs
          (λ i j b g ne. cells i j (rw e b) (rw e g) (off d Wilson refl e i j ne)) q z)
      go Uniquac f e =
          rw (f, e, a.alike.n)
          (uniquac-same d.n (λ i. c.size i 0) (λ i. d.size i 0) (λ i. c.size i 1) (λ i. d.size i 1) x y
          (λ i h. a.size i 0 (uniquac-size d i 0 (omega arith) e h)) (λ i h. a.size i 1 (uniquac-size d i 1 (omega arith) e h)) xs E F
          (λ i j b g ne. cells i j (rw e b) (rw e g) (off d Uniquac refl e i j ne)) q z)
      go Nrtl f e =
          rw (f, e, a.alike.n)
          (nrtl-same d.n (λ i j. td_at (c.td_entry i j) T) (λ i j. td_at (d.td_entry i j) T) E F x y
          (λ i j b g ne. ap (λ (p : TdParam). td_at p T) (a.td_entry i j (nrtl_td d i j e b g)))
          (λ i j b g ne. cells i j (rw e b) (rw e g) (off d Nrtl refl e i j ne)) xs q z)
      go Unifac f e =
          let l = a.alike.groups e in
          rw (f, e, a.alike.n, l.ng)
          (unifac-same d.n d.ng c.lists d.lists
          (λ i b.
          let inside : (p : ℕ) → p < c.lists.length i → p < d.lists.length i = λ p h. subst (λ (k : ℕ). p < k) (l.length i b) h in
          record {
            lengths = l.length i b;
            groups = λ p h. l.group i p b (inside p h);
            counts = λ p h. a.count i p (unifac-count d i p e b (inside p h));
            below = λ p h. subst⁻¹ (λ (g : ℕ). g < d.ng) (l.group i p b (inside p h)) (groups e i p b (inside p h));
          })
          (λ k. c.size k 1) (λ k. d.size k 1) (λ k h. a.size k 1 (unifac-size d k 1 (omega arith) e h)) E F (λ m k b h. cells m k (rw e b) (rw e h) (rw e)) x y xs
          (λ k. c.size k 0) (λ k. d.size k 0) (λ k h. a.size k 0 (unifac-size d k 0 (omega arith) e h)) q z)

-- the plain call's value is that over the exponentials at T
pub plain-is : (d : Held) (T : Float) (x : List Float) (q : Quantity) → value_by d T (exponential d T) (at x) q ≡ plain d T x q
unfolding plain value_by exponential wilson_at uniquac_at nrtl_at unifac_at
plain-is d T x q = go d.model refl
  where
    go : (k : Model) → d.model ≡ k → value_by d T (exponential d T) (at x) q ≡ plain d T x q
    go Wilson e = rw e
    go Uniquac e = rw e
    go Nrtl e = rw e
    go Unifac e = rw e
