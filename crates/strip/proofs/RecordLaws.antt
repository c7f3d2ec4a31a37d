-- The shape of each kind, and the record at a place.
use Prim.Native.Nat.{ℕ, ◌+◌, ◌*◌, ◌<◌, ◌≤◌}
use native.Mathlib.Nat.{mul-le-mul}
use native.Mathlib.Omega.{arith}
use mathlib.Core.Path.{◌≡◌, refl, sym, ◌∙◌, subst}
use mathlib.Core.Bool.{Bool, true, false, ◌&&◌, cond}
use mathlib.Core.List.{List}
use mathlib.Core.Logic.{inl, inr}
use lib.Dec.{leb, ltb, eqb}
use lib.ListN.{length}
use borrow.Author.Tests.{lt-ltb, le-ltb, ltb-false, lt-leb, le-leb, leb-true, eq-eqb, ne_eqb, eqb-true, eqb-false}
use borrow.Author.Rules.{rules}
use Rattle.arithmetic.specs.Bytes.{word_at}
use Rattle.models.specs.Values.{wilson_size, uniquac_size, nrtl_size, counts_at}
use Rattle.arithmetic.proofs.Tests.{either, le-or}
use Rattle.mixture.proofs.PlaceLaws.{both}
use Rattle.std.specs.Prelude.{Option, Some, None, Result, Ok, Err, IsErr}
use Rattle.std.specs.Option.{ok_or}
use Rattle.strip.specs.declared.kinds.Content.{Content}
use Rattle.strip.specs.declared.records.Record.{Record as Found}
use Rattle.strip.specs.declared.words.Broken.{Broken as IsBroken}
use Rattle.strip.specs.Words.{most_bytes, kind_of, i_of, j_of, rest_of}
use Rattle.strip.specs.GroupLists.{lists_at}
use Rattle.strip.specs.Records.{Shape, Rec, Read, Record, Broken, End, shape, shape_of, record_by, read_at}
use Rattle.strip.specs.Steps.Run.{HasContent, read_of, fits}
use Rattle.strip.proofs.GroupListLaws.{lists-after}

-- ---- the shape of each kind

pub square : (i : ℕ) → i < 256 → i * i ≤ 65025
square i h = mul-le-mul {n₁ = i} {m₁ = i} {n₂ = 255} {m₂ = 255} (omega arith) (omega arith)

-- what it shows where i and j are bytes
pub record Sized (i kind : ℕ) (k : Shape) : Type 0 where
  pub lists : k.lists ≤ i
  pub floats : k.floats ≤ 400000
  pub few : 5 ≤ kind → k.floats ≤ 255
  pub some : 5 ≤ kind → (kind ≡ 6 → ⊥) → (kind ≡ 11 → ⊥) → k.formed ≡ true → 1 ≤ k.floats
  pub five : kind ≡ 8 → k.formed ≡ true → 5 ≤ k.floats

kind_case : (i kind k : ℕ) (a b : Shape) → Sized i k a → Sized i kind b → Sized i kind (cond (eqb kind k) a b)
kind_case i kind k a b x y =
    elim (either (eqb kind k)) [
      | inl e ↦ rw (e, eqb-true kind k e) x
      | inr e ↦ rw e y
    ]

pub sized : (kind i j : ℕ) → i < 256 → j < 256 → Sized i kind (shape_of kind i j)
unfolding shape_of wilson_size uniquac_size nrtl_size counts_at
sized kind i j h g =
    let a = square i h in
    let b = square j g in
    kind_case i kind 1 _ _ (search rules)
    (kind_case i kind 2 _ _ (search rules)
    (kind_case i kind 3 _ _ (search rules)
    (kind_case i kind 4 _ _ (search rules)
    (kind_case i kind 5 _ _ (search rules)
    (kind_case i kind 6 _ _ (search rules)
    (kind_case i kind 7 _ _ (search rules)
    (kind_case i kind 8 _ _ (search rules)
    (kind_case i kind 9 _ _ (search rules)
    (kind_case i kind 10 _ _ (search rules)
    (kind_case i kind 11 _ _ (search rules) (search rules)))))))))))

-- ---- what `read_at` answers

pub read_end : (s : List ℕ) (p : ℕ) → length s ≤ p → End ≡ read_at s p
unfolding read_at
read_end s p h = rw (le-leb (length s) p h)

pub read_cut : (s : List ℕ) (p : ℕ) → p < length s → length s < p + 4 → Broken ≡ read_at s p
unfolding read_at
read_cut s p h g = rw (lt-leb (length s) p h, lt-ltb (length s) (p + 4) g)

-- the head word at p with its fields
pub record Headed (s : List ℕ) (p w kind i j : ℕ) : Type 0 where
  pub begun : p < length s
  pub whole : p + 4 ≤ length s
  pub word : w ≡ word_at s p
  pub kinds : kind ≡ kind_of w
  pub firsts : i ≡ i_of w
  pub seconds : j ≡ j_of w

pub headed : {s : List ℕ} {p w kind i j : ℕ} → p < length s → p + 4 ≤ length s → w ≡ word_at s p → kind ≡ kind_of w → i ≡ i_of w → j ≡ j_of w → Headed s p w kind i j
headed b e w k i j = record { begun = b; whole = e; word = w; kinds = k; firsts = i; seconds = j }

module _ {s : List ℕ} {p w kind i j : ℕ} (a : Headed s p w kind i j) where
  at-word : {k : Shape} → shape_of kind i j ≡ k → read_at s p ≡ record_by s p w k
  unfolding read_at
  at-word e = rw (lt-leb (length s) p a.begun, le-ltb (length s) (p + 4) a.whole, ← e, a.kinds, a.firsts, a.seconds, a.word)

  module _ {r : ℕ} (c : r ≡ rest_of w) where
    pub read_rest : (r ≡ 0 → ⊥) → Broken ≡ read_at s p
    unfolding record_by
    read_rest d = sym (at-word refl ∙ rw (← c, ne_eqb r 0 d))

    module _ (d : r ≡ 0) where
      pub read_malformed : (shape_of kind i j).formed ≡ false → Broken ≡ read_at s p
      unfolding record_by
      read_malformed t = sym (at-word refl ∙ rw (← c, eq-eqb r 0 d, t))

      module _ {floats lists : ℕ} (e : shape_of kind i j ≡ shape true floats lists) where
        pub read_missing : (lists_at s lists (p + 4 + 8 * floats)).end ≡ 0 → Broken ≡ read_at s p
        unfolding record_by
        read_missing q = sym (at-word e ∙ rw (← c, eq-eqb r 0 d, q))

        module _ {n : ℕ} (q : (lists_at s lists (p + 4 + 8 * floats)).end ≡ n) (z : p + 4 + 8 * floats ≤ n) where
          pub read_long : length s < n → Broken ≡ read_at s p
          unfolding record_by
          read_long m = sym (at-word e ∙ rw (← c, eq-eqb r 0 d, q, ne_eqb n 0 (omega arith), lt-ltb (length s) n m))

          pub read_record : n ≤ length s → Record (record { kind = kind; i = i; j = j; floats = floats; lists = lists; body = p + 4; next = n }) ≡ read_at s p
          unfolding record_by
          read_record m = sym (at-word e ∙ rw (← c, eq-eqb r 0 d, q, ne_eqb n 0 (omega arith), le-ltb (length s) n m, a.kinds, a.firsts, a.seconds))

-- no record begins with another number
pub no_shape : (kind i j : ℕ) → (1 ≤ kind → 11 < kind) → (shape_of kind i j).formed ≡ false
unfolding shape_of
no_shape kind i j h =
    rw (
      ne_eqb kind 1 (other 1 (omega arith) (omega arith)),
      ne_eqb kind 2 (other 2 (omega arith) (omega arith)),
      ne_eqb kind 3 (other 3 (omega arith) (omega arith)),
      ne_eqb kind 4 (other 4 (omega arith) (omega arith)),
      ne_eqb kind 5 (other 5 (omega arith) (omega arith)),
      ne_eqb kind 6 (other 6 (omega arith) (omega arith)),
      ne_eqb kind 7 (other 7 (omega arith) (omega arith)),
      ne_eqb kind 8 (other 8 (omega arith) (omega arith)),
      ne_eqb kind 9 (other 9 (omega arith) (omega arith)),
      ne_eqb kind 10 (other 10 (omega arith) (omega arith)),
      ne_eqb kind 11 (other 11 (omega arith) (omega arith)),
    )
  where
    other : (n : ℕ) → 1 ≤ n → n ≤ 11 → kind ≡ n → ⊥
    other n a b e = let z : 11 < kind = h (omega arith) in omega arith

-- what was found to follow the head word, by what was made of it
pub no_content : (kind i j : ℕ) (o : Option Content) {E : Type 0} (e : E) {x : E} {r : Result Content E} → HasContent kind i j o → r ≡ ok_or o e → r ≡ Err x → (shape_of kind i j).formed ≡ false
no_content kind i j (Some c) e h f g = cc
no_content kind i j None e h f g = h

pub content_is : (kind i j : ℕ) (o : Option Content) {E : Type 0} (e : E) {c : Content} {r : Result Content E} → HasContent kind i j o → r ≡ ok_or o e → r ≡ Ok c → HasContent kind i j (Some c)
content_is kind i j (Some d) e {c = c} h f g = let q : d ≡ c = cc in rw (← q) h
content_is kind i j None e h f g = cc

pub broken_by : (r : Result (Option Found) IsBroken) {d : Read} → IsErr r → Broken ≡ d → read_of r ≡ d
broken_by (Ok o) h e = cc
broken_by (Err x) h e = e

-- ---- what a record that was read shows

pick_right : (t : Bool) (a b : Read) (r : Rec) → (a ≡ Record r → ⊥) → cond t a b ≡ Record r → (t ≡ false) × (b ≡ Record r)
pick_right true a b r n e = absurd (n e)
pick_right false a b r n e = (refl, e)

pick_left : (t : Bool) (a b : Read) (r : Rec) → (b ≡ Record r → ⊥) → cond t a b ≡ Record r → (t ≡ true) × (a ≡ Record r)
pick_left true a b r n e = (refl, e)
pick_left false a b r n e = absurd (n e)

no_end : (r : Rec) → End ≡ Record r → ⊥
no_end r e = let z : ◌≡◌ {A = ℕ} 0 1 = cc in omega arith

no_broken : (r : Rec) → Broken ≡ Record r → ⊥
no_broken r e = let z : ◌≡◌ {A = ℕ} 0 1 = cc in omega arith

same_record : (a r : Rec) → Record a ≡ Record r → a ≡ r
same_record a r e = cc

shape_of_lem : (k : Shape) → k.formed ≡ true → k ≡ shape true k.floats k.lists
shape_of_lem k e = rw (← e)

pub record Whole (s : List ℕ) (p : ℕ) (r : Rec) : Type 0 where
  pub body : r.body ≡ p + 4
  pub shaped : shape_of r.kind r.i r.j ≡ shape true r.floats r.lists
  pub floats : r.body + 8 * r.floats ≤ r.next
  pub next : r.next ≤ length s

pub found : (s : List ℕ) (p : ℕ) (r : Rec) → read_at s p ≡ Record r → Whole s p r
unfolding read_at record_by
found s p r e =
    let w = word_at s p in
    let k = shape_of (kind_of w) (i_of w) (j_of w) in
    let n = (lists_at s k.lists (p + 4 + 8 * k.floats)).end in
    let e1 = pick_right (leb (length s) p) End _ r (no_end r) e in
    let e2 = pick_right (ltb (length s) (p + 4)) Broken _ r (no_broken r) e1.1 in
    let e3 = pick_left (eqb (rest_of w) 0 && k.formed) _ Broken r (no_broken r) e2.1 in
    let e4 = pick_right (eqb n 0) Broken _ r (no_broken r) e3.1 in
    let e5 = pick_right (ltb (length s) n) Broken _ r (no_broken r) e4.1 in
    subst (λ (z : Rec). Whole s p z) (same_record _ r e5.1)
    (record {
      body = refl;
      shaped = shape_of_lem k (both (eqb (rest_of w) 0) k.formed e3.0).1;
      floats = lists-after s (p + 4 + 8 * k.floats) k.lists (p + 4 + 8 * k.floats) (omega arith) (eqb-false n 0 e4.0);
      next = ltb-false (length s) n e5.0;
    })

pub found-fits : (s : List ℕ) (p : ℕ) (r : Rec) → length s ≤ most_bytes → read_at s p ≡ Record r → fits s r ≡ true
unfolding fits
found-fits s p r l e =
    let f = found s p r e in
    rw (le-leb (length s) most_bytes l, f.shaped, eq-eqb r.floats r.floats refl, eq-eqb r.lists r.lists refl, le-leb (r.body + 8 * r.floats) (length s) (omega (arith, f.floats, f.next)))

pub later : (s : List ℕ) (p : ℕ) (r : Rec) → read_at s p ≡ Record r → p + 4 ≤ r.next
later s p r e = let f = found s p r e in omega (arith, f.body, f.floats)

-- ---- whether a record fits

neither_two : (x y z : Bool) → (x && y) ≡ false → (x && (y && z)) ≡ false
neither_two true y z e = rw e
neither_two false y z e = refl

pub fits_not : (s : List ℕ) (r : Rec) → length s ≤ most_bytes → (shape_of r.kind r.i r.j).formed ≡ false → false ≡ fits s r
unfolding fits
fits_not s r h e = rw (le-leb (length s) most_bytes h, e)

module _ (s : List ℕ) (r : Rec) {floats lists : ℕ} (h : length s ≤ most_bytes) (e : shape_of r.kind r.i r.j ≡ shape true floats lists) where
  pub fits_same : (eqb floats r.floats && eqb lists r.lists) ≡ true → {b : Bool} → b ≡ leb (r.body + 8 * floats) (length s) → b ≡ fits s r
  unfolding fits
  fits_same t f = let u = both (eqb floats r.floats) (eqb lists r.lists) t in rw (le-leb (length s) most_bytes h, e, u.0, u.1) f

  pub fits_other : (eqb floats r.floats && eqb lists r.lists) ≡ false → false ≡ fits s r
  unfolding fits
  fits_other t = rw (le-leb (length s) most_bytes h, e) (sym (neither_two (eqb floats r.floats) (eqb lists r.lists) _ t))

pub record Fitting (s : List ℕ) (r : Rec) : Type 0 where
  pub passes : fits s r ≡ true
  pub short : length s ≤ most_bytes
  pub sized : Sized r.i r.kind (shape true r.floats r.lists)
  pub floats : r.body + 8 * r.floats ≤ length s

pub fitting : (s : List ℕ) (r : Rec) → r.i < 256 → r.j < 256 → fits s r ≡ true → Fitting s r
unfolding fits
fitting s r i j e =
    let k = shape_of r.kind r.i r.j in
    let a = both _ _ e in
    let b = both _ _ a.1 in
    let c = both _ _ b.1 in
    let d = both _ _ c.1 in
    let f = eqb-true k.floats r.floats c.0 in
    record {
      passes = e;
      short = leb-true (length s) most_bytes a.0;
      sized = subst (Sized r.i r.kind) (shape_of_lem k b.0 ∙ rw (f, eqb-true k.lists r.lists d.0)) (sized r.kind r.i r.j i j);
      floats = omega (arith, leb-true (r.body + 8 * k.floats) (length s) d.1, f);
    }

-- ---- what is answered within the strip and past it

neither : (t : Bool) (a b : Read) → (a ≡ End → ⊥) → (b ≡ End → ⊥) → cond t a b ≡ End → ⊥
neither true a b n m e = n e
neither false a b n m e = m e

broken-within : Broken ≡ End → ⊥
broken-within e = let z : ◌≡◌ {A = ℕ} 0 1 = cc in omega arith

record_within : (r : Rec) → Record r ≡ End → ⊥
record_within r e = let z : ◌≡◌ {A = ℕ} 0 1 = cc in omega arith

not_end : (s : List ℕ) (p : ℕ) (k : Shape) → cond (ltb (length s) (p + 4)) Broken (record_by s p (word_at s p) k) ≡ End → ⊥
unfolding record_by
not_end s p k =
    neither (ltb (length s) (p + 4)) _ _ broken-within
    (neither (eqb (rest_of (word_at s p)) 0 && k.formed) _ _
    (neither (eqb (lists_at s k.lists (p + 4 + 8 * k.floats)).end 0) _ _ broken-within
    (neither (ltb (length s) (lists_at s k.lists (p + 4 + 8 * k.floats)).end) _ _ broken-within (record_within _)))
    broken-within)

pub read_done : (s : List ℕ) (p : ℕ) → read_at s p ≡ End → length s ≤ p
unfolding read_at
read_done s p e =
    elim (le-or (length s) p) [
      | inl l ↦ l
      | inr l ↦ absurd (not_end s p _ (rw (lt-leb (length s) p l) at e))
    ]

pub read_in : (s : List ℕ) (p : ℕ) → read_at s p ≡ Broken → p < length s
unfolding read_at
read_in s p e =
    elim (le-or (length s) p) [
      | inl l ↦ let d = rw (le-leb (length s) p l) at e in let z : ◌≡◌ {A = ℕ} 0 1 = cc in absurd (omega arith)
      | inr l ↦ l
    ]
