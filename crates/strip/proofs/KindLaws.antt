-- The kinds of records: their numbers, and what follows a head word of each.
use Rattle.std.proofs.Common.{◌≡◌, ℕ, ◌+◌, ◌*◌, ◌<◌, ◌≤◌, Bool, true, false, Option, Result, Ok, Err, arith, refl, ap}
use lib.Dec.{eqb}
use borrow.Author.Tests.{ne_eqb}
use Rattle.std.specs.Bool.{then_some}
use Rattle.std.specs.Result.{result_unwrap_or}
use Rattle.arithmetic.specs.declared.parameters.TdParam.{TdParam}
use Rattle.models.specs.declared.model.Model.{Model}
use Rattle.models.specs.declared.model.Model.TheVariants.{Wilson, Uniquac, Nrtl, Unifac}
use Rattle.models.specs.Model.{model_number, by_model, has_groups}
use Rattle.models.specs.Values.{wilson_size, uniquac_size, nrtl_size, counts_at}
use Rattle.strip.specs.declared.kinds.SettingKind.{SettingKind}
use Rattle.strip.specs.declared.kinds.SettingKind.TheVariants.{Temperature, Entry, TdEntry, Size, Count}
use Rattle.strip.specs.declared.kinds.Content.{Content}
use Rattle.strip.specs.declared.words.Broken.{Broken}
use Rattle.strip.specs.Calls.{setting_of}
use Rattle.strip.specs.Records.{Shape, shape, shape_of}
use Rattle.strip.proofs.RecordLaws.{square}
use Rattle.strip.specs.Steps.Run.{setting_number, NamesSetting, HasContent}

-- ---- what follows a head word

pub has_content : (kind i j : ℕ) (b : Bool) {c : Content} (n : ℕ) {o : Option Content} → o ≡ then_some b c → (c.floats ≡ n) × (c.lists ≡ 0)
    → shape_of kind i j ≡ shape b n 0 → n ≤ 400000 → HasContent kind i j o
has_content kind i j true n e f h l = rw (e, f.0, f.1) (h, l)
has_content kind i j false n e f h l = rw e (ap (λ (k : Shape). k.formed) h)

load_shape : (m : Model) (i j : ℕ) → has_groups m ≡ false → shape_of (model_number m) i j ≡ shape (eqb j 0) (by_model m (wilson_size i) (uniquac_size i) (nrtl_size i) 0) 0
unfolding shape_of
load_shape Wilson i j h = refl
load_shape Uniquac i j h = refl
load_shape Nrtl i j h = refl
load_shape Unifac i j h = cc

size_few : (m : Model) (i : ℕ) → i < 256 → by_model m (wilson_size i) (uniquac_size i) (nrtl_size i) 0 ≤ 400000
unfolding wilson_size uniquac_size nrtl_size
size_few Wilson i h = omega (arith, square i h)
size_few Uniquac i h = omega (arith, square i h)
size_few Nrtl i h = omega (arith, square i h)
size_few Unifac i h = omega arith

-- of a model without groups
pub few_floats : (m : Model) (i j : ℕ) → i < 256 → has_groups m ≡ false → {c : Content} {o : Option Content} → o ≡ then_some (eqb j 0) c
    → {n : ℕ} → (c.floats ≡ n) × (c.lists ≡ 0) → n ≡ by_model m (wilson_size i) (uniquac_size i) (nrtl_size i) 0 → HasContent (model_number m) i j o
few_floats m i j h g e {n} f s = has_content (model_number m) i j (eqb j 0) n e f (rw s (load_shape m i j g)) (rw s (size_few m i h))

pub groups_shape : (m : Model) (i j : ℕ) → has_groups m ≡ true → shape_of (model_number m) i j ≡ shape true (j + j + j * j * 5) i
unfolding shape_of counts_at
groups_shape Wilson i j h = cc
groups_shape Uniquac i j h = cc
groups_shape Nrtl i j h = cc
groups_shape Unifac i j h = refl

-- ---- the setting of a number

pub same_setting_number : (n i j : ℕ) (five : TdParam) (r : Result SettingKind Broken) → NamesSetting n r → setting_of (setting_number (result_unwrap_or r Count)) i j five ≡ setting_of n i j five
unfolding setting_of
same_setting_number n i j five (Ok k) h = rw h
same_setting_number n i j five (Err e) h = rw (ne_eqb n 5 h.0, ne_eqb n 7 h.1, ne_eqb n 8 h.2, ne_eqb n 9 h.3)

-- a setting's number
pub record SettingNumber (n : ℕ) : Type 0 where
  pub above : 5 ≤ n
  pub no_fractions : n ≡ 6 → ⊥
  pub no_query : n ≡ 11 → ⊥

number-of : (k : SettingKind) → SettingNumber (setting_number k)
number-of Temperature = record { above = omega arith; no_fractions = λ e. omega arith; no_query = λ e. omega arith }
number-of Entry = record { above = omega arith; no_fractions = λ e. omega arith; no_query = λ e. omega arith }
number-of TdEntry = record { above = omega arith; no_fractions = λ e. omega arith; no_query = λ e. omega arith }
number-of Size = record { above = omega arith; no_fractions = λ e. omega arith; no_query = λ e. omega arith }
number-of Count = record { above = omega arith; no_fractions = λ e. omega arith; no_query = λ e. omega arith }

pub is_setting_number : (k : SettingKind) {n : ℕ} → n ≡ setting_number k → SettingNumber n
is_setting_number k {n} e = rw e (number-of k)
