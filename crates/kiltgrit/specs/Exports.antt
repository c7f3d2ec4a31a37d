-- The plain calls by bytes, for the test host: a model by its number, 1 Wilson to 4 UNIFAC, and floats in bytes. docs/DECISIONS.md, "Exported byte slices".
use Rattle.std.specs.Prelude.{◌≡◌, cond, List, ℕ, ◌%◌, eqb, length, Float}
use Rattle.std.specs.Borrow.{Bor, MutBor}
use denote.Triple.Both.{Both}
use Rattle.arithmetic.specs.Bytes.{floats}
use Rattle.models.specs.declared.answers.Quantity.{Quantity}
use Rattle.arithmetic.specs.Refusals.{Answer, Value, Refused}
use Rattle.models.specs.Answers.{number_of}
use Rattle.models.specs.Model.{model_of, is_model, ModelData, model_data}
use Rattle.models.specs.Plain.{plain_call}

-- the answer where r bytes of the fractions are left over: 7 in place of a value
unfoldable pub with_rest : ℕ → Answer Float → Answer Float
with_rest r (Value v) = cond (eqb r 0) (Value v) (Refused 7)
with_rest r (Refused k) = Refused k

-- the plain call with the fractions in bytes
unfoldable pub plain_rest : ModelData → Float → Float → List ℕ → Quantity → Answer Float
plain_rest d T ε x q = with_rest (length x % 8) (plain_call d T ε (floats x) q)

-- of the model with the number m, with the values in bytes too; 2 where there is none, or a rest that is no f64
unfoldable pub exported : ℕ → ℕ → ℕ → List ℕ → List ℕ → List ℕ → Float → Float → List ℕ → Quantity → Answer Float
exported m n ng lens groups values T ε x q =
    cond (eqb (length values % 8) 0) (cond (is_model m)
    (plain_rest (model_data (model_of m) n ng lens groups (floats values)) T ε x q)
    (Refused 2)) (Refused 2)

-- the same of a call's arguments
abbrev pub exported_by : {A B C D : Type 0} → ℕ → ℕ → ℕ → Both (Bor (List ℕ)) A → Both (Bor (List ℕ)) B → Both (Bor (List ℕ)) C → Float → Float → Both (Bor (List ℕ)) D → Quantity → Answer Float
exported_by m n ng lens groups values T ε x q =
    exported m n ng lens.entry.now groups.entry.now values.entry.now T ε x.entry.now q

-- the result that a call leaves: its value, or what was there where it declines
unfoldable pub left : Answer Float → Float → Float
left (Value v) old = v
left (Refused k) old = old

-- the number that it answers, and that result
abbrev pub Gives : Answer Float → Both (MutBor Float) (MutBor Float) → ℕ → Type 0
Gives a value r = (r ≡ number_of a) × (value.exit.now ≡ left a value.entry.now)
