-- A model, form, kind or quantity that means nothing is declined in its own place: after what is judged before it, by the number
-- that document 01 has for an argument out of range there.
use Rattle.std.specs.Prelude.{◌≡◌, false, ◌&&◌, List, ℕ, eqb, leb, Float}
use Rattle.models.specs.Answers.{first}
use Rattle.models.specs.Model.{is_model}
use Rattle.mixture.specs.declared.head.Head.{Head}
use Rattle.mixture.specs.Memory.{Memory}
use Rattle.mixture.specs.Faults.{memory_fault, head_fault, ready_fault, load_fault, setting_fault, query_fault}
use Rattle.kiltgrit.specs.declared.arguments.CSetting.{CSetting}
use Rattle.kiltgrit.specs.Arguments.{load_of, is_kind, setting_of, quantity_asked}

-- 1, then 2
abbrev pub UnknownModel : Type 0
UnknownModel = (m : Memory) (model form n ng : ℕ) (lens groups : List ℕ) (given : List Float) → is_model model && eqb form 0 ≡ false
    → load_fault m (load_of model form n ng lens groups given) ≡ first (memory_fault m) 2

-- 1 or 8, then 10
abbrev pub UnknownKind : Type 0
UnknownKind = (m : Memory) (h : Head) (s : CSetting) → is_kind s.kind ≡ false → setting_fault m h (setting_of s) ≡ first (head_fault m h) 10

-- 1 or 8, then 9, then 7
abbrev pub UnknownAsked : Type 0
UnknownAsked = (m : Memory) (h : Head) (asked i : ℕ) → leb asked 2 ≡ false
    → query_fault m h (quantity_asked asked i) ≡ first (ready_fault m h) 7
