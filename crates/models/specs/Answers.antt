-- What is asked of a model, and what a plain call answers: document 01, "Models" and "What each call declines".
use Rattle.std.specs.Prelude.{Bool, true, cond, List, [], ◌∷◌, ℕ, zero, suc, eqb, Float}
use Rattle.arithmetic.specs.Refusals.{Answer, Value, Refused}
use Rattle.arithmetic.specs.Tables.{Vector}
use Rattle.arithmetic.specs.Exponential.{exp_of}
use Rattle.models.specs.declared.answers.Quantity.{Quantity}
use Rattle.models.specs.declared.answers.Quantity.TheVariants.{LnGamma, Gamma, ExcessGibbs}

-- what is asked, by a number: 0 ln γ of i, 1 γ of i, else the excess energy
unfoldable pub quantity_of : ℕ → ℕ → Quantity
quantity_of k i = cond (eqb k 0) (LnGamma i) (cond (eqb k 1) (Gamma i) ExcessGibbs)

-- document 01's number for an answer, 0 for none
unfoldable pub number_of : Answer Float → ℕ
number_of (Value v) = 0
number_of (Refused k) = k

-- its values: one, or none where it declines
unfoldable pub values_of : Answer Float → List Float
values_of (Value v) = v ∷ []
values_of (Refused k) = []

-- a refusal with the number k, or where k is 0 the value v
unfoldable pub answer : ℕ → Float → Answer Float
answer k v = cond (eqb k 0) (Value v) (Refused k)

-- the first of two numbers that is not 0
abbrev pub first : ℕ → ℕ → ℕ
first k m = cond (eqb k 0) m k

-- the first of f 0, .., f (n - 1) that is not 0
unfoldable pub first_to : ℕ → (ℕ → ℕ) → ℕ
first_to zero f = 0
first_to (suc n) f = first (first_to n f) (f n)

-- the quantity, from ln γ of each component and the excess energy; γ is exp(ln γ)
unfoldable pub quantity : Quantity → Vector → Float → Float
quantity (LnGamma i) ln_gamma excess = ln_gamma i
quantity (Gamma i) ln_gamma excess = exp_of (ln_gamma i)
quantity ExcessGibbs ln_gamma excess = excess

-- the quantity goes by component i: ln γ and γ of i by i alone, the excess energy by all
unfoldable pub reads : Quantity → ℕ → Bool
reads (LnGamma k) i = eqb k i
reads (Gamma k) i = eqb k i
reads ExcessGibbs i = true
