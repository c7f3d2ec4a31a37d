use Rattle.std.proofs.Common.{◌≡◌, ◌⊎◌, ⊎_elim, ℕ, ◌<◌, true, arith}
use Rattle.models.specs.declared.answers.Quantity.{Quantity}
use Rattle.models.specs.declared.answers.Quantity.TheVariants.{LnGamma, Gamma}
use Rattle.models.specs.Answers.{reads}
use Rattle.models.specs.Faults.{index_fault}
use Rattle.models.proofs.AnswerLaws.{index_ln, index_gamma, reads_ln, reads_gamma}
use Rattle.models.proofs.unifac.span_of.Goals as goal

index_one : (n i : ℕ) (q : Quantity) → (q ≡ LnGamma i) ⊎ (q ≡ Gamma i) → index_fault n q ≡ 0 → i < n
index_one n i q is z = ⊎_elim (λ e. index_ln e z) (λ e. index_gamma e z) is

reads_one : (k i : ℕ) (q : Quantity) → (q ≡ LnGamma k) ⊎ (q ≡ Gamma k) → reads q i ≡ true → k ≡ i
reads_one k i q is r = ⊎_elim (λ e. reads_ln e r) (λ e. reads_gamma e r) is

pub overflow_add-result : goal.overflow_add-result
overflow_add-result c = omega (arith, index_one c.args.n c.in-LnGamma.i c.args.q c.in-LnGamma.is c.requires.1, c.requires.0)

pub returns-in-LnGamma : goal.returns-in-LnGamma
returns-in-LnGamma c =
    let k = c.in-LnGamma.i in
    let q = c.args.q in
    let is = c.in-LnGamma.is in
    (omega (arith, index_one c.args.n k q is c.requires.1), λ i h r. let e = reads_one k i q is r in (omega (arith, e), omega (arith, e)))
