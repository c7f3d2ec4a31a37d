-- `all` is the definition's test, over the first n lists.
use mathlib.Core.Path.{◌≡◌, refl, ◌∙◌}
use mathlib.Core.Bool.{Bool, and-true}
use mathlib.Core.List.{List}
use Prim.Native.Nat.{ℕ, zero, suc, ◌≤◌}
use native.Mathlib.Omega.{arith}
use lib.Dec.{leb}
use lib.ListN.{length, take, get_or}
use Rattle.std.proofs.Common.{rules, tests}
use Rattle.std.proofs.Math.Seq.{take-suc}
use Rattle.std.specs.List.{list_all}
use Rattle.std.proofs.lemmas.List.Folds.{list_all-append}
use Rattle.std.proofs.lemmas.Iterator.{YieldsList-from_slice}
use Rattle.std.proofs.lemmas.Iterator.Search.{all_from_yields_List}
use Rattle.models.specs.Faults.{all_to}
use Rattle.models.proofs.faults.lists_within.Goals as goal

all_listed : (test : ℕ → Bool) (l : List ℕ) (n : ℕ) → n ≤ length l → list_all test (take n l) ≡ all_to n (λ i. test (get_or l i 0))
unfolding all_to
all_listed test l zero h = refl
all_listed test l (suc n) h = rw (take-suc l n 0 (omega arith), list_all-append test (take n l), all_listed test l n (omega arith), and-true)

pub returns : goal.returns
returns c =
    all_from_yields_List {all = take c.args.n c.args.lens.now} (λ k. leb k 12) _ _ c.all.result c.all.ensures.ran (YieldsList-from_slice _ (cc)) (λ x b q k. search (rules, tests))
    ∙ all_listed (λ k. leb k 12) c.args.lens.now c.args.n c.requires
