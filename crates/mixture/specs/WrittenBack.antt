-- A mixture's holdings in the strip's order, as a load brings them: document 01, "Strip and program".
use Rattle.std.specs.Prelude.{◌≡◌, List, [], ◌∷◌, ◌++◌, Float}
use Rattle.arithmetic.specs.declared.parameters.TdParam.{TdParam}
use Rattle.models.specs.declared.model.Model.TheVariants.{Unifac}
use Rattle.models.specs.Faults.{data_fault}
use Rattle.models.specs.Model.{by_model, ModelData}
use Rattle.mixture.specs.Lists.{row, rows}
use Rattle.mixture.specs.Holdings.{Held, held}

unfoldable pub fives : List TdParam → List Float
fives [] = []
fives (p ∷ l) = p.a ∷ p.b ∷ p.c ∷ p.d ∷ p.e ∷ fives l

-- Wilson: a by rows, V; UNIQUAC: a, r's, q's; NRTL: τ by rows, five each, α; UNIFAC: R's, Q's, a by rows, five each, then the counts
unfoldable pub values_in : Held → List Float
values_in d =
    by_model d.model (rows d.n (λ i. d.n) d.entry ++ row d.n (λ i. d.size i 0))
    (rows d.n (λ i. d.n) d.entry ++ row d.n (λ i. d.size i 0) ++ row d.n (λ i. d.size i 1))
    (fives (rows d.n (λ i. d.n) d.td_entry) ++ rows d.n (λ i. d.n) d.entry)
    (row d.ng (λ k. d.size k 0) ++ row d.ng (λ k. d.size k 1) ++ fives (rows d.ng (λ m. d.ng) d.td_entry)
    ++ rows d.n d.lists.length d.lists.count)

abbrev pub data_of : Held → ModelData
data_of d =
    record {
      model = d.model;
      n = d.n;
      ng = d.ng;
      lens = row d.n d.lists.length;
      groups = rows d.n d.lists.length d.lists.group;
      values = values_in d;
    }

-- what an accepted load brings is what is written out after it; only UNIFAC has lists
abbrev pub WrittenBack : Type 0
WrittenBack = (d : ModelData) → data_fault d ≡ 0
    → ((data_of (held d)).values ≡ d.values)
    × (d.model ≡ Unifac → ((data_of (held d)).lens ≡ d.lens) × ((data_of (held d)).groups ≡ d.groups))
