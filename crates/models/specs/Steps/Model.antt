-- What a model's data have shown where a load of them isn't declined, and what a value reads.
use Rattle.std.specs.Prelude.{◌≡◌, List, ℕ, ◌≤◌, length, Float}
use Rattle.models.specs.declared.answers.Quantity.{Quantity}
use Rattle.models.specs.declared.model.Model.{Model}
use Rattle.models.specs.declared.model.Model.TheVariants.{Wilson, Uniquac, Nrtl, Unifac}
use Rattle.models.specs.Limits.{most_components}
use Rattle.models.specs.Faults.{index_fault}
use Rattle.models.specs.Model.{ModelData}
use Rattle.models.specs.Values.{wilson_size, uniquac_size, nrtl_size}
use Rattle.models.specs.Steps.GroupLists.{Loaded}

-- they have the model's values, and its lists
abbrev pub Fits : Model → ModelData → Type 0
Fits Wilson d = wilson_size d.n ≤ length d.values
Fits Uniquac d = uniquac_size d.n ≤ length d.values
Fits Nrtl d = nrtl_size d.n ≤ length d.values
Fits Unifac d = Loaded d.n d.ng d.lens d.groups d.values

pub record Ready (d : ModelData) : Type 0 where
  pub few : d.n ≤ most_components
  pub fits : Fits d.model d

-- the values, so many, of a model without groups, the fractions and the component that a value reads are there
pub record ValueFits (n size : ℕ) (values x : List Float) (q : Quantity) : Type 0 where
  pub few : n ≤ most_components
  pub sized : size ≤ length values
  pub fractions : n ≤ length x
  pub index : index_fault n q ≡ 0
