-- Each variant's tag is its number less one.
use Rattle.std.proofs.Common.{◌≡◌, ◌+◌, refl}
use Rattle.arithmetic.specs.declared.refusal.Refusal.{Refusal}
use Rattle.arithmetic.specs.declared.refusal.Refusal.TheVariants.{Memory, Shape, Group, Count, Empty, Sum, Index, NoModel, Unset, NoSuchCase, NotShown, Form, Digits, Tolerance}
use Rattle.arithmetic.specs.Refusals.{number}
use Rattle.arithmetic.proofs.refusal.U8FromRefusal.from.Goals as goal

tag : (r : Refusal) → denote.Enum.Declared.tag_of Rattle.arithmetic.specs.contracts.refusal.Refusal.the_type r + 1 ≡ number r
unfolding number
tag Memory = refl
tag Shape = refl
tag Group = refl
tag Count = refl
tag Empty = refl
tag Sum = refl
tag Index = refl
tag NoModel = refl
tag Unset = refl
tag NoSuchCase = refl
tag NotShown = refl
tag Form = refl
tag Digits = refl
tag Tolerance = refl

pub returns : goal.returns
returns c = tag c.args.r
