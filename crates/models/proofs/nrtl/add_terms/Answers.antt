use Rattle.std.proofs.Common.{rules, refl}
use lib.Ieee.{round, of_bits}
use Rattle.arithmetic.specs.Floats.{dec, one}
use Rattle.models.proofs.NrtlLaws.{terms_own}
use Rattle.models.proofs.nrtl.add_terms.Goals as goal

pub returns : goal.returns
unfolding one dec round of_bits
returns c = terms_own _ _ _ _ _ _ refl (c.add_with_own.ensures _ (λ k b r p. search rules))
