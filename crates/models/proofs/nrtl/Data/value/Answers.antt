use Rattle.std.proofs.Common.{rules}
use Rattle.arithmetic.proofs.TableLaws.{filled-less}
use Rattle.models.proofs.ColumnLaws.{zeros}
use Rattle.models.specs.Nrtl.{nrtl}
use Rattle.models.proofs.nrtl.Data.value.Goals as goal

pub column_sums-requires : goal.column_sums-requires
column_sums-requires c = let zero = filled-less c.args.self.fits.few (zeros 12) in search rules

pub returns : goal.returns
unfolding nrtl
returns c = c.value.ensures _ _ (λ k b r p. search rules) (λ r p. search rules)
