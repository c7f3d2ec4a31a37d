use Rattle.std.proofs.Common.{rules}
use lib.Ieee.{of_bits, round}
use Rattle.arithmetic.specs.Floats.{dec}
use Rattle.arithmetic.proofs.decimals.Tens.{table_at}
use Rattle.arithmetic.proofs.decimals.ten.Statement.{statement}
use Rattle.arithmetic.proofs.decimals.ten.Tie as tie

returns : tie.Need-returns
unfolding of_bits round dec
returns c = table_at c.args.d c.requires

pub ten_spec : {M : Type 1} → statement M
ten_spec = tie.close (tie.spec (λ c. search rules) (λ c. search rules) returns)
