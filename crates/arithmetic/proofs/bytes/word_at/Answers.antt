use Rattle.std.proofs.Common.{arith}
use Rattle.arithmetic.specs.Bytes.{word_at}
use Rattle.arithmetic.proofs.bytes.word_at.Goals as goal

pub returns : goal.returns
unfolding word_at
returns c = (omega arith, omega arith)
