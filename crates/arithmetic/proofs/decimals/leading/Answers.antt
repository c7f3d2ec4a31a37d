use Rattle.arithmetic.proofs.decimals.Texts.{leading-first}
use Rattle.arithmetic.proofs.decimals.leading.Goals as goal

pub returns : goal.returns
returns c = leading-first c.args.s.now c.first_other.ensures c.unwrap_or.ensures
