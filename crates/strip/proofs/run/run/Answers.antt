-- Opens a mixture and walks along the strip: from the opening on the text is the book's.
use Rattle.std.proofs.Common.{refl}
use Rattle.mixture.specs.Memory.{short}
use Rattle.strip.proofs.run.RunLaws.{run_opened}
use Rattle.strip.proofs.run.run.Goals as goal

pub returns : goal.returns
unfolding short
returns c = let w = c.walk.ensures in (run_opened _ _ _ _ c.open-opened.ensures refl w.0, w.1)
