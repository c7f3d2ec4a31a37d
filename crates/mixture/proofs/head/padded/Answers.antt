-- The items, padded: the copy has taken the first places, and the rest are as they were made.
use Rattle.std.proofs.lemmas.List.{drop-replicate}
use Rattle.mixture.proofs.head.padded.Goals as goal

pub returns : goal.returns
returns g c = rw (drop-replicate, c.copy_from_slice.ensures.after)
