-- Makes the cells stale that a setting is an input of: they are those of its block.
use Rattle.mixture.proofs.SetLaws.{fits_by_lem, stale_is}
use Rattle.mixture.proofs.set.stale_by.Goals as goal

pub stale-requires : goal.stale-requires
stale-requires c = fits_by_lem c.args.head c.model_of-model.ensures c.table_width-w.ensures c.args.s c.requires.0 c.block_of-block.ensures c.requires.1

pub returns : goal.returns
returns c = stale_is c.args.head c.model_of-model.ensures c.table_width-w.ensures c.has_groups-diagonal.ensures c.args.s c.requires.0 _ c.block_of-block.ensures c.stale.ensures
