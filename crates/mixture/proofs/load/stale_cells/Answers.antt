-- Makes all the model's cells stale: they are the block of all rows and columns.
use Rattle.std.proofs.Common.{arith}
use Rattle.mixture.proofs.BlockLaws.{cells_stale}
use Rattle.mixture.proofs.load.stale_cells.Goals as goal

pub returns : goal.returns
returns c d so =
    cells_stale d so c.table_width-w.ensures c.has_groups-diagonal.ensures (omega (arith, c.table_width-w.ensures, c.requires)) _ c.stale.ensures
