-- `table::empty::cells` meets its contract: each section is the law's. Assumes nothing.
use Rattle.table.proofs.Writing.{cells_emptied}
use Rattle.table.proofs.empty.cells.Goals as goal

pub returns : goal.returns
returns c =
    cells_emptied _ _ _ _ _ _ _ c.requires
    _ c.owner_at.ensures c.fill.ensures
    _ c.target_at.ensures c.fill-2.ensures
    _ c.next_at.ensures c.count_up.ensures
    _ c.next_at-2.ensures c.put.ensures
