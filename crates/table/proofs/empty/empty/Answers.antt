-- `table::empty::empty` meets its contract: its two halves are the empty table. Assumes nothing.
use Rattle.table.proofs.Writing.{halves_empty}
use Rattle.table.proofs.empty.empty.Goals as goal

pub returns : goal.returns
returns c =
    halves_empty _ _ _ _ _ c.requires
    c.places.ensures c.cells.ensures
