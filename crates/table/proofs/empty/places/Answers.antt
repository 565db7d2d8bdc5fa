-- `table::empty::places` meets its contract: each section is the law's. Assumes nothing.
use Rattle.table.proofs.Writing.{places_emptied}
use Rattle.table.proofs.empty.places.Goals as goal

pub returns : goal.returns
returns c =
    places_emptied _ _ _ _ _ _ _ _ c.requires
    c.fill.ensures
    _ c.head_at.ensures c.fill-2.ensures
    _ c.head_at-2.ensures c.put.ensures
    _ c.count_at.ensures c.fill-3.ensures
    _ c.count_at-2.ensures c.put-2.ensures
