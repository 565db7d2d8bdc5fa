-- `table::step::unhook` meets its contract. Assumes nothing.
use Rattle.table.proofs.Stepping.{unhook_words}
use Rattle.table.proofs.step.unhook.Goals as goal

pub returns : goal.returns
returns c =
    unhook_words _ _ _ _ _ _ _ _ _ c.count-many.ensures.0 _ _ c.next-rest.ensures.0 c.count_at.ensures
    c.put.ensures c.put-2.ensures
