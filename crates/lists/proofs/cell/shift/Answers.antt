-- `lists::cell::shift` meets its contract: a cell moves in two halves. Assumes nothing.
use Rattle.lists.proofs.Shifting.{shift_out, shift_in, shift_count, shift_words}
use Rattle.lists.proofs.cell.shift.Goals as goal

pub unhook-requires : goal.unhook-requires
unhook-requires c = shift_out _ _ _ _ _ _ c.requires

pub hook-requires : goal.hook-requires
hook-requires c = shift_in _ _ _ _ _ _ c.requires _ c.unhook.ensures

pub returns : goal.returns
returns c = (shift_count _ _ _ _ _ _ c.requires _ c.unhook.ensures _ c.hook.ensures.0, shift_words _ _ _ _ _ _ c.requires _ c.unhook.ensures _ c.hook.ensures.1)
