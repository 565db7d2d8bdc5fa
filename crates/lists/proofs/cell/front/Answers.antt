-- `lists::cell::front` meets its contract. Assumes nothing.
use Rattle.meaning.proofs.Steps.{nth, hook_at}
use mathlib.Core.Path.{refl}
use Rattle.lists.proofs.cell.front.Goals as goal

pub returns : goal.returns
unfolding nth hook_at
returns c = record { list = refl; position = refl; cell = c.head.ensures.0; hook = c.head_at.ensures }
