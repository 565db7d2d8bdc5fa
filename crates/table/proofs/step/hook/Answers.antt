-- `table::step::hook` meets its contract. Assumes nothing.
use Prim.Native.Nat.{ℕ, ◌+◌}
use mathlib.Core.Path.{ap}
use Rattle.table.proofs.Stepping.{hook_words}
use Rattle.table.proofs.step.hook.Goals as goal

pub returns : goal.returns
returns c = (
  ap (λ (k : ℕ). k + 1) c.count-many.ensures.0,
  hook_words _ _ _ _ _ _ _ _ _ c.count-many.ensures.0 _ c.head-rest.ensures.0 c.set_cell.ensures c.set_list.ensures,
)
