-- `table::step::put` meets its contract. Assumes nothing.
use Rattle.meaning.specs.Table.{written}
use mathlib.Core.Path.{refl}
use Rattle.table.proofs.step.put.Goals as goal

pub returns : goal.returns
unfolding written
returns c = refl
