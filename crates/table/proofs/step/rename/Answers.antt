-- `table::step::rename` meets its contract. Assumes nothing.
use Rattle.meaning.proofs.Steps.{renamed}
use Rattle.meaning.specs.Table.{written}
use mathlib.Core.Path.{refl}
use Rattle.table.proofs.step.rename.Goals as goal

pub returns : goal.returns
unfolding renamed written
returns c = refl
