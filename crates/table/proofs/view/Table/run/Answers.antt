-- `table::view::Table::run` meets its contract. Assumes nothing.
use Rattle.meaning.specs.Table.{word}
use mathlib.Core.Path.{refl}
use Rattle.table.proofs.view.Table.run.Goals as goal

pub returns : goal.returns
unfolding word
returns c = refl
