-- `table::view::Table::count` meets its contract: the word is read where count_at says. Assumes nothing.
use mathlib.Core.Path.{ap, ◌∙◌}
use Rattle.meaning.specs.Table.{word}
use Rattle.table.proofs.view.Table.count.Goals as goal

pub returns : goal.returns
returns c = (c.word.ensures.0 ∙ ap (word _) c.count_at.ensures, c.word.ensures.1)
