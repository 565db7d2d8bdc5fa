-- `table::view::Table::target` meets its contract: the word is read where target_at says. Assumes nothing.
use mathlib.Core.Path.{ap, ◌∙◌}
use Rattle.meaning.specs.Table.{word}
use Rattle.table.proofs.view.Table.target.Goals as goal

pub returns : goal.returns
returns c = (c.word.ensures.0 ∙ ap (word _) c.target_at.ensures, c.word.ensures.1)
