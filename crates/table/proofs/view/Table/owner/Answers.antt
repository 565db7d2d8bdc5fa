-- `table::view::Table::owner` meets its contract: the word is read where owner_at says. Assumes nothing.
use mathlib.Core.Path.{ap, ◌∙◌}
use Rattle.meaning.specs.Table.{word}
use Rattle.table.proofs.view.Table.owner.Goals as goal

pub returns : goal.returns
returns c = (c.word.ensures.0 ∙ ap (word _) c.owner_at.ensures, c.word.ensures.1)
