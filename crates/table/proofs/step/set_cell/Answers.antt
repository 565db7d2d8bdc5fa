-- `table::step::set_cell` meets its contract. Assumes nothing.
use Rattle.meaning.proofs.Steps.{celled}
use Rattle.table.proofs.step.set_cell.Goals as goal

pub returns : goal.returns
unfolding celled
returns c = cc
