-- `table::step::set_list` meets its contract. Assumes nothing.
use Rattle.meaning.proofs.Steps.{listed}
use Rattle.table.proofs.step.set_list.Goals as goal

pub returns : goal.returns
unfolding listed
returns c = cc
