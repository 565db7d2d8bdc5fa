-- `stream::carry::step` meets its contract. Assumes nothing.
use Rattle.stream.proofs.Stepping.{stepped}
use Rattle.stream.proofs.carry.step.Goals as goal

pub returns : goal.returns
returns c = stepped _ _ _ _ _ _ _ _ _ _ _ _ _ _ _ _ c.carry-answer.ensures c.put_answer.ensures c.forward.ensures
