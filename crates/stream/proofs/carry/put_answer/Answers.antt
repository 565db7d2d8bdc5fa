-- `stream::carry::put_answer` meets its contract. Assumes nothing.
use Rattle.meaning.specs.Table.{written}
use Rattle.stream.proofs.Stepping.{refusal_most}
use native.Mathlib.Omega.{arith}
use Rattle.stream.proofs.carry.put_answer.Goals as goal

pub overflow_cast-answers : goal.overflow_cast-answers
overflow_cast-answers c = omega (arith, refusal_most c.args.answer, c.refusal_of.ensures)

pub returns : goal.returns
unfolding written
returns c = cc
