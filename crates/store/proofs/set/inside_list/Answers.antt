-- `store::set::inside_list` meets its contract: the marks of the cells passed and of those to come are those of the list. Assumes nothing.
use Rattle.store.proofs.Setting.{counting_start, counting_more, counting_all}
use native.Mathlib.Omega.{arith}
use Rattle.store.proofs.set.inside_list.Goals as goal

pub loop-init : goal.loop-init
loop-init c = counting_start _ _ _ _ _ c.requires.0 c.requires.1 c.requires.2 _ _ (omega arith) c.head-cell.ensures.0

pub loop-preserved : goal.loop-preserved
loop-preserved c = counting_more _ _ _ _ _ _ _ _ _ _ _ c.loop.invariant (omega arith) c.target.ensures.0 (omega (arith, c.type_inv.marks c.target.result)) c.next-cell.ensures.0

pub returns : goal.returns
returns c = counting_all _ _ _ _ _ _ _ _ c.loop.invariant (omega arith)
