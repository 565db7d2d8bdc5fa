-- `store::set::mark` meets its contract: the places passed are marked. Assumes nothing.
use Rattle.store.proofs.Rising.{marking_more}
use native.Mathlib.Omega.{arith}
use Rattle.store.proofs.set.mark.Goals as goal

pub loop-v-preserved : goal.loop-v-preserved
loop-v-preserved c = marking_more _ _ _ c.requires.1 c.loop-v.invariant c.loop-v-test.true (omega (arith, c.requires.2 _ c.loop-v-test.true))
