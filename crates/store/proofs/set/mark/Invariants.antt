-- `store::set::mark` meets its contract: the places passed are marked. Assumes nothing.
use Rattle.store.proofs.Rising.{Marking}
use Rattle.store.proofs.set.mark.Given as goal

abbrev pub invariant-loop-v : goal.invariant-loop-v
invariant-loop-v l = Marking l.places l.marks l.v-index
