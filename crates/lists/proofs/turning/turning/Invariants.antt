-- `lists::turning::turning` meets its contract: what is left to turn comes to the whole. Assumes nothing.
use Rattle.lists.proofs.Turns.{Turns, Walks}
use Prim.Native.Nat.{◌-◌}
use Rattle.lists.proofs.turning.turning.Given as goal

abbrev pub invariant-walk : goal.invariant-walk
invariant-walk l = Walks l.room.n l.room.c l.d l.w l.initial.store l.initial.waiting l.initial.top l.store l.waiting l.top l.left

abbrev pub decreases-walk : goal.decreases-walk
decreases-walk l = l.left

abbrev pub invariant-loop-top : goal.invariant-loop-top
invariant-loop-top l = Turns l.room.n l.room.c l.d l.m l.a l.initial.store l.store l.waiting l.top l.turned l.reversals

abbrev pub decreases-loop-top : goal.decreases-loop-top
decreases-loop-top l = l.m - l.turned
