-- `lists::turning::hand` meets its contract: one cell goes over. Assumes nothing.
use Rattle.lists.proofs.Handling.{hand_cell, hand_shift, hand_fits, hand_waiting, hand_passing}
use native.Mathlib.Omega.{arith}
use Rattle.lists.proofs.turning.hand.Goals as goal

pub target-x-requires : goal.target-x-requires
target-x-requires c = hand_cell _ _ _ _ _ _ _ c.requires.0 c.requires.1 _ c.front-spot.ensures

pub shift-many-requires : goal.shift-many-requires
shift-many-requires c = hand_shift _ _ _ _ _ _ _ c.requires.0 c.requires.1 _ c.front-spot.ensures _ c.target-x.ensures.0

pub put-requires : goal.put-requires
put-requires c = hand_fits _ _ _ _ _ _ _ c.requires.0 c.requires.1 _ c.front-spot.ensures _ c.target-x.ensures.0 _ c.shift-many.ensures.1 _ c.shift-many.ensures.0 c.if-many-d.true

pub overflow_add-result : goal.overflow_add-result
overflow_add-result c = omega (arith, (hand_fits _ _ _ _ _ _ _ c.requires.0 c.requires.1 _ c.front-spot.ensures _ c.target-x.ensures.0 _ c.shift-many.ensures.1 _ c.shift-many.ensures.0 c.if-many-d.true).0, c.requires.0.room, c.requires.0.linked.threaded.room.places_at_most)

pub returns-then-many-d : goal.returns-then-many-d
returns-then-many-d c = hand_waiting _ _ _ _ _ _ _ c.requires.0 c.requires.1 _ c.front-spot.ensures _ c.target-x.ensures.0 _ c.shift-many.ensures.1 _ c.shift-many.ensures.0 _ c.if-many-d.true c.put.ensures

pub returns : goal.returns
returns c = hand_passing _ _ _ _ _ _ _ c.requires.0 c.requires.1 _ c.front-spot.ensures _ c.target-x.ensures.0 _ c.shift-many.ensures.1 _ c.shift-many.ensures.0 c.if-many-d.false
