-- `lists::turning::turning` meets its contract: what is left to turn comes to the whole. Assumes nothing.
use Rattle.lists.proofs.Turns.{walks_start, walks_hand, walks_more, turns_start, turns_word, turns_list, turns_few, turns_walk, turns_next, ends_settled, ends_dense}
use native.Mathlib.Omega.{arith}
use Rattle.lists.proofs.turning.turning.Goals as goal

pub put-requires : goal.put-requires
put-requires c = (omega (arith, c.requires.room, c.requires.place), omega (arith, c.requires.place, c.requires.linked.threaded.room.places_at_most))

pub loop-top-init : goal.loop-top-init
loop-top-init c = turns_start _ _ _ _ _ _ _ _ c.requires c.put.ensures

pub word-w-requires : goal.word-w-requires
word-w-requires c = turns_word _ _ _ _ _ _ _ _ _ _ _ c.loop-top.invariant c.if-top-eq0.false

pub count-left-requires : goal.count-left-requires
count-left-requires c = turns_list _ _ _ _ _ _ _ _ _ _ _ c.loop-top.invariant c.if-top-eq0.false _ c.word-w.ensures.0

pub overflow_add-reversals : goal.overflow_add-reversals
overflow_add-reversals c = omega (arith, turns_few _ _ _ _ _ _ _ _ _ _ _ c.loop-top.invariant c.if-top-eq0.false _ c.word-w.ensures.0, c.loop-top.invariant.small, c.loop-top.invariant.most, c.loop-top.invariant.few, c.loop-top.invariant.linked.threaded.room.cells_at_most, c.count-left.ensures.0)

pub walk-init : goal.walk-init
walk-init c = walks_start _ _ _ _ _ _ _ _ (turns_walk _ _ _ _ _ _ _ _ _ _ _ c.loop-top.invariant c.if-top-eq0.false _ c.word-w.ensures.0) c.count-left.ensures.0

pub hand-top-requires : goal.hand-top-requires
hand-top-requires c = walks_hand _ _ _ _ _ _ _ _ _ _ _ c.walk.invariant c.if-left-eq0.false

pub walk-preserved : goal.walk-preserved
walk-preserved c = walks_more _ _ _ _ _ _ _ _ _ _ _ c.walk.invariant _ _ _ c.hand-top.ensures

pub loop-top-preserved : goal.loop-top-preserved
loop-top-preserved c = turns_next _ _ _ _ _ _ _ _ _ _ _ c.loop-top.invariant c.if-top-eq0.false _ c.word-w.ensures.0 c.if-turned-m.false _ c.count-left.ensures.0 _ _ _ _ c.walk.invariant c.if-left-eq0.true

pub returns-then-top-eq0 : goal.returns-then-top-eq0
returns-then-top-eq0 c = ends_settled _ _ _ _ _ _ _ _ _ _ _ c.loop-top.invariant c.if-top-eq0.true

pub returns-then-turned-m : goal.returns-then-turned-m
returns-then-turned-m c = ends_dense _ _ _ _ _ _ _ _ _ _ _ c.loop-top.invariant c.if-top-eq0.false c.if-turned-m.true
