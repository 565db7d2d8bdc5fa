-- `find::seek` meets its contract: no cell passed aims at u. Assumes nothing.
use Rattle.std.proofs.Common.{arith}
use Rattle.find.proofs.Finding.{seeking_start, seeking_cell, seeking_more, seek_here, seek_nowhere}
use Rattle.find.proofs.seek.Goals as goal

pub loop-position-init : goal.loop-position-init
loop-position-init c = seeking_start _ _ _ c.requires.0 _ _ (omega arith) _ _ _ c.count-position-end.ensures.0 c.head-cell.ensures.0 c.head_at-hook.ensures

pub target-requires : goal.target-requires
target-requires c = seeking_cell _ _ _ c.requires.0 _ _ (omega arith) _ _ _ _ c.loop-position.invariant c.loop-position-test.true

pub returns-then-target-u : goal.returns-then-target-u
returns-then-target-u c = seek_here _ _ _ c.requires.0 _ _ (omega arith) _ _ _ _ _ c.loop-position.invariant c.loop-position-test.true c.target.ensures.0 c.if-target-u.true

pub next_at-hook-requires : goal.next_at-hook-requires
next_at-hook-requires c = seeking_cell _ _ _ c.requires.0 _ _ (omega arith) _ _ _ _ c.loop-position.invariant c.loop-position-test.true

pub next-cell-requires : goal.next-cell-requires
next-cell-requires c = seeking_cell _ _ _ c.requires.0 _ _ (omega arith) _ _ _ _ c.loop-position.invariant c.loop-position-test.true

pub loop-position-preserved : goal.loop-position-preserved
loop-position-preserved c = seeking_more _ _ _ c.requires.0 _ _ (omega arith) _ _ _ _ _ _ _ c.loop-position.invariant c.loop-position-test.true c.target.ensures.0 c.if-target-u.false c.next_at-hook.ensures c.next-cell.ensures.0

pub returns : goal.returns
returns c = seek_nowhere _ _ _ c.requires.0 _ _ (omega arith) _ _ _ _ c.loop-position.invariant c.loop-position-test.false
