-- `judge::name::fresh` meets its contract. The loop's invariant: the walk through v's bucket has come to u (Buckets). The measure is
-- u, since each place's chain goes down. Assumes nothing.
use Rattle.judge.proofs.Buckets.{Walked}
use Rattle.judge.proofs.name.fresh.Given as goal

abbrev pub invariant-loop-u : goal.invariant-loop-u
invariant-loop-u l = let t = l.table in Walked t.room.n t.room.c t.words.now l.v l.u

abbrev pub decreases-loop-u : goal.decreases-loop-u
decreases-loop-u l = l.u
