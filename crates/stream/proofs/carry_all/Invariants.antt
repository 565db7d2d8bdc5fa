-- `stream::carry_all` meets its contract: what is left of the bytes comes to the whole. Assumes nothing.
use Rattle.stream.proofs.Streaming.{Going}
use Rattle.stream.specs.Streamed.{tables}
use lib.ListN.{length}
use Rattle.stream.proofs.carry_all.Given as goal

abbrev pub invariant-loop-why : goal.invariant-loop-why
invariant-loop-why l =
    Going l.sizes.room.n l.sizes.room.c l.sizes.limit.d l.bytes (tables l.initial.store l.initial.spare l.initial.waiting l.initial.answers l.initial.sum)
    l.store l.spare l.waiting l.answers l.rest l.carried l.sum

abbrev pub decreases-loop-why : goal.decreases-loop-why
decreases-loop-why l = length l.rest
