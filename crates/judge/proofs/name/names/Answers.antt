-- `judge::name::names` meets its contract. The loop's invariant: the buckets hold the places below v, and none of those has the name
-- of one before it. Assumes nothing.
use borrow.Author.Count.{below_none}
use Rattle.judge.proofs.Buckets.{lasts_none, befores_none}
use Rattle.judge.proofs.name.names.Goals as goal

pub loop-v-init : goal.loop-v-init
loop-v-init c = (lasts_none _ _ _, befores_none _ _ _ _ c.args.table.room.within.places_at_most, below_none _)
