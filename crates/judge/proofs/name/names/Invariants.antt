-- `judge::name::names` meets its contract. The loop's invariant: the buckets hold the places below v, and none of those has the name
-- of one before it. Assumes nothing.
use Prim.Native.Nat.{ℕ, ◌<◌}
use Rattle.meaning.proofs.Judged.{Fresh}
use Rattle.judge.specs.Bucket.{Befores}
use Rattle.judge.proofs.Buckets.{Lasts}
use Rattle.judge.proofs.name.names.Given as goal

abbrev pub invariant-loop-v : goal.invariant-loop-v
invariant-loop-v l =
    let t = l.table in
    Lasts t.room.n t.room.c t.words.now l.v l.lasts
    × Befores t.room.n t.room.c t.words.now l.v l.before
    × ((k : ℕ) → k < l.v → Fresh t.room.n t.room.c t.words.now k)
