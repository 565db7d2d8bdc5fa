-- `judge::chain::lengths` meets its contract. The loop's invariant: the sum is that of the lengths below v, each of which is at
-- most d. Assumes nothing.
use Prim.Native.Nat.{ℕ, ◌*◌, ◌≤◌, ◌<◌}
use mathlib.Core.Path.{◌≡◌}
use Rattle.meaning.specs.Table.{length_of}
use Rattle.meaning.specs.Soundness as meant
use Rattle.judge.proofs.chain.lengths.Given as goal

abbrev pub invariant-loop-v : goal.invariant-loop-v
invariant-loop-v l =
    let t = l.table in
    (l.sum ≡ meant.lengths t.room.n t.room.c t.words.now l.v)
    × (l.sum ≤ 4294967296 * l.v)
    × ((u : ℕ) → u < l.v → length_of t.room.n t.room.c t.words.now u ≤ l.d)
