-- `judge::chain::walk` meets its contract. The loop's invariant: what is left of the walk says what the whole one says. Assumes
-- nothing.
use Prim.Native.Nat.{◌-◌}
use Rattle.meaning.proofs.Judged.{Walks}
use Rattle.judge.proofs.chain.walk.Given as goal

abbrev pub invariant-loop : goal.invariant-loop
invariant-loop l =
    let t = l.table in
    let W = Walks t.room.n t.room.c t.words.now l.v in
    (W (l.k - l.counter) l.at → W l.k l.i) × (W l.k l.i → W (l.k - l.counter) l.at)
