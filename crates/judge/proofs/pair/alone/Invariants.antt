-- `judge::pair::alone` meets its contract. The loop's invariant: what is left of the list walks right, and its pairs stand once
-- exactly if those of the whole do. Assumes nothing.
use Rattle.meaning.proofs.Judged.{Walks, Alone}
use Rattle.judge.proofs.pair.alone.Given as goal

abbrev pub invariant-loop-left : goal.invariant-loop-left
invariant-loop-left l =
    let t = l.table in
    let A = Alone t.room.n t.room.c t.words.now l.v in
    Walks t.room.n t.room.c t.words.now l.v l.left l.at × (A l.left l.at → A l.k l.i) × (A l.k l.i → A l.left l.at)
