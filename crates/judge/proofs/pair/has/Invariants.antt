-- `judge::pair::has` meets its contract. The loop's invariant: what is left of the list has the target exactly if the whole has it.
-- Assumes nothing.
use Prim.Native.Nat.{◌-◌}
use Rattle.meaning.proofs.Judged.{Has}
use Rattle.judge.proofs.pair.has.Given as goal

abbrev pub invariant-loop : goal.invariant-loop
invariant-loop l =
    let t = l.table in
    let H = Has t.room.n t.room.c t.words.now l.u in
    (H (l.k - l.counter) l.at → H l.k l.i) × (H l.k l.i → H (l.k - l.counter) l.at)
