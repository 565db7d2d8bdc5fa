-- `store::set::inside_list` meets its contract: the marks of the cells passed and of those to come are those of the list. Assumes nothing.
use Rattle.store.proofs.Setting.{Counting}
use Prim.Native.Nat.{◌-◌}
use Rattle.store.proofs.set.inside_list.Given as goal

abbrev pub invariant-loop : goal.invariant-loop
invariant-loop l = Counting l.table.room.n l.table.room.c l.table.words.now l.marks l.v l.sum (l.end - l.counter) l.cell
