-- `find::seek` meets its contract: no cell passed aims at u. Assumes nothing.
use Rattle.find.proofs.Finding.{Seeking}
use Rattle.find.proofs.seek.Given as goal

abbrev pub invariant-loop-position : goal.invariant-loop-position
invariant-loop-position l = Seeking l.table.room.n l.table.room.c l.table.words.now l.v l.u l.position-end l.cell l.hook l.position
