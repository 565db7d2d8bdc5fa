-- `store::set::inside` meets its contract: the lists of the places passed are added up. A list adds no more than 255 for each of
-- 16,384 cells, so the sum of 4,096 lists fits. Assumes nothing.
use Rattle.std.proofs.Common.{◌≡◌, ◌≤◌, ◌*◌, take, sum_by}
use Rattle.store.specs.Set.{marked}
use Rattle.meaning.specs.Day.{cells_of}
use Rattle.store.proofs.set.inside.Given as goal

abbrev pub invariant-loop-v : goal.invariant-loop-v
invariant-loop-v l = record {
  passed : l.sum ≡ sum_by (λ p. marked l.marks (cells_of l.table.room.n l.table.room.c l.table.words.now p)) (take l.v-index l.places);
  fits : l.sum ≤ 4177920 * l.v-index;
}
