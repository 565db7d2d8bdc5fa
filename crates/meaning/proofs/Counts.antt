-- The number of links that a threaded table holds is the number of its cells that are not free. Assumes nothing.
use Prim.Native.Nat.{ℕ, zero, suc, ◌+◌, ◌-◌, ◌≤◌}
use mathlib.Core.List.{List}
use mathlib.Core.Path.{◌≡◌, refl}
use native.Mathlib.Omega.{arith}
use lib.ListN.{length}
use Rattle.meaning.specs.Cells.{Cell, links}
use Rattle.meaning.specs.Table.{length_of}
use Rattle.meaning.specs.Soundness.{lengths}
use Rattle.meaning.specs.Day.{each, cells_of, day_of}
use Rattle.meaning.proofs.Judged.{lengths_more}
use Rattle.meaning.proofs.Sums.{row_sum_one}
use Rattle.meaning.proofs.Threaded.{Threaded, list_length}

links_last : (k : ℕ) (f : ℕ → List Cell) → links (each (suc k) f) ≡ links (each k f) + length (f k)
links_last zero f = omega (arith, row_sum_one (f 0))
links_last (suc k) f = omega (arith, links_last k (λ i. f (suc i)))

links_lengths : (n C : ℕ) (w : List ℕ) → Threaded n C w → (k : ℕ) → k ≤ n → links (each k (cells_of n C w)) ≡ lengths n C w k
unfolding lengths
links_lengths n C w T zero h = refl
links_lengths n C w T (suc k) h =
    omega (arith, links_last k (cells_of n C w), links_lengths n C w T k (omega arith), list_length n C w T k (omega arith))

pub links_count : (n C : ℕ) (w : List ℕ) → Threaded n C w → C - length_of n C w n ≡ links (day_of n C w).lists
links_count n C w T = omega (arith, T.whole, lengths_more n C w n, links_lengths n C w T n (omega arith))
