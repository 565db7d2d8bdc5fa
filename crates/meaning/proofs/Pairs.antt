-- Sums over the links of a table, by rows: what the weight of one cell gives for its list and for the whole sum; and the links
-- between two places, which are those of the one's list that go to the other and those of the other's that come back.
-- Assumes nothing.
use Prim.Native.Nat.{ℕ, zero, suc, ◌+◌, ◌*◌, ◌≤◌, ◌<◌}
use mathlib.Core.List.{List, [], ◌∷◌}
use mathlib.Core.Logic.{⊎_elim}
use mathlib.Core.Path.{◌≡◌, refl, sym, ap, ◌∙◌}
use native.Mathlib.Nat.{mul_comm}
use native.Mathlib.Omega.{arith}
use lib.ListN.{length}
use Rattle.meaning.specs.Table.{target_of, next_of}
use Rattle.meaning.specs.Cells.{Cell, Lists, Weight, list, row_sum, sum, same}
use Rattle.meaning.specs.Day.{cells}
use Rattle.meaning.proofs.Same.{same_cases, same_self}
use Rattle.meaning.proofs.Right.{pair}
use Rattle.meaning.proofs.Sums.{sum-add, sum_at, sum_ext}
use Rattle.meaning.proofs.Times.{times}
use Rattle.meaning.proofs.Held.{steps}
use Rattle.meaning.proofs.Walks.{standing}

-- how many links of a list go to place t
abbrev pub toward : ℕ → List Cell → ℕ
toward t l = row_sum (λ c. same t c.target) l

-- rows of nothing are a sum of nothing
pub rows_none : (f : Weight) (ls : Lists) → ((v : ℕ) → v < length ls → row_sum (f v) (list ls v) ≡ 0) → sum f ls ≡ 0
rows_none f [] h = refl
rows_none f (l ∷ ls) h = omega (arith, h 0 (omega arith), rows_none (λ u. f (suc u)) ls (λ v p. h (suc v) (omega arith)))

-- the links between p and q
pub pair_rows : (p q : ℕ) (ls : Lists) → sum (pair p q) ls ≡ toward q (list ls p) + toward p (list ls q)
pair_rows p q ls =
    sum-add (λ v c. same p v * same q c.target) (λ v c. same p c.target * same q v) ls
    ∙ omega (
      arith,
      sum_at (λ c. same q c.target) p ls,
      sum_at (λ c. same p c.target) q ls,
      sum_ext (λ v c. same p c.target * same q v) (λ v c. same q v * same p c.target) ls (λ v c. mul_comm (same p c.target) (same q v)),
    )

module _ (n C : ℕ) (w : List ℕ) where
  -- a cell's weight is a part of its list's, and a list of cells of no weight has none
  pub cell_part : (g : Cell → ℕ) (k i j : ℕ) → 0 < times j (steps n C w k i) → g (standing n C w j) ≤ row_sum g (cells n C w k i)
  unfolding cells steps times
  cell_part g zero i j q = absurd (omega arith)
  cell_part g (suc k) i j q =
      ⊎_elim
      (λ e. omega (arith, ap (λ (z : ℕ). g (standing n C w z)) e.0))
      (λ e. omega (arith, cell_part g k (next_of n C w i) j (omega arith)))
      (same_cases j i)

  pub cells_none : (g : Cell → ℕ) (k i : ℕ) → ((j : ℕ) → 0 < times j (steps n C w k i) → g (standing n C w j) ≡ 0) → row_sum g (cells n C w k i) ≡ 0
  unfolding cells steps times
  cells_none g zero i h = refl
  cells_none g (suc k) i h = omega (arith, h i (omega (arith, same_self i)), cells_none g k (next_of n C w i) (λ j q. h j (omega arith)))

  -- a list that goes to t has a cell with target t
  pub toward_cell : (t k i : ℕ) → 0 < toward t (cells n C w k i) → (j : ℕ) × (0 < times j (steps n C w k i)) × (target_of n C w j ≡ t)
  unfolding cells steps times
  toward_cell t zero i h = absurd (omega arith)
  toward_cell t (suc k) i h =
      ⊎_elim
      (λ e. (i, omega (arith, same_self i), sym e.0))
      (λ e. let r = toward_cell t k (next_of n C w i) (omega arith) in (r.0, omega (arith, r.1), r.2))
      (same_cases t (target_of n C w i))

  pub cell_toward : (t k i j : ℕ) → 0 < times j (steps n C w k i) → target_of n C w j ≡ t → 0 < toward t (cells n C w k i)
  cell_toward t k i j q e =
      omega (arith, cell_part (λ c. same t c.target) k i j q, ap (λ (z : ℕ). same t z) e, same_self t)

  -- two cells of one list with one target are two links to it
  pub two_toward : (t k x i j : ℕ) → 0 < times i (steps n C w k x) → 0 < times j (steps n C w k x) → (i ≡ j → ⊥)
      → target_of n C w i ≡ t → target_of n C w j ≡ t → 2 ≤ toward t (cells n C w k x)
  unfolding cells steps times
  two_toward t zero x i j p q d e f = absurd (omega arith)
  two_toward t (suc k) x i j p q d e f =
      ⊎_elim
      (λ a. ⊎_elim
      (λ b. absurd (d (a.0 ∙ sym b.0)))
      (λ b. omega (arith, at x (sym (ap (target_of n C w) a.0) ∙ e), cell_toward t k (next_of n C w x) j (omega arith) f))
      (same_cases j x))
      (λ a. ⊎_elim
      (λ b. omega (arith, at x (sym (ap (target_of n C w) b.0) ∙ f), cell_toward t k (next_of n C w x) i (omega arith) e))
      (λ b. omega (arith, two_toward t k (next_of n C w x) i j (omega arith) (omega arith) d e f))
      (same_cases j x))
      (same_cases i x)
    where
      at : (x : ℕ) → target_of n C w x ≡ t → same t (target_of n C w x) ≡ 1
      at x e = ap (λ (z : ℕ). same t z) e ∙ same_self t
