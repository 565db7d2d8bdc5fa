-- What a section that is written holds, and that the other words stay; and the two halves of what empty writes.
use Rattle.std.specs.Prelude.{ℕ, ◌+◌, ◌*◌, ◌≤◌, ◌<◌, List, ◌≡◌, length}
use Rattle.meaning.specs.Table.{NONE, word, line_of, number_of, head_of, length_of, owner_of, target_of, next_of}

-- the words at from, from + 1, .., as many, become f 0, f 1, ..
pub record Writes (from many : ℕ) (f : ℕ → ℕ) (w w' : List ℕ) : Type 0 where
  pub long : length w' ≡ length w
  pub inside : (j : ℕ) → j < many → word w' (from + j) ≡ f j
  pub below : (p : ℕ) → p < from → word w' p ≡ word w p
  pub above : (p : ℕ) → from + many ≤ p → word w' p ≡ word w p

-- lines, numbers and lengths 0, heads NONE, except head[n] = 0 and length[n] = C
pub record PlacesEmptied (n C : ℕ) (w w' : List ℕ) : Type 0 where
  pub long : length w' ≡ length w
  pub line : (v : ℕ) → v < n → line_of n C w' v ≡ 0
  pub number : (v : ℕ) → v < n → number_of n C w' v ≡ 0
  pub head : (v : ℕ) → v < n → head_of n C w' v ≡ NONE
  pub free_head : head_of n C w' n ≡ 0
  pub count : (v : ℕ) → v < n → length_of n C w' v ≡ 0
  pub free_count : length_of n C w' n ≡ C

-- owners n, targets NONE; next of cell i is i+1, of the last NONE; the words of the places stay
pub record CellsEmptied (n C : ℕ) (w w' : List ℕ) : Type 0 where
  pub long : length w' ≡ length w
  pub owner : (i : ℕ) → i < C → owner_of n C w' i ≡ n
  pub target : (i : ℕ) → i < C → target_of n C w' i ≡ NONE
  pub next : (i : ℕ) → i + 1 < C → next_of n C w' i ≡ i + 1
  pub last : (i : ℕ) → i + 1 ≡ C → next_of n C w' i ≡ NONE
  pub kept : (p : ℕ) → p < 4 * n + 2 → word w' p ≡ word w p
