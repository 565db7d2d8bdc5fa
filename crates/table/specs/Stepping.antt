-- What a caller shows before a cell leaves a list or goes to the front of one.
use Rattle.std.specs.Prelude.{ℕ, ◌^◌, ◌≤◌, ◌<◌, List, length}
use Rattle.meaning.specs.Table.{length_of}
use Rattle.table.specs.Within.{Within}

-- cell i leaves the list of v, which is not empty; the word at `at` names it
pub record Unhooks (n C : ℕ) (w : List ℕ) (at v i : ℕ) : Type 0 where
  pub within : Within n C w
  pub named : at < length w
  pub list : v ≤ n
  pub cell : i < C
  pub some : 0 < length_of n C w v

-- cell i goes to the front of the list of v with target t
pub record Hooks (n C : ℕ) (w : List ℕ) (i v t : ℕ) : Type 0 where
  pub within : Within n C w
  pub cell : i < C
  pub list : v ≤ n
  pub aim : t < 2 ^ 32
  pub short : length_of n C w v ≤ C
