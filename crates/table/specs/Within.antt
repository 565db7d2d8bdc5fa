-- What a caller shows before a word is read or written: the sizes are within their limits, the table has their length, and
-- the place, list or cell is one of them.
use Rattle.std.specs.Prelude.{ℕ, ◌≤◌, ◌<◌, List, ◌≡◌, length}
use Rattle.terms.specs.Size.{InRoom, store_words}
use Rattle.terms.specs.declared.run.Run.{Run}
use Rattle.meaning.specs.Table.{line_of, number_of}

-- sizes within their limits and a table of their length
pub record Within (n C : ℕ) (w : List ℕ) : Type 0 where
  pub room : InRoom n C
  pub long : length w ≡ store_words n C

-- a place below n
pub record AtPlace (n C : ℕ) (w : List ℕ) (v : ℕ) : Type 0 where
  pub within : Within n C w
  pub place : v < n

-- one of the n + 1 lists
pub record AtList (n C : ℕ) (w : List ℕ) (v : ℕ) : Type 0 where
  pub within : Within n C w
  pub list : v ≤ n

-- a cell below C
pub record AtCell (n C : ℕ) (w : List ℕ) (i : ℕ) : Type 0 where
  pub within : Within n C w
  pub cell : i < C

-- the run whose line and number stand at a place
abbrev pub named : ℕ → ℕ → List ℕ → ℕ → Run
named n C w v = record { line = line_of n C w v; trip = number_of n C w v }
