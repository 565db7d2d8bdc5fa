-- What the searches answer: which cell of a list, at which position, and where the word stands that names it; which of two lists
-- has a link; the places of two named runs.
use Rattle.std.specs.Prelude.{ℕ, ◌≤◌, ◌<◌, List, ◌≡◌, ◌⊎◌, Option, Some, None, Result, Ok, Err}
use Rattle.terms.specs.declared.run.Run.{Run}
use Rattle.terms.specs.declared.refusal.Refusal.{Refusal}
use Rattle.meaning.specs.Cells.{seek}
use Rattle.meaning.specs.Table.{length_of}
use Rattle.meaning.specs.Day.{cells_of, day_of, place_of}
use Rattle.meaning.specs.Calls.{Tests, pair_tests, first_refusal}
use Rattle.meaning.proofs.Steps.{cell_at, hook_at}
use Rattle.find.specs.declared.Spot.{Spot}
use Rattle.find.specs.declared.Ends.{Ends}

-- a place that has what is looked for, the first of n; nothing where k is n
abbrev pub Placed : Option ℕ → ℕ → ℕ → Type 0
Placed (Some v) n k = (v ≡ k) × (v < n)
Placed None n k = k ≡ n

-- the spot is that of a cell in its list
pub record SpotOf (s : Spot) (n C : ℕ) (w : List ℕ) : Type 0 where
  pub within : s.position < length_of n C w s.list
  pub cell : s.cell ≡ cell_at n C w s.list s.position
  pub hook : s.hook ≡ hook_at n C w s.list s.position

-- it is that of v's first link to u
pub record Spotted (s : Spot) (n C : ℕ) (w : List ℕ) (v u : ℕ) : Type 0 where
  pub list : s.list ≡ v
  pub spot : SpotOf s n C w
  pub first : s.position ≡ seek u (cells_of n C w v)

-- no cell of v's list has target u
pub record Absent (n C : ℕ) (w : List ℕ) (v u : ℕ) : Type 0 where
  pub none : length_of n C w v ≤ seek u (cells_of n C w v)

abbrev pub Seeks : Option Spot → ℕ → ℕ → List ℕ → ℕ → ℕ → Type 0
Seeks (Some s) n C w v u = Spotted s n C w v u
Seeks None n C w v u = Absent n C w v u

-- the link of two places: in the first's list, in the second's where the first's has none, or in neither
abbrev pub Links : Option Spot → ℕ → ℕ → List ℕ → ℕ → ℕ → Type 0
Links (Some s) n C w u v = Spotted s n C w u v ⊎ (Absent n C w u v × Spotted s n C w v u)
Links None n C w u v = Absent n C w u v × Absent n C w v u

-- two named runs: their places, which pass the tests 3 to 5, or the first of these that holds
pub record Found (n C : ℕ) (w : List ℕ) (p q : Run) (e : Ends) : Type 0 where
  pub first : e.first ≡ place_of (day_of n C w) p
  pub second : e.second ≡ place_of (day_of n C w) q
  pub first_place : e.first < n
  pub second_place : e.second < n
  pub passed : (ts : Tests) → first_refusal (pair_tests (day_of n C w) p q ts) ≡ first_refusal ts

pub record Barred (n C : ℕ) (w : List ℕ) (p q : Run) (why : Refusal) : Type 0 where
  pub bars : (ts : Tests) → first_refusal (pair_tests (day_of n C w) p q ts) ≡ Some why

abbrev pub Finds : Result Ends Refusal → ℕ → ℕ → List ℕ → Run → Run → Type 0
Finds (Ok e) n C w p q = Found n C w p q e
Finds (Err why) n C w p q = Barred n C w p q why
