-- Words for a set of places: which are marked, and what a list's targets add up to.
use Rattle.std.specs.Prelude.{ℕ, ◌<◌, List, ◌≡◌, length, get_or}
use Rattle.meaning.specs.Cells.{Cell, row_sum}
use Rattle.meaning.specs.Calls.{in_set}

-- every place of a set is below m
abbrev pub AllBelow : ℕ → List ℕ → Type 0
AllBelow m ps = (k : ℕ) → k < length ps → get_or ps k 0 < m

-- m marks: 1 where the place is in the set, else 0
pub record Marks (m : ℕ) (ps marks : List ℕ) : Type 0 where
  pub long : length marks ≡ m
  pub mark : (v : ℕ) → get_or marks v 0 ≡ in_set ps v

-- the marks of a list's targets, added up
abbrev pub marked : List ℕ → List Cell → ℕ
marked marks l = row_sum (λ c. get_or marks c.target 0) l
