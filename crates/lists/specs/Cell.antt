-- What a caller shows before a cell moves from one list to another.
use Rattle.std.specs.Prelude.{ℕ, ◌^◌, ◌≤◌, ◌<◌, List, ◌≡◌}
use Rattle.meaning.proofs.Steps.{cell_at, hook_at}
use Rattle.meaning.proofs.Threaded.{Threaded}
use Rattle.find.specs.Find.{SpotOf}
use Rattle.find.specs.declared.Spot.{Spot}

pub record Shifts (n C : ℕ) (w : List ℕ) (s : Spot) (v t : ℕ) : Type 0 where
  pub threaded : Threaded n C w
  pub from : s.list ≤ n
  pub to : v ≤ n
  pub other : s.list ≡ v → ⊥
  pub spot : SpotOf s n C w
  pub word : t < 2 ^ 32

-- the spot of a list's first cell
pub record Front (s : Spot) (n C : ℕ) (w : List ℕ) (u : ℕ) : Type 0 where
  pub list : s.list ≡ u
  pub position : s.position ≡ 0
  pub cell : s.cell ≡ cell_at n C w u 0
  pub hook : s.hook ≡ hook_at n C w u 0
