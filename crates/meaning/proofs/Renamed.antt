-- A place gets another run, or none: the table stays threaded and only that place's run changes in the day.
-- Assumes a threaded table.
use Prim.Native.Nat.{ℕ, ◌+◌, ◌≤◌, ◌<◌}
use mathlib.Core.List.{List, map}
use mathlib.Core.Path.{◌≡◌, sym, ap, ◌∙◌}
use native.Mathlib.Omega.{arith}
use lib.ListN.{length, set}
use Rattle.terms.specs.declared.run.Run.{Run}
use Rattle.terms.specs.Size.{store_words}
use Rattle.meaning.specs.Table.{line_of, number_of, head_of, length_of}
use Rattle.meaning.specs.Day.{cells_of, day_of}
use Rattle.meaning.proofs.Lists.{each_same}
use Rattle.meaning.proofs.Entries.{each_set}
use Rattle.meaning.proofs.Steps.{cell_at, renamed, SameRun, SameList, SameCell, renamed_line, renamed_number, renamed_run, renamed_list, renamed_cell, renamed_long}
use Rattle.meaning.proofs.Walks.{nth_zero, Walk, walk_reaches, walk_along, walk_cells}
use Rattle.meaning.proofs.Threaded.{Threaded, lengths_same, cell_walk, cell_inside, cell_owner, cell_next, cell_end, free_target}
use Rattle.meaning.proofs.Effects.{same_day}

-- a step that leaves every list and every cell alone
module _ (n C : ℕ) (w w' : List ℕ) (T : Threaded n C w) (z : length w' ≡ store_words n C) (L : (v : ℕ) → v ≤ n → SameList n C w w' v)
    (S : (j : ℕ) → j < C → SameCell n C w w' j) where
  kept_walk : (v : ℕ) → v ≤ n → Walk n C w' v (length_of n C w v) (head_of n C w' v) (λ a. cell_at n C w v a)
  kept_walk v hv = record {
    starts = nth_zero n C w (head_of n C w v) ∙ sym (L v hv).head;
    ends = cell_end n C w T v hv;
    inside = λ a h. cell_inside n C w T v hv a h;
    owned = λ a h. (S (cell_at n C w v a) (cell_inside n C w T v hv a h)).owner ∙ cell_owner n C w T v hv a h;
    steps = λ a h. (S (cell_at n C w v a) (cell_inside n C w T v hv a h)).next ∙ cell_next n C w T v hv a;
  }

  pub kept_threaded : Threaded n C w'
  kept_threaded = record {
    room = T.room;
    long = z;
    reaches = λ v hv. rw (L v hv).count (walk_reaches n C w' v _ _ _ (kept_walk v hv));
    whole = lengths_same n C w w' (n + 1) (λ v h. (L v (omega arith)).count) ∙ T.whole;
    freed = rw (L n (omega arith)).count
        (walk_along n C w' _ n _ _ _ (kept_walk n (omega arith)) (λ a h. (S (cell_at n C w n a) (cell_inside n C w T n (omega arith) a h)).target ∙ free_target n C w T a h));
  }

  pub kept_cells : (v : ℕ) → v ≤ n → cells_of n C w' v ≡ cells_of n C w v
  kept_cells v hv =
      rw (L v hv).count
      (walk_cells n C w' v _ _ _ (kept_walk v hv)
      ∙ (each_same (length_of n C w v) _ _
      (λ a h. ap (λ x. record { index = cell_at n C w v a; target = x }) (S (cell_at n C w v a) (cell_inside n C w T v hv a h)).target)
      ∙ sym (walk_cells n C w v _ _ _ (cell_walk n C w T v hv))))

-- the place v has the run with that line and trip number
module _ (n C : ℕ) (w : List ℕ) (T : Threaded n C w) (v line trip : ℕ) (hv : v < n) where
  pub renamed_threaded : Threaded n C (renamed n C w v line trip)
  renamed_threaded =
      kept_threaded n C w (renamed n C w v line trip) T (renamed_long n C w v line trip ∙ T.long) (λ u h. renamed_list n C w v line trip T.long hv u)
      (λ j h. renamed_cell n C w v line trip T.long hv j)

  pub renamed_cells : (u : ℕ) → u ≤ n → cells_of n C (renamed n C w v line trip) u ≡ cells_of n C w u
  renamed_cells =
      kept_cells n C w (renamed n C w v line trip) T (renamed_long n C w v line trip ∙ T.long) (λ u h. renamed_list n C w v line trip T.long hv u)
      (λ j h. renamed_cell n C w v line trip T.long hv j)

  abbrev run_at : List ℕ → ℕ → Run
  run_at w z = record { line = line_of n C w z; trip = number_of n C w z }

  run_there : run_at (renamed n C w v line trip) v ≡ record { line = line; trip = trip }
  run_there =
      λ i. record { line = renamed_line n C w v line trip T.long hv i; trip = renamed_number n C w v line trip T.long hv i }

  run_other : (z : ℕ) → z < n → (z ≡ v → ⊥) → run_at (renamed n C w v line trip) z ≡ run_at w z
  run_other z h d =
      let s : SameRun n C w (renamed n C w v line trip) z = renamed_run n C w v line trip T.long hv z h d in
      λ i. record { line = s.line i; trip = s.number i }

  pub renamed_day : day_of n C (renamed n C w v line trip)
      ≡ record { runs = set (day_of n C w).runs v (record { line = line; trip = trip }); lists = (day_of n C w).lists; free = (day_of n C w).free }
  renamed_day =
      same_day (day_of n C (renamed n C w v line trip))
      (record { runs = set (day_of n C w).runs v (record { line = line; trip = trip }); lists = (day_of n C w).lists; free = (day_of n C w).free })
      (each_set n (run_at w) (run_at (renamed n C w v line trip)) v _ hv run_there run_other)
      (each_same n _ _ (λ z h. renamed_cells z (omega arith)))
      (ap (map (λ c. c.index)) (renamed_cells n (omega arith)))
