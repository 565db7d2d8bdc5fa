-- What a search that goes from the front shows: the first that passes is found, or none passes. Assumes nothing.
use Prim.Native.Nat.{ℕ, ◌+◌, ◌≤◌, ◌-◌, ◌<◌}
use mathlib.Core.Bool.{Bool, true, false}
use mathlib.Core.List.{List}
use mathlib.Core.Logic.{◌⊎◌}
use mathlib.Core.Path.{◌≡◌, refl, sym, ap, subst, ◌∙◌}
use native.Mathlib.Numerals.{add-one}
use native.Mathlib.Omega.{arith}
use lib.Dec.{eqb}
use lib.ListN.{length}
use borrow.Author.Count.{below_more}
use borrow.Author.Tests.{eq-eqb, ne_eqb, lt-ltb, le-ltb}
use Rattle.terms.specs.declared.run.Run.{Run}
use Rattle.meaning.specs.Cells.{Cell, first, links}
use Rattle.meaning.specs.Table.{head_at, next_at, head_of, length_of, target_of, next_of}
use Rattle.meaning.specs.Day.{Day, cells_of, day_of, place_of, is_open, lowest}
use Rattle.meaning.proofs.Counts.{links_count}
use Rattle.meaning.proofs.Lists.{each_length, first_each, none_each}
use Rattle.meaning.proofs.Steps.{nth, cell_at, hook_at}
use Rattle.meaning.proofs.Walks.{standing, walk_cells}
use Rattle.meaning.proofs.Threaded.{Threaded, cell_walk, cell_next, cell_inside, length_most}
use Rattle.table.specs.Within.{Within, named}
use Rattle.find.specs.Find.{Placed, Spotted, Absent, Seeks, Links, Found, Barred, Finds}
use Rattle.std.specs.Prelude.{Option, Some, None, Result, Ok, Err, MatchOption}
use Rattle.find.specs.declared.Spot.{Spot}
use Rattle.find.specs.declared.Ends.{Ends}
use Rattle.terms.specs.declared.refusal.Refusal.{Refusal}

-- a threaded table is one whose words may be read
pub threaded_within : (n C : ℕ) (w : List ℕ) → Threaded n C w → Within n C w
threaded_within n C w T = record { room = T.room; long = T.long }

module _ (n C : ℕ) (w : List ℕ) where
  -- the first place whose run passes a test, by a search over all places
  pub first_place : (p : Run → Bool) (Yes No : ℕ → Type 0) → ((k : ℕ) → Yes k → p (named n C w k) ≡ true) → ((k : ℕ) → No k → p (named n C w k) ≡ false)
      → (r : Option ℕ)
      → MatchOption r ((k : ℕ) → 0 ≤ k → k < n → No k) (λ i. (0 ≤ i) × (i < n) × Yes i × ((k : ℕ) → 0 ≤ k → k < i → No k))
      → Placed r n (first p (day_of n C w).runs)
  first_place p Yes No passes fails (Some v) h =
      (sym (first_each p n (λ k. named n C w k) v h.1 (passes v h.2) (λ k q. fails k (h.3 k (omega arith) q))), h.1)
  first_place p Yes No passes fails None h = none_each p n (λ k. named n C w k) (λ k q. fails k (h k (omega arith) q))

  -- the search stands at the cell at a position of v's list, and no cell before it aims at t
  pub record Seeking (v t many cell hook position : ℕ) : Type 0 where
    pub count : many ≡ length_of n C w v
    pub most : position ≤ many
    pub here : cell ≡ cell_at n C w v position
    pub names : hook ≡ hook_at n C w v position
    pub none : (k : ℕ) → k < position → target_of n C w (cell_at n C w v k) ≡ t → ⊥

  module _ (T : Threaded n C w) (v t : ℕ) (hv : v ≤ n) where
    pub seeking_start : (many cell hook : ℕ) → many ≡ length_of n C w v → cell ≡ head_of n C w v → hook ≡ head_at n C v → Seeking v t many cell hook 0
    unfolding hook_at nth
    seeking_start many cell hook e f g = record { count = e; most = omega arith; here = f; names = g; none = λ k h. absurd (omega arith) }

    pub seeking_cell : (many cell hook position : ℕ) → Seeking v t many cell hook position → position < many → cell < C
    seeking_cell many cell hook position i h = rw i.here (cell_inside n C w T v hv position (omega (arith, i.count)))

    pub seeking_more : (many cell hook position aim hook' next : ℕ) → Seeking v t many cell hook position → position < many
        → aim ≡ target_of n C w cell → (aim ≡ t → ⊥) → hook' ≡ next_at n C cell → next ≡ next_of n C w cell
        → Seeking v t many next hook' (position + 1)
    unfolding hook_at
    seeking_more many cell hook position aim hook' next i h a d g e = record {
      count = i.count;
      most = omega arith;
      here = rw (add-one position) (e ∙ ap (next_of n C w) i.here ∙ cell_next n C w T v hv position);
      names = rw (add-one position) (g ∙ ap (next_at n C) i.here);
      none = below_more (λ k. target_of n C w (cell_at n C w v k) ≡ t → ⊥) position i.none (λ q. d (a ∙ ap (target_of n C w) i.here ∙ q));
    }

    list_of : cells_of n C w v ≡ Rattle.meaning.specs.Day.each (length_of n C w v) (λ k. standing n C w (cell_at n C w v k))
    list_of = walk_cells n C w v (length_of n C w v) (head_of n C w v) (λ k. cell_at n C w v k) (cell_walk n C w T v hv)

    aims : Cell → Bool
    aims c = eqb c.target t

    pub seek_here : (many cell hook position aim : ℕ) → Seeking v t many cell hook position → position < many
        → aim ≡ target_of n C w cell → aim ≡ t → Spotted (record { list = v; cell = cell; position = position; hook = hook }) n C w v t
    unfolding aims
    seek_here many cell hook position aim i h a e = record {
      list = refl;
      first = rw list_of (sym (first_each aims (length_of n C w v) (λ k. standing n C w (cell_at n C w v k)) position (omega (arith, i.count))
          (eq-eqb _ _ (sym (a ∙ ap (target_of n C w) i.here) ∙ e)) (λ k q. ne_eqb _ _ (i.none k q))));
      spot = record { within = omega (arith, i.count); cell = i.here; hook = i.names };
    }

    pub seek_nowhere : (many cell hook position : ℕ) → Seeking v t many cell hook position → many ≤ position → Absent n C w v t
    unfolding aims
    seek_nowhere many cell hook position i h =
        record { none = rw list_of (omega (arith, none_each aims (length_of n C w v) (λ k. standing n C w (cell_at n C w v k)) (λ k q. ne_eqb _ _ (i.none k (omega (arith, i.count)))))) }

-- what an answer that is known by its case says
module _ (n C : ℕ) (w : List ℕ) (u v : ℕ) where
  pub seen_at : (r : Option Spot) (s : Spot) → Seeks r n C w u v → r ≡ Some s → Spotted s n C w u v
  seen_at r s h e = subst (λ (x : Option Spot). Seeks x n C w u v) e h

  pub seen_nowhere : (r : Option Spot) → Seeks r n C w u v → r ≡ None → Absent n C w u v
  seen_nowhere r h e = subst (λ (x : Option Spot). Seeks x n C w u v) e h

  pub link_some : (r : Option Spot) (s : Spot) → Links r n C w u v → r ≡ Some s → Spotted s n C w u v ⊎ (Absent n C w u v × Spotted s n C w v u)
  link_some r s h e = subst (λ (x : Option Spot). Links x n C w u v) e h

  pub link_neither : (r : Option Spot) → Links r n C w u v → r ≡ None → Absent n C w u v × Absent n C w v u
  link_neither r h e = subst (λ (x : Option Spot). Links x n C w u v) e h

module _ (n C : ℕ) (w : List ℕ) (p q : Run) where
  pub named_both : (r : Result Ends Refusal) (e : Ends) → Finds r n C w p q → r ≡ Ok e → Found n C w p q e
  named_both r e h f = subst (λ (x : Result Ends Refusal). Finds x n C w p q) f h

  pub named_barred : (r : Result Ends Refusal) (why : Refusal) → Finds r n C w p q → r ≡ Err why → Barred n C w p q why
  named_barred r why h f = subst (λ (x : Result Ends Refusal). Finds x n C w p q) f h

-- what a place that is known by its case says
module _ (n k : ℕ) where
  pub placed_at : (r : Option ℕ) (v : ℕ) → Placed r n k → r ≡ Some v → (v ≡ k) × (v < n)
  placed_at r v h e = subst (λ (x : Option ℕ). Placed x n k) e h

  pub placed_not : (r : Option ℕ) → Placed r n k → r ≡ None → k ≡ n
  placed_not r h e = subst (λ (x : Option ℕ). Placed x n k) e h

-- a place was found: the run is open
module _ (n C : ℕ) (w : List ℕ) (p : Run) (r : Option ℕ) where
  pub found_open : (v : ℕ) → Placed r n (place_of (day_of n C w) p) → r ≡ Some v → is_open (day_of n C w) p ≡ true
  found_open v h e =
      let a = placed_at n (place_of (day_of n C w) p) r v h e in
      lt-ltb (place_of (day_of n C w) p) (length (day_of n C w).runs) (rw (← a.0, each_length) a.1)

  pub found_shut : Placed r n (place_of (day_of n C w) p) → r ≡ None → is_open (day_of n C w) p ≡ false
  found_shut h e =
      let a = placed_not n (place_of (day_of n C w) p) r h e in
      le-ltb (place_of (day_of n C w) p) (length (day_of n C w).runs) (rw each_length (omega (arith, a)))

-- the cells that are not free are the links
module _ (n C : ℕ) (w : List ℕ) (T : Threaded n C w) (free : ℕ) (e : free ≡ length_of n C w n) where
  pub free_fits : free ≤ C
  free_fits = omega (arith, length_most n C w T n (omega arith))

  pub rest_stands : C - free ≡ links (day_of n C w).lists
  rest_stands = ap (λ (k : ℕ). C - k) e ∙ links_count n C w T
