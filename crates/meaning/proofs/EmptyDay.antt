-- The table that empty writes is sound and holds the day with no run and no link. Assumes sizes within their limits.
use Prim.Native.Nat.{ℕ, zero, suc, ◌+◌, ◌≤◌, ◌<◌}
use mathlib.Core.Bool.{true, false}
use mathlib.Core.List.{List, [], map}
use mathlib.Core.Path.{◌≡◌, refl, sym, ap, ◌∙◌}
use native.Mathlib.Omega.{arith}
use native.Mathlib.Numerals.{add-one}
use native.Mathlib.Decide.{ℕ_discrete}
use borrow.Author.Tests.{lt-ltb, le-ltb}
use lib.Dec.{ltb}
use Rattle.terms.specs.Size.{InRoom, InLimit}
use Rattle.terms.specs.Run.{no_run}
use Rattle.meaning.specs.Table.{NONE, head_of, length_of, next_of}
use Rattle.meaning.specs.Soundness.{Reaches, lengths, Sound}
use Rattle.meaning.specs.Day.{each, cells, cells_of, day_of, empty_table, empty_day}
use Rattle.meaning.proofs.Lists.{each_same}
use Rattle.meaning.proofs.Entries.{each_replicate, map_each}
use Rattle.meaning.proofs.Walks.{standing, Walk, walk_reaches, walk_along, walk_cells}
use Rattle.meaning.proofs.Threaded.{Threaded}
use Rattle.meaning.proofs.Crossing.{right_sound}
use Rattle.meaning.proofs.Effects.{same_day}
use Rattle.meaning.proofs.Empty.{Emptied, empty_emptied}
use Rattle.meaning.proofs.Kept.{empty_right}

-- the free cells by position: 0, 1, .., and NONE behind the last
free_at : ℕ → ℕ → ℕ
free_at C a = elim (ltb a C) [ true ↦ a | false ↦ NONE ]

free_in : (C a : ℕ) → a < C → free_at C a ≡ a
unfolding free_at
free_in C a h = rw (free_at, lt-ltb a C h)

free_end : (C : ℕ) → free_at C C ≡ NONE
unfolding free_at
free_end C = rw (free_at, le-ltb C C (omega arith))

module _ (n C : ℕ) (w : List ℕ) (R : InRoom n C) (E : Emptied n C w) where
  free_next : (a : ℕ) → a < C → next_of n C w a ≡ free_at C (suc a)
  free_next a h = elim (ℕ_discrete (a + 1) C) [
    | yes e ↦ let q : suc a ≡ C = omega arith in rw (q, free_end C) (E.last a e)
    | no e ↦ let q : a + 1 < C = omega (arith, e) in E.next a q ∙ (add-one a ∙ sym (free_in C (suc a) (omega arith)))
  ]

  free_walk : Walk n C w n C (head_of n C w n) (free_at C)
  free_walk = record {
    starts = free_in C 0 (omega arith) ∙ sym E.free_head;
    ends = free_end C;
    inside = λ a h. rw (free_in C a h) h;
    owned = λ a h. rw (free_in C a h) (E.owner a h);
    steps = λ a h. rw (free_in C a h) (free_next a h);
  }

  none_reached : (v : ℕ) → v < n → Reaches n C w v (length_of n C w v) (head_of n C w v)
  unfolding Reaches
  none_reached v h = rw (E.count v h) (E.head v h)

  no_lengths : (k : ℕ) → k ≤ n → lengths n C w k ≡ 0
  unfolding lengths
  no_lengths zero h = refl
  no_lengths (suc k) h = omega (arith, no_lengths k (omega arith), E.count k (omega arith))

  all_lengths : lengths n C w (n + 1) ≡ C
  unfolding lengths
  all_lengths = rw (add-one n) (omega (arith, no_lengths n (omega arith), E.free_count))

  pub emptied_threaded : Threaded n C w
  emptied_threaded = record {
    room = R;
    long = E.long;
    reaches = λ v h. elim (ℕ_discrete v n) [
      | yes e ↦ rw (e, E.free_count) (walk_reaches n C w n C (head_of n C w n) (free_at C) free_walk)
      | no e ↦ none_reached v (omega (arith, e))
    ];
    whole = all_lengths;
    freed = rw E.free_count (walk_along n C w _ n C (head_of n C w n) (free_at C) free_walk (λ a h. rw (free_in C a h) (E.target a h)));
  }

  no_cells : (v : ℕ) → v < n → cells_of n C w v ≡ []
  unfolding cells
  no_cells v h = rw (E.count v h)

  free_list : (day_of n C w).free ≡ each C (λ i. i)
  free_list =
      rw E.free_count
      (ap (map (λ c. c.index)) (walk_cells n C w n C (head_of n C w n) (free_at C) free_walk)
      ∙ (map_each (λ c. c.index) C (λ a. standing n C w (free_at C a)) ∙ each_same C (free_at C) (λ i. i) (λ a h. free_in C a h)))

  pub emptied_day : day_of n C w ≡ empty_day n C
  emptied_day =
      same_day (day_of n C w) (empty_day n C)
      (each_replicate n _ no_run (λ v h. λ i. record { line = E.line v h i; trip = E.number v h i }))
      (each_replicate n (cells_of n C w) [] no_cells) free_list

pub empty_threaded : (n C : ℕ) → InRoom n C → Threaded n C (empty_table n C)
empty_threaded n C R = emptied_threaded n C (empty_table n C) R (empty_emptied n C R.cells_least)

pub empty_day_lem : (n C : ℕ) → InRoom n C → day_of n C (empty_table n C) ≡ empty_day n C
empty_day_lem n C R = emptied_day n C (empty_table n C) R (empty_emptied n C R.cells_least)

-- the table that empty writes is sound, whatever the limit
pub empty_sound : (n C D : ℕ) → InRoom n C → InLimit D → Sound n C D (empty_table n C)
empty_sound n C D R L =
    let t = empty_threaded n C R in
    right_sound n C D (empty_table n C) L R t.long t.reaches t.whole t.freed (rw (empty_day_lem n C R) (empty_right n C D))
