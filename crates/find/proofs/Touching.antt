-- When a link touches a place, told by the words of a threaded table: its own list is not empty, or a cell aims at it. Every cell
-- stands in the list of its owner, and a free cell aims at NONE, so a cell that aims at a place is a link. Assumes nothing.
use Prim.Native.Nat.{ℕ, ◌+◌, ◌≤◌, ◌<◌}
use mathlib.Core.Bool.{Bool, true, false}
use mathlib.Core.List.{List}
use mathlib.Core.Path.{◌≡◌, refl, sym, ◌∙◌}
use lib.ListN.{length, get_or}
use Rattle.std.specs.Bool.{MatchBool}
use Rattle.std.specs.List.{range_with_len, HoldsAt, AllWithin}
use Rattle.std.proofs.lemmas.List.FromFn.{length-range_with_len, get_or-range_with_len}
use native.Mathlib.Decide.{ℕ_discrete}
use native.Mathlib.Omega.{arith}
use borrow.Author.Tests.{lt-ltb, le-ltb}
use Rattle.meaning.specs.Table.{NONE, head_of, length_of, owner_of, target_of}
use Rattle.meaning.specs.Cells.{Cell, Weight, list, row_sum, sum, same}
use Rattle.meaning.specs.Day.{cells, cells_of, day_of}
use Rattle.meaning.specs.Calls.{touched}
use Rattle.meaning.proofs.Same.{same_eq, same_ne}
use Rattle.meaning.proofs.Crossing.{row_of}
use Rattle.meaning.proofs.Held.{held, held_within, along_at, parted}
use Rattle.meaning.proofs.Lists.{each_length}
use Rattle.meaning.proofs.Pairs.{rows_none, cell_part, cells_none}
use Rattle.meaning.proofs.Sums.{row_sum-le, row_sum_one, row_le}
use Rattle.meaning.proofs.Threaded.{Threaded, list_length}
use Rattle.meaning.proofs.Times.{times}

-- what touched counts: the ends of a link at place v
abbrev ends : ℕ → Weight
ends v u c = same u v + same c.target v

module _ (n C : ℕ) (w : List ℕ) where
  module _ (T : Threaded n C w) (v : ℕ) (hv : v < n) where
    -- what a list counts for is a part of the whole
    part : (u : ℕ) → u < n → row_sum (ends v u) (cells_of n C w u) ≤ sum (ends v) (day_of n C w).lists
    part u h = rw (← row_of n C w u h) (row_le (ends v) (day_of n C w).lists u)

    some : 0 < sum (ends v) (day_of n C w).lists → true ≡ touched (day_of n C w) v
    some h = sym (lt-ltb 0 (sum (ends v) (day_of n C w).lists) h)

    pub own_touched : (many : ℕ) → many ≡ length_of n C w v → (many ≡ 0 → ⊥) → true ≡ touched (day_of n C w) v
    own_touched many e d =
        let l : List Cell = cells_of n C w v in
        let a : row_sum (λ c. 1) l ≤ row_sum (ends v v) l = row_sum-le (λ c. 1) (ends v v) l (λ c. omega (arith, same_eq v v refl)) in
        some (omega (arith, part v hv, row_sum_one l, list_length n C w T v (omega arith), d))

    pub aimed_touched : (i : ℕ) → i < C → target_of n C w i ≡ v → true ≡ touched (day_of n C w) v
    aimed_touched i h t =
        let u : ℕ = owner_of n C w i in
        let p : (u ≤ n) × (times i (held n C w u) ≡ 1) = parted n C w (omega (arith, T.room)) T.reaches T.whole i h in
        elim (ℕ_discrete u n) [
          | yes o ↦ absurd (
              let q : times i (held n C w n) ≡ 1 = rw o at p.1 in
              omega (arith, T.room, along_at n C w (λ k. target_of n C w k ≡ NONE) (length_of n C w n) (head_of n C w n) T.freed i (omega arith))
              )
          | no o ↦ some (
              omega (
                arith,
                part u (omega (arith, p.0, o)),
                cell_part n C w (ends v u) (length_of n C w u) (head_of n C w u) i (omega (arith, p.1)),
                same_eq (target_of n C w i) v t,
              )
              )
        ]

    -- the list of v is empty, and no cell aims at v
    pub untouched : length_of n C w v ≡ 0 → ((k : ℕ) → k < C → target_of n C w k ≡ v → ⊥) → false ≡ touched (day_of n C w) v
    unfolding cells
    untouched bare unaimed =
        let z : sum (ends v) (day_of n C w).lists ≡ 0 = rows_none (ends v) (day_of n C w).lists (λ u p. row u (rw (each_length n (cells_of n C w)) at p)) in
        sym (le-ltb 0 (sum (ends v) (day_of n C w).lists) (omega arith))
      where
        row : (u : ℕ) → u < n → row_sum (ends v u) (list (day_of n C w).lists u) ≡ 0
        row u p = rw (row_of n C w u p) (elim (ℕ_discrete u v) [
          | yes e ↦ rw (e, bare)
          | no e ↦ cells_none n C w (ends v u) (length_of n C w u) (head_of n C w u) (λ j q.
              let c : j < C = held_within n C w (omega (arith, T.room)) T.reaches u j (omega arith) q in
              omega (arith, same_ne u v e, same_ne (target_of n C w j) v (unaimed j (omega arith))))
        ])

    nth_of : (k : ℕ) → k < C → get_or (range_with_len 0 C) k 0 ≡ k
    nth_of k q = let e : 0 + k ≡ k = omega arith in get_or-range_with_len 0 C k 0 q ∙ e

    -- the list of v is empty, and every cell was looked at until one aims at v
    pub looked : (r : Bool) → length_of n C w v ≡ 0
        → MatchBool r ((k : ℕ) × (k < length (range_with_len 0 C)) × HoldsAt (λ i. target_of n C w i ≡ v) (range_with_len 0 C) k)
        (AllWithin (λ i. target_of n C w i ≡ v → ⊥) (range_with_len 0 C) 0 (length (range_with_len 0 C)))
        → r ≡ touched (day_of n C w) v
    looked true bare h =
        let k : h.0 < C = rw length-range_with_len at h.1 in
        aimed_touched h.0 k (rw (nth_of h.0 k) at (h.2 0))
    looked false bare h =
        untouched bare (λ k q. rw (nth_of k q) at (h k 0 (omega arith) (rw length-range_with_len q)))
