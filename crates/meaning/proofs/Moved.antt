-- The main law of a move: the table stays threaded, every run keeps its words, the cell leaves its list, the others there keep
-- their order, it comes to the front of the other list with its new target, and every further list stays.
-- Assumes a threaded table.
use Prim.Native.Nat.{ℕ, zero, suc, ◌+◌, ◌-◌, ◌≤◌, ◌<◌}
use mathlib.Core.List.{List, ◌∷◌}
use mathlib.Core.Path.{◌≡◌, sym, ap, subst, ◌∙◌}
use native.Mathlib.Omega.{arith}
use native.Mathlib.Numerals.{add-one}
use native.Mathlib.Decide.{ℕ_discrete}
use Rattle.meaning.specs.Table.{NONE, head_of, length_of, target_of}
use Rattle.meaning.specs.Cells.{Cell, without}
use Rattle.meaning.specs.Soundness.{Reaches, Along}
use Rattle.meaning.specs.Day.{each, cells, cells_of}
use Rattle.meaning.proofs.Lists.{each_same}
use Rattle.meaning.proofs.Entries.{skip, without_each}
use Rattle.meaning.proofs.Steps.{cell_at, moved, SameRun}
use Rattle.meaning.proofs.Walks.{standing, walk_reaches, walk_along, walk_cells}
use Rattle.meaning.proofs.Threaded.{Threaded, cell_walk, cell_inside, free_target}
use Rattle.meaning.proofs.Moving.{moved_table, moved_run, moved_list, moved_lengths, moved_from_count, moved_to_count, moved_target, kept_target, stays_below, stays, moved_from_walk, fronted, to_cell, moved_to_walk, other_cell, moved_other_walk}

pub record Moves (n C : ℕ) (w : List ℕ) (u k v t : ℕ) (w' : List ℕ) : Type 0 where
  pub threaded : Threaded n C w'
  pub run : (z : ℕ) → z < n → SameRun n C w w' z
  pub from_count : length_of n C w' u ≡ length_of n C w u - 1
  pub from_cells : cells_of n C w' u ≡ without k (cells_of n C w u)
  pub to_count : length_of n C w' v ≡ length_of n C w v + 1
  pub to_cells : cells_of n C w' v ≡ record { index = cell_at n C w u k; target = t } ∷ cells_of n C w v
  pub other_count : (z : ℕ) → z ≤ n → (z ≡ u → ⊥) → (z ≡ v → ⊥) → length_of n C w' z ≡ length_of n C w z
  pub other_cells : (z : ℕ) → z ≤ n → (z ≡ u → ⊥) → (z ≡ v → ⊥) → cells_of n C w' z ≡ cells_of n C w z

module _ (n C : ℕ) (w : List ℕ) (u k v t : ℕ) (T : Threaded n C w) (hu : u ≤ n) (hv : v ≤ n) (d : u ≡ v → ⊥) (hk : k < length_of n C w u) where
  abbrev after : List ℕ
  after = moved n C w u k v t

  -- the cell at each position of z's list, and at each position but k of u's, as w has it
  abbrev before : ℕ → ℕ → Cell
  before z a = standing n C w (cell_at n C w z a)

  abbrev staying : ℕ → Cell
  staying a = standing n C w (cell_at n C w u (skip k a))

  -- the same cell as it stands afterwards
  abbrev later : ℕ → Cell
  later j = standing n C after j

  aim : (j : ℕ) → target_of n C after j ≡ target_of n C w j → later j ≡ standing n C w j
  aim j e = ap (λ x. record { index = j; target = x }) e

  listing : (z : ℕ) → z ≤ n → cells_of n C w z ≡ each (length_of n C w z) (before z)
  listing z hz = walk_cells n C w z (length_of n C w z) (head_of n C w z) (λ a. cell_at n C w z a) (cell_walk n C w T z hz)

  from_same : (a : ℕ) → a < length_of n C w u - 1 → target_of n C after (cell_at n C w u (skip k a)) ≡ target_of n C w (cell_at n C w u (skip k a))
  from_same a h =
      kept_target n C w u k v t T hu hv d hk (cell_at n C w u (skip k a))
      (cell_inside n C w T u hu (skip k a) (stays_below n C w u k v t T hu hv d hk a (omega arith))) (stays n C w u k v t T hu hv d hk a (omega arith))

  from_list : cells_of n C after u ≡ without k (cells_of n C w u)
  from_list =
      let m : ℕ = length_of n C w u - 1 in
      let e : length_of n C w u ≡ suc m = omega arith in
      let b : cells n C after m (head_of n C after u) ≡ each m (λ a. later (cell_at n C w u (skip k a))) =
      walk_cells n C after u m (head_of n C after u) (λ a. cell_at n C w u (skip k a)) (moved_from_walk n C w u k v t T hu hv d hk) in
      let c : each m (λ a. later (cell_at n C w u (skip k a))) ≡ each m staying = each_same m _ staying (λ a h. aim (cell_at n C w u (skip k a)) (from_same a h)) in
      let f : without k (each (suc m) (before u)) ≡ each m staying = without_each k m (before u) (omega arith) in
      let g : cells_of n C w u ≡ each (suc m) (before u) = listing u hu ∙ ap (λ x. each x (before u)) e in
      rw (moved_from_count n C w u k v t T hu hv d hk, g) (b ∙ (c ∙ sym f))

  to_list : cells_of n C after v ≡ record { index = cell_at n C w u k; target = t } ∷ cells_of n C w v
  unfolding fronted
  to_list =
      let m : ℕ = length_of n C w v in
      let b : cells n C after (suc m) (head_of n C after v) ≡ later (cell_at n C w u k) ∷ each m (λ a. later (cell_at n C w v a)) =
      walk_cells n C after v (suc m) (head_of n C after v) (fronted n C w (cell_at n C w u k) v) (moved_to_walk n C w u k v t T hu hv d hk) in
      let c : each m (λ a. later (cell_at n C w v a)) ≡ each m (before v) =
      each_same m _ (before v) (λ a h. aim (cell_at n C w v a) (to_cell n C w u k v t T hu hv d hk a h).target) in
      let e : later (cell_at n C w u k) ≡ record { index = cell_at n C w u k; target = t } =
      ap (λ x. record { index = cell_at n C w u k; target = x }) (moved_target n C w u k v t T hu hv d hk) in
      rw (moved_to_count n C w u k v t T hu hv d hk, add-one m) (b ∙ cc (c, e, listing v hv))

  other_list : (z : ℕ) → z ≤ n → (z ≡ u → ⊥) → (z ≡ v → ⊥) → cells_of n C after z ≡ cells_of n C w z
  other_list z hz a b =
      let m : ℕ = length_of n C w z in
      let c : each m (λ x. later (cell_at n C w z x)) ≡ each m (before z) =
      each_same m _ (before z) (λ x h. aim (cell_at n C w z x) (other_cell n C w u k v t T hu hv d hk z hz a b x h).target) in
      let e : cells n C after m (head_of n C after z) ≡ each m (λ x. later (cell_at n C w z x)) =
      walk_cells n C after z m (head_of n C after z) (λ x. cell_at n C w z x) (moved_other_walk n C w u k v t T hu hv d hk z hz a b) in
      rw (moved_list n C w u k v t T hu hv d hk z hz a b).count (e ∙ (c ∙ sym (listing z hz)))

  all_reach : (z : ℕ) → z ≤ n → Reaches n C after z (length_of n C after z) (head_of n C after z)
  all_reach z hz = elim (ℕ_discrete z u) [
    | yes a ↦ rw (a, moved_from_count n C w u k v t T hu hv d hk) (walk_reaches n C after u _ _ _ (moved_from_walk n C w u k v t T hu hv d hk))
    | no a ↦ elim (ℕ_discrete z v) [
      | yes b ↦ rw (b, moved_to_count n C w u k v t T hu hv d hk, add-one (length_of n C w v)) (walk_reaches n C after v _ _ _ (moved_to_walk n C w u k v t T hu hv d hk))
      | no b ↦ rw (moved_list n C w u k v t T hu hv d hk z hz a b).count (walk_reaches n C after z _ _ _ (moved_other_walk n C w u k v t T hu hv d hk z hz a b))
    ]
  ]

  -- rule 3's free cells, as a statement on the list of any z
  abbrev Unaimed : ℕ → Type 0
  Unaimed z = Along n C after (λ i. target_of n C after i ≡ NONE) (length_of n C after z) (head_of n C after z)

  abbrev Unaimed₀ : ℕ → Type 0
  Unaimed₀ z = (a : ℕ) → a < length_of n C w z → target_of n C w (cell_at n C w z a) ≡ NONE

  from_freed : Unaimed₀ u → Unaimed u
  from_freed f =
      rw (moved_from_count n C w u k v t T hu hv d hk)
      (walk_along n C after _ u _ _ _ (moved_from_walk n C w u k v t T hu hv d hk)
      (λ a h. from_same a h ∙ f (skip k a) (stays_below n C w u k v t T hu hv d hk a (omega arith))))

  to_freed : t ≡ NONE → Unaimed₀ v → Unaimed v
  unfolding fronted
  to_freed e f =
      rw (moved_to_count n C w u k v t T hu hv d hk, add-one (length_of n C w v))
      (walk_along n C after _ v _ _ _ (moved_to_walk n C w u k v t T hu hv d hk)
      (λ a. elim a as (λ a. a < suc (length_of n C w v) → target_of n C after (fronted n C w (cell_at n C w u k) v a) ≡ NONE) [
        | zero ↦ λ h. moved_target n C w u k v t T hu hv d hk ∙ e
        | suc b ↦ λ h. (to_cell n C w u k v t T hu hv d hk b (omega arith)).target ∙ f b (omega arith)
      ]))

  other_freed : (z : ℕ) → z ≤ n → (z ≡ u → ⊥) → (z ≡ v → ⊥) → Unaimed₀ z → Unaimed z
  other_freed z hz a b f =
      rw (moved_list n C w u k v t T hu hv d hk z hz a b).count
      (walk_along n C after _ z _ _ _ (moved_other_walk n C w u k v t T hu hv d hk z hz a b)
      (λ x h. (other_cell n C w u k v t T hu hv d hk z hz a b x h).target ∙ f x h))

  after_freed : (v ≡ n → t ≡ NONE) → Unaimed n
  after_freed ht = elim (ℕ_discrete n u) [
    | yes a ↦ subst (λ z. Unaimed z) (sym a) (from_freed (subst (λ z. Unaimed₀ z) a (free_target n C w T)))
    | no a ↦ elim (ℕ_discrete n v) [
      | yes b ↦ subst (λ z. Unaimed z) (sym b) (to_freed (ht (sym b)) (subst (λ z. Unaimed₀ z) b (free_target n C w T)))
      | no b ↦ other_freed n (omega arith) a b (free_target n C w T)
    ]
  ]

  pub moves : (v ≡ n → t ≡ NONE) → Moves n C w u k v t (moved n C w u k v t)
  moves ht = record {
    threaded = record {
      room = T.room;
      long = moved_table n C w u k v t T hu hv d hk;
      reaches = all_reach;
      whole = moved_lengths n C w u k v t T hu hv d hk ∙ T.whole;
      freed = after_freed ht;
    };
    run = moved_run n C w u k v t T hu hv d hk;
    from_count = moved_from_count n C w u k v t T hu hv d hk;
    from_cells = from_list;
    to_count = moved_to_count n C w u k v t T hu hv d hk;
    to_cells = to_list;
    other_count = λ z hz a b. (moved_list n C w u k v t T hu hv d hk z hz a b).count;
    other_cells = other_list;
  }
