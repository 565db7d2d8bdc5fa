-- A threaded table: rule 2 of document 01 but for the limit, and rule 3's free cells. This holds between any two steps of any
-- call. What follows of the k-th cell of a list and of the word that names it. Assumes nothing.
use Prim.Native.Nat.{ℕ, zero, suc, ◌+◌, ◌≤◌, ◌<◌}
use mathlib.Core.List.{List}
use mathlib.Core.Path.{◌≡◌, refl, sym}
use native.Mathlib.Omega.{arith}
use native.Mathlib.Decide.{ℕ_discrete, dec_lt}
use lib.ListN.{length, get_or}
use Rattle.terms.specs.Size.{InRoom, store_words}
use Rattle.meaning.specs.Table.{NONE, word, head_at, next_at, head_of, length_of, owner_of, target_of, next_of}
use Rattle.meaning.specs.Cells.{Cell}
use Rattle.meaning.specs.Soundness.{Reaches, Along, lengths, Sound}
use Rattle.meaning.specs.Day.{cells_of}
use Rattle.meaning.proofs.Steps.{nth, cell_at, hook_at}
use Rattle.meaning.proofs.Walks.{nth_suc, Walk, standing, reaches_walk, along_walk, nth_once, cells_length, cells_at}

pub record Threaded (n C : ℕ) (w : List ℕ) : Type 0 where
  pub room : InRoom n C
  pub long : length w ≡ store_words n C
  pub reaches : (v : ℕ) → v ≤ n → Reaches n C w v (length_of n C w v) (head_of n C w v)
  pub whole : lengths n C w (n + 1) ≡ C
  pub freed : Along n C w (λ i. target_of n C w i ≡ NONE) (length_of n C w n) (head_of n C w n)

-- a sound table is threaded
pub sound_threaded : (n C D : ℕ) (w : List ℕ) → Sound n C D w → Threaded n C w
sound_threaded n C D w s = record {
  room = s.sized.room;
  long = s.sized.long;
  reaches = s.chained.reaches;
  whole = s.chained.whole;
  freed = s.aimed.freed;
}

-- sums of lengths
pub lengths_least : (n C : ℕ) (w : List ℕ) (k v : ℕ) → v < k → length_of n C w v ≤ lengths n C w k
unfolding lengths
lengths_least n C w zero v h = absurd (omega arith)
lengths_least n C w (suc k) v h = elim (ℕ_discrete v k) [
  | yes e ↦ rw e (omega arith)
  | no e ↦ omega (arith, lengths_least n C w k v (omega (arith, e)))
]

module _ (n C : ℕ) (w w' : List ℕ) where
  pub lengths_same : (k : ℕ) → ((v : ℕ) → v < k → length_of n C w' v ≡ length_of n C w v) → lengths n C w' k ≡ lengths n C w k
  unfolding lengths
  lengths_same zero h = refl
  lengths_same (suc k) h = omega (arith, h k (omega arith), lengths_same k (λ v p. h v (omega arith)))

  -- one length changes by d - e
  pub lengths_change : (k v d e : ℕ) → v < k → length_of n C w' v + e ≡ length_of n C w v + d
      → ((z : ℕ) → z < k → (z ≡ v → ⊥) → length_of n C w' z ≡ length_of n C w z) → lengths n C w' k + e ≡ lengths n C w k + d
  unfolding lengths
  lengths_change zero v d e p q h = absurd (omega arith)
  lengths_change (suc k) v d e p q h = elim (ℕ_discrete v k) [
    | yes r ↦ omega (arith, lengths_same k (λ z a. h z (omega arith) (λ b. omega arith)), rw r at q)
    | no r ↦ omega (arith, lengths_change k v d e (omega (arith, r)) q (λ z a b. h z (omega arith) b), h k (omega arith) (λ b. r (sym b)))
  ]

lengths_two : (n C : ℕ) (w : List ℕ) (k u v : ℕ) → u < v → v < k → length_of n C w u + length_of n C w v ≤ lengths n C w k
unfolding lengths
lengths_two n C w zero u v h q = absurd (omega arith)
lengths_two n C w (suc k) u v h q = elim (ℕ_discrete v k) [
  | yes e ↦ rw e (omega (arith, lengths_least n C w k u (omega arith)))
  | no e ↦ omega (arith, lengths_two n C w k u v h (omega (arith, e)))
]

-- two lists have no more than C cells together
pub length_pair : (n C : ℕ) (w : List ℕ) → Threaded n C w → (u v : ℕ) → u ≤ n → v ≤ n → (u ≡ v → ⊥) → length_of n C w u + length_of n C w v ≤ C
length_pair n C w T u v hu hv d = elim (dec_lt u v) [
  | yes h ↦ omega (arith, lengths_two n C w (n + 1) u v h (omega arith), T.whole)
  | no h ↦ omega (arith, lengths_two n C w (n + 1) v u (omega (arith, h, d)) (omega arith), T.whole)
]

module _ (n C : ℕ) (w : List ℕ) (T : Threaded n C w) (v : ℕ) (hv : v ≤ n) where
  -- each length is at most C
  pub length_most : length_of n C w v ≤ C
  length_most = omega (arith, lengths_least n C w (n + 1) v (omega arith), T.whole)

  -- the cells of v by position
  pub cell_walk : Walk n C w v (length_of n C w v) (head_of n C w v) (λ k. cell_at n C w v k)
  cell_walk = reaches_walk n C w v (length_of n C w v) (head_of n C w v) (T.reaches v hv)

  pub cell_inside : (k : ℕ) → k < length_of n C w v → cell_at n C w v k < C
  cell_inside k h = cell_walk.inside k h

  pub cell_owner : (k : ℕ) → k < length_of n C w v → owner_of n C w (cell_at n C w v k) ≡ v
  cell_owner k h = cell_walk.owned k h

  pub cell_next : (k : ℕ) → next_of n C w (cell_at n C w v k) ≡ cell_at n C w v (suc k)
  cell_next k = sym (nth_suc n C w k (head_of n C w v))

  pub cell_end : cell_at n C w v (length_of n C w v) ≡ NONE
  cell_end = cell_walk.ends

  -- a cell stands once in its list
  pub cell_once : (a b : ℕ) → a < length_of n C w v → b < length_of n C w v → cell_at n C w v a ≡ cell_at n C w v b → a ≡ b
  cell_once a b p q e = nth_once n C w T.room.cells_at_most v (length_of n C w v) (head_of n C w v) a b (T.reaches v hv) p q e

  pub list_length : length (cells_of n C w v) ≡ length_of n C w v
  list_length = cells_length n C w (length_of n C w v) (head_of n C w v)

  pub list_at : (d : Cell) (k : ℕ) → k < length_of n C w v → get_or (cells_of n C w v) k d ≡ standing n C w (cell_at n C w v k)
  list_at d k h = cells_at n C w (length_of n C w v) (head_of n C w v) d k h

  -- the word that names the k-th cell
  pub hook_names : (k : ℕ) → word w (hook_at n C w v k) ≡ cell_at n C w v k
  unfolding hook_at nth
  hook_names zero = refl
  hook_names (suc k) = cell_next k

  -- it is v's head word or the next word of a cell of v
  pub hook_apart : (k : ℕ) → k ≤ length_of n C w v → (p : ℕ) → (p ≡ head_at n C v → ⊥)
      → ((j : ℕ) → j < C → owner_of n C w j ≡ v → p ≡ next_at n C j → ⊥) → p ≡ hook_at n C w v k → ⊥
  unfolding hook_at
  hook_apart zero h p a b e = a e
  hook_apart (suc k) h p a b e = b (cell_at n C w v k) (cell_inside k (omega arith)) (cell_owner k (omega arith)) e

  pub hook_inside : (k : ℕ) → k ≤ length_of n C w v → hook_at n C w v k < length w
  unfolding hook_at
  hook_inside zero h = omega (arith, T.long)
  hook_inside (suc k) h = omega (arith, T.long, cell_inside k (omega arith))

-- a free cell has target NONE
pub free_target : (n C : ℕ) (w : List ℕ) → Threaded n C w → (k : ℕ) → k < length_of n C w n → target_of n C w (cell_at n C w n k) ≡ NONE
free_target n C w T k h = along_walk n C w (λ i. target_of n C w i ≡ NONE) (length_of n C w n) (head_of n C w n) T.freed k h
