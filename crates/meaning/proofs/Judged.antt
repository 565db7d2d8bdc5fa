-- The test that decides soundness, place by place and list by list, as the judge carries it out; and one step of each of its
-- recursions, as the judge counts. That it is soundness stands in Rules. Assumes nothing.
use Prim.Native.Nat.{ℕ, zero, suc, ◌+◌, ◌-◌, ◌≤◌, ◌<◌}
use mathlib.Core.List.{List}
use mathlib.Core.Logic.{◌⊎◌}
use mathlib.Core.Path.{◌≡◌, refl, ap}
use native.Mathlib.Omega.{arith}
use native.Mathlib.Numerals.{add-one}
use Rattle.terms.specs.Run.{line_most}
use Rattle.meaning.specs.Table.{NONE, line_of, number_of, head_of, length_of, owner_of, target_of, next_of}
use Rattle.meaning.specs.Soundness.{Aims, lengths}

module _ (n C : ℕ) (w : List ℕ) where
  -- rule 1 for one place, without the names
  pub record Line (v : ℕ) : Type 0 where
    pub small : line_of n C w v ≤ line_most
    pub freed : line_of n C w v ≡ 0 → number_of n C w v ≡ 0

  -- place u has not the name of v, if v is open
  abbrev pub Differ : ℕ → ℕ → Type 0
  Differ v u = (line_of n C w v ≡ 0 → ⊥) → line_of n C w u ≡ line_of n C w v → number_of n C w u ≡ number_of n C w v → ⊥

  -- no place below v has its name, if v is open
  abbrev pub Fresh : ℕ → Type 0
  Fresh v = (u : ℕ) → u < v → Differ v u

  -- rule 3 for cell i in the list of v; n stands for the free list
  abbrev pub Aim : ℕ → ℕ → Type 0
  Aim v i = (v < n → Aims n C w v i) × (n ≤ v → target_of n C w i ≡ NONE)

  -- rules 2 and 3 for cell i in the list of v
  pub record CellOk (v i : ℕ) : Type 0 where
    pub within : i < C
    pub owned : owner_of n C w i ≡ v
    pub aims : Aim v i

  -- from cell i, following next, NONE is reached after exactly k cells, each right for the list of v
  unfoldable pub Walks : ℕ → ℕ → ℕ → Type 0
  Walks v zero i = i ≡ NONE
  Walks v (suc k) i = CellOk v i × Walks v k (next_of n C w i)

  -- one of the k cells from i on has target t
  unfoldable pub Has : ℕ → ℕ → ℕ → Type 0
  Has t zero i = ⊥
  Has t (suc k) i = (i < C) × ((target_of n C w i ≡ t) ⊎ Has t k (next_of n C w i))

  -- rule 4 for cell i in v's list with k more after it: no later one has its target, and its target's list has no link to v
  pub record Lone (v k i : ℕ) : Type 0 where
    pub later : Has (target_of n C w i) k (next_of n C w i) → ⊥
    pub back : Has v (length_of n C w (target_of n C w i)) (head_of n C w (target_of n C w i)) → ⊥

  unfoldable pub Alone : ℕ → ℕ → ℕ → Type 0
  Alone v zero i = Unit {0}
  Alone v (suc k) i = Lone v k i × Alone v k (next_of n C w i)

  -- rule 2's sentence on the lengths
  pub record Lengths (D : ℕ) : Type 0 where
    pub whole : lengths n C w (n + 1) ≡ C
    pub short : (v : ℕ) → v < n → length_of n C w v ≤ D

  -- all that is asked of one place
  pub record PlaceOk (v : ℕ) : Type 0 where
    pub line : Line v
    pub fresh : Fresh v
    pub walks : Walks v (length_of n C w v) (head_of n C w v)
    pub alone : Alone v (length_of n C w v) (head_of n C w v)

  pub record Judged (D : ℕ) : Type 0 where
    pub lengths : Lengths D
    pub free : Walks n (length_of n C w n) (head_of n C w n)
    pub places : (v : ℕ) → v < n → PlaceOk v

  pub lengths_none : lengths n C w 0 ≡ 0
  unfolding lengths
  lengths_none = refl

  pub lengths_more : (k : ℕ) → lengths n C w (k + 1) ≡ lengths n C w k + length_of n C w k
  unfolding lengths
  lengths_more k = rw (add-one k)

pred_suc : (k : ℕ) → suc k - 1 ≡ k
pred_suc k = omega arith

module _ (n C : ℕ) (w : List ℕ) (v : ℕ) where
  pub walks_out : (k i : ℕ) → 0 < k → Walks n C w v k i → CellOk n C w v i × Walks n C w v (k - 1) (next_of n C w i)
  unfolding Walks
  walks_out zero i h p = absurd (omega arith)
  walks_out (suc k) i h p = rw (pred_suc k) p

  pub walks_in : (k i : ℕ) → 0 < k → CellOk n C w v i → Walks n C w v (k - 1) (next_of n C w i) → Walks n C w v k i
  unfolding Walks
  walks_in zero i h p q = absurd (omega arith)
  walks_in (suc k) i h p q = (p, rw (pred_suc k) at q)

  pub walks_end : (k i : ℕ) → k ≤ 0 → (Walks n C w v k i → i ≡ NONE) × (i ≡ NONE → Walks n C w v k i)
  unfolding Walks
  walks_end zero i h = (λ p. p, λ p. p)
  walks_end (suc k) i h = absurd (omega arith)

  pub alone_out : (k i : ℕ) → 0 < k → Alone n C w v k i → Lone n C w v (k - 1) i × Alone n C w v (k - 1) (next_of n C w i)
  unfolding Alone
  alone_out zero i h p = absurd (omega arith)
  alone_out (suc k) i h p = rw (pred_suc k) p

  pub alone_in : (k i : ℕ) → 0 < k → Lone n C w v (k - 1) i → Alone n C w v (k - 1) (next_of n C w i) → Alone n C w v k i
  unfolding Alone
  alone_in zero i h p q = absurd (omega arith)
  alone_in (suc k) i h p q = (rw (pred_suc k) at p, rw (pred_suc k) at q)

  pub alone_end : (k i : ℕ) → k ≤ 0 → Alone n C w v k i
  unfolding Alone
  alone_end zero i h = tt
  alone_end (suc k) i h = absurd (omega arith)

module _ (n C : ℕ) (w : List ℕ) (t : ℕ) where
  pub has_out : (k i : ℕ) → 0 < k → Has n C w t k i → (i < C) × ((target_of n C w i ≡ t) ⊎ Has n C w t (k - 1) (next_of n C w i))
  unfolding Has
  has_out zero i h p = absurd (omega arith)
  has_out (suc k) i h p = rw (pred_suc k) p

  pub has_in : (k i : ℕ) → 0 < k → (i < C) × ((target_of n C w i ≡ t) ⊎ Has n C w t (k - 1) (next_of n C w i)) → Has n C w t k i
  unfolding Has
  has_in zero i h p = absurd (omega arith)
  has_in (suc k) i h p = rw (pred_suc k) at p

  pub has_end : (k i : ℕ) → k ≤ 0 → Has n C w t k i → ⊥
  unfolding Has
  has_end zero i h p = p
  has_end (suc k) i h p = absurd (omega arith)

-- the judge adds the lengths of the places, and the free list's last
pub lengths_end : (n C : ℕ) (w : List ℕ) (v s f : ℕ) → s ≡ lengths n C w v → v ≡ n → f ≡ length_of n C w n → lengths n C w (n + 1) ≡ s + f
lengths_end n C w v s f a b e = rw (lengths_more n C w n) (cc (ap (lengths n C w) b))
