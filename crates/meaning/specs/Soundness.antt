-- Document 01, "The store, section by section": when a table is sound. Rules 1 to 4.
use Rattle.std.specs.Prelude.{ℕ, zero, suc, ◌+◌, ◌≤◌, ◌<◌, List, ◌⊎◌, ◌≡◌, length}
use Rattle.terms.specs.Run.{line_most}
use Rattle.terms.specs.Size.{InRoom, InLimit, store_words}
use Rattle.meaning.specs.Table.{NONE, line_of, number_of, head_of, length_of, owner_of, target_of, next_of}

module _ (n C : ℕ) (w : List ℕ) where
  -- line 0 marks a free place
  abbrev pub Open : ℕ → Type 0
  Open v = line_of n C w v ≡ 0 → ⊥

  -- 1. every line word is at most 65,535; a free place's number word is 0; no two open places agree in both
  pub record Named : Type 0 where
    pub small : (v : ℕ) → v < n → line_of n C w v ≤ line_most
    pub freed : (v : ℕ) → v < n → line_of n C w v ≡ 0 → number_of n C w v ≡ 0
    pub apart : (u v : ℕ) → u < v → v < n → Open v → line_of n C w u ≡ line_of n C w v → number_of n C w u ≡ number_of n C w v → ⊥

  -- from cell i, following next, NONE is reached after exactly k cells, each with owner v
  unfoldable pub Reaches : ℕ → ℕ → ℕ → Type 0
  Reaches v zero i = i ≡ NONE
  Reaches v (suc k) i = (i < C) × (owner_of n C w i ≡ v) × Reaches v k (next_of n C w i)

  -- the sum of the first k lengths
  unfoldable pub lengths : ℕ → ℕ
  lengths zero = 0
  lengths (suc k) = lengths k + length_of n C w k

  -- 2. each list is a chain of its own cells; the lengths of all n+1 lists add up to C; those of places are at most D
  pub record Chained (D : ℕ) : Type 0 where
    pub reaches : (v : ℕ) → v ≤ n → Reaches v (length_of n C w v) (head_of n C w v)
    pub whole : lengths (n + 1) ≡ C
    pub short : (v : ℕ) → v < n → length_of n C w v ≤ D

  -- every one of the k cells from i on has P
  unfoldable pub Along : (ℕ → Type 0) → ℕ → ℕ → Type 0
  Along P zero i = Unit {0}
  Along P (suc k) i = P i × Along P k (next_of n C w i)

  -- the target of a cell in the list of place v: an open place other than v, and v is open
  pub record Aims (v i : ℕ) : Type 0 where
    pub place : target_of n C w i < n
    pub other : target_of n C w i ≡ v → ⊥
    pub target_open : Open (target_of n C w i)
    pub owner_open : Open v

  -- 3. a cell in the list of place v aims right; a free cell has target NONE
  pub record Aimed : Type 0 where
    pub placed : (v : ℕ) → v < n → Along (Aims v) (length_of n C w v) (head_of n C w v)
    pub freed : Along (λ i. target_of n C w i ≡ NONE) (length_of n C w n) (head_of n C w n)

  -- two cells hold the same unordered pair
  abbrev pub SamePair : ℕ → ℕ → Type 0
  SamePair i j =
      ((owner_of n C w i ≡ owner_of n C w j) × (target_of n C w i ≡ target_of n C w j))
      ⊎ ((owner_of n C w i ≡ target_of n C w j) × (target_of n C w i ≡ owner_of n C w j))

  -- 4. no unordered pair stands in two cells; a cell holds a pair where its owner is a place
  pub record Single : Type 0 where
    pub once : (i j : ℕ) → i < j → j < C → owner_of n C w i < n → owner_of n C w j < n → SamePair i j → ⊥

-- sizes within their limits and a store of their length
pub record Sized (n C D : ℕ) (w : List ℕ) : Type 0 where
  pub room : InRoom n C
  pub limit : InLimit D
  pub long : length w ≡ store_words n C

-- the store is sound for n, C, D
pub record Sound (n C D : ℕ) (w : List ℕ) : Type 0 where
  pub sized : Sized n C D w
  pub named : Named n C w
  pub chained : Chained n C w D
  pub aimed : Aimed n C w
  pub single : Single n C w
