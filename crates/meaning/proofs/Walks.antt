-- A list of cells as its walk: the cell at each position, from the head on. The chain of a list, what holds along it and the
-- cells it has are told by positions, so that a step on the words is a step on positions. Assumes nothing.
use Prim.{tt}
use Prim.Native.Nat.{ℕ, zero, suc, ◌-◌, ◌≤◌, ◌<◌}
use mathlib.Core.List.{List}
use mathlib.Core.Path.{◌≡◌, refl, sym, ap, ◌∙◌}
use native.Mathlib.Omega.{arith}
use lib.ListN.{length, get_or}
use Rattle.terms.specs.Size.{cells_most}
use Rattle.meaning.specs.Table.{NONE, head_at, next_at, owner_of, target_of, next_of}
use Rattle.meaning.specs.Cells.{Cell}
use Rattle.meaning.specs.Soundness.{Reaches, Along}
use Rattle.meaning.specs.Day.{each, cells}
use Rattle.meaning.proofs.Steps.{nth, cell_at, hook_at}

module _ (n C : ℕ) (w : List ℕ) where
  pub nth_zero : (i : ℕ) → nth n C w 0 i ≡ i
  unfolding nth
  nth_zero i = refl

  pub nth_suc : (k i : ℕ) → nth n C w (suc k) i ≡ next_of n C w (nth n C w k i)
  unfolding nth
  nth_suc zero i = refl
  nth_suc (suc k) i = nth_suc k (next_of n C w i)

  -- where the word stands that names the first cell, and the one behind the k-th
  pub hook_zero : (v : ℕ) → hook_at n C w v 0 ≡ head_at n C v
  unfolding hook_at
  hook_zero v = refl

  pub hook_suc : (v k : ℕ) → hook_at n C w v (suc k) ≡ next_at n C (cell_at n C w v k)
  unfolding hook_at
  hook_suc v k = refl

  -- the m cells of v from x on are q 0, q 1, ..
  pub record Walk (v m x : ℕ) (q : ℕ → ℕ) : Type 0 where
    pub starts : q 0 ≡ x
    pub ends : q m ≡ NONE
    pub inside : (a : ℕ) → a < m → q a < C
    pub owned : (a : ℕ) → a < m → owner_of n C w (q a) ≡ v
    pub steps : (a : ℕ) → a < m → next_of n C w (q a) ≡ q (suc a)

  walk_rest : (v m x : ℕ) (q : ℕ → ℕ) → Walk v (suc m) x q → Walk v m (next_of n C w x) (λ a. q (suc a))
  walk_rest v m x q k = record {
    starts = sym (k.steps 0 (omega arith)) ∙ ap (next_of n C w) k.starts;
    ends = k.ends;
    inside = λ a h. k.inside (suc a) (omega arith);
    owned = λ a h. k.owned (suc a) (omega arith);
    steps = λ a h. k.steps (suc a) (omega arith);
  }

  pub walk_reaches : (v m x : ℕ) (q : ℕ → ℕ) → Walk v m x q → Reaches n C w v m x
  unfolding Reaches
  walk_reaches v zero x q k = sym k.starts ∙ k.ends
  walk_reaches v (suc m) x q k =
      let e : q 0 ≡ x = k.starts in
      (rw e at (k.inside 0 (omega arith)), rw e at (k.owned 0 (omega arith)), walk_reaches v m (next_of n C w x) (λ a. q (suc a)) (walk_rest v m x q k))

  pub walk_along : (P : ℕ → Type 0) (v m x : ℕ) (q : ℕ → ℕ) → Walk v m x q → ((a : ℕ) → a < m → P (q a)) → Along n C w P m x
  unfolding Along
  walk_along P v zero x q k h = tt
  walk_along P v (suc m) x q k h =
      let e : q 0 ≡ x = k.starts in
      (rw e at (h 0 (omega arith)), walk_along P v m (next_of n C w x) (λ a. q (suc a)) (walk_rest v m x q k) (λ a p. h (suc a) (omega arith)))

  -- the cell at position q
  abbrev pub standing : ℕ → Cell
  standing i = record { index = i; target = target_of n C w i }

  pub walk_cells : (v m x : ℕ) (q : ℕ → ℕ) → Walk v m x q → cells n C w m x ≡ each m (λ a. standing (q a))
  unfolding cells
  walk_cells v zero x q k = refl
  walk_cells v (suc m) x q k =
      let e : q 0 ≡ x = k.starts in
      let r : cells n C w m (next_of n C w x) ≡ each m (λ a. standing (q (suc a))) = walk_cells v m (next_of n C w x) (λ a. q (suc a)) (walk_rest v m x q k) in
      rw (r, e)

  -- every chain is the walk by next
  pub reaches_walk : (v m x : ℕ) → Reaches n C w v m x → Walk v m x (λ a. nth n C w a x)
  unfolding Reaches nth
  reaches_walk v zero x r = record {
    starts = refl;
    ends = r;
    inside = λ a h. absurd (omega arith);
    owned = λ a h. absurd (omega arith);
    steps = λ a h. absurd (omega arith);
  }
  reaches_walk v (suc m) x r =
      let k : Walk v m (next_of n C w x) (λ a. nth n C w a (next_of n C w x)) = reaches_walk v m (next_of n C w x) r.2 in
      record {
        starts = refl;
        ends = k.ends;
        inside = λ a. elim a as (λ a. a < suc m → nth n C w a x < C) [ zero ↦ λ h. r.0 | suc b ↦ λ h. k.inside b (omega arith) ];
        owned = λ a. elim a as (λ a. a < suc m → owner_of n C w (nth n C w a x) ≡ v) [ zero ↦ λ h. r.1 | suc b ↦ λ h. k.owned b (omega arith) ];
        steps = λ a h. sym (nth_suc a x);
      }

  pub along_walk : (P : ℕ → Type 0) (m x : ℕ) → Along n C w P m x → (a : ℕ) → a < m → P (nth n C w a x)
  unfolding Along nth
  along_walk P zero x r a h = absurd (omega arith)
  along_walk P (suc m) x r zero h = r.0
  along_walk P (suc m) x r (suc a) h = along_walk P m (next_of n C w x) r.1 a (omega arith)

  -- from the a-th cell on, a cells fewer are left
  pub reaches_from : (v m x a : ℕ) → a ≤ m → Reaches n C w v m x → Reaches n C w v (m - a) (nth n C w a x)
  unfolding Reaches nth
  reaches_from v m x zero h r = let e : m - 0 ≡ m = omega arith in rw e r
  reaches_from v zero x (suc a) h r = absurd (omega arith)
  reaches_from v (suc m) x (suc a) h r = let e : suc m - suc a ≡ m - a = omega arith in rw e (reaches_from v m (next_of n C w x) a (omega arith) r.2)

  -- the number of cells up to NONE is the chain's own
  pub reaches_unique : C ≤ cells_most → (u v j k x : ℕ) → Reaches n C w u j x → Reaches n C w v k x → j ≡ k
  unfolding Reaches
  reaches_unique c u v zero zero x p q = refl
  reaches_unique c u v zero (suc k) x p q = absurd (omega (arith, q.0))
  reaches_unique c u v (suc j) zero x p q = absurd (omega (arith, p.0))
  reaches_unique c u v (suc j) (suc k) x p q = ap suc (reaches_unique c u v j k (next_of n C w x) p.2 q.2)

  -- so a cell stands once in its list
  pub nth_once : C ≤ cells_most → (v m x a b : ℕ) → Reaches n C w v m x → a < m → b < m → nth n C w a x ≡ nth n C w b x → a ≡ b
  nth_once c v m x a b r p q e =
      let ra : Reaches n C w v (m - a) (nth n C w b x) = rw e at (reaches_from v m x a (omega arith) r) in
      let rb : Reaches n C w v (m - b) (nth n C w b x) = reaches_from v m x b (omega arith) r in
      omega (arith, reaches_unique c v v (m - a) (m - b) (nth n C w b x) ra rb)

  pub cells_length : (m x : ℕ) → length (cells n C w m x) ≡ m
  unfolding cells
  cells_length zero x = refl
  cells_length (suc m) x = ap suc (cells_length m (next_of n C w x))

  pub cells_at : (m x : ℕ) (d : Cell) (a : ℕ) → a < m → get_or (cells n C w m x) a d ≡ standing (nth n C w a x)
  unfolding cells nth
  cells_at zero x d a h = absurd (omega arith)
  cells_at (suc m) x d zero h = refl
  cells_at (suc m) x d (suc a) h = cells_at m (next_of n C w x) d a (omega arith)
