-- The lists of cell numbers that a table holds, where rule 2 of "The store, section by section" is kept: each cell stands in the
-- list of its owner, once, and in no other. Assumes no more than its premises: at most NONE cells, a chain for each of the n+1
-- lists and, where all cells are spoken of, lengths that add up to C.
use Prim.Native.Nat.{ℕ, zero, suc, ◌+◌, ◌≤◌, ◌<◌}
use mathlib.Core.List.{List, [], ◌∷◌, ◌++◌, map}
use mathlib.Core.Logic.{⊎_elim}
use mathlib.Core.Path.{◌≡◌, refl, sym, ap, ◌∙◌, subst}
use native.Mathlib.Omega.{arith}
use lib.ListN.{length, length-append}
use Rattle.meaning.specs.Table.{NONE, head_of, length_of, owner_of, next_of}
use Rattle.meaning.specs.Soundness.{Reaches, lengths, Along}
use Rattle.meaning.specs.Day.{cells}
use Rattle.meaning.proofs.Same.{same_cases, same_self}
use Rattle.meaning.proofs.Times.{times, times_append, Below, below_append, each_once}
use Rattle.meaning.proofs.Chains.{Chain, chain_owner, chain_below, chain_once}

module _ (n C : ℕ) (w : List ℕ) where
  -- the numbers of the k cells from i on
  unfoldable pub steps : ℕ → ℕ → List ℕ
  steps zero i = []
  steps (suc k) i = i ∷ steps k (next_of n C w i)

  -- those in the list of v
  abbrev pub held : ℕ → List ℕ
  held v = steps (length_of n C w v) (head_of n C w v)

  pub steps_length : (k i : ℕ) → length (steps k i) ≡ k
  unfolding steps
  steps_length zero i = refl
  steps_length (suc k) i = ap suc (steps_length k (next_of n C w i))

  -- the cells that a day holds, by number
  pub cells_index : (k i : ℕ) → map (λ c. c.index) (cells n C w k i) ≡ steps k i
  unfolding steps cells
  cells_index zero i = refl
  cells_index (suc k) i = ap (λ l. i ∷ l) (cells_index k (next_of n C w i))

  pub reaches_chain : (v k i : ℕ) → Reaches n C w v k i → Chain (owner_of n C w) (next_of n C w) C v i (steps k i)
  unfolding Reaches Chain steps
  reaches_chain v zero i p = p
  reaches_chain v (suc k) i p = (refl, p.0, p.1, reaches_chain v k (next_of n C w i) p.2)

  pub chain_reaches : (v i : ℕ) (l : List ℕ) → Chain (owner_of n C w) (next_of n C w) C v i l → Reaches n C w v (length l) i
  unfolding Reaches Chain
  chain_reaches v i [] p = p
  chain_reaches v i (k ∷ l) p =
      subst (λ (z : ℕ). Reaches n C w v (suc (length l)) z) (sym p.0) (p.1, p.2, chain_reaches v (next_of n C w k) l p.3)

  pub chain_steps : (v i : ℕ) (l : List ℕ) → Chain (owner_of n C w) (next_of n C w) C v i l → steps (length l) i ≡ l
  unfolding Chain steps
  chain_steps v i [] p = refl
  chain_steps v i (k ∷ l) p =
      ap (λ (z : ℕ). z ∷ steps (length l) (next_of n C w z)) p.0 ∙ ap (λ (z : List ℕ). k ∷ z) (chain_steps v (next_of n C w k) l p.3)

  -- what holds along a list holds of each of its cells, and the other way round
  pub along_at : (P : ℕ → Type 0) (k i : ℕ) → Along n C w P k i → (j : ℕ) → 0 < times j (steps k i) → P j
  unfolding Along steps times
  along_at P zero i a j q = absurd (omega arith)
  along_at P (suc k) i a j q =
      ⊎_elim (λ e. subst (λ (z : ℕ). P z) (sym e.0) a.0) (λ e. along_at P k (next_of n C w i) a.1 j (omega arith)) (same_cases j i)

  pub along_all : (P : ℕ → Type 0) (k i : ℕ) → ((j : ℕ) → 0 < times j (steps k i) → P j) → Along n C w P k i
  unfolding Along steps times
  along_all P zero i f = tt
  along_all P (suc k) i f = (f i (omega (arith, same_self i)), along_all P k (next_of n C w i) (λ j q. f j (omega arith)))

-- the first m lists, one after the other
unfoldable flat : (ℕ → List ℕ) → ℕ → List ℕ
flat L zero = []
flat L (suc m) = L m ++ flat L m

module _ (n C : ℕ) (w : List ℕ) (low : C ≤ NONE) (reaches : (v : ℕ) → v ≤ n → Reaches n C w v (length_of n C w v) (head_of n C w v)) where
  pub held_chain : (v : ℕ) → v ≤ n → Chain (owner_of n C w) (next_of n C w) C v (head_of n C w v) (held n C w v)
  held_chain v p = reaches_chain n C w v (length_of n C w v) (head_of n C w v) (reaches v p)

  -- a cell in the list of v has owner v, is one of the C, and stands there once
  pub held_owner : (v i : ℕ) → v ≤ n → 0 < times i (held n C w v) → owner_of n C w i ≡ v
  held_owner v i p q = (chain_owner (owner_of n C w) (next_of n C w) C low v (head_of n C w v) (held n C w v) (held_chain v p) i q).0

  pub held_within : (v i : ℕ) → v ≤ n → 0 < times i (held n C w v) → i < C
  held_within v i p q = (chain_owner (owner_of n C w) (next_of n C w) C low v (head_of n C w v) (held n C w v) (held_chain v p) i q).1

  pub held_once : (v i : ℕ) → v ≤ n → times i (held n C w v) ≤ 1
  held_once v i p = chain_once (owner_of n C w) (next_of n C w) C low v (head_of n C w v) (held n C w v) (held_chain v p) i

  flat_long : (m : ℕ) → m ≤ n + 1 → length (flat (held n C w) m) ≡ lengths n C w m
  unfolding flat lengths
  flat_long zero p = refl
  flat_long (suc m) p =
      omega (arith, flat_long m (omega arith), steps_length n C w (length_of n C w m) (head_of n C w m), length-append (held n C w m) (flat (held n C w) m))

  flat_below : (m : ℕ) → m ≤ n + 1 → Below C (flat (held n C w) m)
  unfolding flat Below
  flat_below zero p = tt
  flat_below (suc m) p =
      below_append C (held n C w m) (flat (held n C w) m)
      (chain_below (owner_of n C w) (next_of n C w) C low m (head_of n C w m) (held n C w m) (held_chain m (omega arith)))
      (flat_below m (omega arith))

  -- a cell stands at most once in the first m lists, and then its owner is below m and has it
  record Once (i m : ℕ) (l : List ℕ) : Type 0 where
    most : times i l ≤ 1
    owned : 0 < times i l → (owner_of n C w i < m) × (0 < times i (held n C w (owner_of n C w i)))

  step : (m i : ℕ) → m ≤ n → Once i m (flat (held n C w) m) → (t s : ℕ) → times i (held n C w m) ≡ t → times i (flat (held n C w) m) ≡ s
      → Once i (suc m) (held n C w m ++ flat (held n C w) m)
  step m i p h zero s e f =
      let a = times_append i (held n C w m) (flat (held n C w) m) in
      record { most = omega arith; owned = λ q. let r = h.owned (omega arith) in (omega arith, r.1) }
  step m i p h (suc t) zero e f =
      let a = times_append i (held n C w m) (flat (held n C w) m) in
      let o = held_owner m i p (omega arith) in
      record {
        most = omega (arith, held_once m i p);
        owned = λ q. (omega arith, subst (λ (z : ℕ). 0 < times i (held n C w z)) (sym o) (omega arith));
      }
  step m i p h (suc t) (suc s) e f = let r = (h.owned (omega arith)).0 in let o = held_owner m i p (omega arith) in absurd (omega arith)

  flat_once : (m : ℕ) → m ≤ n + 1 → (i : ℕ) → Once i m (flat (held n C w) m)
  unfolding flat times
  flat_once zero p i = record { most = omega arith; owned = λ q. absurd (omega arith) }
  flat_once (suc m) p i = step m i (omega arith) (flat_once m (omega arith) i) (times i (held n C w m)) (times i (flat (held n C w) m)) refl refl

  -- the lists part the cells: each cell is in the list of its owner, once
  pub parted : lengths n C w (n + 1) ≡ C → (i : ℕ) → i < C → (owner_of n C w i ≤ n) × (times i (held n C w (owner_of n C w i)) ≡ 1)
  parted whole i p =
      let t : times i (flat (held n C w) (n + 1)) ≡ 1 =
      each_once C (flat (held n C w) (n + 1)) (flat_below (n + 1) (omega arith)) (flat_long (n + 1) (omega arith) ∙ whole)
      (λ k q. (flat_once (n + 1) (omega arith) k).most)
      i p in
      let r = (flat_once (n + 1) (omega arith) i).owned (omega arith) in
      let o : owner_of n C w i ≤ n = omega (arith, r.0) in
      (o, omega (arith, r.1, held_once (owner_of n C w i) i o))
