-- A chain of cells as a list of cell numbers, over any two functions: who owns a cell, and which comes next. A chain's cells are
-- given by where it starts, and none stands in it twice. Assumes nothing.
use Prim.Native.Nat.{ℕ, zero, suc, ◌+◌, ◌≤◌, ◌<◌}
use mathlib.Core.List.{List, [], ◌∷◌}
use mathlib.Core.Logic.{⊎_elim}
use mathlib.Core.Path.{◌≡◌, refl, sym, ap, ◌∙◌, subst}
use native.Mathlib.Omega.{arith}
use lib.ListN.{length}
use Rattle.meaning.specs.Table.{NONE}
use Rattle.meaning.specs.Cells.{same}
use Rattle.meaning.proofs.Same.{same_cases, same_self}
use Rattle.meaning.proofs.Times.{times, Below}

-- the first of a list, or NONE
abbrev pub front : List ℕ → ℕ
front [] = NONE
front (k ∷ l) = k

-- from x the cells of l follow, and then NONE; each is below C and owned by v
unfoldable pub Chain : (ℕ → ℕ) → (ℕ → ℕ) → ℕ → ℕ → ℕ → List ℕ → Type 0
Chain own nxt C v x [] = x ≡ NONE
Chain own nxt C v x (k ∷ l) = (x ≡ k) × (k < C) × (own k ≡ v) × Chain own nxt C v (nxt k) l

abbrev pick : ℕ → List ℕ → List ℕ → List ℕ
pick zero a b = b
pick (suc m) a b = a

-- what comes after k in a list
unfoldable pub after : ℕ → List ℕ → List ℕ
after k [] = []
after k (x ∷ l) = pick (same k x) l (after k l)

-- other functions that agree on the chain's cells: the same chain
pub chain_frame : (own nxt own' nxt' : ℕ → ℕ) (C v x : ℕ) (l : List ℕ) → ((k : ℕ) → 0 < times k l → (own k ≡ own' k) × (nxt k ≡ nxt' k))
    → Chain own nxt C v x l → Chain own' nxt' C v x l
unfolding Chain times
chain_frame own nxt own' nxt' C v x [] h p = p
chain_frame own nxt own' nxt' C v x (k ∷ l) h p =
    let a = h k (omega (arith, same_self k)) in (
      p.0,
      p.1,
      sym a.0 ∙ p.2,
      subst (λ (z : ℕ). Chain own' nxt' C v z l) a.1 (chain_frame own nxt own' nxt' C v (nxt k) l (λ j q. h j (omega arith)) p.3),
    )

module _ (own nxt : ℕ → ℕ) (C : ℕ) (low : C ≤ NONE) where
  -- where a chain starts
  pub chain_front : (v x : ℕ) (l : List ℕ) → Chain own nxt C v x l → x ≡ front l
  unfolding Chain
  chain_front v x [] p = p
  chain_front v x (k ∷ l) p = p.0

  -- its cells are owned by v, and below C
  pub chain_owner : (v x : ℕ) (l : List ℕ) → Chain own nxt C v x l → (k : ℕ) → 0 < times k l → (own k ≡ v) × (k < C)
  unfolding Chain times
  chain_owner v x [] p k q = absurd (omega arith)
  chain_owner v x (y ∷ l) p k q = ⊎_elim (λ e. (ap own e.0 ∙ p.2, omega arith)) (λ e. chain_owner v (nxt y) l p.3 k (omega arith)) (same_cases k y)

  pub chain_below : (v x : ℕ) (l : List ℕ) → Chain own nxt C v x l → Below C l
  unfolding Chain Below
  chain_below v x [] p = tt
  chain_below v x (k ∷ l) p = (p.1, chain_below v (nxt k) l p.3)

  -- there is one chain from x
  pub chain_unique : (v u x : ℕ) (l m : List ℕ) → Chain own nxt C v x l → Chain own nxt C u x m → l ≡ m
  unfolding Chain
  chain_unique v u x [] [] p q = refl
  chain_unique v u x [] (k ∷ m) p q = absurd (omega arith)
  chain_unique v u x (k ∷ l) [] p q = absurd (omega arith)
  chain_unique v u x (k ∷ l) (j ∷ m) p q =
      let e : k ≡ j = sym p.0 ∙ q.0 in
      let r = chain_unique v u (nxt k) l m p.3 (subst (λ (z : ℕ). Chain own nxt C u (nxt z) m) (sym e) q.3) in
      cc

  -- a cell of a chain starts a chain that is no longer
  chain_from : (v x : ℕ) (l : List ℕ) → Chain own nxt C v x l → (k : ℕ) → 0 < times k l → (m : List ℕ) × Chain own nxt C v k m × (length m ≤ length l)
  unfolding Chain times
  chain_from v x [] p k q = absurd (omega arith)
  chain_from v x (y ∷ l) p k q =
      ⊎_elim
      (λ e. (y ∷ l, (e.0, p.1, p.2, p.3), omega arith))
      (λ e. let r = chain_from v (nxt y) l p.3 k (omega arith) in (r.0, r.1, let z = r.2 in omega arith))
      (same_cases k y)

  -- no cell stands twice in a chain
  pub chain_once : (v x : ℕ) (l : List ℕ) → Chain own nxt C v x l → (k : ℕ) → times k l ≤ 1
  unfolding Chain times
  chain_once v x [] p k = omega arith
  chain_once v x (y ∷ l) p k =
      let i = chain_once v (nxt y) l p.3 k in
      ⊎_elim (λ e. go (times k l) refl e.0 e.1) (λ e. omega arith) (same_cases k y)
    where
      bad : k ≡ y → 0 < times k l → ⊥
      bad e q =
          let r = chain_from v (nxt y) l p.3 k q in
          let s = chain_unique v v k (y ∷ l) r.0 (e, p.1, p.2, p.3) r.1 in
          let z : suc (length l) ≡ length r.0 = ap length s in
          let b = r.2 in
          omega arith

      go : (t : ℕ) → times k l ≡ t → k ≡ y → same k y ≡ 1 → same k y + times k l ≤ 1
      go zero a e f = omega arith
      go (suc t) a e f = absurd (bad e (omega arith))

  -- what comes after a cell of a chain
  pub chain_next : (v x : ℕ) (l : List ℕ) → Chain own nxt C v x l → (k : ℕ) → 0 < times k l → nxt k ≡ front (after k l)
  unfolding Chain times after
  chain_next v x [] p k q = absurd (omega arith)
  chain_next v x (y ∷ l) p k q =
      ⊎_elim
      (λ e. rw e.1 (ap nxt e.0 ∙ chain_front v (nxt y) l p.3))
      (λ e. rw e.1 (chain_next v (nxt y) l p.3 k (omega arith)))
      (same_cases k y)
