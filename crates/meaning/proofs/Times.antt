-- How often a number stands in a list, and the pigeonhole: a list of C numbers below C, none twice, has each once.
-- Assumes nothing.
use Prim.Native.Nat.{ℕ, zero, suc, ◌+◌, ◌≤◌, ◌<◌}
use mathlib.Core.List.{List, [], ◌∷◌, ◌++◌, Memᴰ}
use mathlib.Core.Logic.{⊎_elim}
use mathlib.Core.Path.{◌≡◌, refl, sym, ◌∙◌, subst}
use native.Mathlib.Omega.{arith}
use lib.ListN.{length}
use Rattle.meaning.specs.Cells.{same}
use Rattle.meaning.proofs.Same.{same_cases}

-- how often k stands in a list
unfoldable pub times : ℕ → List ℕ → ℕ
times k [] = 0
times k (x ∷ l) = same k x + times k l

pub times_append : (k : ℕ) (a b : List ℕ) → times k (a ++ b) ≡ times k a + times k b
unfolding times
times_append k [] b = omega arith
times_append k (x ∷ a) b = omega (arith, times_append k a b)

-- the sum of f below c
unfoldable pub sum_to : ℕ → (ℕ → ℕ) → ℕ
sum_to zero f = 0
sum_to (suc c) f = sum_to c f + f c

sum-add : (c : ℕ) (f g : ℕ → ℕ) → sum_to c (λ k. f k + g k) ≡ sum_to c f + sum_to c g
unfolding sum_to
sum-add zero f g = refl
sum-add (suc c) f g = omega (arith, sum-add c f g)

sum-zero : (c : ℕ) → sum_to c (λ k. 0) ≡ 0
unfolding sum_to
sum-zero zero = refl
sum-zero (suc c) = omega (arith, sum-zero c)

sum_same_out : (c x : ℕ) → c ≤ x → sum_to c (λ k. same k x) ≡ 0
unfolding sum_to
sum_same_out zero x h = refl
sum_same_out (suc c) x h = let i = sum_same_out c x (omega arith) in ⊎_elim (λ p. absurd (omega arith)) (λ p. omega arith) (same_cases c x)

sum_same : (c x : ℕ) → x < c → sum_to c (λ k. same k x) ≡ 1
unfolding sum_to
sum_same zero x h = absurd (omega arith)
sum_same (suc c) x h =
    ⊎_elim
    (λ p. let i = sum_same_out c x (omega arith) in omega arith)
    (λ p. let d : c ≡ x → ⊥ = p.0 in let i = sum_same c x (omega arith) in omega arith)
    (same_cases c x)

-- each element is below c
unfoldable pub Below : ℕ → List ℕ → Type 0
Below c [] = Unit {0}
Below c (x ∷ l) = (x < c) × Below c l

pub below_append : (c : ℕ) (a b : List ℕ) → Below c a → Below c b → Below c (a ++ b)
unfolding Below
below_append c [] b p q = q
below_append c (x ∷ a) b p q = (p.0, below_append c a b p.1 q)

pub below_all : (c : ℕ) (l : List ℕ) → ((x : ℕ) → Memᴰ x l → x < c) → Below c l
unfolding Below
below_all c [] h = tt
below_all c (x ∷ l) h = (h x (Memᴰ.head refl), below_all c l (λ y m. h y (Memᴰ.tail m)))

pub sum_times : (c : ℕ) (l : List ℕ) → Below c l → sum_to c (λ k. times k l) ≡ length l
unfolding times Below
sum_times c [] h = sum-zero c
sum_times c (x ∷ l) h = omega (arith, sum-add c (λ k. same k x) (λ k. times k l), sum_times c l h.1, sum_same c x h.0)

pub sum-le : (c : ℕ) (f : ℕ → ℕ) → ((k : ℕ) → k < c → f k ≤ 1) → sum_to c f ≤ c
unfolding sum_to
sum-le zero f h = omega arith
sum-le (suc c) f h = omega (arith, sum-le c f (λ k p. h k (omega arith)), h c (omega arith))

-- c numbers, each at most 1, that add up to c are each 1
pub full : (c : ℕ) (f : ℕ → ℕ) → ((k : ℕ) → k < c → f k ≤ 1) → sum_to c f ≡ c → (k : ℕ) → k < c → f k ≡ 1
unfolding sum_to
full zero f h e k p = absurd (omega arith)
full (suc c) f h e k p =
    let i = sum-le c f (λ j q. h j (omega arith)) in
    let b = h c (omega arith) in
    ⊎_elim
    (λ q. subst (λ (z : ℕ). f z ≡ 1) (sym q.0) (omega arith))
    (λ q. let d : k ≡ c → ⊥ = q.0 in full c f (λ j r. h j (omega arith)) (omega arith) k (omega arith))
    (same_cases k c)

pub each_once : (c : ℕ) (l : List ℕ) → Below c l → length l ≡ c → ((k : ℕ) → k < c → times k l ≤ 1) → (k : ℕ) → k < c → times k l ≡ 1
each_once c l b e h = full c (λ k. times k l) h (sum_times c l b ∙ e)
