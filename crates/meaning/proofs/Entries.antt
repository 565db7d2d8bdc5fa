-- Laws of lists that a step on one list or one place needs: a position left out, and one or two entries of `each` that change.
-- Assumes nothing.
use Prim.Native.Nat.{ℕ, zero, suc, ◌≤◌, ◌<◌}
use mathlib.Core.List.{List, [], ◌∷◌, map}
use mathlib.Core.Path.{◌≡◌, refl, ap}
use native.Mathlib.Omega.{arith}
use lib.ListN.{set, replicate}
use Rattle.meaning.specs.Cells.{without}
use Rattle.meaning.specs.Day.{each}
use Rattle.meaning.proofs.Lists.{each_same}

-- the position in a list of what stands at position a once position k is left out
unfoldable pub skip : ℕ → ℕ → ℕ
skip zero a = suc a
skip (suc k) zero = zero
skip (suc k) (suc a) = suc (skip k a)

pub skip_before : (k a : ℕ) → a < k → skip k a ≡ a
unfolding skip
skip_before zero a h = absurd (omega arith)
skip_before (suc k) zero h = refl
skip_before (suc k) (suc a) h = ap suc (skip_before k a (omega arith))

pub skip_behind : (k a : ℕ) → k ≤ a → skip k a ≡ suc a
unfolding skip
skip_behind zero a h = refl
skip_behind (suc k) zero h = absurd (omega arith)
skip_behind (suc k) (suc a) h = ap suc (skip_behind k a (omega arith))

pub skip_other : (k a : ℕ) → skip k a ≡ k → ⊥
unfolding skip
skip_other zero a e = omega arith
skip_other (suc k) zero e = omega arith
skip_other (suc k) (suc a) e = skip_other k a (omega arith)

pub skip_most : (k a : ℕ) → skip k a ≤ suc a
unfolding skip
skip_most zero a = omega arith
skip_most (suc k) zero = omega arith
skip_most (suc k) (suc a) = omega (arith, skip_most k a)

pub without_each : {A : Type 0} (k m : ℕ) (f : ℕ → A) → k ≤ m → without k (each (suc m) f) ≡ each m (λ a. f (skip k a))
unfolding skip
without_each zero m f h = refl
without_each (suc k) zero f h = absurd (omega arith)
without_each (suc k) (suc m) f h = ap (λ l. f 0 ∷ l) (without_each k m (λ a. f (suc a)) (omega arith))

pub map_without : {A B : Type 0} (f : A → B) (k : ℕ) (l : List A) → map f (without k l) ≡ without k (map f l)
map_without f k [] = refl
map_without f zero (x ∷ l) = refl
map_without f (suc k) (x ∷ l) = ap (λ m. f x ∷ m) (map_without f k l)

-- one entry of a table of entries changes, or two do
pub each_set : {A : Type 0} (k : ℕ) (f g : ℕ → A) (v : ℕ) (x : A) → v < k → g v ≡ x → ((z : ℕ) → z < k → (z ≡ v → ⊥) → g z ≡ f z) → each k g ≡ set (each k f) v x
each_set zero f g v x h e r = absurd (omega arith)
each_set (suc k) f g zero x h e r =
    let s : each k (λ z. g (suc z)) ≡ each k (λ z. f (suc z)) = each_same k (λ z. g (suc z)) (λ z. f (suc z)) (λ z p. r (suc z) (omega arith) (λ q. omega arith)) in
    cc
each_set (suc k) f g (suc v) x h e r =
    let a : g 0 ≡ f 0 = r 0 (omega arith) (λ q. omega arith) in
    let s : each k (λ z. g (suc z)) ≡ set (each k (λ z. f (suc z))) v x =
    each_set k (λ z. f (suc z)) (λ z. g (suc z)) v x (omega arith) e (λ z p q. r (suc z) (omega arith) (λ b. q (omega arith))) in
    cc

pub each_set_two : {A : Type 0} (k : ℕ) (f g : ℕ → A) (u v : ℕ) (x y : A) → u < k → v < k → (u ≡ v → ⊥) → g u ≡ x → g v ≡ y
    → ((z : ℕ) → z < k → (z ≡ u → ⊥) → (z ≡ v → ⊥) → g z ≡ f z) → each k g ≡ set (set (each k f) u x) v y
each_set_two zero f g u v x y hu hv d a b r = absurd (omega arith)
each_set_two (suc k) f g zero zero x y hu hv d a b r = absurd (d refl)
each_set_two (suc k) f g zero (suc v) x y hu hv d a b r =
    let s : each k (λ z. g (suc z)) ≡ set (each k (λ z. f (suc z))) v y =
    each_set k (λ z. f (suc z)) (λ z. g (suc z)) v y (omega arith) b (λ z p q. r (suc z) (omega arith) (λ e. omega arith) (λ e. q (omega arith))) in
    cc
each_set_two (suc k) f g (suc u) zero x y hu hv d a b r =
    let s : each k (λ z. g (suc z)) ≡ set (each k (λ z. f (suc z))) u x =
    each_set k (λ z. f (suc z)) (λ z. g (suc z)) u x (omega arith) a (λ z p q. r (suc z) (omega arith) (λ e. q (omega arith)) (λ e. omega arith)) in
    cc
each_set_two (suc k) f g (suc u) (suc v) x y hu hv d a b r =
    let e : g 0 ≡ f 0 = r 0 (omega arith) (λ q. omega arith) (λ q. omega arith) in
    let s : each k (λ z. g (suc z)) ≡ set (set (each k (λ z. f (suc z))) u x) v y =
    each_set_two k (λ z. f (suc z)) (λ z. g (suc z)) u v x y (omega arith) (omega arith) (λ q. d (ap suc q)) a b
    (λ z p q t. r (suc z) (omega arith) (λ c. q (omega arith)) (λ c. t (omega arith))) in
    cc

pub each_replicate : {A : Type 0} (k : ℕ) (f : ℕ → A) (x : A) → ((i : ℕ) → i < k → f i ≡ x) → each k f ≡ replicate k x
each_replicate zero f x h = refl
each_replicate (suc k) f x h =
    let a : f 0 ≡ x = h 0 (omega arith) in
    let s : each k (λ i. f (suc i)) ≡ replicate k x = each_replicate k (λ i. f (suc i)) x (λ i p. h (suc i) (omega arith)) in
    cc

pub map_each : {A B : Type 0} (f : A → B) (k : ℕ) (g : ℕ → A) → map f (each k g) ≡ each k (λ i. f (g i))
map_each f zero g = refl
map_each f (suc k) g = ap (λ l. f (g 0) ∷ l) (map_each f k (λ i. g (suc i)))
