-- General laws of lists that more than one part uses: `each`, `first` and `without`. Assumes nothing.
use Prim.Native.Nat.{ℕ, zero, suc, ◌+◌, ◌≤◌, ◌<◌}
use mathlib.Core.Bool.{Bool, true, false}
use mathlib.Core.List.{List, [], ◌∷◌}
use mathlib.Core.Path.{◌≡◌, refl, ap, ◌∙◌}
use native.Mathlib.Omega.{arith}
use lib.ListN.{length, get_or}
use Rattle.meaning.specs.Cells.{first, without}
use Rattle.meaning.specs.Day.{each}

pub each_length : {A : Type 0} (k : ℕ) (f : ℕ → A) → length (each k f) ≡ k
each_length zero f = refl
each_length (suc k) f = ap suc (each_length k (λ i. f (suc i)))

pub each_at : {A : Type 0} (k : ℕ) (f : ℕ → A) (d : A) (i : ℕ) → i < k → get_or (each k f) i d ≡ f i
each_at zero f d i h = absurd (omega arith)
each_at (suc k) f d zero h = refl
each_at (suc k) f d (suc i) h = each_at k (λ i. f (suc i)) d i (omega arith)

pub each_past : {A : Type 0} (k : ℕ) (f : ℕ → A) (d : A) (i : ℕ) → k ≤ i → get_or (each k f) i d ≡ d
each_past zero f d i h = refl
each_past (suc k) f d zero h = absurd (omega arith)
each_past (suc k) f d (suc i) h = each_past k (λ i. f (suc i)) d i (omega arith)

pub each_same : {A : Type 0} (k : ℕ) (f g : ℕ → A) → ((i : ℕ) → i < k → f i ≡ g i) → each k f ≡ each k g
each_same zero f g h = refl
each_same (suc k) f g h =
    let a : f 0 ≡ g 0 = h 0 (omega arith) in
    let b : each k (λ i. f (suc i)) ≡ each k (λ i. g (suc i)) = each_same k (λ i. f (suc i)) (λ i. g (suc i)) (λ i q. h (suc i) (omega arith)) in
    cc

module _ {A : Type 0} (p : A → Bool) where
  pub first_most : (l : List A) → first p l ≤ length l
  first_most [] = omega arith
  first_most (x ∷ l) = go (first_most l) (p x)
    where
      go : first p l ≤ length l → (b : Bool) → elim b [ true ↦ 0 | false ↦ suc (first p l) ] ≤ suc (length l)
      go h true = omega arith
      go h false = omega arith

  -- the entry that was found passes
  pub first_passes : (d : A) (l : List A) → first p l < length l → p (get_or l (first p l) d) ≡ true
  first_passes d [] h = absurd (omega arith)
  first_passes d (x ∷ l) h = go (first_passes d l) (p x) refl h
    where
      go : (first p l < length l → p (get_or l (first p l) d) ≡ true) → (b : Bool) → p x ≡ b → elim b [ true ↦ 0 | false ↦ suc (first p l) ] < suc (length l)
          → p (get_or (x ∷ l) (elim b [ true ↦ 0 | false ↦ suc (first p l) ]) d) ≡ true
      go f true e q = e
      go f false e q = f (omega arith)

  -- none before it does
  pub first_before : (d : A) (l : List A) (i : ℕ) → i < first p l → p (get_or l i d) ≡ false
  first_before d [] i h = absurd (omega arith)
  first_before d (x ∷ l) i h = go (first_before d l) i (p x) refl h
    where
      go : ((i : ℕ) → i < first p l → p (get_or l i d) ≡ false) → (i : ℕ) (b : Bool) → p x ≡ b → i < elim b [ true ↦ 0 | false ↦ suc (first p l) ] → p (get_or (x ∷ l) i d) ≡ false
      go f i true e q = absurd (omega arith)
      go f zero false e q = e
      go f (suc i) false e q = f i (omega arith)

  -- it is the only position that passes with none before it
  pub first_is : (d : A) (l : List A) (k : ℕ) → k < length l → p (get_or l k d) ≡ true → ((i : ℕ) → i < k → p (get_or l i d) ≡ false) → first p l ≡ k
  first_is d [] k h e f = absurd (omega arith)
  first_is d (x ∷ l) zero h e f = rw (first, e)
  first_is d (x ∷ l) (suc k) h e f = rw (first, f 0 (omega arith)) (ap suc (first_is d l k (omega arith) e (λ i q. f (suc i) (omega arith))))

  -- no entry passes
  pub first_none : (d : A) (l : List A) → ((i : ℕ) → i < length l → p (get_or l i d) ≡ false) → first p l ≡ length l
  first_none d [] f = refl
  first_none d (x ∷ l) f = rw (first, f 0 (omega arith)) (ap suc (first_none d l (λ i q. f (suc i) (omega arith))))

pub without_length : {A : Type 0} (k : ℕ) (l : List A) → k < length l → length (without k l) + 1 ≡ length l
without_length k [] h = absurd (omega arith)
without_length zero (x ∷ l) h = omega arith
without_length (suc k) (x ∷ l) h = omega (arith, without_length k l (omega arith))

-- the same of a list that is told by a function
pub first_each : {A : Type 0} (p : A → Bool) (n : ℕ) (f : ℕ → A) (v : ℕ) → v < n → p (f v) ≡ true → ((k : ℕ) → k < v → p (f k) ≡ false) → first p (each n f) ≡ v
first_each p n f v h e g =
    first_is p (f 0) (each n f) v (rw (each_length n f) h) (rw (each_at n f (f 0) v h) e) (λ k q. let r : k < n = omega arith in rw (each_at n f (f 0) k r) (g k q))

pub none_each : {A : Type 0} (p : A → Bool) (n : ℕ) (f : ℕ → A) → ((k : ℕ) → k < n → p (f k) ≡ false) → first p (each n f) ≡ n
none_each p n f g = first_none p (f 0) (each n f) (λ k q. let r : k < n = rw (each_length n f) at q in rw (each_at n f (f 0) k r) (g k r)) ∙ each_length n f
