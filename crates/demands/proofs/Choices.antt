-- Laws of pairs of runs and of choices of directions, and of sums over the links that stand by their runs. Assumes nothing.
use Prim.Native.Nat.{ℕ, ◌+◌, ◌-◌, ◌*◌, ◌≤◌, min}
use mathlib.Core.Bool.{true, ◌&&◌, or_comm, and_comm}
use mathlib.Core.Logic.{◌⊎◌, inl, inr, ⊎_elim}
use mathlib.Core.Path.{◌≡◌, ap}
use native.Mathlib.Decide.{ℕ_discrete}
use native.Mathlib.Nat.{mul_comm, min-eq_left}
use native.Mathlib.Omega.{arith}
use Rattle.std.proofs.lemmas.Bool.{and_parts, or_cases}
use Rattle.terms.specs.Run.{same_run}
use Rattle.terms.specs.declared.run.Run.{Run}
use Rattle.terms.proofs.Names.{same_refl, same_eq as run-eq}
use Rattle.meaning.specs.Cells.{Cell, Lists, Weight, sum, same}
use Rattle.meaning.specs.Day.{Day, run_of}
use Rattle.meaning.specs.Calls.{yes1}
use Rattle.meaning.proofs.Same.{same_ne}
use Rattle.meaning.proofs.Sums.{Has, sum-le_in, sum-mem, sum-add, sum_ext, Even}
use Rattle.demands.specs.History.{same_pair, weigh, between, Directions, unsure, outward, differ, changed}

-- the links that stand in the list of the run they don't go outward at
abbrev pub disagree : Directions → Day → ℕ
disagree C s = weigh (λ x y. C y x) s

-- ---- pairs
pub pair_swap : (p q x y : Run) → same_pair p q x y ≡ same_pair p q y x
unfolding same_pair
pair_swap p q x y = or_comm (same_run p x && same_run q y) (same_run p y && same_run q x)

pub pair_comm : (p q x y : Run) → same_pair p q x y ≡ same_pair q p x y
unfolding same_pair
pair_comm p q x y =
    rw (and_comm (same_run p x) (same_run q y), and_comm (same_run p y) (same_run q x)) (or_comm (same_run q y && same_run p x) (same_run q x && same_run p y))

pub pair_self : (x y : Run) → same_pair x y x y ≡ true
unfolding same_pair
pair_self x y = rw (same_pair, same_refl x, same_refl y)

pub pair_is : (p q x y : Run) → same_pair p q x y ≡ true → ((p ≡ x) × (q ≡ y)) ⊎ ((p ≡ y) × (q ≡ x))
unfolding same_pair
pair_is p q x y e = ⊎_elim
    (λ a. inl (let t : (same_run p x ≡ true) × (same_run q y ≡ true) = and_parts _ _ a in (run-eq p x t.0, run-eq q y t.1)))
    (λ a. inr (let t : (same_run p y ≡ true) × (same_run q x ≡ true) = and_parts _ _ a in (run-eq p y t.0, run-eq q x t.1)))
    (or_cases (same_run p x && same_run q y) (same_run p y && same_run q x) e)

-- ---- directions
-- F doesn't ask in which of the two runs' lists the link stands
abbrev pub Swaps : (Run → Run → ℕ) → Type 0
Swaps F = (x y : Run) → F x y ≡ F y x

-- F as a weight of the links of s
abbrev pub by : (Run → Run → ℕ) → Day → Weight
by F s v c = F (run_of s v) (run_of s c.target)

pub by_even : (F : Run → Run → ℕ) (s : Day) → Swaps F → Even (by F s)
by_even F s sw v c = sw (run_of s v) (run_of s c.target)

pub yes_pair_swaps : (p q : Run) → Swaps (λ x y. yes1 (same_pair p q x y))
yes_pair_swaps p q x y = ap yes1 (pair_swap p q x y)

pub unsure_swaps : (C : Directions) → Swaps (unsure C)
unfolding unsure
unsure_swaps C x y = ap (λ (k : ℕ). 1 - same k 1) (omega arith)

pub outward_swaps : (C : Directions) (p : Run) → Swaps (outward C p)
unfolding outward
outward_swaps C p x y = omega arith

pub differ_swaps : (C C' : Directions) → Swaps (differ C C')
unfolding differ
differ_swaps C C' x y = ap (λ (k : ℕ). 1 - k) (mul_comm (same (C x y) (C' x y)) (same (C y x) (C' y x)))

-- a link that is not unsure goes outward at one end
pub one_way : (C : Directions) (x y : Run) → unsure C x y ≡ 0 → C x y + C y x ≡ 1
unfolding unsure
one_way C x y e = elim (ℕ_discrete (C x y + C y x) 1) [ yes f ↦ f | no n ↦ absurd (omega (arith, same_ne (C x y + C y x) 1 n)) ]

pub outward_self : (C : Directions) (x y : Run) → C x y ≤ outward C x x y
unfolding outward
outward_self C x y = rw (outward, same_refl x) (omega arith)

-- a link that goes outward at y by C' goes outward at y by C, or the choices differ on it
pub differ_covers : (C C' : Directions) (x y : Run) → C' y x ≤ 1 → C' y x ≤ C y x + differ C C' x y
unfolding differ
differ_covers C C' x y h = elim (ℕ_discrete (C y x) (C' y x)) [
  | yes e ↦ omega arith
  | no n ↦ omega (arith, mul_comm (same (C x y) (C' x y)) (same (C y x) (C' y x)), ap (λ (k : ℕ). k * same (C x y) (C' x y)) (same_ne (C y x) (C' y x) n))
]

-- ---- the links that stand
pub between_comm : (p q : Run) (s : Day) → between p q s ≡ between q p s
between_comm p q s = sum_ext (by (λ x y. yes1 (same_pair p q x y)) s) (by (λ x y. yes1 (same_pair q p x y)) s) s.lists
    (λ v c. ap yes1 (pair_comm p q (run_of s v) (run_of s c.target)))

-- a link that stands is between its two runs, and sure where none is unsure
pub has_between : (s : Day) (v : ℕ) (c : Cell) → Has s.lists v c → 1 ≤ between (run_of s v) (run_of s c.target) s
has_between s v c m =
    let x : Run = run_of s v in
    let y : Run = run_of s c.target in
    omega (arith, ap yes1 (pair_self x y), sum-mem (by (λ a b. yes1 (same_pair x y a b)) s) s.lists v c m)

pub has_sure : (C : Directions) (s : Day) (ls : Lists) → sum (by (unsure C) s) ls ≡ 0 → (v : ℕ) (c : Cell) → Has ls v c
    → C (run_of s v) (run_of s c.target) + C (run_of s c.target) (run_of s v) ≡ 1
has_sure C s ls e v c m = one_way C (run_of s v) (run_of s c.target) (omega (arith, sum-mem (by (unsure C) s) ls v c m))

-- 1 where a link of x and y stood in s and the choices differ on it
abbrev pub turned : Directions → Directions → Day → Run → Run → ℕ
turned C C' s x y = min 1 (between x y s) * differ C C' x y

pub turned_swaps : (C C' : Directions) (s : Day) → Swaps (turned C C' s)
turned_swaps C C' s x y = rw (differ_swaps C C' x y, between_comm x y s)

-- no links but those of s
abbrev pub Fewer : Day → Day → Type 0
Fewer s' s = (F : Run → Run → ℕ) → weigh F s' ≤ weigh F s

least : (b x : ℕ) → 1 ≤ b → x ≤ min 1 b * x
least b x h = rw (min-eq_left h) (omega arith)

-- where only links are taken away, those that disagree are paid for by those on which the choices differ
pub fewer_pays : (C C' : Directions) (s s' : Day) → Fewer s' s → weigh (unsure C') s' ≡ 0 → disagree C' s' ≤ disagree C s + changed C C' s s'
fewer_pays C C' s s' f g =
    omega (
      arith,
      f (λ x y. C y x),
      sum-add (by (λ x y. C y x) s') (by (turned C C' s) s') s'.lists,
      sum-le_in (by (λ x y. C' y x) s') (λ v c. by (λ x y. C y x) s' v c + by (turned C C' s) s' v c) s'.lists
          (λ v c m. each_pays v c m),
    )
  where
    each_pays : (v : ℕ) (c : Cell) → Has s'.lists v c → by (λ x y. C' y x) s' v c ≤ by (λ x y. C y x) s' v c + by (turned C C' s) s' v c
    each_pays v c m =
        let x : Run = run_of s' v in
        let y : Run = run_of s' c.target in
        omega (
          arith,
          least (between x y s) (differ C C' x y) (omega (arith, has_between s' v c m, f (λ a b. yes1 (same_pair x y a b)))),
          differ_covers C C' x y (omega (arith, has_sure C' s' s'.lists g v c m)),
        )
