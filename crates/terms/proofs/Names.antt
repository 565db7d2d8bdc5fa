-- Laws of a run's name: what makes it bad, and when two names are one run. Assumes nothing.
use Prim.Native.Nat.{ℕ, ◌≤◌, ◌<◌}
use mathlib.Core.Bool.{Bool, true, false, ◌||◌, ◌&&◌}
use mathlib.Core.Path.{◌≡◌, refl}
use native.Mathlib.Omega.{arith}
use lib.Dec.{eqb, ltb}
use borrow.Author.Tests.{eq-eqb, ne_eqb, lt-ltb, le-ltb, eqb-true, eqb-false, ltb-false}
use Rattle.terms.specs.Run.{line_most, bad_name, same_run}
use Rattle.terms.specs.declared.run.Run.{Run}

pub bad_zero : (r : Run) → r.line ≡ 0 → bad_name r ≡ true
unfolding bad_name
bad_zero r e = rw (eq-eqb _ _ e)

pub bad_above : (r : Run) → (r.line ≡ 0 → ⊥) → line_most < r.line → bad_name r ≡ true
unfolding bad_name
bad_above r n h = rw (ne_eqb _ _ n, lt-ltb _ _ h)

pub not_bad : (r : Run) → (r.line ≡ 0 → ⊥) → r.line ≤ line_most → bad_name r ≡ false
unfolding bad_name
not_bad r n h = rw (ne_eqb _ _ n, le-ltb _ _ h)

-- a name that is not bad has a line within its limits
pub good_line : (r : Run) → bad_name r ≡ false → (0 < r.line) × (r.line ≤ line_most)
unfolding bad_name
good_line r e = go (eqb r.line 0) refl (ltb line_most r.line) refl e
  where
    go : (a : Bool) → eqb r.line 0 ≡ a → (b : Bool) → ltb line_most r.line ≡ b → a || b ≡ false → (0 < r.line) × (r.line ≤ line_most)
    go true f b g h = absurd (let z : ◌≡◌ {A = ℕ} 0 1 = cc in omega arith)
    go false f true g h = absurd (let z : ◌≡◌ {A = ℕ} 0 1 = cc in omega arith)
    go false f false g h = let n : r.line ≡ 0 → ⊥ = eqb-false _ _ f in (omega arith, ltb-false _ _ g)

pub run_path : (p q : Run) → p.line ≡ q.line → p.trip ≡ q.trip → p ≡ q
run_path p q a b = λ i. record { line = a i; trip = b i }

pub same_yes : (p q : Run) → p.line ≡ q.line → p.trip ≡ q.trip → same_run p q ≡ true
unfolding same_run
same_yes p q a b =
    let x : eqb p.line q.line ≡ true = eq-eqb _ _ a in
    let y : eqb p.trip q.trip ≡ true = eq-eqb _ _ b in
    simp (x, y)

pub same_refl : (p : Run) → same_run p p ≡ true
same_refl p = same_yes p p refl refl

-- one run is one name: line and trip number together
pub same_eq : (p q : Run) → same_run p q ≡ true → p ≡ q
unfolding same_run
same_eq p q e = go (eqb p.line q.line) refl (eqb p.trip q.trip) refl e
  where
    go : (a : Bool) → eqb p.line q.line ≡ a → (b : Bool) → eqb p.trip q.trip ≡ b → a && b ≡ true → p ≡ q
    go true f true g h = run_path p q (eqb-true _ _ f) (eqb-true _ _ g)
    go true f false g h = absurd (let z : ◌≡◌ {A = ℕ} 0 1 = cc in omega arith)
    go false f b g h = absurd (let z : ◌≡◌ {A = ℕ} 0 1 = cc in omega arith)

pub same_ne : (p q : Run) → same_run p q ≡ false → p ≡ q → ⊥
same_ne p q e f = let t : same_run p q ≡ true = rw f (same_refl q) in let z : ◌≡◌ {A = ℕ} 0 1 = cc in omega arith

-- two names that are not equal are not the same run
pub same_no : (p q : Run) → (p ≡ q → ⊥) → same_run p q ≡ false
same_no p q d = go (same_run p q) refl
  where
    go : (a : Bool) → same_run p q ≡ a → same_run p q ≡ false
    go true e = absurd (d (same_eq p q e))
    go false e = e

-- what `==` compares is what makes two names the same run
pub same_by : (p q : Run) → eqb p.line q.line && eqb p.trip q.trip ≡ same_run p q
unfolding same_run
same_by p q = refl
