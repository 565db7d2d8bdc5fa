-- What is found: a run's place by its name, a link by its two places, and what the tests of a call say where none holds.
-- Assumes nothing.
use Prim.Native.Nat.{ℕ, zero, suc, ◌+◌, ◌≤◌, ◌<◌, min}
use mathlib.Core.Bool.{Bool, true, false, not, ◌||◌}
use mathlib.Core.List.{List, [], ◌∷◌}
use mathlib.Core.Logic.{◌⊎◌, inl, inr}
use Rattle.std.specs.Prelude.{Option, None, Some}
use mathlib.Core.Path.{◌≡◌, refl, sym, ap, ◌∙◌}
use native.Mathlib.Omega.{arith}
use lib.Dec.{eqb, ltb, leb-suc-suc}
use lib.ListN.{length, get_or, get_or-eq_default}
use borrow.Author.Tests.{eqb-true, eqb-false, ltb-true, ltb-false, not-false, lt-ltb}
use Rattle.std.proofs.lemmas.Bool.{false_from_ne_true}
pub use Rattle.std.proofs.lemmas.Bool.{or_parts as either_false}
use Rattle.terms.specs.Run.{no_run, bad_name, same_run}
use Rattle.terms.specs.declared.run.Run.{Run}
use Rattle.terms.specs.declared.refusal.Refusal.{Refusal}
use Rattle.terms.proofs.Names.{good_line, same_refl, same_eq as run-eq, same_ne as run-ne}
use Rattle.meaning.specs.Cells.{Cell, list, without, seek, holds, row_sum, sum, same}
use Rattle.meaning.specs.Day.{Day, run_of, place_of, is_open, lowest}
use Rattle.meaning.specs.Calls.{Tests, pair_tests, first_refusal, linked, yes1}
use Rattle.meaning.proofs.Same.{same_eq, same_ne}
use Rattle.meaning.proofs.Lists.{first_passes, first_before, first_is}
use Rattle.meaning.proofs.Right.{Right, pair}
use Rattle.meaning.proofs.Pairs.{toward, pair_rows}

-- ---- links
pub holds_toward : (v : ℕ) (l : List Cell) → yes1 (holds v l) ≡ min 1 (toward v l)
holds_toward v [] = refl
holds_toward v (c ∷ l) = go (holds_toward v l) (eqb c.target v) refl
  where
    go : yes1 (holds v l) ≡ min 1 (toward v l) → (b : Bool) → eqb c.target v ≡ b
        → yes1 (ltb (elim b [ true ↦ 0 | false ↦ suc (seek v l) ]) (suc (length l))) ≡ min 1 (same v c.target + toward v l)
    go h true e = rw (lt-ltb 0 (suc (length l)) (omega arith)) (omega (arith, same_eq v c.target (sym (eqb-true c.target v e))))
    go h false e = rw (leb-suc-suc) (omega (arith, same_ne v c.target (λ q. eqb-false c.target v e (sym q))))

pub yes_either : (a b : Bool) → yes1 (a || b) ≡ min 1 (yes1 a + yes1 b)
yes_either true b = omega arith
yes_either false true = refl
yes_either false false = refl

-- linked says whether a link of the two places stands
pub linked_pair : (s : Day) (u v : ℕ) → yes1 (linked s u v) ≡ min 1 (sum (pair u v) s.lists)
linked_pair s u v =
    omega (
      arith,
      yes_either (holds v (list s.lists u)) (holds u (list s.lists v)),
      holds_toward v (list s.lists u),
      holds_toward u (list s.lists v),
      pair_rows u v s.lists,
    )

-- the cell that is found is a link to the place, and taking it out lowers every sum by what it counts for
abbrev pub found : ℕ → List Cell → Cell
found v l = get_or l (seek v l) (record { index = 0; target = 0 })

pub found_target : (v : ℕ) (l : List Cell) → holds v l ≡ true → (found v l).target ≡ v
found_target v l h = eqb-true _ _ (first_passes (λ c. eqb c.target v) (record { index = 0; target = 0 }) l (ltb-true _ _ h))

pub without_sum : (g : Cell → ℕ) (d : Cell) (k : ℕ) (l : List Cell) → k < length l → row_sum g (without k l) + g (get_or l k d) ≡ row_sum g l
without_sum g d k [] h = absurd (omega arith)
without_sum g d zero (c ∷ l) h = omega arith
without_sum g d (suc k) (c ∷ l) h = omega (arith, without_sum g d k l (omega arith))

pub without_le : (g : Cell → ℕ) (k : ℕ) (l : List Cell) → row_sum g (without k l) ≤ row_sum g l
without_le g k [] = omega arith
without_le g zero (c ∷ l) = omega arith
without_le g (suc k) (c ∷ l) = omega (arith, without_le g k l)

-- ---- runs
pub place_name : (s : Day) (p : Run) → place_of s p < length s.runs → run_of s (place_of s p) ≡ p
place_name s p h = sym (run-eq p (run_of s (place_of s p)) (first_passes (same_run p) no_run s.runs h))

-- a run that is not open is at no place
pub absent : (s : Day) (p : Run) → 0 < p.line → is_open s p ≡ false → (v : ℕ) → run_of s v ≡ p → ⊥
absent s p l o v e = go (ltb v (length s.runs)) refl
  where
    go : (t : Bool) → ltb v (length s.runs) ≡ t → ⊥
    go true h = run-ne p (run_of s v) (first_before (same_run p) no_run s.runs v (omega (arith, ltb-true v (length s.runs) h, ltb-false (place_of s p) (length s.runs) o))) (sym e)
    go false h =
        let z : run_of s v ≡ no_run = get_or-eq_default s.runs no_run {n = v} (ltb-false _ _ h) in
        omega (arith, ap (λ (r : Run). r.line) (sym z ∙ e))

-- two names are one run, or not
pub run_same : (p q : Run) → p ≡ q → same_run p q ≡ true
run_same p q e = rw e (same_refl q)

pub run_other : (p q : Run) → (p ≡ q → ⊥) → same_run p q ≡ false
run_other p q n = false_from_ne_true (same_run p q) (λ e. n (run-eq p q e))

pub run_or : (p q : Run) → (p ≡ q) ⊎ (p ≡ q → ⊥)
run_or p q = go (same_run p q) refl
  where
    go : (t : Bool) → same_run p q ≡ t → (p ≡ q) ⊎ (p ≡ q → ⊥)
    go true e = inl (run-eq p q e)
    go false e = inr (run-ne p q e)

-- in a right day an open run is at one place, and is found there
pub place_is : (n D : ℕ) (s : Day) → Right n D s → (u : ℕ) (p : Run) → u < n → 0 < p.line → run_of s u ≡ p → place_of s p ≡ u
place_is n D s ok u p h l e = first_is (same_run p) no_run s.runs u (omega (arith, ok.places)) (run_same p (run_of s u) (sym e))
    (λ i q. run_other p (run_of s i) (λ f. omega (arith, ok.apart i u (rw (← f) l) (sym f ∙ sym e))))

-- the lowest free place has no run
pub lowest_free : (s : Day) → lowest s < length s.runs → (run_of s (lowest s)).line ≡ 0
lowest_free s h = eqb-true _ _ (first_passes (λ r. eqb r.line 0) no_run s.runs h)

-- ---- tests
abbrev pub Failed : Tests → Type 0
Failed [] = Unit {0}
Failed (t ∷ ts) = (t.0 ≡ false) × Failed ts

pub all_failed : (ts : Tests) → first_refusal ts ≡ None → Failed ts
all_failed [] e = tt
all_failed (t ∷ ts) e = go t.0 refl e (all_failed ts)
  where
    go : (b : Bool) → t.0 ≡ b → ◌≡◌ {A = Option Refusal} (elim b [ true ↦ Some t.1 | false ↦ first_refusal ts ]) None → (first_refusal ts ≡ None → Failed ts) → Failed (t ∷ ts)
    go true q z f = absurd (let z' : ◌≡◌ {A = ℕ} 0 1 = cc in omega arith)
    go false q z f = (q, f z)

pub either_true : (a b : Bool) → a || b ≡ true → a ≡ false → b ≡ true
either_true true b e f = absurd (let z : ◌≡◌ {A = ℕ} 0 1 = cc in omega arith)
either_true false b e f = e

-- two named runs, when none of the tests 3, 4, 5 holds: they are open, at two places
pub record Both (n : ℕ) (s : Day) (p q : Run) : Type 0 where
  pub place_p : place_of s p < n
  pub place_q : place_of s q < n
  pub run_p : run_of s (place_of s p) ≡ p
  pub run_q : run_of s (place_of s q) ≡ q
  pub line_p : 0 < p.line
  pub line_q : 0 < q.line
  pub other : p ≡ q → ⊥
  pub apart : place_of s p ≡ place_of s q → ⊥

pub both_named : (n : ℕ) (s : Day) → length s.runs ≡ n → (p q : Run) (ts : Tests) → first_refusal (pair_tests s p q ts) ≡ None → Both n s p q × Failed ts
both_named n s e p q ts f =
    let a : Failed (pair_tests s p q ts) = all_failed (pair_tests s p q ts) f in
    let good : (bad_name p ≡ false) × (bad_name q ≡ false) = either_false (bad_name p) (bad_name q) a.0 in
    let here : (not (is_open s p) ≡ false) × (not (is_open s q) ≡ false) = either_false (not (is_open s p)) (not (is_open s q)) a.1.1.0 in
    let hp : place_of s p < length s.runs = ltb-true _ _ (not-false _ here.0) in
    let hq : place_of s q < length s.runs = ltb-true _ _ (not-false _ here.1) in
    let o : p ≡ q → ⊥ = run-ne p q a.1.0 in (
      record {
        place_p = omega arith;
        place_q = omega arith;
        run_p = place_name s p hp;
        run_q = place_name s q hq;
        line_p = (good_line p good.0).0;
        line_q = (good_line q good.1).0;
        other = o;
        apart = λ z. o (sym (place_name s p hp) ∙ ap (run_of s) z ∙ place_name s q hq);
      },
      a.1.1.1,
    )
