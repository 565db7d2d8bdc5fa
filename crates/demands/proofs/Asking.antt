-- Asking is right: in a right day it says 1 where a link stands between the two runs, and 0 where none does or the question is
-- refused. Assumes nothing.
use Prim.Native.Nat.{ℕ, ◌+◌, ◌*◌, ◌≤◌, ◌<◌}
use mathlib.Core.Bool.{Bool, true, false, ◌||◌, ◌&&◌}
use mathlib.Core.List.{[]}
use mathlib.Core.Logic.{⊎_elim}
use Rattle.std.specs.Prelude.{None, Some}
use mathlib.Core.Path.{◌≡◌, refl, sym, ap, subst₂, ◌∙◌}
use native.Mathlib.Decide.{ℕ_discrete}
use native.Mathlib.Omega.{arith}
use lib.ListN.{length}
use borrow.Author.Tests.{lt-ltb}
use Rattle.terms.specs.Run.{bad_name, same_run}
use Rattle.terms.specs.Refusal.{value_of}
use Rattle.terms.specs.declared.run.Run.{Run}
use Rattle.terms.specs.declared.refusal.Refusal.{Refusal}
use Rattle.terms.proofs.Names.{not_bad}
use Rattle.meaning.specs.Cells.{Cell, sum, same}
use Rattle.meaning.specs.Day.{Day, run_of, place_of, is_open}
use Rattle.meaning.specs.Calls.{ask, tests, first_refusal, yes1}
use Rattle.meaning.proofs.Same.{same_eq, same_ne}
use Rattle.meaning.proofs.Right.{Right, pair}
use Rattle.meaning.proofs.Sums.{Has, sum_ext, sum-le_in, sum-zero}
use Rattle.meaning.proofs.Finding.{Both, both_named, Failed, run_same, run_other, place_is}
use Rattle.meaning.proofs.Kept.{linked_once, ends_open, call_case}
use Rattle.demands.specs.History.{same_pair, between, asked}
use Rattle.demands.proofs.Choices.{by, pair_is}

-- two open places have one name where they are one place
yes_place : (n D : ℕ) (s : Day) → Right n D s → (u a : ℕ) → 0 < (run_of s u).line → yes1 (same_run (run_of s u) (run_of s a)) ≡ same u a
yes_place n D s ok u a h = elim (ℕ_discrete u a) [
  | yes e ↦ ap yes1 (run_same (run_of s u) (run_of s a) (ap (run_of s) e)) ∙ sym (same_eq u a e)
  | no m ↦ ap yes1 (run_other (run_of s u) (run_of s a) (λ e. m (ok.apart u a h e))) ∙ sym (same_ne u a m)
]

-- one way round or the other, but not both
yes_ways : (a b c d : Bool) → yes1 a + yes1 d ≤ 1 → yes1 ((a && b) || (c && d)) ≡ yes1 a * yes1 b + yes1 c * yes1 d
yes_ways true b c true h = absurd (omega arith)
yes_ways true true true false h = refl
yes_ways true true false false h = refl
yes_ways true false true false h = refl
yes_ways true false false false h = refl
yes_ways false b true true h = omega arith
yes_ways false b true false h = omega arith
yes_ways false b false true h = omega arith
yes_ways false b false false h = omega arith

-- the links between two open runs are those between their places
pub between_places : (n D : ℕ) (s : Day) → Right n D s → (u v : ℕ) → 0 < (run_of s u).line → 0 < (run_of s v).line → (u ≡ v → ⊥)
    → between (run_of s u) (run_of s v) s ≡ sum (pair u v) s.lists
unfolding same_pair
between_places n D s ok u v hu hv m = sum_ext _ (pair u v) s.lists each_link
  where
    not_both : (a : ℕ) → same u a + same v a ≤ 1
    not_both a = elim (ℕ_discrete u a) [
      | yes e ↦ omega (arith, same_eq u a e, same_ne v a (λ f. m (e ∙ sym f)))
      | no k ↦ elim (ℕ_discrete v a) [
        | yes f ↦ omega (arith, same_ne u a k, same_eq v a f)
        | no f ↦ omega (arith, same_ne u a k, same_ne v a f)
      ]
    ]

    each_link : (a : ℕ) (c : Cell) → yes1 (same_pair (run_of s u) (run_of s v) (run_of s a) (run_of s c.target)) ≡ pair u v a c
    each_link a c =
        let pa : yes1 (same_run (run_of s u) (run_of s a)) ≡ same u a = yes_place n D s ok u a hu in
        let qt : yes1 (same_run (run_of s v) (run_of s c.target)) ≡ same v c.target = yes_place n D s ok v c.target hv in
        let pt : yes1 (same_run (run_of s u) (run_of s c.target)) ≡ same u c.target = yes_place n D s ok u c.target hu in
        let qa : yes1 (same_run (run_of s v) (run_of s a)) ≡ same v a = yes_place n D s ok v a hv in
        yes_ways (same_run (run_of s u) (run_of s a)) (same_run (run_of s v) (run_of s c.target)) (same_run (run_of s u) (run_of s c.target)) (same_run (run_of s v) (run_of s a)) (omega (arith, not_both a))
        ∙ rw (pa, qt, pt, qa)

-- a question about the two ends of a link is not refused
link_asked : (n D : ℕ) (s : Day) → Right n D s → (u v : ℕ) (p q : Run) → u < n → v < n → 0 < (run_of s u).line → 0 < (run_of s v).line → (u ≡ v → ⊥)
    → p ≡ run_of s u → q ≡ run_of s v → first_refusal (tests s (ask p q)) ≡ None
link_asked n D s ok u v p q hu hv lu lv m eu ev =
    let lp : 0 < p.line = rw eu lu in
    let lq : 0 < q.line = rw ev lv in
    let gp : bad_name p ≡ false = not_bad p (omega arith) (rw eu (ok.small u hu)) in
    let gq : bad_name q ≡ false = not_bad q (omega arith) (rw ev (ok.small v hv)) in
    let o : same_run p q ≡ false = run_other p q (λ e. m (ok.apart u v lu (sym eu ∙ e ∙ ev))) in
    let op : is_open s p ≡ true = lt-ltb (place_of s p) (length s.runs) (omega (arith, ok.places, place_is n D s ok u p hu lp (sym eu))) in
    let oq : is_open s q ≡ true = lt-ltb (place_of s q) (length s.runs) (omega (arith, ok.places, place_is n D s ok v q hv lq (sym ev))) in
    rw (gp, gq, o, op, oq)

-- where it is refused, no link stands
no_link : (n D : ℕ) (s : Day) → Right n D s → (p q : Run) (why : Refusal) → first_refusal (tests s (ask p q)) ≡ Some why → between p q s ≡ 0
no_link n D s ok p q why e =
    omega (arith, sum-le_in (by (λ x y. yes1 (same_pair p q x y)) s) (λ v c. 0) s.lists none_here, sum-zero (λ v c. 0) s.lists (λ v c. refl))
  where
    none_here : (v : ℕ) (c : Cell) → Has s.lists v c → yes1 (same_pair p q (run_of s v) (run_of s c.target)) ≤ 0
    none_here v c m = go (same_pair p q (run_of s v) (run_of s c.target)) refl
      where
        go : (b : Bool) → same_pair p q (run_of s v) (run_of s c.target) ≡ b → yes1 b ≤ 0
        go false f = omega arith
        go true f =
            let t : (v < n) × (c.target < n) × (0 < (run_of s v).line) × (0 < (run_of s c.target).line) × (v ≡ c.target → ⊥) = ends_open n D s ok v c m in
            let z : first_refusal (tests s (ask p q)) ≡ None = ⊎_elim
            (λ a. link_asked n D s ok v c.target p q t.0 t.1 t.2 t.3 t.4 a.0 a.1)
            (λ a. link_asked n D s ok c.target v p q t.1 t.0 t.3 t.2 (λ k. t.4 (sym k)) a.0 a.1)
            (pair_is p q (run_of s v) (run_of s c.target) f) in
            absurd (let y : ◌≡◌ {A = ℕ} 0 1 = cc in omega arith)

-- the number of links between the two runs is what asking says
pub asked_between : (n D : ℕ) (s : Day) → Right n D s → (p q : Run) → asked D s p q ≡ between p q s
asked_between n D s ok p q =
    call_case (λ o. value_of o.answer ≡ between p q s) D s (ask p q) (λ why e. sym (no_link n D s ok p q why e))
    (λ e.
    let t : Both n s p q × Failed [] = both_named n s ok.places p q [] e in
    let b : Both n s p q = t.0 in
    let f : between p q s ≡ sum (pair (place_of s p) (place_of s q)) s.lists =
    subst₂ (λ x y. between x y s ≡ sum (pair (place_of s p) (place_of s q)) s.lists) b.run_p b.run_q
    (between_places n D s ok (place_of s p) (place_of s q) (rw b.run_p b.line_p) (rw b.run_q b.line_q) b.apart) in
    linked_once n D s ok (place_of s p) (place_of s q) b.apart ∙ sym f)
