-- Demands 2 and 3 proved, over any calls from the empty day. Assumes nothing.
use Prim.Native.Nat.{ℕ, ◌+◌, ◌-◌, ◌*◌, ◌≤◌}
use mathlib.Core.Bool.{false}
use mathlib.Core.Path.{◌≡◌, sym, ap, ◌∙◌}
use native.Mathlib.Nat.{add-zero}
use native.Mathlib.Omega.{arith}
use Rattle.terms.specs.declared.run.Run.{Run}
use Rattle.meaning.specs.Day.{Day, empty_day}
use Rattle.meaning.proofs.Kept.{empty_right, empty_sum}
use Rattle.demands.specs.History.{after, asked, accepted, reversals, calls, changes}
use Rattle.demands.specs.Demands.{Yes, Count, Short, Demand2, Apart, Demand3, NeverDense}
use Rattle.demands.proofs.Asking.{asked_between}
use Rattle.demands.proofs.Histories.{final, after_right, related_from, count_from, apart_from, demand_3_from}
use Rattle.demands.proofs.Dense.{never_dense_from}
use Rattle.demands.proofs.Choices.{disagree}

-- nothing is linked in the empty day
empty_asked : (n C D : ℕ) (p q : Run) → asked D (empty_day n C) p q ≡ 0
empty_asked n C D p q = asked_between n D (empty_day n C) (empty_right n C D) p q ∙ empty_sum _ n

pub yes_exactly : Yes
yes_exactly n C D cs p q = related_from n D p q (empty_day n C) (empty_right n C D) false (sym (empty_asked n C D p q)) cs

pub count_exactly : Count
count_exactly n C D cs p q = omega (arith, count_from n D p q (empty_day n C) (empty_right n C D) cs, empty_asked n C D p q)

pub short_always : Short
short_always n C D cs v = (after_right n D (empty_day n C) (empty_right n C D) cs).short v

pub demand_2 : Demand2
demand_2 = (yes_exactly, count_exactly, short_always)

pub apart : Apart
apart n C D cs c p q e = apart_from n D p q (after D (empty_day n C) cs) (after_right n D (empty_day n C) (empty_right n C D) cs) c e

pub demand_3 : Demand3
demand_3 n C D d half C₀ h g =
    let s : Day = empty_day n C in
    let z : disagree C₀ s ≡ 0 = empty_sum _ n in
    let k : ℕ = accepted D s (calls h) in
    let r : ℕ = changes D s C₀ h in
    let b : reversals D s (calls h) * (D + 1 - 2 * d) + disagree (final C₀ h) (after D s (calls h)) * (D + 1) ≤ (k + r + disagree C₀ s) * (D + 1)
    = demand_3_from n D d half s (empty_right n C D) C₀ h g in
    omega (arith, ap (λ (x : ℕ). (k + r + x) * (D + 1)) z, ap (λ (x : ℕ). x * (D + 1)) (add-zero (k + r)))

pub never_dense : NeverDense
never_dense n C D cs p q X g = never_dense_from n D (after D (empty_day n C) cs) (after_right n D (empty_day n C) (empty_right n C D) cs) p q X g
