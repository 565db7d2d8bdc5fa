-- Strictly rising sets of places: when a set rises, how many places it can have, and what a pass over it marks. Assumes nothing.
use Prim.Native.Nat.{ℕ, zero, suc, ◌+◌, ◌≤◌, ◌<◌}
use mathlib.Core.Bool.{Bool, true, false}
use mathlib.Core.List.{List, [], ◌∷◌}
use mathlib.Core.Path.{◌≡◌, refl, sym, ap}
use native.Mathlib.Decide.{ℕ_discrete}
use native.Mathlib.Numerals.{add-one}
use native.Mathlib.Omega.{arith}
use lib.Dec.{ltb}
use lib.ListN.{length, get_or, set, drop}
use lib.Seq.{drop-cons, get_or-set_same, get_or-set_other}
use borrow.Author.Tests.{lt-ltb, le-ltb}
use Rattle.std.specs.Bool.{MatchBool}
use Rattle.std.specs.List.Sorted.{IsStrictlyIncreasing}
use Rattle.meaning.specs.Cells.{same}
use Rattle.meaning.specs.Calls.{rising, in_set}
use Rattle.store.specs.Set.{AllBelow}
use Rattle.meaning.proofs.Sets.{and_false, in_once, rising_tail}
use Rattle.meaning.proofs.Same.{same_eq, same_ne}

-- ---- when a set rises

-- some place is not below the next
abbrev pub Falls : List ℕ → Type 0
Falls ps = (k : ℕ) × (k + 1 < length ps) × (get_or ps (k + 1) 0 ≤ get_or ps k 0)

pub rising_falls : (ps : List ℕ) (k : ℕ) → suc k < length ps → get_or ps (suc k) 0 ≤ get_or ps k 0 → rising ps ≡ false
rising_falls [] k h e = absurd (omega arith)
rising_falls (p ∷ []) k h e = absurd (omega arith)
rising_falls (p ∷ q ∷ ps) zero h e = rw (rising, le-ltb p q e)
rising_falls (p ∷ q ∷ ps) (suc k) h e = and_false (ltb p q) (rising (q ∷ ps)) (rising_falls (q ∷ ps) k (omega arith) e)

pub rising_rises : (ps : List ℕ) → ((k : ℕ) → suc k < length ps → get_or ps k 0 < get_or ps (suc k) 0) → rising ps ≡ true
rising_rises [] f = refl
rising_rises (p ∷ []) f = refl
rising_rises (p ∷ q ∷ ps) f = rw (rising, lt-ltb p q (f 0 (omega arith))) (rising_rises (q ∷ ps) (λ k h. f (suc k) (omega arith)))

pub rising_told : (ps : List ℕ) (b : Bool) → MatchBool b (IsStrictlyIncreasing ps) (Falls ps) → b ≡ rising ps
rising_told ps true t = sym (rising_rises ps (λ k h. rw (← add-one k) (t k (omega arith))))
rising_told ps false t = sym (rising_falls ps t.0 (omega (arith, t.1)) (rw (← add-one t.0) t.2))

-- ---- a rising set has few places

-- no more than there are numbers below their bound
few_from : (m p : ℕ) (ps : List ℕ) → rising (p ∷ ps) ≡ true → AllBelow m (p ∷ ps) → length (p ∷ ps) + p ≤ m
few_from m p [] e b = omega (arith, b 0 (omega arith))
few_from m p (q ∷ ps) e b =
    let t : (p < q) × (rising (q ∷ ps) ≡ true) = rising_tail p q ps e in omega (arith, few_from m q ps t.1 (λ k h. b (suc k) (omega arith)))

pub few : (m : ℕ) (ps : List ℕ) → rising ps ≡ true → AllBelow m ps → length ps ≤ m
few m [] e b = omega arith
few m (p ∷ ps) e b = omega (arith, few_from m p ps e b)

-- ---- marking: each of the first i places has its mark, and those to come have theirs yet to get

pub record Marking (ps marks : List ℕ) (i : ℕ) : Type 0 where
  pub mark : (v : ℕ) → get_or marks v 0 + in_set (drop i ps) v ≡ in_set ps v

pub marking_more : (ps marks : List ℕ) (i : ℕ) → rising ps ≡ true → Marking ps marks i → i < length ps → get_or ps i 0 < length marks
    → Marking ps (set marks (get_or ps i 0) 1) (i + 1)
marking_more ps marks i r k h b =
    let p : ℕ = get_or ps i 0 in
    let s : (v : ℕ) → in_set (drop i ps) v ≡ same p v + in_set (drop (suc i) ps) v = λ v. ap (λ l. in_set l v) (drop-cons ps i 0 h) in
    record {
      mark = λ v. rw (add-one i) (elim (ℕ_discrete v p) [
        | yes e ↦ rw (e, get_or-set_same marks p 1 0 b) (omega (arith, k.mark p, s p, in_once p ps r, same_eq p p refl))
        | no e ↦ rw (get_or-set_other marks p v 1 0 e) (omega (arith, k.mark v, s v, same_ne p v (λ z. e (sym z))))
      ]);
    }
