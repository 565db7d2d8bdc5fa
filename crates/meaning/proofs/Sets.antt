-- Strictly rising sets of places: no place stands in one twice. Assumes nothing.
use Prim.Native.Nat.{ℕ, ◌≤◌, ◌<◌}
use mathlib.Core.Bool.{true}
use mathlib.Core.List.{List, [], ◌∷◌}
use mathlib.Core.Path.{◌≡◌}
use native.Mathlib.Decide.{ℕ_discrete}
use native.Mathlib.Omega.{arith}
use lib.Dec.{ltb}
use borrow.Author.Tests.{ltb-true}
pub use Rattle.std.proofs.lemmas.Bool.{and_parts as and_true, and_right as and_false}
use Rattle.meaning.specs.Calls.{rising, in_set}
use Rattle.meaning.proofs.Same.{same_le, same_ne}

pub rising_tail : (p q : ℕ) (ps : List ℕ) → rising (p ∷ q ∷ ps) ≡ true → (p < q) × (rising (q ∷ ps) ≡ true)
rising_tail p q ps e = let a : (ltb p q ≡ true) × (rising (q ∷ ps) ≡ true) = and_true (ltb p q) (rising (q ∷ ps)) e in (ltb-true p q a.0, a.1)

-- a place below the first isn't in the set
below_first : (v q : ℕ) (ps : List ℕ) → rising (q ∷ ps) ≡ true → v < q → in_set (q ∷ ps) v ≡ 0
below_first v q [] e h = omega (arith, same_ne q v (λ z. omega arith))
below_first v q (r ∷ ps) e h =
    let t : (q < r) × (rising (r ∷ ps) ≡ true) = rising_tail q r ps e in omega (arith, same_ne q v (λ z. omega arith), below_first v r ps t.1 (omega arith))

pub in_once : (v : ℕ) (ps : List ℕ) → rising ps ≡ true → in_set ps v ≤ 1
in_once v [] e = omega arith
in_once v (p ∷ []) e = omega (arith, same_le p v)
in_once v (p ∷ q ∷ ps) e =
    let t : (p < q) × (rising (q ∷ ps) ≡ true) = rising_tail p q ps e in
    elim (ℕ_discrete p v) [
      | yes z ↦ omega (arith, same_le p v, below_first v q ps t.1 (omega arith))
      | no z ↦ omega (arith, same_ne p v z, in_once v (q ∷ ps) t.1)
    ]
