-- Laws of a record's parts: the mark, the kind and a run in its bytes. Assumes nothing.
use Prim.Native.Nat.{ℕ, ◌≤◌}
use mathlib.Core.Bool.{Bool, true, false, ◌&&◌}
use mathlib.Core.List.{List, [], ◌∷◌}
use mathlib.Core.Path.{◌≡◌, refl}
use native.Mathlib.Omega.{arith}
use lib.Dec.{eqb}
use lib.ListN.{length, get_or, take}
use borrow.Author.Tests.{eq-eqb, ne_eqb, eqb-true}
use Rattle.std.specs.Prelude.{Ok, Err}
use Rattle.terms.specs.declared.refusal.Refusal.TheVariants.{WrongKind}
use Rattle.record.specs.Bytes.{mark, marked, kind_byte, kind_of}
use Rattle.record.specs.declared.Kind.{Kind}
use Rattle.record.specs.declared.Kind.TheVariants.{Open, Close, Link, Unlink, Ask}

-- the mark is there where the first two bytes are those of the mark
pub marked_yes : (s : List ℕ) → take 2 s ≡ mark → marked s ≡ true
unfolding marked
marked_yes [] e = absurd (let z : ◌≡◌ {A = ℕ} 0 1 = cc in omega arith)
marked_yes (a ∷ []) e = absurd (let z : ◌≡◌ {A = ℕ} 0 1 = cc in omega arith)
marked_yes (a ∷ b ∷ s) e = rw (eq-eqb a (get_or mark 0 0) cc, eq-eqb b (get_or mark 1 0) cc)

-- and nowhere else
pub marked_first : (s : List ℕ) → 2 ≤ length s → marked s ≡ true → take 2 s ≡ mark
unfolding marked
marked_first [] h e = absurd (omega arith)
marked_first (a ∷ []) h e = absurd (omega arith)
marked_first (a ∷ b ∷ s) h e = go (eqb a (get_or mark 0 0)) refl (eqb b (get_or mark 1 0)) refl e
  where
    go : (p : Bool) → eqb a (get_or mark 0 0) ≡ p → (q : Bool) → eqb b (get_or mark 1 0) ≡ q → p && q ≡ true → a ∷ b ∷ [] ≡ mark
    go true f true g _ = cc (eqb-true a (get_or mark 0 0) f, eqb-true b (get_or mark 1 0) g)
    go true f false g z = absurd (let z : ◌≡◌ {A = ℕ} 0 1 = cc in omega arith)
    go false f q g z = absurd (let z : ◌≡◌ {A = ℕ} 0 1 = cc in omega arith)

-- a kind's byte stands for the kind
pub known : (k : Kind) (b : ℕ) → b ≡ kind_byte k → kind_of b ≡ Ok k
unfolding kind_of
known Open b e = rw e
known Close b e = rw e
known Link b e = rw e
known Unlink b e = rw e
known Ask b e = rw e

-- a byte that is no kind's is refused with 12
pub unknown : (b : ℕ) → ((k : Kind) → b ≡ kind_byte k → ⊥) → kind_of b ≡ Err WrongKind
unfolding kind_of
unknown b n = rw (ne_eqb _ _ (n Open), ne_eqb _ _ (n Close), ne_eqb _ _ (n Link), ne_eqb _ _ (n Unlink), ne_eqb _ _ (n Ask))
