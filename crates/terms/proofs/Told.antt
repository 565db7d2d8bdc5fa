-- Laws of Tells: what a branch on a test's answer gives, and which answers are tests. Assumes nothing.
use Prim.Native.Nat.{ℕ}
use mathlib.Core.Bool.{Bool, true, false, not}
use mathlib.Core.Path.{◌≡◌, refl, subst}
use lib.Dec.{eqb}
use borrow.Author.Tests.{eqb-true, eqb-false, not-true, not-false}
use Rattle.terms.specs.Tells.{Tells}

pub yes_told : {P : Type 0} (b : Bool) → b ≡ true → Tells b P → P
yes_told {P} b e t = subst (λ (x : Bool). Tells x P) e t

pub no_told : {P : Type 0} (b : Bool) → b ≡ false → Tells b P → P → ⊥
no_told {P} b e t = subst (λ (x : Bool). Tells x P) e t

-- after `if !f(..) { return false; }`
pub passed : {P : Type 0} (b : Bool) → not b ≡ false → Tells b P → P
passed b e t = yes_told b (not-false b e) t

pub failed : {P : Type 0} (b : Bool) → not b ≡ true → Tells b P → P → ⊥
failed b e t = no_told b (not-true b e) t

-- a test of one statement is a test of any that says the same
pub tells_iff : {P Q : Type 0} → (P → Q) → (Q → P) → (b : Bool) → Tells b P → Tells b Q
tells_iff f g true t = f t
tells_iff f g false t = λ q. t (g q)

-- the opposite answer is a test of any statement that says the opposite
pub not_told : {P Q : Type 0} → ((P → ⊥) → Q) → (Q → P → ⊥) → (b : Bool) → Tells b P → Tells (not b) Q
not_told f g true t = λ q. g q t
not_told f g false t = f t

-- a comparison is a test of any statement that says the two are equal, or that they are not
pub eqb_told : {Q : Type 0} (a b : ℕ) → (a ≡ b → Q) → (Q → a ≡ b) → Tells (eqb a b) Q
eqb_told {Q} a b f g = go (eqb a b) refl
  where
    go : (t : Bool) → eqb a b ≡ t → Tells t Q
    go true e = f (eqb-true a b e)
    go false e = λ q. eqb-false a b e (g q)

pub neb_told : {Q : Type 0} (a b : ℕ) → ((a ≡ b → ⊥) → Q) → (Q → a ≡ b → ⊥) → Tells (not (eqb a b)) Q
neb_told a b f g = not_told f g (eqb a b) (eqb_told a b (λ e. e) (λ e. e))
