-- The mark of two numbers that are one: 1 where they are, else 0. Assumes nothing.
use Prim.Native.Nat.{ℕ, suc, ◌≤◌}
use mathlib.Core.Logic.{◌⊎◌, inl, inr}
use mathlib.Core.Path.{◌≡◌, refl, sym, ap, ◌∙◌}
use native.Mathlib.Decide.{ℕ_discrete}
use native.Mathlib.Omega.{arith}
use borrow.Author.Tests.{eq-eqb, ne_eqb}
use Rattle.meaning.specs.Cells.{same}

pub same_eq : (a b : ℕ) → a ≡ b → same a b ≡ 1
unfolding same
same_eq a b e = rw (same, eq-eqb a b e)

pub same_ne : (a b : ℕ) → (a ≡ b → ⊥) → same a b ≡ 0
unfolding same
same_ne a b n = rw (same, ne_eqb a b n)

pub same_le : (a b : ℕ) → same a b ≤ 1
same_le a b = elim (ℕ_discrete a b) [ yes e ↦ omega (arith, same_eq a b e) | no n ↦ omega (arith, same_ne a b n) ]

pub same_comm : (a b : ℕ) → same a b ≡ same b a
same_comm a b = elim (ℕ_discrete a b) [ yes e ↦ rw e | no n ↦ same_ne a b n ∙ sym (same_ne b a (λ e. n (sym e))) ]

pub same_suc : (a b : ℕ) → same (suc a) (suc b) ≡ same a b
same_suc a b = elim (ℕ_discrete a b) [
  | yes e ↦ same_eq (suc a) (suc b) (ap suc e) ∙ sym (same_eq a b e)
  | no n ↦ same_ne (suc a) (suc b) (λ e. n (omega arith)) ∙ sym (same_ne a b n)
]

-- the two cases, with what each gives
pub same_cases : (a b : ℕ) → ((a ≡ b) × (same a b ≡ 1)) ⊎ ((a ≡ b → ⊥) × (same a b ≡ 0))
same_cases a b = elim (ℕ_discrete a b) [ yes e ↦ inl (e, same_eq a b e) | no n ↦ inr (n, same_ne a b n) ]

pub same_self : (a : ℕ) → same a a ≡ 1
same_self a = same_eq a a refl
