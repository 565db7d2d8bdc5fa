-- What `all` answers over a range of numbers. Assumes nothing.
use Prim.Native.Nat.{ℕ, ◌<◌}
use mathlib.Core.Bool.{Bool, true, false}
use mathlib.Core.List.{List}
use mathlib.Core.Path.{◌≡◌, ◌∙◌}
use native.Mathlib.Omega.{arith}
use denote.Param.Members.{Mut}
use lib.ListN.{length, get_or}
use Rattle.std.specs.declared.ops.Range.{Range}
use Rattle.std.specs.Prelude.{Option}
use Rattle.std.specs.Bool.{MatchBool}
use Rattle.std.specs.Fn.{Called}
use Rattle.std.specs.Iterator.{YieldsThen}
use Rattle.std.specs.List.{range_with_len, FoldsTo, AllWithin, HoldsAt}
use Rattle.std.specs.Option.{MatchOption}
use Rattle.std.proofs.iter.Yields.{nat_range_steps}
use Rattle.std.proofs.lemmas.Iterator.{YieldsList-from_range, cases_from_all}
use Rattle.std.proofs.lemmas.List.FromFn.{length-range_with_len, get_or-range_with_len}
use Rattle.terms.specs.Tells.{Tells}

-- `all` over a range, where the closure is a test of P: a test of P for every number of the range
module _ {F : Type 0} {g : Mut F (ℕ × Unit {0}) Bool} (n : ℕ) (s u : Range ℕ) (f : F) (r : Bool) (P : ℕ → Type 0) where
  pub all_told : s ≡ record { start = 0; end = n } →
      (xs : List ℕ) × (o : Option ℕ) × (j : F) × YieldsThen nat_range_steps s xs o u
      × FoldsTo (λ p x q. Called g p (x, tt) true q) f xs j
      × MatchOption o (r ≡ true) (λ x. (r ≡ false) × ((h : F) × Called g j (x, tt) false h)) →
      ((x : ℕ) (q : F) → Called g f (x, tt) true q → (q ≡ f) × P x) → ((x : ℕ) (q : F) → Called g f (x, tt) false q → P x → ⊥) →
      Tells r ((v : ℕ) → v < n → P v)
  all_told e ran p q = told r (cases_from_all u f r P (λ x. P x → ⊥) ran (YieldsList-from_range 0 n n e (omega arith)) p q)
    where
      ns : List ℕ
      ns = range_with_len 0 n

      nth : (k : ℕ) → k < n → get_or ns k 0 ≡ k
      nth k h = get_or-range_with_len 0 n k 0 h ∙ omega arith

      long : length ns ≡ n
      long = length-range_with_len 0 n

      told : (b : Bool) → MatchBool b (AllWithin P ns 0 (length ns)) ((k : ℕ) × (k < length ns) × HoldsAt (λ x. P x → ⊥) ns k) →
          Tells b ((v : ℕ) → v < n → P v)
      told true h = λ v i. rw (nth v i) at (h v 0 (omega arith) (rw long i))
      told false h = λ p. let i : h.0 < n = rw long at h.1 in (rw (nth h.0 i) at (h.2 0)) (p h.0 i)
