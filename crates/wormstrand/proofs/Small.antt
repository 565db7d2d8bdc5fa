-- Every number that a call returns is small: it leaves the refusal's half of a packed answer alone. Assumes nothing.
use Prim.Native.Nat.{ℕ, ◌-◌, ◌*◌, ◌/◌, ◌^◌, ◌<◌}
use mathlib.Core.Bool.{true, not}
use mathlib.Core.List.{List}
use Rattle.std.specs.Prelude.{None}
use mathlib.Core.Path.{◌≡◌}
use native.Mathlib.Decide.{dec_lt}
use native.Mathlib.Nat.{div-le_self, mul-le-mul}
use native.Mathlib.Omega.{arith}
use lib.Dec.{ltb}
use lib.ListN.{length}
use borrow.Author.Tests.{not-false}
use Rattle.terms.specs.Refusal.{value_of}
use Rattle.terms.specs.Size.{InRoom, store_words}
use Rattle.terms.specs.declared.run.Run.{Run}
use Rattle.terms.specs.Refusal.{Answer}
use Rattle.std.specs.Prelude.{Ok, Err}
use Rattle.terms.specs.declared.refusal.Refusal.TheVariants.{Sizes, Unsound}
use Rattle.meaning.specs.Day.{day_of}
use Rattle.meaning.specs.Soundness.{Sound, Sized}
use Rattle.meaning.specs.Calls.{Call, open_run, close_run, link, unlink, ask, reading, tests, first_refusal, rising, in_set, inside, act, call}
use Rattle.meaning.specs.Promise.{Promise, EmptyPromise, Lent, LinkPromise}
use Rattle.meaning.proofs.Finding.{Failed, all_failed, either_false}
use Rattle.meaning.proofs.Kept.{call_case}
use Rattle.meaning.proofs.Sums.{sum-le}
use Rattle.meaning.proofs.Threaded.{sound_threaded}
use Rattle.meaning.proofs.Counts.{links_count}
use Rattle.meaning.proofs.Sets.{in_once}
use Rattle.stream.proofs.Carrying.{number_small}
use Rattle.wormstrand.specs.Pack.{Small}

-- an answer is small where one that is the same is
of_small : (a b : Answer) → a ≡ b → Small b → Small a
of_small a b e h = rw e h

module _ (n C D : ℕ) (w : List ℕ) (s : Sound n C D w) where
  -- a rising set has each place once, so no link counts twice, and there are at most C links
  reading_small : (ps : List ℕ) → rising ps ≡ true → inside (day_of n C w) ps / (length ps - 1) < 2 ^ 32
  reading_small ps r =
      omega (
        arith,
        links_count n C w (sound_threaded n C D w s),
        s.sized.room.cells_at_most,
        div-le_self (inside (day_of n C w) ps) (length ps - 1),
        sum-le (λ v c. in_set ps v * in_set ps c.target) (λ v c. 1) (day_of n C w).lists (λ v c. mul-le-mul (in_once v ps r) (in_once c.target ps r)),
      )

  act_reading : (ps : List ℕ) → first_refusal (tests (day_of n C w) (reading ps)) ≡ None → Small (act D (day_of n C w) (reading ps)).answer
  act_reading ps e =
      let f : Failed (tests (day_of n C w) (reading ps)) = all_failed (tests (day_of n C w) (reading ps)) e in
      reading_small ps (not-false (rising ps) (either_false (ltb (length ps) 2) (not (rising ps)) f.0).1)

  pub call_small : (q : Call) → Small (call D (day_of n C w) q).answer
  call_small (open_run p) = number_small n C D w s (open_run p) tt
  call_small (close_run p) = number_small n C D w s (close_run p) tt
  call_small (link p q) = number_small n C D w s (link p q) tt
  call_small (unlink p q) = number_small n C D w s (unlink p q) tt
  call_small (ask p q) = number_small n C D w s (ask p q) tt
  call_small (reading ps) = call_case (λ o. Small o.answer) D (day_of n C w) (reading ps) (λ why e. omega arith) (act_reading ps)

-- ---- what a call promises has a small number; where it is not small no case of the promise is left

pub empty_small : (n C : ℕ) (w : List ℕ) (a : Answer) (w' : List ℕ) → EmptyPromise n C w a w' → Small a
empty_small n C w a w' p = elim (dec_lt (value_of a) (2 ^ 32)) [
  | yes h ↦ h
  | no h ↦
      let outside : InRoom n C × (length w ≡ store_words n C) → ⊥ = λ z. h (of_small a (Ok 0) (p.done z.0 z.1).0 (omega arith)) in
      absurd (h (of_small a (Err Sizes) (p.sizes outside).0 (omega arith)))
]

pub promise_small : (n C D : ℕ) (q : Call) (w : List ℕ) (a : Answer) (w' : List ℕ) → Promise n C D q w a w' → Small a
promise_small n C D q w a w' p = elim (dec_lt (value_of a) (2 ^ 32)) [
  | yes h ↦ h
  | no h ↦
      let unsound : Sound n C D w → ⊥ = λ s. h (of_small a (call D (day_of n C w) q).answer (p.sound s).answer (call_small n C D w s q)) in
      let unsized : Sized n C D w → ⊥ = λ z. h (of_small a (Err Unsound) (p.unsound z unsound).0 (omega arith)) in
      absurd (h (of_small a (Err Sizes) (p.sizes unsized).0 (omega arith)))
]

pub link_promise_small : (n C D : ℕ) (p q : Run) (w spare waiting : List ℕ) (a : Answer) (w' spare' waiting' : List ℕ)
    → LinkPromise n C D p q w spare waiting a w' spare' waiting' → Small a
link_promise_small n C D p q w spare waiting a w' spare' waiting' k = elim (dec_lt (value_of a) (2 ^ 32)) [
  | yes h ↦ h
  | no h ↦
      let unsound : Lent n C D w spare waiting → Sound n C D w → ⊥ =
      λ l s. h (of_small a (call D (day_of n C w) (link p q)).answer (k.sound l s).carries.answer (call_small n C D w s (link p q))) in
      let unlent : Lent n C D w spare waiting → ⊥ = λ l. h (of_small a (Err Unsound) (k.unsound l (unsound l)).0 (omega arith)) in
      absurd (h (of_small a (Err Sizes) (k.sizes unlent).0 (omega arith)))
]
