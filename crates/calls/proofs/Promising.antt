-- What the judge's answer makes of a call: refusal 1, refusal 2, or the call on a sound store. Assumes nothing.
use Prim.Native.Nat.{ℕ}
use mathlib.Core.List.{List}
use mathlib.Core.Logic.{inl, inr}
use mathlib.Core.Path.{◌≡◌, refl, sym, ap, ◌∙◌}
use lib.ListN.{length}
use Rattle.terms.specs.Size.{store_words}
use Rattle.terms.specs.Told.{RoomTold}
use Rattle.terms.proofs.Sizes.{room_within, room_outside}
use Rattle.terms.specs.declared.run.Run.{Run}
use Rattle.terms.specs.declared.size.Room.{Room}
use Rattle.terms.specs.declared.size.Sizes.{Sizes}
use Rattle.terms.specs.declared.refusal.Refusal.{Refusal}
use Rattle.terms.specs.Refusal.{Answer}
use Rattle.std.specs.Prelude.{Option, Some, None, Result, Ok, Err}
use Rattle.terms.specs.declared.refusal.Refusal.TheVariants as refusal
use Rattle.meaning.specs.Soundness.{Sized, Sound}
use Rattle.meaning.specs.Day.{empty_table}
use Rattle.meaning.specs.Calls.{Call}
use Rattle.meaning.specs.Promise.{Carries, Promise, EmptyPromise, Lent, LinkCarries, LinkPromise}
use Rattle.table.specs.Within.{Within}
use Rattle.judge.specs.Judging.{Says}
use Rattle.judge.proofs.Judgings.{judged_ok, judged_err, of_numbers}

-- a call that takes the store alone
module _ (n C D : ℕ) (q : Call) (w : List ℕ) (r : Result Sizes Refusal) (s : Says r n C D w) where
  pub promise_refused : (why : Refusal) → r ≡ Err why → Promise n C D q w (Err why) w
  promise_refused why e = elim (judged_err n C D w r s why e) [
    | inl h ↦ record { sizes = λ _. (ap Err h.0, refl); unsound = λ z _. absurd (h.1 z); sound = λ t. absurd (h.1 t.sized) }
    | inr h ↦ record { sizes = λ z. absurd (z h.1); unsound = λ _ _. (ap Err h.0, refl); sound = λ t. absurd (h.2 t) }
  ]

  pub promise_sound : (k : Sizes) → r ≡ Ok k → (a : Answer) (w' : List ℕ) → Carries k.room.n k.room.c k.limit.d q w a w' → Promise n C D q w a w'
  promise_sound k e a w' h =
      let t = (judged_ok n C D w r s k e).3 in
      record {
        sizes = λ z. absurd (z t.sized);
        unsound = λ _ u. absurd (u t);
        sound = λ _. of_numbers n C D w r s (λ m c d. Carries m c d q w a w') k e h;
      }

-- the lengths of the two further tables that link takes
module _ (n C D : ℕ) (w spare waiting : List ℕ) (a : length spare ≡ length w) (b : length waiting ≡ n) where
  pub sized_lent : Sized n C D w → Lent n C D w spare waiting
  sized_lent z = record { sized = z; spare_long = a ∙ z.long; waiting_long = b }

  pub sound_lent : (r : Result Sizes Refusal) → Says r n C D w → (k : Sizes) → r ≡ Ok k
      → Lent k.room.n k.room.c k.limit.d w spare waiting × Sound k.room.n k.room.c k.limit.d w
  sound_lent r s k e = let g = judged_ok n C D w r s k e in (rw (g.0, g.1, g.2) (sized_lent g.3.sized), rw (g.0, g.1, g.2) g.3)

module _ (n C D : ℕ) (p q : Run) (w spare waiting : List ℕ) where
  not_lent : (Lent n C D w spare waiting → ⊥) → LinkPromise n C D p q w spare waiting (Err refusal.Sizes) w spare waiting
  not_lent h = record { sizes = λ _. (refl, refl, refl, refl); unsound = λ l _. absurd (h l); sound = λ l _. absurd (h l) }

  pub link_spare : (length spare ≡ length w → ⊥) → LinkPromise n C D p q w spare waiting (Err refusal.Sizes) w spare waiting
  link_spare h = not_lent (λ l. h (l.spare_long ∙ sym l.sized.long))

  pub link_waiting : (length waiting ≡ n → ⊥) → LinkPromise n C D p q w spare waiting (Err refusal.Sizes) w spare waiting
  link_waiting h = not_lent (λ l. h l.waiting_long)

  module _ (a : length spare ≡ length w) (b : length waiting ≡ n) (r : Result Sizes Refusal) (s : Says r n C D w) where
    lent : Sized n C D w → Lent n C D w spare waiting
    lent = sized_lent n C D w spare waiting a b

    pub link_refused : (why : Refusal) → r ≡ Err why → LinkPromise n C D p q w spare waiting (Err why) w spare waiting
    link_refused why e = elim (judged_err n C D w r s why e) [
      | inl h ↦ rw h.0 (not_lent (λ l. h.1 l.sized))
      | inr h ↦ record { sizes = λ z. absurd (z (lent h.1)); unsound = λ _ _. (ap Err h.0, refl, refl, refl); sound = λ _ t. absurd (h.2 t) }
    ]

    pub link_sound : (k : Sizes) → r ≡ Ok k → (x : Answer) (w' spare' waiting' : List ℕ)
        → LinkCarries k.room.n k.room.c k.limit.d p q w spare waiting x w' spare' waiting' → LinkPromise n C D p q w spare waiting x w' spare' waiting'
    link_sound k e x w' spare' waiting' h =
        let t = (judged_ok n C D w r s k e).3 in
        record {
          sizes = λ z. absurd (z (lent t.sized));
          unsound = λ _ u. absurd (u t);
          sound = λ _ _. of_numbers n C D w r s (λ m c d. LinkCarries m c d p q w spare waiting x w' spare' waiting') k e h;
        }

-- empty, which asks for the sizes alone
module _ (n C : ℕ) (w : List ℕ) (m : Option Room) (s : RoomTold m n C) where
  pub empty_outside : m ≡ None → EmptyPromise n C w (Err refusal.Sizes) w
  empty_outside e = record { sizes = λ _. (refl, refl); done = λ r _. absurd (room_outside m n C e s r) }

  module _ (room : Room) (e : m ≡ Some room) (k : ℕ) (f : k ≡ store_words room.n room.c) where
    words_is : k ≡ store_words n C
    words_is = let h = room_within m room n C e s in rw (← h.0, ← h.1) f

    pub empty_short : (length w ≡ k → ⊥) → EmptyPromise n C w (Err refusal.Sizes) w
    empty_short g = record { sizes = λ _. (refl, refl); done = λ _ l. absurd (g (l ∙ sym words_is)) }

    module _ (g : length w ≡ k) where
      pub empty_within : Within room.n room.c w
      empty_within = record { room = room.within; long = g ∙ f }

      pub empty_done : (w' : List ℕ) → w' ≡ empty_table room.n room.c → EmptyPromise n C w (Ok 0) w'
      empty_done w' t =
          let h = room_within m room n C e s in
          record { sizes = λ z. absurd (z (h.2, g ∙ words_is)); done = λ _ _. (refl, rw (h.0, h.1) at t) }
