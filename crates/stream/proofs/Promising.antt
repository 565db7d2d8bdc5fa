-- The stream's promise: refusals 1 and 2 leave every table, else its records are carried out. Assumes nothing.
use Prim.Native.Nat.{ℕ, ◌≤◌}
use mathlib.Core.Bool.{Bool, true, false}
use mathlib.Core.List.{List}
use mathlib.Core.Logic.{inl, inr}
use Rattle.std.specs.Prelude.{Option, Some, None, is_none, Result, Ok, Err}
use Rattle.judge.specs.Judging.{Says}
use Rattle.judge.proofs.Judgings.{judged_ok, judged_err, of_numbers}
use mathlib.Core.Path.{◌≡◌, sym, ap, ◌∙◌}
use lib.ListN.{length}
use Rattle.terms.proofs.Told.{yes_told, no_told}
use Rattle.terms.specs.Size.{stream_most}
use Rattle.terms.specs.Told.{LengthTold}
use Rattle.terms.specs.declared.size.Sizes.{Sizes}
use Rattle.terms.specs.Tells.{Tells}
use Rattle.terms.specs.declared.size.Length.{Length}
use Rattle.terms.specs.declared.refusal.Refusal.{Refusal}
use Rattle.terms.specs.declared.refusal.Refusal.TheVariants as refusal
use Rattle.meaning.specs.Soundness.{Sized, Sound}
use Rattle.meaning.specs.Promise.{Tables, StreamLent, StreamCarries, StreamPromise}
use Rattle.stream.specs.Streamed.{result_of, tables, Fitting, Stopped}
use Rattle.stream.specs.declared.Streamed.{Streamed}
use Rattle.stream.specs.declared.totals.Totals.{Totals}

-- what the stream's length was found to be
pub too_long : (m : Option Length) (k : ℕ) → LengthTold m k → is_none m ≡ true → k ≤ stream_most → ⊥
too_long (Some l) k h e = absurd (cc)
too_long None k h e = h

pub not_too_long : (m : Option Length) (k : ℕ) → LengthTold m k → is_none m ≡ false → k ≤ stream_most
not_too_long (Some l) k h e = h.1
not_too_long None k h e = absurd (cc)

module _ (n C D : ℕ) (bytes store spare waiting answers : List ℕ) (t : Totals) where
  abbrev Fits : Type 0
  Fits = Fitting n (length store) (length spare) (length waiting) (length bytes) (length answers) t

  abbrev before : Tables
  before = tables store spare waiting answers t

  lent_fits : StreamLent n C D bytes before → Fits
  lent_fits l = record {
    spare_long = l.lent.spare_long ∙ sym l.lent.sized.long;
    waiting_long = l.lent.waiting_long;
    short = l.short;
    answers_long = l.answers_long;
    accepted_most = l.accepted_most;
    reversals_most = l.reversals_most;
  }

  pub fits_lent : Fits → Sized n C D store → StreamLent n C D bytes before
  fits_lent f z = record {
    lent = record { sized = z; spare_long = f.spare_long ∙ z.long; waiting_long = f.waiting_long };
    short = f.short;
    answers_long = f.answers_long;
    accepted_most = f.accepted_most;
    reversals_most = f.reversals_most;
  }

  -- the stream is refused as a whole, and every table stays
  stays : (why : Refusal) (r : Streamed) → Stopped why t r
      → (result_of r ≡ record { stop = Some why; carried = 0 }) × (tables store spare waiting answers r.totals ≡ before)
  stays why r s =
      ((λ i. record { stop = s.stop i; carried = s.carried i }), ap (tables store spare waiting answers) s.totals)

  pub unfit : (b : Bool) (r : Streamed) → Tells b Fits → b ≡ false → Stopped refusal.Sizes t r → StreamPromise n C D bytes before (result_of r) (tables store spare waiting answers r.totals)
  unfit b r h e s = record {
    sizes = λ k. stays refusal.Sizes r s;
    unsound = λ l k. absurd (no_told b e h (lent_fits l));
    sound = λ l k. absurd (no_told b e h (lent_fits l));
  }

  module _ (b : Bool) (h : Tells b Fits) (e : b ≡ true) (j : Result Sizes Refusal) (says : Says j n C D store) where
    fit : Fits
    fit = yes_told b e h

    pub refused_whole : (why : Refusal) (r : Streamed) → j ≡ Err why → Stopped why t r → StreamPromise n C D bytes before (result_of r) (tables store spare waiting answers r.totals)
    refused_whole why r q s = elim (judged_err n C D store j says why q) [
      | inl z ↦ record {
        sizes = λ k. stays refusal.Sizes r (rw z.0 at s);
        unsound = λ l k. absurd (z.1 l.lent.sized);
        sound = λ l k. absurd (z.1 l.lent.sized);
      }
      | inr z ↦ record {
        sizes = λ k. absurd (k (fits_lent fit z.1));
        unsound = λ l k. stays refusal.Unsound r (rw z.0 at s);
        sound = λ l k. absurd (z.2 k);
      }
    ]

    module _ (k : Sizes) (q : j ≡ Ok k) where
      pub is_sound : StreamLent n C D bytes before × Sound n C D store
      is_sound = let z : Sound n C D store = (judged_ok n C D store j says k q).3 in (fits_lent fit z.sized, z)

      pub own_lent : StreamLent k.room.n k.room.c k.limit.d bytes before × Sound k.room.n k.room.c k.limit.d store
      own_lent = let g = judged_ok n C D store j says k q in rw (g.0, g.1, g.2) is_sound

      pub carried_out : (r : Streamed) (t' : Tables) → StreamCarries k.room.n k.room.c k.limit.d bytes before (result_of r) t' → StreamPromise n C D bytes before (result_of r) t'
      carried_out r t' s =
          record {
            sizes = λ z. absurd (z is_sound.0);
            unsound = λ l z. absurd (z is_sound.1);
            sound = λ l z. of_numbers n C D store j says (λ m c d. StreamCarries m c d bytes before (result_of r) t') k q s;
          }
