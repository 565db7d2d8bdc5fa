-- How a call's contract is met: refused, and the table is as it was; or done, and the table is threaded and holds the day that
-- the call leaves. That the table is then sound follows from the day, once for every call. Assumes nothing.
use Prim.Native.Nat.{ℕ}
use mathlib.Core.List.{List}
use mathlib.Core.Path.{◌≡◌, sym, ap, ◌∙◌}
use Rattle.terms.specs.declared.refusal.Refusal.{Refusal}
use Rattle.terms.specs.Refusal.{Answer}
use Rattle.std.specs.Prelude.{Err}
use Rattle.meaning.specs.Soundness.{Sound}
use Rattle.meaning.specs.Day.{day_of}
use Rattle.meaning.specs.Calls.{Call, Outcome, refused, call}
use Rattle.meaning.specs.Promise.{Carries}
use Rattle.meaning.proofs.Crossing.{sound_right, right_sound}
use Rattle.meaning.proofs.Kept.{call_right}
use Rattle.meaning.proofs.Right.{Right}
use Rattle.meaning.proofs.Threaded.{Threaded, sound_threaded}
use Rattle.table.specs.Within.{Within}
use Rattle.find.proofs.Finding.{threaded_within}

-- a threaded table that holds a right day is sound
pub threaded_sound : (n C D : ℕ) (w w' : List ℕ) → Sound n C D w → Threaded n C w' → Right n D (day_of n C w') → Sound n C D w'
threaded_sound n C D w w' s T r = right_sound n C D w' s.sized.limit T.room T.long T.reaches T.whole T.freed r

module _ (n C D : ℕ) (q : Call) (w : List ℕ) (s : Sound n C D w) where
  pub refuses : (why : Refusal) → call D (day_of n C w) q ≡ refused why (day_of n C w) → Carries n C D q w (Err why) w
  refuses why e = record {
    answer = sym (ap (λ (o : Outcome). o.answer) e);
    holds = record { sound = s; day = sym (ap (λ (o : Outcome). o.after) e) };
  }

  -- what the call leaves is sound
  pub does : (o : Outcome) (a : Answer) (w' : List ℕ) → call D (day_of n C w) q ≡ o → a ≡ o.answer → Threaded n C w' → day_of n C w' ≡ o.after → Carries n C D q w a w'
  does o a w' e f T d =
      let r : Right n D (call D (day_of n C w) q).after = call_right n D (day_of n C w) (sound_right n C D w s) q in
      let g : day_of n C w' ≡ (call D (day_of n C w) q).after = d ∙ sym (ap (λ (x : Outcome). x.after) e) in
      record {
        answer = f ∙ sym (ap (λ (x : Outcome). x.answer) e);
        holds = record { sound = threaded_sound n C D w w' s T (rw g r); day = g };
      }
