-- Open and close: which refusal each test gives, and what is left where none holds. Assumes nothing.
use Prim.Native.Nat.{ℕ, ◌<◌}
use mathlib.Core.Bool.{true, false}
use mathlib.Core.List.{List}
use native.Mathlib.Omega.{arith}
use mathlib.Core.Path.{◌≡◌, refl}
use lib.ListN.{length}
use borrow.Author.Tests.{le-leb, lt-leb}
use Rattle.terms.specs.Run.{no_run, bad_name}
use Rattle.terms.specs.declared.run.Run.{Run}
use Rattle.std.specs.Prelude.{Option, Some, None, is_some, Ok, Err}
use Rattle.terms.proofs.Steps.{something, nothing}
use Rattle.find.specs.Find.{Placed}
use Rattle.terms.specs.declared.refusal.Refusal.TheVariants.{BadName, NotOpen, Already, NoRoom, Touched}
use Rattle.meaning.specs.Soundness.{Sound}
use Rattle.meaning.specs.Day.{day_of, place_of, lowest, is_open}
use Rattle.meaning.specs.Calls.{open_run, close_run, done, touched, rename}
use Rattle.meaning.specs.Promise.{Carries}
use Rattle.meaning.proofs.Lists.{each_length}
use Rattle.meaning.proofs.Renamed.{renamed_threaded, renamed_day}
use Rattle.meaning.proofs.Steps.{renamed}
use Rattle.meaning.proofs.Threaded.{Threaded, sound_threaded}
use Rattle.find.proofs.Finding.{placed_at, placed_not, found_open, found_shut}
use Rattle.store.proofs.Carrying.{refuses, does}

module _ (n C D : ℕ) (w : List ℕ) (s : Sound n C D w) (p : Run) where
  pub open_bad : bad_name p ≡ true → Carries n C D (open_run p) w (Err BadName) w
  open_bad e = refuses n C D (open_run p) w s BadName (rw e)

  pub open_already : (r : Option ℕ) → bad_name p ≡ false → Placed r n (place_of (day_of n C w) p) → is_some r ≡ true → Carries n C D (open_run p) w (Err Already) w
  open_already r e f h =
      let v = something r h in
      refuses n C D (open_run p) w s Already (rw (e, found_open n C w p r v.0 f v.1))

  module _ (u v : Option ℕ) (good : bad_name p ≡ false) (hu : Placed u n (place_of (day_of n C w) p)) (shut : is_some u ≡ false)
      (hv : Placed v n (lowest (day_of n C w))) where
    unnamed : is_open (day_of n C w) p ≡ false
    unnamed = found_shut n C w p u hu (nothing u shut)

    pub open_full : v ≡ None → Carries n C D (open_run p) w (Err NoRoom) w
    open_full h =
        let k = placed_not n (lowest (day_of n C w)) v hv h in
        let e = le-leb (length (day_of n C w).runs) (lowest (day_of n C w)) (rw each_length (omega (arith, k))) in
        refuses n C D (open_run p) w s NoRoom (rw (good, unnamed, e))

    pub opens : (k : ℕ) (w' : List ℕ) → v ≡ Some k → w' ≡ renamed n C w k p.line p.trip → Carries n C D (open_run p) w (Ok k) w'
    opens k w' g f =
        let a = placed_at n (lowest (day_of n C w)) v k hv g in
        let e = lt-leb (length (day_of n C w).runs) (lowest (day_of n C w)) (rw (← a.0, each_length) a.1) in
        does n C D (open_run p) w s (done k (rename (day_of n C w) k p)) (Ok k) w'
        (rw (good, unnamed, e, a.0)) refl
        (rw f (renamed_threaded n C w (sound_threaded n C D w s) k p.line p.trip a.1))
        (rw f (renamed_day n C w (sound_threaded n C D w s) k p.line p.trip a.1))

  pub close_bad : bad_name p ≡ true → Carries n C D (close_run p) w (Err BadName) w
  close_bad e = refuses n C D (close_run p) w s BadName (rw e)

  module _ (r : Option ℕ) (good : bad_name p ≡ false) (hr : Placed r n (place_of (day_of n C w) p)) where
    pub close_shut : r ≡ None → Carries n C D (close_run p) w (Err NotOpen) w
    close_shut h = refuses n C D (close_run p) w s NotOpen (rw (good, found_shut n C w p r hr h))

    module _ (v : ℕ) (h : r ≡ Some v) where
      here : (v ≡ place_of (day_of n C w) p) × (v < n)
      here = placed_at n (place_of (day_of n C w) p) r v hr h

      pub close_touches : Threaded n C w × (v < n)
      close_touches = (sound_threaded n C D w s, here.1)

      pub close_touched : touched (day_of n C w) v ≡ true → Carries n C D (close_run p) w (Err Touched) w
      close_touched e = refuses n C D (close_run p) w s Touched (rw (good, found_open n C w p r v hr h, ← here.0, e))

      pub closes : (w' : List ℕ) → touched (day_of n C w) v ≡ false → w' ≡ renamed n C w v 0 0 → Carries n C D (close_run p) w (Ok 0) w'
      closes w' e f =
          does n C D (close_run p) w s (done 0 (rename (day_of n C w) v no_run)) (Ok 0) w'
          (rw (good, found_open n C w p r v hr h, ← here.0, e)) refl
          (rw f (renamed_threaded n C w (sound_threaded n C D w s) v 0 0 here.1))
          (rw f (renamed_day n C w (sound_threaded n C D w s) v 0 0 here.1))
