-- Ask and unlink: which refusal each test gives, and what is left where none holds. Assumes nothing.
use Prim.Native.Nat.{ℕ, ◌<◌}
use mathlib.Core.Bool.{Bool, true, false, not}
use mathlib.Core.List.{List, [], ◌∷◌}
use Rattle.std.specs.Prelude.{Option, Ok, Err}
use mathlib.Core.Logic.{◌⊎◌, inl, inr}
use mathlib.Core.Path.{◌≡◌, refl, ap, ◌∙◌}
use native.Mathlib.Omega.{arith}
use lib.ListN.{length}
use borrow.Author.Tests.{lt-ltb, le-ltb}
use Rattle.terms.specs.declared.run.Run.{Run}
use Rattle.terms.specs.declared.refusal.Refusal.{Refusal}
use Rattle.terms.specs.declared.refusal.Refusal.TheVariants.{NoLink}
use Rattle.meaning.specs.Cells.{list, seek, holds}
use Rattle.meaning.specs.Table.{NONE, length_of}
use Rattle.meaning.specs.Soundness.{Sound}
use Rattle.meaning.specs.Day.{day_of, place_of}
use Rattle.meaning.specs.Calls.{Call, ask, unlink, Tests, done, linked, tests, pair_tests, first_refusal, act, unless, call, cut, do_unlink, yes1}
use Rattle.meaning.specs.Promise.{Carries}
use Rattle.meaning.proofs.Effects.{day_list, unlink_moves, unlink_cut}
use Rattle.meaning.proofs.Steps.{moved}
use Rattle.meaning.proofs.Threaded.{Threaded, sound_threaded, list_length}
use Rattle.find.specs.Find.{SpotOf, Spotted, Absent, Found, Barred}
use Rattle.find.specs.declared.Spot.{Spot}
use Rattle.find.specs.declared.Ends.{Ends}
use Rattle.store.proofs.Carrying.{refuses, does}

-- a list has a link to t, or has none
module _ (n C : ℕ) (w : List ℕ) (T : Threaded n C w) (v t : ℕ) (hv : v < n) where
  row_length : length (list (day_of n C w).lists v) ≡ length_of n C w v
  row_length = ap length (day_list n C w v hv) ∙ list_length n C w T v (omega arith)

  pub spot_seek : (s : Spot) → Spotted s n C w v t → s.position ≡ seek t (list (day_of n C w).lists v)
  spot_seek s h = rw (day_list n C w v hv) h.first

  pub spot_within : (s : Spot) → Spotted s n C w v t → seek t (list (day_of n C w).lists v) < length (list (day_of n C w).lists v)
  spot_within s h = let k : s.position < length_of n C w v = rw h.list at h.spot.within in omega (arith, row_length, spot_seek s h)

  pub has_link : (s : Spot) → Spotted s n C w v t → holds t (list (day_of n C w).lists v) ≡ true
  has_link s h = lt-ltb (seek t (list (day_of n C w).lists v)) (length (list (day_of n C w).lists v)) (spot_within s h)

  pub no_link : Absent n C w v t → holds t (list (day_of n C w).lists v) ≡ false
  no_link h = le-ltb (seek t (list (day_of n C w).lists v)) (length (list (day_of n C w).lists v)) (rw (row_length, day_list n C w v hv) h.none)

module _ (n C D : ℕ) (w : List ℕ) (s : Sound n C D w) (p q : Run) where
  T : Threaded n C w
  T = sound_threaded n C D w s

  -- a test on the names bars any call on two runs
  pub bars : (a : Call) (ts : Tests) (why : Refusal) → tests (day_of n C w) a ≡ pair_tests (day_of n C w) p q ts → Barred n C w p q why → Carries n C D a w (Err why) w
  bars a ts why e h = refuses n C D a w s why (ap (λ (o : Option Refusal). unless o (day_of n C w) (act D (day_of n C w) a)) (ap first_refusal e ∙ h.bars ts))

  pub ask_barred : (why : Refusal) → Barred n C w p q why → Carries n C D (ask p q) w (Err why) w
  ask_barred why h = bars (ask p q) [] why refl h

  pub unlink_barred : (why : Refusal) → Barred n C w p q why → Carries n C D (unlink p q) w (Err why) w
  unlink_barred why h = bars (unlink p q) ((not (linked (day_of n C w) (place_of (day_of n C w) p) (place_of (day_of n C w) q)), NoLink) ∷ []) why refl h

  module _ (e : Ends) (f : Found n C w p q e) where
    pub in_first : (k : Spot) → Spotted k n C w e.first e.second → linked (day_of n C w) e.first e.second ≡ true
    in_first k h = rw (has_link n C w T e.first e.second f.first_place k h)

    pub in_second : (k : Spot) → Absent n C w e.first e.second → Spotted k n C w e.second e.first → linked (day_of n C w) e.first e.second ≡ true
    in_second k a h = rw (no_link n C w T e.first e.second f.first_place a, has_link n C w T e.second e.first f.second_place k h)

    pub in_either : (k : Spot) → Spotted k n C w e.first e.second ⊎ (Absent n C w e.first e.second × Spotted k n C w e.second e.first)
        → linked (day_of n C w) e.first e.second ≡ true
    in_either k (inl h) = in_first k h
    in_either k (inr h) = in_second k h.0 h.1

    pub in_neither : Absent n C w e.first e.second → Absent n C w e.second e.first → linked (day_of n C w) e.first e.second ≡ false
    in_neither a b = rw (no_link n C w T e.first e.second f.first_place a, no_link n C w T e.second e.first f.second_place b)

    asked : (b : Bool) → linked (day_of n C w) e.first e.second ≡ b → Carries n C D (ask p q) w (Ok (yes1 b)) w
    asked b h =
        does n C D (ask p q) w s (done (yes1 b) (day_of n C w)) (Ok (yes1 b)) w
        (ap (λ (o : Option Refusal). unless o (day_of n C w) (act D (day_of n C w) (ask p q))) (f.passed [])
        ∙ rw (← f.first, ← f.second, h)) refl T refl

    pub ask_linked : (k : Spot) → Spotted k n C w e.first e.second ⊎ (Absent n C w e.first e.second × Spotted k n C w e.second e.first) → Carries n C D (ask p q) w (Ok 1) w
    ask_linked k h = asked true (in_either k h)

    pub ask_neither : Absent n C w e.first e.second × Absent n C w e.second e.first → Carries n C D (ask p q) w (Ok 0) w
    ask_neither h = asked false (in_neither h.0 h.1)

    -- the test 7 of unlink, once the names have passed
    no_such : Tests
    no_such = (not (linked (day_of n C w) (place_of (day_of n C w) p) (place_of (day_of n C w) q)), NoLink) ∷ []

    past : call D (day_of n C w) (unlink p q) ≡ unless (first_refusal no_such) (day_of n C w) (act D (day_of n C w) (unlink p q))
    unfolding no_such
    past = ap (λ (o : Option Refusal). unless o (day_of n C w) (act D (day_of n C w) (unlink p q))) (f.passed no_such)

    pub unlink_neither : Absent n C w e.first e.second × Absent n C w e.second e.first → Carries n C D (unlink p q) w (Err NoLink) w
    unfolding no_such
    unlink_neither h = refuses n C D (unlink p q) w s NoLink (past ∙ rw (← f.first, ← f.second, in_neither h.0 h.1))

    cuts : (u x : ℕ) (k : Spot) (w' : List ℕ) → u < n → Spotted k n C w u x → call D (day_of n C w) (unlink p q) ≡ done 0 (cut (day_of n C w) u x)
        → w' ≡ moved n C w k.list k.position n NONE → Carries n C D (unlink p q) w (Ok 0) w'
    cuts u x k w' hu h g l =
        let m : w' ≡ moved n C w u k.position n NONE = l ∙ ap (λ (v : ℕ). moved n C w v k.position n NONE) h.list in
        does n C D (unlink p q) w s (done 0 (cut (day_of n C w) u x)) (Ok 0) w' g refl
        (rw m (unlink_moves n C w T u k.position hu (rw h.list at h.spot.within)).threaded)
        (rw (m, spot_seek n C w T u x hu k h) (unlink_cut n C w T u x hu (spot_within n C w T u x hu k h)))

    pub unlink_first : (k : Spot) (w' : List ℕ) → Spotted k n C w e.first e.second → w' ≡ moved n C w k.list k.position n NONE → Carries n C D (unlink p q) w (Ok 0) w'
    unfolding no_such
    unlink_first k w' h m =
        cuts e.first e.second k w' f.first_place h
        (past ∙ rw (← f.first, ← f.second, in_first k h, do_unlink, has_link n C w T e.first e.second f.first_place k h, f.first, f.second)) m

    pub unlink_second : (k : Spot) (w' : List ℕ) → Absent n C w e.first e.second × Spotted k n C w e.second e.first
        → w' ≡ moved n C w k.list k.position n NONE → Carries n C D (unlink p q) w (Ok 0) w'
    unfolding no_such
    unlink_second k w' h m =
        cuts e.second e.first k w' f.second_place h.1
        (past ∙ rw (← f.first, ← f.second, in_second k h.0 h.1, do_unlink, no_link n C w T e.first e.second f.first_place h.0, f.first, f.second)) m

    -- the link's cell leaves the list that has it
    pub unlink_linked : (k : Spot) (w' : List ℕ) → Spotted k n C w e.first e.second ⊎ (Absent n C w e.first e.second × Spotted k n C w e.second e.first)
        → w' ≡ moved n C w k.list k.position n NONE → Carries n C D (unlink p q) w (Ok 0) w'
    unlink_linked k w' (inl h) m = unlink_first k w' h m
    unlink_linked k w' (inr h) m = unlink_second k w' h m

    pub link_spot : (k : Spot) → Spotted k n C w e.first e.second ⊎ (Absent n C w e.first e.second × Spotted k n C w e.second e.first)
        → Threaded n C w × (k.list < n) × SpotOf k n C w
    link_spot k (inl h) = (T, rw h.list f.first_place, h.spot)
    link_spot k (inr h) = (T, rw h.1.list f.second_place, h.1.spot)

-- what the search for the link needs
pub found_two : (n C D : ℕ) (w : List ℕ) (p q : Run) (e : Ends) → Sound n C D w → Found n C w p q e → Threaded n C w × (e.first < n) × (e.second < n)
found_two n C D w p q e s f = (sound_threaded n C D w s, f.first_place, f.second_place)
