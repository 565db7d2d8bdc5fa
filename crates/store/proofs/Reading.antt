-- A reading by its tests, one after the other: a pass over the set's places, what each test that fails refuses, and what holds where none
-- does. The check shows `reading` without these laws; docs/PORT.md names five of them. Assumes nothing.
use Prim.Native.Nat.{ℕ, zero, suc, ◌+◌, ◌≤◌, ◌<◌}
use mathlib.Core.Bool.{Bool, true, false, not, ◌||◌}
use mathlib.Core.List.{List, [], ◌∷◌}
use mathlib.Core.Path.{◌≡◌, refl, sym, ap, ◌∙◌}
use native.Mathlib.Omega.{arith}
use lib.Dec.{ltb}
use lib.ListN.{length, get_or}
use borrow.Author.Count.{below_more}
use borrow.Author.Tests.{lt-ltb, le-ltb}
use Rattle.std.specs.Prelude.{Err}
use Rattle.terms.specs.declared.refusal.Refusal.TheVariants.{NotOpen, BadSet}
use Rattle.meaning.specs.Soundness.{Sound}
use Rattle.meaning.specs.Day.{Day, day_of}
use Rattle.meaning.specs.Calls.{open_place, rising, bad_set, all_open, reading}
use Rattle.meaning.specs.Promise.{Carries}
use Rattle.meaning.proofs.Lists.{each_length}
use Rattle.meaning.proofs.Sets.{and_false}
use Rattle.table.specs.Within.{named}
use Rattle.store.specs.Set.{AllBelow}
use Rattle.store.proofs.Carrying.{refuses}
use Rattle.store.proofs.Rising.{few}
use Rattle.store.proofs.Setting.{open_below}

module _ (s : Day) where
  one_shut : (ps : List ℕ) (k : ℕ) → k < length ps → open_place s (get_or ps k 0) ≡ false → all_open s ps ≡ false
  one_shut [] k h e = absurd (omega arith)
  one_shut (p ∷ ps) zero h e = rw (all_open, e)
  one_shut (p ∷ ps) (suc k) h e = and_false (open_place s p) (all_open s ps) (one_shut ps k (omega arith) e)

  -- the first i places are open
  pub record Opened (ps : List ℕ) (i : ℕ) : Type 0 where
    pub most : i ≤ length ps
    pub each : (k : ℕ) → k < i → open_place s (get_or ps k 0) ≡ true

  pub opened_more : (ps : List ℕ) (i : ℕ) (b : Bool) → Opened ps i → i < length ps → b ≡ open_place s (get_or ps i 0) → b ≡ true → Opened ps (i + 1)
  opened_more ps i b o h e f = record {
    most = omega arith;
    each = below_more (λ k. open_place s (get_or ps k 0) ≡ true) i o.each (sym e ∙ f);
  }

  pub opened_not : (ps : List ℕ) (i : ℕ) (b : Bool) → Opened ps i → i < length ps → b ≡ open_place s (get_or ps i 0) → b ≡ false → false ≡ all_open s ps
  opened_not ps i b o h e f = sym (one_shut ps i h (sym e ∙ f))

either_true : (a b : Bool) → b ≡ true → (a || b) ≡ true
either_true true b e = refl
either_true false b e = e

module _ (n C D : ℕ) (w : List ℕ) (s : Sound n C D w) (ps : List ℕ) where
  bad : bad_set ps ≡ true → Carries n C D (reading ps) w (Err BadSet) w
  bad e = refuses n C D (reading ps) w s BadSet (rw e)

  -- fewer than two places, or not strictly rising
  pub reading_few : length ps < 2 → Carries n C D (reading ps) w (Err BadSet) w
  reading_few h = bad (rw (lt-ltb (length ps) 2 h))

  pub reading_falls : (b : Bool) → b ≡ rising ps → b ≡ false → Carries n C D (reading ps) w (Err BadSet) w
  reading_falls b e f = bad (either_true (ltb (length ps) 2) (not (rising ps)) (rw (← e) (ap not f)))

  good : 2 ≤ length ps → rising ps ≡ true → bad_set ps ≡ false
  good two rise = rw (le-ltb (length ps) 2 two, rise)

  -- a place in the set isn't open
  pub reading_shut : 2 ≤ length ps → (b : Bool) → b ≡ rising ps → b ≡ true → (a : Bool) → a ≡ all_open (day_of n C w) ps → a ≡ false
      → Carries n C D (reading ps) w (Err NotOpen) w
  reading_shut two b e f a g h = refuses n C D (reading ps) w s NotOpen (rw (good two (sym e ∙ f), sym g ∙ h))

  -- no refusal holds
  pub record Readable : Type 0 where
    pub two : 2 ≤ length ps
    pub rise : rising ps ≡ true
    pub here : all_open (day_of n C w) ps ≡ true
    pub below : AllBelow n ps
    pub most : length ps ≤ n

  pub readable : 2 ≤ length ps → (b : Bool) → b ≡ rising ps → b ≡ true → (a : Bool) → a ≡ all_open (day_of n C w) ps → a ≡ true → Readable
  readable two b e f a g h =
      let r : rising ps ≡ true = sym e ∙ f in
      let o : all_open (day_of n C w) ps ≡ true = sym g ∙ h in
      let l : AllBelow n ps = λ k q. rw (each_length n (named n C w)) at (open_below (day_of n C w) ps o k q) in
      record { two = two; rise = r; here = o; below = l; most = few n ps r l }
