-- Link: which refusal each test gives, and that else it is the link of the two places. Assumes nothing.
use Prim.Native.Nat.{ℕ}
use mathlib.Core.Bool.{true}
use mathlib.Core.List.{List, [], ◌∷◌}
use Rattle.std.specs.Prelude.{Option, Some, Err, true, false, is_some}
use mathlib.Core.Path.{◌≡◌, refl, sym, ap, ◌∙◌}
use lib.Dec.{eqb, eqb-suc-zero}
use lib.ListN.{length}
use Rattle.terms.specs.declared.run.Run.{Run}
use Rattle.terms.specs.declared.refusal.Refusal.{Refusal}
use Rattle.terms.specs.declared.refusal.Refusal.TheVariants.{Already, NoRoom}
use Rattle.terms.specs.Refusal.{Answer}
use Rattle.terms.proofs.Steps.{something, nothing}
use Rattle.meaning.specs.Soundness.{Sound}
use Rattle.meaning.specs.Day.{day_of, place_of}
use Rattle.meaning.specs.Calls.{link, Tests, refused, linked, pair_tests, first_refusal, act, unless, call, do_link}
use Rattle.meaning.specs.Promise.{Lent, LinkCarries}
use Rattle.meaning.proofs.Finding.{both_named}
use Rattle.meaning.proofs.Lists.{each_length}
use Rattle.find.specs.Find.{Absent, Links, Found, Barred}
use Rattle.find.proofs.Finding.{link_some, link_neither}
use Rattle.lists.specs.Join.{Joins, joining, Joined}
use Rattle.find.specs.declared.Spot.{Spot}
use Rattle.find.specs.declared.Ends.{Ends}
use Rattle.store.proofs.Carrying.{refuses, does}
use Rattle.store.proofs.Linking.{in_either, in_neither}

module _ (n C D : ℕ) (w spare waiting : List ℕ) (lent : Lent n C D w spare waiting) (s : Sound n C D w) (p q : Run) where
  -- a refused link leaves every table
  stays : (why : Refusal) → call D (day_of n C w) (link p q) ≡ refused why (day_of n C w) → LinkCarries n C D p q w spare waiting (Err why) w spare waiting
  stays why e = record { carries = refuses n C D (link p q) w s why e; spared = rw e; waited = rw e }

  -- the tests 6 and 8, once the names have passed
  last_tests : Tests
  last_tests = (linked (day_of n C w) (place_of (day_of n C w) p) (place_of (day_of n C w) q), Already) ∷ (eqb (length (day_of n C w).free) 0, NoRoom) ∷ []

  judged : (o : Option Refusal) → first_refusal (pair_tests (day_of n C w) p q last_tests) ≡ o
      → call D (day_of n C w) (link p q) ≡ unless o (day_of n C w) (act D (day_of n C w) (link p q))
  unfolding last_tests
  judged o e = ap (λ (x : Option Refusal). unless x (day_of n C w) (act D (day_of n C w) (link p q))) e

  pub link_barred : (why : Refusal) → Barred n C w p q why → LinkCarries n C D p q w spare waiting (Err why) w spare waiting
  link_barred why h = stays why (judged (Some why) (h.bars last_tests))

  module _ (e : Ends) (f : Found n C w p q e) where
    already : linked (day_of n C w) e.first e.second ≡ true → LinkCarries n C D p q w spare waiting (Err Already) w spare waiting
    unfolding last_tests
    already h = stays Already (judged (Some Already) (f.passed last_tests ∙ rw (← f.first, ← f.second, h)))

    pub link_already : (r : Option Spot) → Links r n C w e.first e.second → is_some r ≡ true → (a : Answer) → a ≡ Err Already
        → LinkCarries n C D p q w spare waiting a w spare waiting
    link_already r l h a i =
        let k = something r h in
        rw i (already (in_either n C D w s p q e f k.0 (link_some n C w e.first e.second r k.0 l k.1)))

    pub link_apart : (r : Option Spot) → Links r n C w e.first e.second → is_some r ≡ false → Absent n C w e.first e.second × Absent n C w e.second e.first
    link_apart r l h = link_neither n C w e.first e.second r l (nothing r h)

    module _ (h : Absent n C w e.first e.second × Absent n C w e.second e.first) where
      pub link_joins : Joins n C D e.first e.second w spare waiting
      link_joins = record {
        sound = s;
        spare_long = lent.spare_long;
        waiting_long = lent.waiting_long;
        first = f.first_place;
        second = f.second_place;
        apart = λ g. (both_named n (day_of n C w) (each_length n _) p q [] (f.passed [])).0.apart (sym f.first ∙ (g ∙ f.second));
      }

      -- no free cell: the link of the two places is refused in the same way
      no_cell : (fs : List ℕ) → unless (first_refusal ((eqb (length fs) 0, NoRoom) ∷ [])) (day_of n C w) (do_link D (day_of n C w) e.first e.second fs)
          ≡ do_link D (day_of n C w) e.first e.second fs
      no_cell [] = refl
      no_cell (i ∷ fs) = rw (eqb-suc-zero (length fs))

      is_joining : call D (day_of n C w) (link p q) ≡ joining n C D e.first e.second w
      unfolding last_tests
      is_joining =
          judged (first_refusal last_tests) (f.passed last_tests)
          ∙ rw (← f.first, ← f.second, in_neither n C D w s p q e f h.0 h.1) (no_cell (day_of n C w).free)

      pub link_joined : (a : Answer) (w' spare' waiting' : List ℕ) → Joined n C D e.first e.second w spare waiting a w' spare' waiting'
          → LinkCarries n C D p q w spare waiting a w' spare' waiting'
      link_joined a w' spare' waiting' j = record {
        carries = does n C D (link p q) w s (joining n C D e.first e.second w) a w' is_joining j.answer j.threaded j.day;
        spared = rw is_joining j.spared;
        waited = rw is_joining j.waited;
      }
