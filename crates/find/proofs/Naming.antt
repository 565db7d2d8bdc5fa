-- Two named runs: the tests 3, 4 and 5 in turn. Assumes nothing.
use Prim.Native.Nat.{ℕ}
use mathlib.Core.Bool.{true, false}
use mathlib.Core.List.{List}
use mathlib.Core.Path.{◌≡◌}
use Rattle.terms.specs.Run.{bad_name, same_run}
use Rattle.terms.specs.declared.run.Run.{Run}
use Rattle.terms.specs.declared.refusal.Refusal.TheVariants.{BadName, SameRun, NotOpen}
use Rattle.meaning.specs.Day.{day_of, place_of}
use Rattle.std.specs.Prelude.{Option, Some, None}
use Rattle.find.specs.Find.{Placed, Found, Barred}
use Rattle.find.proofs.Finding.{placed_at, found_open, found_shut}

module _ (n C : ℕ) (w : List ℕ) (p q : Run) where
  pub first_bad : bad_name p ≡ true → Barred n C w p q BadName
  first_bad e = record { bars = λ ts. rw e }

  pub second_bad : bad_name p ≡ false → bad_name q ≡ true → Barred n C w p q BadName
  second_bad e f = record { bars = λ ts. rw (e, f) }

  module _ (good-p : bad_name p ≡ false) (good-q : bad_name q ≡ false) where
    pub one_run : same_run p q ≡ true → Barred n C w p q SameRun
    one_run e = record { bars = λ ts. rw (good-p, good-q, e) }

    module _ (two : same_run p q ≡ false) (u : Option ℕ) (hu : Placed u n (place_of (day_of n C w) p)) where
      pub first_shut : u ≡ None → Barred n C w p q NotOpen
      first_shut e = record { bars = λ ts. rw (good-p, good-q, two, found_shut n C w p u hu e) }

      module _ (v : Option ℕ) (hv : Placed v n (place_of (day_of n C w) q)) where
        pub second_shut : (a : ℕ) → u ≡ Some a → v ≡ None → Barred n C w p q NotOpen
        second_shut a f e = record { bars = λ ts. rw (good-p, good-q, two, found_open n C w p u a hu f, found_shut n C w q v hv e) }

        pub both_open : (a b : ℕ) → u ≡ Some a → v ≡ Some b → Found n C w p q (record { first = a; second = b })
        both_open a b e f =
            let x = placed_at n (place_of (day_of n C w) p) u a hu e in
            let y = placed_at n (place_of (day_of n C w) q) v b hv f in
            record {
              first = x.0;
              second = y.0;
              first_place = x.1;
              second_place = y.1;
              passed = λ ts. rw (good-p, good-q, two, found_open n C w p u a hu e, found_open n C w q v b hv f);
            }
