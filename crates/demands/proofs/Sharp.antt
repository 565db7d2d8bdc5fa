-- Demand 3 cannot be sharpened: there are histories with D = 2 and at most one outward at each run after every call, in which the
-- reversals are more than the accepted links times 3, and more than the accepted links and the changes together times 2. So the
-- changes cannot be left out, and D + 1 cannot be D. By computation; assumes nothing.
use Prim.Native.Nat.{ℕ, zero, suc, ◌+◌, ◌*◌, ◌≤◌}
use mathlib.Core.Bool.{Bool, true, false, ◌||◌, ◌&&◌, or-false}
use mathlib.Core.List.{List, [], ◌∷◌, ◌++◌, map}
use mathlib.Core.Path.{◌≡◌, refl, sym, ap, ◌∙◌}
use native.Mathlib.Omega.{arith}
use lib.Dec.{eqb}
use lib.ListN.{get_or}
use Rattle.terms.specs.Run.{bad_name, same_run}
use Rattle.terms.specs.declared.run.Run.{Run}
use Rattle.terms.proofs.Names.{same_eq as run-eq}
use Rattle.meaning.specs.Cells.{same}
use Rattle.meaning.specs.Turning.{hand_all, turning}
use Rattle.meaning.specs.Day.{Day, run_of, empty_day}
use Rattle.meaning.specs.Calls.{Call, open_run, link, unlink, call, yes1}
use Rattle.meaning.proofs.Right.{Right}
use Rattle.meaning.proofs.Sums.{sum-le_in}
use Rattle.meaning.proofs.Kept.{ends_open, call_right, empty_right}
use Rattle.demands.specs.History.{same_pair, weigh, unsure, outward, differ, accepted, reversals, Directions, History, calls, AllDirected, changes}
use Rattle.demands.proofs.Choices.{by}
use Rattle.demands.proofs.Asking.{asked_between}
use Rattle.demands.proofs.Histories.{asked_le}

-- ---- a choice that names one next run for each run goes outward at most once at each
abbrev toward : (Run → Run) → Directions
toward next x y = yes1 (same_run (next x) y)

link_few : (next : Run → Run) (p x y : Run) → (x ≡ y → ⊥) → outward (toward next) p x y ≤ yes1 (same_pair p (next p) x y)
unfolding outward same_pair
link_few next p x y n = go (same_run p x) refl (same_run p y) refl
  where
    go : (s : Bool) → same_run p x ≡ s → (t : Bool) → same_run p y ≡ t
        → yes1 s * toward next x y + yes1 t * toward next y x ≤ yes1 ((s && same_run (next p) y) || (t && same_run (next p) x))
    go true f true g = absurd (n (sym (run-eq p x f) ∙ run-eq p y g))
    go true f false g = rw (run-eq p x f) (omega (arith, ap yes1 (or-false (same_run (next x) y))))
    go false f true g = rw (run-eq p y g) (omega arith)
    go false f false g = omega arith

next_few : (n D : ℕ) (s : Day) → Right n D s → (next : Run → Run) (p : Run) → weigh (outward (toward next) p) s ≤ 1
next_few n D s ok next p =
    omega (
      arith,
      sum-le_in (by (outward (toward next) p) s) (by (λ x y. yes1 (same_pair p (next p) x y)) s) s.lists
          (λ v c m. link_few next p (run_of s v) (run_of s c.target) (λ e. (ends_open n D s ok v c m).4 (ok.apart v c.target (ends_open n D s ok v c m).2 e))),
      asked_between n D s ok p (next p),
      asked_le D s p (next p),
    )

-- calls, each with the next runs after it; the links left without exactly one direction
abbrev Steps : Type 0
Steps = List (Call × (Run → Run))

abbrev steps : Steps → History
steps [] = []
steps (x ∷ xs) = (x.0, toward x.1) ∷ steps xs

abbrev doubts : ℕ → Day → Steps → ℕ
doubts D s [] = 0
doubts D s (x ∷ xs) = let s' : Day = (call D s x.0).after in weigh (unsure (toward x.1)) s' + doubts D s' xs

no_doubts : (n D : ℕ) (s : Day) → Right n D s → (xs : Steps) → doubts D s xs ≡ 0 → AllDirected 1 D s (steps xs)
no_doubts n D s ok [] e = tt
no_doubts n D s ok (x ∷ xs) e =
    let s' : Day = (call D s x.0).after in
    let ok' : Right n D s' = call_right n D s ok x.0 in
    (record { each = omega arith; few = next_few n D s' ok' x.1 }, no_doubts n D s' ok' xs (omega arith))

-- ---- without the changes of direction
-- five runs of one line, by their trip numbers; 9 is none of them
abbrev r : ℕ → Run
r i = record { line = 1; trip = i }

-- the next run of i stands at position i
abbrev to : List ℕ → Run → Run
to ks x = r (get_or ks x.trip 9)

abbrev day : Day
day = empty_day 5 5

abbrev many : Steps
many =
    (open_run (r 0), to []) ∷ (open_run (r 1), to []) ∷ (open_run (r 2), to []) ∷ (open_run (r 3), to []) ∷ (open_run (r 4), to [])
    ∷ (link (r 0) (r 1), to (1 ∷ 9 ∷ 9 ∷ 9 ∷ 9 ∷ []))
    ∷ (link (r 0) (r 2), to (1 ∷ 9 ∷ 0 ∷ 9 ∷ 9 ∷ []))
    ∷ (link (r 0) (r 3), to (1 ∷ 9 ∷ 0 ∷ 0 ∷ 9 ∷ []))
    ∷ (link (r 1) (r 2), to (1 ∷ 2 ∷ 0 ∷ 0 ∷ 9 ∷ []))
    ∷ (link (r 1) (r 4), to (1 ∷ 2 ∷ 0 ∷ 0 ∷ 1 ∷ []))
    ∷ (unlink (r 0) (r 1), to (9 ∷ 2 ∷ 0 ∷ 0 ∷ 1 ∷ []))
    ∷ (link (r 2) (r 3), to (2 ∷ 2 ∷ 3 ∷ 0 ∷ 1 ∷ []))
    ∷ (unlink (r 1) (r 2), to (2 ∷ 9 ∷ 3 ∷ 0 ∷ 1 ∷ []))
    ∷ (link (r 3) (r 4), to (2 ∷ 4 ∷ 3 ∷ 0 ∷ 3 ∷ []))
    ∷ (unlink (r 2) (r 3), to (2 ∷ 4 ∷ 9 ∷ 0 ∷ 3 ∷ []))
    ∷ (link (r 0) (r 4), to (4 ∷ 4 ∷ 0 ∷ 0 ∷ 3 ∷ []))
    ∷ (unlink (r 0) (r 4), to (9 ∷ 4 ∷ 0 ∷ 0 ∷ 3 ∷ []))
    ∷ (link (r 3) (r 1), to (3 ∷ 4 ∷ 0 ∷ 1 ∷ 3 ∷ []))
    ∷ (unlink (r 0) (r 3), to (9 ∷ 4 ∷ 0 ∷ 1 ∷ 3 ∷ []))
    ∷ (link (r 1) (r 2), to (2 ∷ 4 ∷ 1 ∷ 1 ∷ 3 ∷ []))
    ∷ (unlink (r 3) (r 1), to (2 ∷ 4 ∷ 1 ∷ 9 ∷ 3 ∷ []))
    ∷ (link (r 2) (r 4), to (2 ∷ 4 ∷ 1 ∷ 4 ∷ 2 ∷ []))
    ∷ (unlink (r 2) (r 4), to (2 ∷ 4 ∷ 1 ∷ 4 ∷ 9 ∷ []))
    ∷ (link (r 1) (r 0), to (2 ∷ 0 ∷ 1 ∷ 4 ∷ 1 ∷ []))
    ∷ (unlink (r 4) (r 1), to (2 ∷ 0 ∷ 1 ∷ 4 ∷ 9 ∷ []))
    ∷ (link (r 0) (r 3), to (2 ∷ 0 ∷ 1 ∷ 0 ∷ 3 ∷ []))
    ∷ (unlink (r 1) (r 0), to (2 ∷ 9 ∷ 1 ∷ 0 ∷ 3 ∷ []))
    ∷ (link (r 2) (r 3), to (2 ∷ 2 ∷ 3 ∷ 0 ∷ 3 ∷ []))
    ∷ (unlink (r 2) (r 3), to (2 ∷ 2 ∷ 9 ∷ 0 ∷ 3 ∷ []))
    ∷ (link (r 0) (r 1), to (1 ∷ 2 ∷ 0 ∷ 0 ∷ 3 ∷ []))
    ∷ (unlink (r 3) (r 0), to (1 ∷ 2 ∷ 0 ∷ 9 ∷ 3 ∷ []))
    ∷ (link (r 1) (r 4), to (1 ∷ 2 ∷ 0 ∷ 4 ∷ 1 ∷ []))
    ∷ (unlink (r 0) (r 1), to (9 ∷ 2 ∷ 0 ∷ 4 ∷ 1 ∷ []))
    ∷ (link (r 2) (r 4), to (2 ∷ 2 ∷ 4 ∷ 4 ∷ 1 ∷ [])) ∷ []

-- 54 reversals, and 17 accepted links times 3 are 51
pub many_numbers : (accepted 2 day (calls (steps many)) ≡ 17) × (changes 2 day (toward (to [])) (steps many) ≡ 12) × (reversals 2 day (calls (steps many)) ≡ 54)
unfolding bad_name same_run same hand_all turning same_pair differ
many_numbers = (refl, refl, refl)

pub many_directed : AllDirected 1 2 day (steps many)
unfolding bad_name same_run same hand_all turning unsure
many_directed = no_doubts 5 2 day (empty_right 5 5 2) many refl

-- ---- with D in the place of D + 1
-- eight runs on a line, seven of them with a side run, and one more at the first; everything goes outward along the line
abbrev main : ℕ → Run
main i = record { line = 1; trip = i }

abbrev side : ℕ → Run
side i = record { line = 2; trip = i }

abbrev extra : Run
extra = record { line = 3; trip = 0 }

abbrev along : Run → Run
along x = elim (eqb x.line 1) [ true ↦ main (x.trip + 1) | false ↦ main x.trip ]

abbrev times : ℕ → (ℕ → List Call) → List Call
times zero f = []
times (suc k) f = times k f ++ f k

-- each side run is linked anew, so that the list of its main run is full; then one link more at the first turns list after list
abbrev round : List Call
round =
    times 7 (λ i. unlink (main i) (side i) ∷ link (main i) (side i) ∷ [])
    ++ unlink (main 6) (main 7) ∷ link (main 6) (main 7) ∷ unlink (main 0) extra ∷ link (main 0) extra ∷ []

abbrev rounds : List Call
rounds =
    times 8 (λ i. open_run (main i) ∷ []) ++ times 7 (λ i. open_run (side i) ∷ link (main i) (main (i + 1)) ∷ []) ++ open_run extra ∷ times 5 (λ i. round)

abbrev fixed : List Call → Steps
fixed cs = map (λ c. (c, along)) cs

abbrev line : Day
line = empty_day 16 15

-- 105 reversals, and 52 accepted links with no change of direction, times 2, are 104
pub line_numbers : (accepted 2 line (calls (steps (fixed rounds))) ≡ 52) × (changes 2 line (toward along) (steps (fixed rounds)) ≡ 0)
    × (reversals 2 line (calls (steps (fixed rounds))) ≡ 105)
unfolding bad_name same_run same hand_all turning same_pair differ
line_numbers = (refl, refl, refl)

pub line_directed : AllDirected 1 2 line (steps (fixed rounds))
unfolding bad_name same_run same hand_all turning unsure
line_directed = no_doubts 16 2 line (empty_right 16 15 2) (fixed rounds) refl
