-- Worked histories: one for which every premise of demand 3 holds, with links accepted, directions changed and links reversed, none
-- of these numbers 0; and what is too dense and what is not. By computation; assumes nothing.
use Prim.Native.Nat.{ℕ, ◌+◌, ◌*◌, ◌-◌, ◌/◌, ◌%◌, ◌≤◌}
use mathlib.Core.Bool.{Bool, true, false}
use mathlib.Core.List.{List, [], ◌∷◌}
use mathlib.Core.Path.{◌≡◌, refl, sym, ap, ◌∙◌, subst}
use native.Mathlib.Omega.{arith}
use lib.Dec.{ltb}
use Rattle.terms.specs.Run.{bad_name, same_run}
use Rattle.terms.specs.declared.run.Run.{Run}
use Rattle.terms.specs.declared.refusal.Refusal.TheVariants.{TooDense}
use Rattle.std.specs.Prelude.{Err}
use Rattle.terms.proofs.Names.{same_eq as run-eq}
use Rattle.meaning.specs.Cells.{Cell, Lists, same}
use Rattle.meaning.specs.Turning.{hand_all, turning}
use Rattle.meaning.specs.Day.{Day, empty_day}
use Rattle.meaning.specs.Calls.{Call, open_run, link, call, yes1}
use Rattle.meaning.proofs.Numbers.{yes_most}
use Rattle.demands.specs.History.{after, same_pair, unsure, outward, differ, accepted, reversals, Directions, DirectedWith, History, calls, AllDirected, changes}
use Rattle.demands.proofs.Theorems.{demand_3}

-- three runs are linked with a, which has the trip number of b on another line
abbrev a : Run
a = record { line = 1; trip = 100 }

abbrev b : Run
b = record { line = 2; trip = 100 }

abbrev c : Run
c = record { line = 2; trip = 101 }

abbrev e : Run
e = record { line = 2; trip = 102 }

-- at first the link with b goes outward at a and that with c at c; then every link goes outward at the end that is not a
abbrev early : Directions
early x y = yes1 (same_run b y) + yes1 (same_run c x)

abbrev late : Directions
late x y = yes1 (same_run a y)

abbrev pub history : History
history =
    (open_run a, early) ∷ (open_run b, early) ∷ (open_run c, early) ∷ (open_run e, early) ∷ (link a b, early) ∷ (link a c, early) ∷ (link a e, late) ∷ []

-- a name is at most one of two different ones
pub not_two : (p x y : Run) → same_run x y ≡ false → yes1 (same_run p x) + yes1 (same_run p y) ≤ 1
not_two p x y n = go (same_run p x) refl (same_run p y) refl
  where
    go : (s : Bool) → same_run p x ≡ s → (t : Bool) → same_run p y ≡ t → yes1 s + yes1 t ≤ 1
    go true f true g = let z : same_run x y ≡ true = rw (← run-eq p x f) g in absurd (let w : ◌≡◌ {A = ℕ} 0 1 = cc in omega arith)
    go true f false g = omega arith
    go false f t g = omega (arith, yes_most t)

pub directed : AllDirected 1 2 (empty_day 4 3) history
unfolding bad_name same_run same hand_all turning unsure outward
directed = (
  record { each = refl; few = λ p. omega arith },
  (
    record { each = refl; few = λ p. omega arith },
    (
      record { each = refl; few = λ p. omega arith },
      (
        record { each = refl; few = λ p. omega arith },
        (
          record { each = refl; few = λ p. omega (arith, not_two p a b refl) },
          (
            record { each = refl; few = λ p. omega (arith, not_two p a c refl) },
            (record { each = refl; few = λ p. omega (arith, not_two p b c refl, not_two p c e refl, not_two p b e refl) }, tt),
          ),
        ),
      ),
    ),
  ),
)

pub numbers : (accepted 2 (empty_day 4 3) (calls history) ≡ 3) × (changes 2 (empty_day 4 3) early history ≡ 1) × (reversals 2 (empty_day 4 3) (calls history) ≡ 3)
unfolding bad_name same_run same hand_all turning same_pair differ
numbers = (refl, refl, refl)

-- 3 reversals, times 1, are at most 3 links and 1 change, times 3
pub bound : reversals 2 (empty_day 4 3) (calls history) * (2 + 1 - 2 * 1)
    ≤ (accepted 2 (empty_day 4 3) (calls history) + changes 2 (empty_day 4 3) early history) * (2 + 1)
bound = demand_3 4 3 2 1 (omega arith) early history directed

-- ---- too dense
-- before its last link the day of the history can be directed, with that link, one outward at each run: half of D
pub with_last : DirectedWith a e (2 / 2) late (after 2 (empty_day 4 3) (open_run a ∷ open_run b ∷ open_run c ∷ open_run e ∷ link a b ∷ link a c ∷ []))
unfolding bad_name same_run same hand_all turning unsure outward
with_last = record { each = refl; few = λ p. omega (arith, not_two p b c refl, not_two p c e refl, not_two p b e refl) }

-- rounded down: with D = 3 the ten links of five runs can be directed, two outward at each run, and the last of them is refused
abbrev r : ℕ → Run
r i = record { line = 1; trip = i }

-- outward at i go the links to the next run and to the one after it, round about
abbrev round : Directions
round x y = yes1 (ltb ((y.trip + 4 - x.trip) % 5) 2)

-- a name is at most one of the five
one_of : (p : Run) → yes1 (same_run p (r 0)) + yes1 (same_run p (r 1)) + yes1 (same_run p (r 2)) + yes1 (same_run p (r 3)) + yes1 (same_run p (r 4)) ≤ 1
unfolding same_run
one_of p =
    omega (
      arith,
      not_two p (r 0) (r 1) refl,
      not_two p (r 0) (r 2) refl,
      not_two p (r 0) (r 3) refl,
      not_two p (r 0) (r 4) refl,
      not_two p (r 1) (r 2) refl,
      not_two p (r 1) (r 3) refl,
      not_two p (r 1) (r 4) refl,
      not_two p (r 2) (r 3) refl,
      not_two p (r 2) (r 4) refl,
      not_two p (r 3) (r 4) refl,
    )

-- calls in three parts, and the day after each part written out
abbrev opens : List Call
opens = open_run (r 0) ∷ open_run (r 1) ∷ open_run (r 2) ∷ open_run (r 3) ∷ open_run (r 4) ∷ []

abbrev some_links : List Call
some_links = link (r 0) (r 2) ∷ link (r 0) (r 4) ∷ link (r 0) (r 1) ∷ link (r 1) (r 2) ∷ link (r 1) (r 4) ∷ []

abbrev more_links : List Call
more_links = link (r 2) (r 4) ∷ link (r 3) (r 0) ∷ link (r 3) (r 2) ∷ link (r 3) (r 4) ∷ []

abbrev cell : ℕ → ℕ → Cell
cell i t = record { index = i; target = t }

abbrev laid : Lists → List ℕ → Day
laid ls fs = record { runs = r 0 ∷ r 1 ∷ r 2 ∷ r 3 ∷ r 4 ∷ []; lists = ls; free = fs }

abbrev none_laid : Day
none_laid = laid ([] ∷ [] ∷ [] ∷ [] ∷ [] ∷ []) (0 ∷ 1 ∷ 2 ∷ 3 ∷ 4 ∷ 5 ∷ 6 ∷ 7 ∷ 8 ∷ 9 ∷ [])

abbrev some_laid : Day
some_laid = laid ((cell 2 1 ∷ cell 1 4 ∷ cell 0 2 ∷ []) ∷ (cell 4 4 ∷ cell 3 2 ∷ []) ∷ [] ∷ [] ∷ [] ∷ []) (5 ∷ 6 ∷ 7 ∷ 8 ∷ 9 ∷ [])

abbrev nine_laid : Day
nine_laid =
    laid ((cell 2 1 ∷ cell 1 4 ∷ cell 0 2 ∷ []) ∷ (cell 4 4 ∷ cell 3 2 ∷ []) ∷ (cell 5 4 ∷ []) ∷ (cell 8 4 ∷ cell 7 2 ∷ cell 6 0 ∷ []) ∷ [] ∷ [])
    (9 ∷ [])

abbrev nine : Day
nine = after 3 (after 3 (after 3 (empty_day 5 10) opens) some_links) more_links

none_yet : after 3 (empty_day 5 10) opens ≡ none_laid
unfolding bad_name same_run same hand_all turning
none_yet = refl

some_yet : after 3 none_laid some_links ≡ some_laid
unfolding bad_name same_run same hand_all turning
some_yet = refl

nine_yet : after 3 some_laid more_links ≡ nine_laid
unfolding bad_name same_run same hand_all turning
nine_yet = refl

nine_is : nine ≡ nine_laid
nine_is = ap (λ s. after 3 (after 3 s some_links) more_links) none_yet ∙ (ap (λ s. after 3 s more_links) some_yet ∙ nine_yet)

abbrev Refusing : Day → Type 0
Refusing s = DirectedWith (r 3) (r 1) 2 round s × ((call 3 s (link (r 3) (r 1))).answer ≡ Err TooDense)

refusing_laid : Refusing nine_laid
unfolding bad_name same_run same hand_all turning unsure outward
refusing_laid = (record { each = refl; few = λ p. omega (arith, one_of p) }, refl)

pub rounded_down : Refusing nine
rounded_down = subst Refusing (sym nine_is) refusing_laid
