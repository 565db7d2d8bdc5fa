-- Document 01, "What each call does" and "Refusal numbers": the calls on a day.
use Rattle.std.specs.Prelude.{ℕ, ◌+◌, ◌-◌, ◌*◌, ◌/◌, Bool, true, false, not, ◌||◌, ◌&&◌, List, [], ◌∷◌, eqb, ltb, leb, length, get_or, set}
use Rattle.std.specs.Prelude.{Option, None, Some}
use Rattle.terms.specs.Run.{no_run, bad_name, same_run}
use Rattle.terms.specs.declared.run.Run.{Run}
use Rattle.terms.specs.declared.refusal.Refusal.{Refusal}
use Rattle.terms.specs.declared.refusal.Refusal.TheVariants.{BadName, SameRun, NotOpen, Already, NoLink, NoRoom, TooDense, Touched, BadSet}
use Rattle.terms.specs.Refusal.{Answer}
use Rattle.std.specs.Prelude.{Ok, Err}
use Rattle.meaning.specs.Cells.{Cell, Lists, list, push, without, seek, holds, sum, links, same}
use Rattle.meaning.specs.Turning.{over, Ending, settled, dense, turning}
use Rattle.meaning.specs.Day.{Day, run_of, place_of, is_open, lowest}

-- the single calls on a sound store; empty makes a new one
pub data Call : Type 0 where
  open_run close_run : Run → Call
  link unlink ask : Run → Run → Call
  reading : List ℕ → Call

-- what a call answers and leaves; began: turning began
pub record Outcome : Type 0 where
  pub answer : Answer
  pub after : Day
  pub began : Bool

-- done with a number; refused: the day stays
abbrev pub done : ℕ → Day → Outcome
done k s = record { answer = Ok k; after = s; began = false }

abbrev pub refused : Refusal → Day → Outcome
refused why s = record { answer = Err why; after = s; began = false }

-- the link of two places is in either's list
abbrev pub linked : Day → ℕ → ℕ → Bool
linked s u v = holds v (list s.lists u) || holds u (list s.lists v)

-- a link touches the place, in either list
abbrev pub touched : Day → ℕ → Bool
touched s v = ltb 0 (sum (λ u c. same u v + same c.target v) s.lists)

-- strictly rising place numbers
abbrev pub rising : List ℕ → Bool
rising [] = true
rising (p ∷ []) = true
rising (p ∷ q ∷ ps) = ltb p q && rising (q ∷ ps)

-- fewer than two places, or not strictly rising
abbrev pub bad_set : List ℕ → Bool
bad_set ps = ltb (length ps) 2 || not (rising ps)

-- a place is open; a place number of n or above isn't
abbrev pub open_place : Day → ℕ → Bool
open_place s p = ltb p (length s.runs) && not (eqb (run_of s p).line 0)

-- every place of a set is open
abbrev pub all_open : Day → List ℕ → Bool
all_open s [] = true
all_open s (p ∷ ps) = open_place s p && all_open s ps

-- the tests of a call with their refusals, in the order in which they are made
abbrev pub Tests : Type 0
Tests = List (Bool × Refusal)

-- two named runs: 3, 4, 5
abbrev pub pair_tests : Day → Run → Run → Tests → Tests
pair_tests s p q ts =
    (bad_name p || bad_name q, BadName) ∷ (same_run p q, SameRun) ∷ (not (is_open s p) || not (is_open s q), NotOpen) ∷ ts

-- the rows that concern each call, in number order, but 14 before 5
abbrev pub tests : Day → Call → Tests
tests s (open_run p) = (bad_name p, BadName) ∷ (is_open s p, Already) ∷ (leb (length s.runs) (lowest s), NoRoom) ∷ []
tests s (close_run p) = (bad_name p, BadName) ∷ (not (is_open s p), NotOpen) ∷ (touched s (place_of s p), Touched) ∷ []
tests s (link p q) = pair_tests s p q ((linked s (place_of s p) (place_of s q), Already) ∷ (eqb (length s.free) 0, NoRoom) ∷ [])
tests s (unlink p q) = pair_tests s p q ((not (linked s (place_of s p) (place_of s q)), NoLink) ∷ [])
tests s (ask p q) = pair_tests s p q []
tests s (reading ps) = (bad_set ps, BadSet) ∷ (not (all_open s ps), NotOpen) ∷ []

-- the first test that holds gives the refusal
abbrev pub first_refusal : Tests → Option Refusal
first_refusal [] = None
first_refusal (t ∷ ts) = elim t.0 [ true ↦ Some t.1 | false ↦ first_refusal ts ]

-- open takes the lowest free place and returns it; close sets the place's line and number to 0
abbrev pub rename : Day → ℕ → Run → Day
rename s v p = record { runs = set s.runs v p; lists = s.lists; free = s.free }

-- turning's end: done with the number of reversals, or too dense and the day as it was
abbrev pub ended : Day → List ℕ → Ending → Outcome
ended s fs (settled ls r) = record { answer = Ok r; after = record { runs = s.runs; lists = ls; free = fs }; began = true }
ended s fs dense = record { answer = Err TooDense; after = s; began = true }

-- the first free cell goes to the front of u's list with target v; if u's length is then D + 1, turning begins with u alone
-- waiting, and m is the number of links, the new one included
abbrev pub link_in : ℕ → Day → ℕ → ℕ → ℕ → List ℕ → Outcome
link_in D s u v i fs =
    let ls : Lists = push s.lists u (record { index = i; target = v }) in
    elim (over D ls u) [
      | true ↦ ended s fs (turning D (links ls) ls (u ∷ []) 0)
      | false ↦ done 0 (record { runs = s.runs; lists = ls; free = fs })
    ]

-- no cell is free: the test for it stands before, so this answers nobody
abbrev pub do_link : ℕ → Day → ℕ → ℕ → List ℕ → Outcome
do_link D s u v [] = refused NoRoom s
do_link D s u v (i ∷ fs) = link_in D s u v i fs

-- the cell leaves u's list, the others keep their order, and it goes to the front of the free list
abbrev pub cut : Day → ℕ → ℕ → Day
cut s u v =
    let l : List Cell = list s.lists u in
    let k : ℕ = seek v l in
    record { runs = s.runs; lists = set s.lists u (without k l); free = (get_or l k (record { index = 0; target = 0 })).index ∷ s.free }

-- it leaves the list that has it
abbrev pub do_unlink : Day → ℕ → ℕ → Outcome
do_unlink s u v = elim (holds v (list s.lists u)) [ true ↦ done 0 (cut s u v) | false ↦ done 0 (cut s v u) ]

-- ask returns 1 if linked, else 0
abbrev pub yes1 : Bool → ℕ
yes1 true = 1
yes1 false = 0

-- 1 where a place is in a set
abbrev pub in_set : List ℕ → ℕ → ℕ
in_set [] v = 0
in_set (p ∷ ps) v = same p v + in_set ps v

-- links with both ends in the set
abbrev pub inside : Day → List ℕ → ℕ
inside s ps = sum (λ v c. in_set ps v * in_set ps c.target) s.lists

-- what a call does where no test holds
abbrev pub act : ℕ → Day → Call → Outcome
act D s (open_run p) = done (lowest s) (rename s (lowest s) p)
act D s (close_run p) = done 0 (rename s (place_of s p) no_run)
act D s (link p q) = do_link D s (place_of s p) (place_of s q) s.free
act D s (unlink p q) = do_unlink s (place_of s p) (place_of s q)
act D s (ask p q) = done (yes1 (linked s (place_of s p) (place_of s q))) s
act D s (reading ps) = done (inside s ps / (length ps - 1)) s

-- refused, or what the call does
abbrev pub unless : Option Refusal → Day → Outcome → Outcome
unless None s o = o
unless (Some why) s o = refused why s

-- a call on a day
abbrev pub call : ℕ → Day → Call → Outcome
call D s q = unless (first_refusal (tests s q)) s (act D s q)
