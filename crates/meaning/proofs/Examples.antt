-- Document 01, "Examples": p1 to p10, as one joint statement about the meaning, by computation. Assumes nothing.
use Prim.Native.Nat.{ℕ}
use mathlib.Core.List.{List, [], ◌∷◌, ◌++◌, map}
use Rattle.std.specs.Prelude.{Option, None, Some}
use mathlib.Core.Path.{◌≡◌, refl}
use Rattle.terms.specs.Refusal.{refusal_of, value_of}
use Rattle.terms.specs.Run.{bad_name, same_run}
use Rattle.terms.specs.declared.run.Run.{Run}
use Rattle.meaning.specs.Cells.{Cell, Lists, list, push, same}
use Rattle.meaning.specs.Turning.{hand_all, settled, dense, turning}
use Rattle.meaning.specs.Day.{Day, empty_day}
use Rattle.meaning.specs.Calls.{Call, open_run, close_run, link, unlink, ask, reading, Outcome, call}

-- the runs of the examples: a, b, c, d, x, y on line 1, and a second line
abbrev a : Run
a = record { line = 1; trip = 100 }

abbrev b : Run
b = record { line = 1; trip = 101 }

abbrev c : Run
c = record { line = 1; trip = 102 }

abbrev d : Run
d = record { line = 1; trip = 103 }

abbrev x : Run
x = record { line = 1; trip = 104 }

abbrev y : Run
y = record { line = 1; trip = 105 }

abbrev nobody : Run
nobody = record { line = 0; trip = 100 }

abbrev other : Run
other = record { line = 2; trip = 100 }

-- the day after calls in turn, and each call's refusal and number
abbrev pub after : ℕ → Day → List Call → Day
after D s [] = s
after D s (q ∷ qs) = after D (call D s q).after qs

abbrev answers : ℕ → Day → List Call → List (ℕ × ℕ)
answers D s [] = []
answers D s (q ∷ qs) = let o : Outcome = call D s q in (refusal_of o.answer, value_of o.answer) ∷ answers D o.after qs

-- the last call's
abbrev last : ℕ → Day → List Call → Call → (ℕ × ℕ)
last D s qs q = let o : Outcome = call D (after D s qs) q in (refusal_of o.answer, value_of o.answer)

-- six places with a to y open, and cells for C links
abbrev six : ℕ → Day
six C = after 2 (empty_day 6 C) (open_run a ∷ open_run b ∷ open_run c ∷ open_run d ∷ open_run x ∷ open_run y ∷ [])

-- the places in a list, front to back: who is at the other end
abbrev ends : Day → ℕ → List ℕ
ends s v = map (λ e. e.target) (list s.lists v)

abbrev cells_in : Day → ℕ → List ℕ
cells_in s v = map (λ e. e.index) (list s.lists v)

abbrev star : List Call
star = link a b ∷ link a c ∷ link a d ∷ []

abbrev burst : List Call
burst = link b x ∷ link b y ∷ link a b ∷ link a c ∷ []

abbrev cell : ℕ → ℕ → Cell
cell i t = record { index = i; target = t }

-- the lists of the burst with the link a-d at the front of a's, in the first free cell
abbrev begun : Lists
begun = (cell 4 3 ∷ cell 3 2 ∷ cell 2 1 ∷ []) ∷ (cell 1 5 ∷ cell 0 4 ∷ []) ∷ [] ∷ [] ∷ [] ∷ [] ∷ []

-- the number of reversals after so many turned lists, none where a place still waits
abbrev within : ℕ → Lists → ℕ → Option ℕ
within m ls v = elim (turning 2 m ls (v ∷ []) 0) [ settled ls' r ↦ Some r | dense ↦ None ]

abbrev lines : Day
lines = after 2 (empty_day 3 3) (open_run a ∷ open_run other ∷ open_run c ∷ link a c ∷ [])

-- link a-b, a-c: a's list is c, b
abbrev P1 : Type 0
P1 = ends (after 2 (six 8) (link a b ∷ link a c ∷ [])) 0 ≡ 2 ∷ 1 ∷ []

-- then a-d: 3 reversals; b, c, d each hold a; a's list is empty
abbrev P2 : Type 0
P2 = (last 2 (six 8) (link a b ∷ link a c ∷ []) (link a d) ≡ (0, 3))
    × (map (ends (after 2 (six 8) star)) (0 ∷ 1 ∷ 2 ∷ 3 ∷ []) ≡ [] ∷ (0 ∷ []) ∷ (0 ∷ []) ∷ (0 ∷ []) ∷ [])

-- link b-x, b-y, a-b, a-c, a-d: the last returns 6 after two turned lists, and after one a place still waits; a holds b; c and d
-- hold a; x and y hold b; b is empty
abbrev P3 : Type 0
P3 = (last 2 (six 8) burst (link a d) ≡ (0, 6))
    × (map (ends (after 2 (six 8) (burst ++ (link a d ∷ [])))) (0 ∷ 1 ∷ 2 ∷ 3 ∷ 4 ∷ 5 ∷ [])
    ≡ (1 ∷ []) ∷ [] ∷ (0 ∷ []) ∷ (0 ∷ []) ∷ (1 ∷ []) ∷ (1 ∷ []) ∷ [])
    × (push (after 2 (six 8) burst).lists 0 (cell 4 3) ≡ begun) × (within 1 begun 0 ≡ None) × (within 2 begun 0 ≡ Some 6)

-- D = 3: a holds d, c, b; unlink c-a leaves d, b, and the next link takes the freed cell
abbrev P4 : Type 0
P4 = (ends (after 3 (six 8) star) 0 ≡ 3 ∷ 2 ∷ 1 ∷ []) × (ends (after 3 (six 8) (star ++ (unlink c a ∷ []))) 0 ≡ 3 ∷ 1 ∷ [])
    × (cells_in (after 3 (six 8) star) 0 ≡ 2 ∷ 1 ∷ 0 ∷ []) × (cells_in (after 3 (six 8) (star ++ (unlink c a ∷ link x y ∷ []))) 4 ≡ 1 ∷ [])

-- link of a run to itself: 4; with line 0 on both sides: 3
abbrev P5 : Type 0
P5 = answers 2 (six 8) (link a a ∷ link nobody nobody ∷ []) ≡ (4, 0) ∷ (3, 0) ∷ []

-- C = 1: second link 8; a repeat of the first, the other way round, 6; after unlink, a link is accepted in cell 0
abbrev P6 : Type 0
P6 = (answers 2 (six 1) (link a b ∷ link c d ∷ link b a ∷ unlink a b ∷ link c d ∷ []) ≡ (0, 0) ∷ (8, 0) ∷ (6, 0) ∷ (0, 0) ∷ (0, 0) ∷ [])
    × (cells_in (after 2 (six 1) (link a b ∷ unlink a b ∷ link c d ∷ [])) 2 ≡ 0 ∷ [])

-- n = 1: opening the open run again 6, opening another 8
abbrev P7 : Type 0
P7 = answers 2 (empty_day 1 1) (open_run a ∷ open_run a ∷ open_run b ∷ []) ≡ (0, 0) ∷ (6, 0) ∷ (8, 0) ∷ []

-- line 1 trip 100 and line 2 trip 100 are two places; a link to one isn't shown at the other
abbrev P8 : Type 0
P8 = (answers 2 (empty_day 3 3) (open_run a ∷ open_run other ∷ []) ≡ (0, 0) ∷ (0, 1) ∷ [])
    × (answers 2 lines (ask a c ∷ ask other c ∷ []) ≡ (0, 1) ∷ (0, 0) ∷ [])

-- a triangle's reading is 1
abbrev P9 : Type 0
P9 = last 2 (six 8) (link a b ∷ link b c ∷ link c a ∷ []) (reading (0 ∷ 1 ∷ 2 ∷ [])) ≡ (0, 1)

-- after p2, closing a: 10
abbrev P10 : Type 0
P10 = last 2 (six 8) star (close_run a) ≡ (10, 0)

pub examples : P1 × P2 × P3 × P4 × P5 × P6 × P7 × P8 × P9 × P10
unfolding turning hand_all bad_name same_run same
examples = (refl, (refl, refl), (refl, refl, refl, refl, refl), (refl, refl, refl, refl), refl, (refl, refl), refl, (refl, refl), refl, refl)
