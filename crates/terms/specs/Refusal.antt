-- Document 01, "Refusal numbers".
use Rattle.std.specs.Prelude.{ℕ, Result, Ok, Err}
use Rattle.terms.specs.declared.refusal.Refusal.{Refusal}
use Rattle.terms.specs.declared.refusal.Refusal.TheVariants.{Sizes, Unsound, BadName, SameRun, NotOpen, Already, NoLink, NoRoom, TooDense, Touched, WrongMark, WrongKind, CutShort, BadSet}

-- the table's number for each refusal
abbrev pub number_of : Refusal → ℕ
number_of Sizes = 1
number_of Unsound = 2
number_of BadName = 3
number_of SameRun = 4
number_of NotOpen = 5
number_of Already = 6
number_of NoLink = 7
number_of NoRoom = 8
number_of TooDense = 9
number_of Touched = 10
number_of WrongMark = 11
number_of WrongKind = 12
number_of CutShort = 13
number_of BadSet = 14

-- what a call answers: done with a number, or refused
abbrev pub Answer : Type 0
Answer = Result ℕ Refusal

-- 0 is done
abbrev pub refusal_of : Answer → ℕ
refusal_of (Ok k) = 0
refusal_of (Err why) = number_of why

-- a refused call returns number 0
abbrev pub value_of : Answer → ℕ
value_of (Ok k) = k
value_of (Err why) = 0
