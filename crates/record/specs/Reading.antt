-- Document 01, "Day records" and "Refusal numbers": what stands first in the rest of a stream.
use Rattle.std.specs.Prelude.{ℕ, Bool, true, false, not, cond, ◌&&◌, List, eqb, ltb, length, get_or, Option, Some, None, Result, Ok, Err}
use Rattle.terms.specs.Run.{no_run, same_run}
use Rattle.terms.specs.declared.run.Run.{Run}
use Rattle.terms.specs.declared.refusal.Refusal.{Refusal}
use Rattle.terms.specs.declared.refusal.Refusal.TheVariants.{WrongMark, WrongKind, CutShort}
use Rattle.record.specs.Bytes.{record_bytes, kind_at, first_at, second_at, marked, kind_of, run_at}
use Rattle.record.specs.declared.Kind.{Kind}
use Rattle.record.specs.declared.Kind.TheVariants.{Open, Close, Link, Unlink, Ask}
use Rattle.record.specs.declared.Record.{Record}

-- kinds 1 and 2 name one run
abbrev pub names_one : Kind → Bool
names_one Open = true
names_one Close = true
names_one Link = false
names_one Unlink = false
names_one Ask = false

-- the second run of kinds 1 and 2 is six zero bytes, else the record is refused with 12
unfoldable pub checked : Kind → Run → Run → Result Record Refusal
checked k a b = cond (names_one k && not (same_run b no_run)) (Err WrongKind) (Ok (record { kind = k; first = a; second = b }))

-- a kind that is not 1 to 5 stays refused; else the second run is judged
abbrev pub kinded : Result Kind Refusal → Run → Run → Result Record Refusal
kinded (Ok k) a b = checked k a b
kinded (Err why) a b = Err why

-- fewer than fifteen bytes: 13; another mark: 11; then the kind and the second run: 12
unfoldable pub record_of : List ℕ → Result Record Refusal
record_of s =
    cond (ltb (length s) record_bytes) (Err CutShort)
    (cond (not (marked s)) (Err WrongMark)
    (kinded (kind_of (get_or s kind_at 0)) (run_at s first_at) (run_at s second_at)))

-- no byte: the end; else the record that stands first, or why it is refused
unfoldable pub reading_of : List ℕ → Option (Result Record Refusal)
reading_of s = cond (eqb (length s) 0) None (Some (record_of s))
