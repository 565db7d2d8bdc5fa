-- Document 01, "Day records": which bytes a record is.
use Rattle.std.specs.Prelude.{ℕ, ◌+◌, ◌*◌, ◌/◌, ◌%◌, ◌^◌, ◌≤◌, ◌<◌, Bool, cond, ◌&&◌, List, [], ◌∷◌, ◌++◌, eqb, get_or, Result, Ok, Err}
use Rattle.terms.specs.Run.{line_most}
use Rattle.terms.specs.declared.refusal.Refusal.{Refusal}
use Rattle.terms.specs.declared.refusal.Refusal.TheVariants.{WrongKind}
use Rattle.terms.specs.declared.run.Run.{Run}
use Rattle.record.specs.declared.Kind.{Kind}
use Rattle.record.specs.declared.Kind.TheVariants.{Open, Close, Link, Unlink, Ask}
use Rattle.record.specs.declared.Record.{Record}

-- fifteen bytes
abbrev pub record_bytes : ℕ
record_bytes = 15

-- where the kind and each run begin: after the mark, after the kind, after the first run
abbrev pub kind_at : ℕ
kind_at = 2

abbrev pub first_at : ℕ
first_at = 3

abbrev pub second_at : ℕ
second_at = 9

-- the two-byte mark 0x52 0x4E
abbrev pub mark : List ℕ
mark = 0x52 ∷ 0x4E ∷ []

-- kinds: 1 open, 2 close, 3 link, 4 unlink, 5 ask
abbrev pub kind_byte : Kind → ℕ
kind_byte Open = 1
kind_byte Close = 2
kind_byte Link = 3
kind_byte Unlink = 4
kind_byte Ask = 5

-- line and trip number of a run, big-endian: 2 and 4 bytes
abbrev pub run_bytes : Run → List ℕ
run_bytes r =
    r.line / 256 % 256 ∷ r.line % 256
    ∷ r.trip / 16777216 % 256 ∷ r.trip / 65536 % 256 ∷ r.trip / 256 % 256 ∷ r.trip % 256 ∷ []

-- a run that six bytes can hold: a line in two bytes, a trip number in four
pub record RunFits (r : Run) : Type 0 where
  pub line : r.line ≤ line_most
  pub trip : r.trip < 2 ^ 32

-- the mark, the kind, the first run, the second run
abbrev pub bytes_of : Record → List ℕ
bytes_of r = mark ++ (kind_byte r.kind ∷ (run_bytes r.first ++ run_bytes r.second))

-- the bytes begin with the mark
unfoldable pub marked : List ℕ → Bool
marked s = eqb (get_or s 0 0) (get_or mark 0 0) && eqb (get_or s 1 0) (get_or mark 1 0)

-- what a kind byte stands for; a byte that is not 1 to 5 is refused with 12
unfoldable pub kind_of : ℕ → Result Kind Refusal
kind_of b =
    cond (eqb b (kind_byte Open)) (Ok Open)
    (cond (eqb b (kind_byte Close)) (Ok Close)
    (cond (eqb b (kind_byte Link)) (Ok Link)
    (cond (eqb b (kind_byte Unlink)) (Ok Unlink)
    (cond (eqb b (kind_byte Ask)) (Ok Ask) (Err WrongKind)))))

-- the number that two bytes are at a position, big-endian
abbrev pub pair_at : List ℕ → ℕ → ℕ
pair_at s at = get_or s at 0 * 256 + get_or s (at + 1) 0

-- the run at a position: its line in two bytes, then its trip number in four
unfoldable pub run_at : List ℕ → ℕ → Run
run_at s at = record { line = pair_at s at; trip = pair_at s (at + 2) * 65536 + pair_at s (at + 4) }
