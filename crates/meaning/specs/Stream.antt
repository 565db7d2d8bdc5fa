-- Document 01, "Day records": a stream is its records' single calls in turn.
use Rattle.std.specs.Prelude.{ℕ, zero, suc, ◌+◌, ◌*◌, Bool, true, false, List, [], ◌∷◌, length, drop, Option, None, Some, Result, Ok, Err}
use Rattle.terms.specs.Refusal.{refusal_of, value_of}
use Rattle.terms.specs.declared.run.Run.{Run}
use Rattle.terms.specs.declared.refusal.Refusal.{Refusal}
use Rattle.terms.specs.Refusal.{Answer}
use Rattle.record.specs.Bytes.{record_bytes}
use Rattle.record.specs.Reading.{reading_of}
use Rattle.record.specs.declared.Kind.{Kind}
use Rattle.record.specs.declared.Kind.TheVariants.{Open, Close, Link, Unlink, Ask}
use Rattle.record.specs.declared.Record.{Record}
use Rattle.meaning.specs.Table.{written}
use Rattle.meaning.specs.Day.{Day}
use Rattle.meaning.specs.Calls.{Call, open_run, close_run, link, unlink, ask, reading as read_set, Outcome, call, yes1}

-- the call that a record asks for
abbrev pub asks_for : Kind → Run → Run → Call
asks_for Open a b = open_run a
asks_for Close a b = close_run a
asks_for Link a b = link a b
asks_for Unlink a b = unlink a b
asks_for Ask a b = ask a b

-- with the runs that it names
abbrev pub call_of : Record → Call
call_of r = asks_for r.kind r.first r.second

-- the records of a stream in order, and the refusal that stops it, if any
pub record DayRecords : Type 0 where
  pub records : List Record
  pub stop : Option Refusal

-- a record goes before what is read after it; the end, or a record that is none, is the last
abbrev pub read_on : Option (Result Record Refusal) → DayRecords → DayRecords
read_on (Some (Ok r)) rest = record { records = r ∷ rest.records; stop = rest.stop }
read_on None rest = record { records = []; stop = None }
read_on (Some (Err why)) rest = record { records = []; stop = Some why }

-- each is read from the rest of the stream that starts after the one before; k is at least the number of bytes
unfoldable pub read_all : ℕ → List ℕ → DayRecords
read_all zero s = record { records = []; stop = None }
read_all (suc k) s = read_on (reading_of s) (read_all k (drop record_bytes s))

-- the records of all the bytes
abbrev pub records_of : List ℕ → DayRecords
records_of s = read_all (length s) s

-- an accepted link counts 1, and the reversals it answers
abbrev pub accepts : Answer → Bool
accepts (Ok k) = true
accepts (Err why) = false

abbrev pub taken : Call → Answer → ℕ
taken (open_run x) a = 0
taken (close_run x) a = 0
taken (link x y) a = yes1 (accepts a)
taken (unlink x y) a = 0
taken (ask x y) a = 0
taken (read_set ps) a = 0

abbrev pub reversed : Call → Answer → ℕ
reversed (open_run x) a = 0
reversed (close_run x) a = 0
reversed (link x y) a = value_of a
reversed (unlink x y) a = 0
reversed (ask x y) a = 0
reversed (read_set ps) a = 0

-- how far a stream is: the day, the answer table, the records carried out, the totals, and the day as at entry of the last link
-- that began turning
pub record Progress : Type 0 where
  pub day : Day
  pub answers : List ℕ
  pub carried : ℕ
  pub accepted : ℕ
  pub reversals : ℕ
  pub turned : Option Day

-- the day as at entry of the last link that began turning: s, if this one did
abbrev pub latest : Bool → Day → Option Day → Option Day
latest true s before = Some s
latest false s before = before

-- the two answer words of the i-th record: refusal and number
abbrev pub answered : List ℕ → ℕ → Answer → List ℕ
answered ws i a = written (written ws (2 * i) (refusal_of a)) (2 * i + 1) (value_of a)

-- a record carried out writes its answer words and brings the totals forward
abbrev pub carry : ℕ → Progress → Record → Progress
carry D p r =
    let o : Outcome = call D p.day (call_of r) in
    record {
      day = o.after;
      answers = answered p.answers p.carried o.answer;
      carried = p.carried + 1;
      accepted = p.accepted + taken (call_of r) o.answer;
      reversals = p.reversals + reversed (call_of r) o.answer;
      turned = latest o.began p.day p.turned;
    }

-- the records in order; one refused with 3 to 10 does not stop it
unfoldable pub carry_all : ℕ → List Record → Progress → Progress
carry_all D [] p = p
carry_all D (r ∷ rs) p = carry_all D rs (carry D p r)
