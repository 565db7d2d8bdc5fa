-- Document 01, "Examples", dayrun: its sizes, how it starts, what its lines say.
use Rattle.std.specs.Prelude.{ℕ, ◌+◌, ◌*◌, ◌/◌, List, ◌≡◌, get_or}
use Rattle.std.specs.Prelude.{None}
use Rattle.record.specs.Bytes.{record_bytes, kind_at}
use Rattle.meaning.specs.Cells.{links}
use Rattle.meaning.specs.Day.{empty_day}
use Rattle.meaning.specs.Promise.{stop_number}
use Rattle.meaning.specs.Stream.{records_of, Progress, carry_all}
use Rattle.dayrun.specs.declared.Line.{Line}
use Rattle.dayrun.specs.declared.Ran.{Ran}

-- n = 256, C = 1,024, D = 4
abbrev pub places : ℕ
places = 256

abbrev pub cells : ℕ
cells = 1024

abbrev pub limit : ℕ
limit = 4

-- above 12,000 bytes it prints only `end 1 0 0 0`
abbrev pub bytes_most : ℕ
bytes_most = 12000

-- two words for each record that the bytes have room for
abbrev pub answer_words : ℕ
answer_words = 2 * (bytes_most / record_bytes)

-- it starts empty
abbrev pub start : List ℕ → Progress
start answers = record { day = empty_day places cells; answers = answers; carried = 0; accepted = 0; reversals = 0; turned = None }

-- the records carried out in order
abbrev pub ran_day : List ℕ → List ℕ → Progress
ran_day bytes answers = carry_all limit (records_of bytes).records (start answers)

-- for each record carried out: position from 1, kind, refusal, number
abbrev pub printed : List ℕ → List ℕ → ℕ → Line
printed bytes answers i =
    record { position = i + 1; kind = get_or bytes (record_bytes * i + kind_at) 0; refusal = get_or answers (2 * i) 0; number = get_or answers (2 * i + 1) 0 }

-- then the stream's refusal, records carried out, total reversals, standing links
pub record DayEnds (bytes answers : List ℕ) (r : Ran) (answers' : List ℕ) : Type 0 where
  pub refusal : r.refusal ≡ stop_number (records_of bytes).stop
  pub carried : r.carried ≡ (ran_day bytes answers).carried
  pub reversals : r.reversals ≡ (ran_day bytes answers).reversals
  pub links : r.links ≡ links (ran_day bytes answers).day.lists
  pub answered : answers' ≡ (ran_day bytes answers).answers
