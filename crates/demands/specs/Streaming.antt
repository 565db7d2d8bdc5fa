-- A stream's stop: which numbers it can be, and what a stream that a record stopped leaves. proofs/Stops.antt proves each.
use Rattle.std.specs.Prelude.{ℕ, ◌*◌, ◌≤◌, List, [], ◌∷◌, ◌++◌, ◌≡◌, ◌⊎◌, take, drop, Some, None, Err}
use Rattle.terms.specs.Refusal.{number_of}
use Rattle.terms.specs.declared.refusal.Refusal.{Refusal}
use Rattle.terms.specs.declared.refusal.Refusal.TheVariants.{WrongMark, CutShort}
use Rattle.record.specs.Bytes.{record_bytes, bytes_of}
use Rattle.record.specs.Reading.{reading_of}
use Rattle.record.specs.declared.Kind.TheVariants.{Ask}
use Rattle.meaning.specs.Day.{empty_table}
use Rattle.meaning.specs.Promise.{Tables, Result, stop_number, StreamPromise}

-- a stream's stop as a number: 0 at the end of the bytes, else refusal 1, 2, 11, 12 or 13, and nothing else
abbrev pub StopNumbers : Type 0
StopNumbers = (n C D : ℕ) (bytes : List ℕ) (t t' : Tables) (r : Result) → StreamPromise n C D bytes t r t'
    → let stop : ℕ = stop_number r.stop in
    (stop ≡ 0) ⊎ (stop ≡ 1) ⊎ (stop ≡ 2) ⊎ (stop ≡ 11) ⊎ (stop ≡ 12) ⊎ (stop ≡ 13)

-- the record that stops a stream stands after those carried out, and is refused with what the stream returns
abbrev pub StopStands : Type 0
StopStands = (n C D : ℕ) (bytes : List ℕ) (t t' : Tables) (r : Result) (why : Refusal) → StreamPromise n C D bytes t r t'
    → r.stop ≡ Some why → number_of WrongMark ≤ number_of why → reading_of (drop (record_bytes * r.carried) bytes) ≡ Some (Err why)

-- a stream that a record stops leaves every table, total and answer word as a stream of the bytes before that record does
abbrev pub StoppedAsBefore : Type 0
StoppedAsBefore = (n C D : ℕ) (bytes : List ℕ) (t t' : Tables) (r : Result) (why : Refusal) → StreamPromise n C D bytes t r t'
    → r.stop ≡ Some why → number_of WrongMark ≤ number_of why
    → (u : Tables) (q : Result) → StreamPromise n C D (take (record_bytes * r.carried) bytes) t q u
    → (q.stop ≡ None) × (q.carried ≡ r.carried) × (u ≡ t')

-- worked: an ask about two runs that are not open is refused with 5, and the byte after it stops the stream with 13
abbrev pub asked_once : List ℕ
asked_once = bytes_of (record { kind = Ask; first = record { line = 1; trip = 1 }; second = record { line = 1; trip = 2 } }) ++ 0 ∷ []

abbrev pub at_entry : Tables
at_entry = record { store = empty_table 1 1; spare = empty_table 1 1; waiting = 9 ∷ []; answers = 7 ∷ 7 ∷ []; accepted = 0; reversals = 0 }

abbrev pub StoppedOnce : Type 0
StoppedOnce = StreamPromise 1 1 2 asked_once at_entry (record { stop = Some CutShort; carried = 1 }) (record at_entry { answers = 5 ∷ 0 ∷ [] })
