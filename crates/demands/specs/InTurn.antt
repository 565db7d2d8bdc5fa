-- A stream is its single calls in turn, said by the positions of its records: the answer words, spare and waiting, and an ask or a
-- refusal 9 inside a stream. proofs/InTurn.antt proves each.
use Rattle.std.specs.Prelude.{ℕ, zero, suc, ◌+◌, ◌*◌, ◌/◌, ◌≤◌, ◌<◌, true, false, List, [], ◌∷◌, ◌++◌, map, ◌≡◌, ◌⊎◌, eqb, length, take, replicate}
use Rattle.std.specs.Prelude.{Option, None, Some}
use Rattle.terms.specs.Refusal.{number_of, refusal_of, value_of}
use Rattle.terms.specs.Run.{no_run}
use Rattle.terms.specs.declared.run.Run.{Run}
use Rattle.terms.specs.declared.refusal.Refusal.TheVariants.{TooDense}
use Rattle.record.specs.declared.Kind.TheVariants.{Open, Link, Ask}
use Rattle.record.specs.declared.Record.{Record}
use Rattle.meaning.specs.Table.{word}
use Rattle.meaning.specs.Soundness.{Sound}
use Rattle.meaning.specs.Day.{Day, day_of, empty_day}
use Rattle.meaning.specs.Calls.{Call, Outcome, call, yes1}
use Rattle.meaning.specs.Stream.{call_of, records_of}
use Rattle.meaning.specs.Promise.{Holds, Tables, Result, StreamLent, StreamCarries, StreamPromise}
use Rattle.demands.specs.History.{after, related, asked, accepted, reversals, Directions, DirectedWith}
use Rattle.demands.specs.Promised.{Step, KeepsAll, chain_calls, FromEmpty}

-- the i-th of a stream's records, from 0 on; none past the last
abbrev pub nth : List Record → ℕ → Option Record
nth [] i = None
nth (x ∷ xs) zero = Some x
nth (x ∷ xs) (suc i) = nth xs i

-- the records that a stream carried out
abbrev pub carried_out : List ℕ → Result → List Record
carried_out bytes r = take r.carried (records_of bytes).records

-- the calls of the records before the i-th
abbrev pub calls_before : List Record → ℕ → List Call
calls_before rs i = map call_of (take i rs)

-- the day before the i-th record: after the calls of the records before it; s is the day before the stream
abbrev pub day_before : ℕ → Day → List Record → ℕ → Day
day_before D s rs i = after D s (calls_before rs i)

-- the single call of x, the i-th record, on the day before it
abbrev pub single_call : ℕ → Day → List Record → ℕ → Record → Outcome
single_call D s rs i x = call D (day_before D s rs i) (call_of x)

-- the i-th record is rec, its call began turning, and that of no later record did
pub record LastTurned (D : ℕ) (s : Day) (rs : List Record) (i : ℕ) : Type 0 where
  pub rec : Record
  pub stands : nth rs i ≡ Some rec
  pub began : (single_call D s rs i rec).began ≡ true
  pub later : (j : ℕ) (y : Record) → i < j → nth rs j ≡ Some y → (single_call D s rs j y).began ≡ false

-- no record's call began turning
abbrev pub NoneTurned : ℕ → Day → List Record → Type 0
NoneTurned D s rs = (i : ℕ) (x : Record) → nth rs i ≡ Some x → (single_call D s rs i x).began ≡ false

-- among any records there is a last one whose call began turning, or none
abbrev pub LastOrNone : Type 0
LastOrNone = (D : ℕ) (s : Day) (rs : List Record) → ((i : ℕ) × LastTurned D s rs i) ⊎ NoneTurned D s rs

-- ---- what a stream leaves of the tables t, where it carried out the records rs and leaves t'; s is the day before it
-- each record stands at its place, and its two answer words are the refusal and the number of its single call
abbrev pub Words : ℕ → Day → List Record → Tables → Type 0
Words D s rs t' =
    (i : ℕ) → i < length rs
    → (x : Record) × (nth rs i ≡ Some x)
    × (word t'.answers (2 * i) ≡ refusal_of (single_call D s rs i x).answer)
    × (word t'.answers (2 * i + 1) ≡ value_of (single_call D s rs i x).answer)

-- all other words of the answer table stay as handed in
abbrev pub OtherWords : List Record → Tables → Tables → Type 0
OtherWords rs t t' = (length t'.answers ≡ length t.answers) × ((j : ℕ) → 2 * length rs ≤ j → word t'.answers j ≡ word t.answers j)

-- where a last record's call began turning, the spare holds the day before that record, and every word of waiting is 0
abbrev pub LastLeaves : ℕ → ℕ → ℕ → Day → List Record → Tables → Type 0
LastLeaves n C D s rs t' = (i : ℕ) → LastTurned D s rs i → Holds n C D t'.spare (day_before D s rs i) × (t'.waiting ≡ replicate n 0)

-- where none began turning, spare and waiting stay as handed in
abbrev pub NoneLeaves : ℕ → Day → List Record → Tables → Tables → Type 0
NoneLeaves D s rs t t' = NoneTurned D s rs → (t'.spare ≡ t.spare) × (t'.waiting ≡ t.waiting)

-- the totals go forward by what the single calls count
abbrev pub TotalsForward : ℕ → Day → List Record → Tables → Tables → Type 0
TotalsForward D s rs t t' =
    (t'.accepted ≡ t.accepted + accepted D s (map call_of rs)) × (t'.reversals ≡ t.reversals + reversals D s (map call_of rs))

-- all of it, and a sound store holds the day after the single calls
pub record InTurn (n C D : ℕ) (rs : List Record) (t t' : Tables) : Type 0 where
  pub words : Words D (day_of n C t.store) rs t'
  pub others : OtherWords rs t t'
  pub last : LastLeaves n C D (day_of n C t.store) rs t'
  pub none : NoneLeaves D (day_of n C t.store) rs t t'
  pub totals : TotalsForward D (day_of n C t.store) rs t t'
  pub holds : Sound n C D t.store → Holds n C D t'.store (after D (day_of n C t.store) (map call_of rs))

-- a stream that is carried out, with two answer words for each record, is the single calls of all its records in turn
abbrev pub CarriedInTurn : Type 0
CarriedInTurn = (n C D : ℕ) (bytes : List ℕ) (t t' : Tables) (r : Result) → StreamCarries n C D bytes t r t' → 2 * r.carried ≤ length t.answers
    → let rs : List Record = (records_of bytes).records in
    (r.carried ≡ length rs) × InTurn n C D rs t t'

-- a stream handed any numbers and tables is the single calls of the records that it carried out: none, if it is refused with 1 or 2
abbrev pub PromisedInTurn : Type 0
PromisedInTurn = (n C D : ℕ) (bytes : List ℕ) (t t' : Tables) (r : Result) → StreamPromise n C D bytes t r t'
    → let rs : List Record = carried_out bytes r in
    (r.carried ≡ length rs) × InTurn n C D rs t t'

-- it carries out all its records where it is refused with neither
abbrev pub PromisedAll : Type 0
PromisedAll = (n C D : ℕ) (bytes : List ℕ) (t t' : Tables) (r : Result) → StreamPromise n C D bytes t r t'
    → StreamLent n C D bytes t → Sound n C D t.store → carried_out bytes r ≡ (records_of bytes).records

-- ---- inside a stream, after a chain of promised calls from any sound table
-- an ask's number is 1 exactly for a pair accepted as a link, or linked at the start, and not unlinked since, else 0: by the calls of
-- the chain and of the records before it
abbrev pub InsideAsk : Type 0
InsideAsk = (n C D : ℕ) (w₀ : List ℕ) (xs : List Step) (bytes : List ℕ) (t t' : Tables) (r : Result)
    → Sound n C D w₀ → KeepsAll n C D w₀ xs t.store → StreamPromise n C D bytes t r t'
    → let rs : List Record = carried_out bytes r in
    let s : Day = day_of n C w₀ in
    (i : ℕ) (p q : Run) → nth rs i ≡ Some (record { kind = Ask; first = p; second = q })
    → word t'.answers (2 * i + 1) ≡ yes1 (related p q D s (eqb (asked D s p q) 1) (chain_calls xs ++ calls_before rs i))

-- a record is answered with 9 only if it is a link, and the links with it can't be directed with at most half of D outward at each run
abbrev pub InsideDense : Type 0
InsideDense = (n C D : ℕ) (w₀ : List ℕ) (xs : List Step) (bytes : List ℕ) (t t' : Tables) (r : Result)
    → Sound n C D w₀ → KeepsAll n C D w₀ xs t.store → StreamPromise n C D bytes t r t'
    → let rs : List Record = carried_out bytes r in
    let s : Day = day_of n C w₀ in
    (i : ℕ) (x : Record) → nth rs i ≡ Some x → word t'.answers (2 * i) ≡ number_of TooDense
    → (x.kind ≡ Link)
    × ((X : Directions) → DirectedWith x.first x.second (D / 2) X (after D s (chain_calls xs ++ calls_before rs i)) → ⊥)

-- ---- inside a stream, after a chain from an emptied store
-- the same of an ask: 1 exactly for a pair accepted as a link and not unlinked since
abbrev pub EmptiedInsideAsk : Type 0
EmptiedInsideAsk = (n C D : ℕ) (xs : List Step) (bytes : List ℕ) (t t' : Tables) (r : Result)
    → FromEmpty n C D xs t.store → StreamPromise n C D bytes t r t'
    → let rs : List Record = carried_out bytes r in
    (i : ℕ) (p q : Run) → nth rs i ≡ Some (record { kind = Ask; first = p; second = q })
    → word t'.answers (2 * i + 1) ≡ yes1 (related p q D (empty_day n C) false (chain_calls xs ++ calls_before rs i))

-- the same of refusal 9
abbrev pub EmptiedInsideDense : Type 0
EmptiedInsideDense = (n C D : ℕ) (xs : List Step) (bytes : List ℕ) (t t' : Tables) (r : Result)
    → FromEmpty n C D xs t.store → StreamPromise n C D bytes t r t'
    → let rs : List Record = carried_out bytes r in
    (i : ℕ) (x : Record) → nth rs i ≡ Some x → word t'.answers (2 * i) ≡ number_of TooDense
    → (x.kind ≡ Link)
    × ((X : Directions) → DirectedWith x.first x.second (D / 2) X (after D (empty_day n C) (chain_calls xs ++ calls_before rs i)) → ⊥)

-- ---- worked
-- four runs are opened, the first is linked with each of the others, and the last link is asked about
abbrev pub worked_run : ℕ → Run
worked_run k = record { line = 1; trip = k }

abbrev pub worked_open : ℕ → Record
worked_open k = record { kind = Open; first = worked_run k; second = no_run }

abbrev pub worked_link : ℕ → Record
worked_link k = record { kind = Link; first = worked_run 1; second = worked_run k }

abbrev pub worked : List Record
worked =
    worked_open 1 ∷ worked_open 2 ∷ worked_open 3 ∷ worked_open 4 ∷ worked_link 2 ∷ worked_link 3 ∷ worked_link 4
    ∷ record { kind = Ask; first = worked_run 1; second = worked_run 4 } ∷ []

-- with D = 2 the last link, the record with 6 before it, is the last that began turning
abbrev pub WorkedTurned : Type 0
WorkedTurned = LastTurned 2 (empty_day 4 3) worked 6

-- a stream of them leaves the spare with the day before that link, which has two of the links
abbrev pub WorkedLeaves : Type 0
WorkedLeaves = (t t' : Tables) → day_of 4 3 t.store ≡ empty_day 4 3 → InTurn 4 3 2 worked t t'
    → Holds 4 3 2 t'.spare (day_before 2 (empty_day 4 3) worked 6) × (t'.waiting ≡ 0 ∷ 0 ∷ 0 ∷ 0 ∷ [])
    × (word t'.answers 12 ≡ 0) × (word t'.answers 13 ≡ 3) × (word t'.answers 14 ≡ 0) × (word t'.answers 15 ≡ 1)
