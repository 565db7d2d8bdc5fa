-- The demands as statements: demand 1 about the contracts of the public calls, demands 2 and 3 over any calls from the empty day
-- with n places and C cells. proofs/Refusals.antt, proofs/Theorems.antt and proofs/Streams.antt prove each.
use Rattle.std.specs.Prelude.{ℕ, ◌+◌, ◌-◌, ◌*◌, ◌/◌, ◌≤◌, Bool, false, ◌||◌, List, map, ◌≡◌, eqb, length, Some, Err}
use Rattle.terms.specs.Refusal.{number_of}
use Rattle.terms.specs.declared.run.Run.{Run}
use Rattle.terms.specs.declared.refusal.Refusal.{Refusal}
use Rattle.terms.specs.declared.refusal.Refusal.TheVariants.{Unsound, TooDense, WrongMark}
use Rattle.record.specs.declared.Record.{Record}
use Rattle.meaning.specs.Cells.{list}
use Rattle.meaning.specs.Day.{Day, empty_day}
use Rattle.meaning.specs.Calls.{Call, link, call, yes1}
use Rattle.meaning.specs.Stream.{call_of, answered, latest, Progress, carry, carry_all}
use Rattle.meaning.specs.Promise.{Promise, EmptyPromise, spare_after, waiting_after, LinkPromise, Tables, Result, StreamCarries, StreamPromise}
use Rattle.demands.specs.History.{after, joins, parts, related, joinings, partings, asked, accepted, reversals, Directions, DirectedWith, History, calls, AllDirected, changes}

-- demand 1: a refused call leaves the store unchanged: open, close, unlink, ask and reading of a set
abbrev pub CallRefused : Type 0
CallRefused = (n C D : ℕ) (q : Call) (w w' : List ℕ) (why : Refusal) → Promise n C D q w (Err why) w' → w' ≡ w

abbrev pub EmptyRefused : Type 0
EmptyRefused = (n C : ℕ) (w w' : List ℕ) (why : Refusal) → EmptyPromise n C w (Err why) w' → w' ≡ w

-- a refused link leaves spare and waiting too, but where it is too dense: then they are as after any link that began turning
abbrev pub is_dense : Refusal → Bool
is_dense why = eqb (number_of why) (number_of TooDense)

abbrev pub LinkRefused : Type 0
LinkRefused = (n C D : ℕ) (p q : Run) (w spare waiting w' spare' waiting' : List ℕ) (why : Refusal)
    → LinkPromise n C D p q w spare waiting (Err why) w' spare' waiting'
    → (w' ≡ w) × (spare' ≡ spare_after (is_dense why) w spare) × (waiting' ≡ waiting_after (is_dense why) n waiting)

-- a stream refused with 1 or 2 leaves every table, the answers and both totals, and carries nothing out
abbrev pub StreamRefused : Type 0
StreamRefused = (n C D : ℕ) (bytes : List ℕ) (t t' : Tables) (r : Result) (why : Refusal) → StreamPromise n C D bytes t r t'
    → r.stop ≡ Some why → number_of why ≤ number_of Unsound → (r.carried ≡ 0) × (t' ≡ t)

-- a stream that a record stops keeps the records before: it did what its whole records say, and no more
abbrev pub StreamStopped : Type 0
StreamStopped = (n C D : ℕ) (bytes : List ℕ) (t t' : Tables) (r : Result) (why : Refusal) → StreamPromise n C D bytes t r t'
    → r.stop ≡ Some why → number_of WrongMark ≤ number_of why → StreamCarries n C D bytes t r t'

-- a record refused in a stream leaves the day and both totals, its two answer words are the refusal's number and 0, and it counts as
-- carried out; spare and waiting are then those of a link that began turning where it is too dense, else as they were
abbrev pub RecordRefused : Type 0
RecordRefused = (D : ℕ) (p : Progress) (r : Record) (why : Refusal) → (call D p.day (call_of r)).answer ≡ Err why
    → ((carry D p r).day ≡ p.day) × ((carry D p r).accepted ≡ p.accepted) × ((carry D p r).reversals ≡ p.reversals)
    × ((carry D p r).answers ≡ answered p.answers p.carried (Err why)) × ((carry D p r).carried ≡ p.carried + 1)
    × ((carry D p r).turned ≡ latest (is_dense why) p.day p.turned)

abbrev pub Demand1 : Type 0
Demand1 = CallRefused × EmptyRefused × LinkRefused × StreamRefused × StreamStopped × RecordRefused

-- demand 2: asking says yes exactly for the pairs accepted as links and not unlinked since
abbrev pub Yes : Type 0
Yes = (n C D : ℕ) (cs : List Call) (p q : Run) → asked D (after D (empty_day n C) cs) p q ≡ yes1 (related p q D (empty_day n C) false cs)

-- the same by counting: a pair was unlinked as often as accepted as a link, or once less and then asking says yes
abbrev pub Count : Type 0
Count = (n C D : ℕ) (cs : List Call) (p q : Run)
    → asked D (after D (empty_day n C) cs) p q + partings p q D (empty_day n C) cs ≡ joinings p q D (empty_day n C) cs

-- demand 2: after every call no run's list is longer than D
abbrev pub Short : Type 0
Short = (n C D : ℕ) (cs : List Call) (v : ℕ) → length (list (after D (empty_day n C) cs).lists v) ≤ D

abbrev pub Demand2 : Type 0
Demand2 = Yes × Count × Short

-- relations are kept apart: only an accepted link or unlink of the two runs, line and trip number together, changes what asking
-- about them says; so no turning of lists does, and no call about a run with one of their trip numbers on another line
abbrev pub Apart : Type 0
Apart = (n C D : ℕ) (cs : List Call) (c : Call) (p q : Run)
    → let s : Day = after D (empty_day n C) cs in
    (joins p q c (call D s c).answer || parts p q c (call D s c).answer) ≡ false → asked D (call D s c).after p q ≡ asked D s p q

-- demand 3: for any whole d with 2d at most D and any choices with at most d outward at a run, the reversals of accepted links,
-- times D+1-2d, are at most the links accepted and the changes of direction together, times D+1; before the first call no link
-- stands, so any choice C₀ does there
abbrev pub Demand3 : Type 0
Demand3 = (n C D d : ℕ) → 2 * d ≤ D → (C₀ : Directions) (h : History) → AllDirected d D (empty_day n C) h
    → let k : ℕ = accepted D (empty_day n C) (calls h) in
    let r : ℕ = changes D (empty_day n C) C₀ h in
    reversals D (empty_day n C) (calls h) * (D + 1 - 2 * d) ≤ (k + r) * (D + 1)

-- demand 3: no link is refused as too dense if the links with it can be directed with at most half of D outward at each run
abbrev pub NeverDense : Type 0
NeverDense = (n C D : ℕ) (cs : List Call) (p q : Run) (X : Directions) → DirectedWith p q (D / 2) X (after D (empty_day n C) cs)
    → (call D (after D (empty_day n C) cs) (link p q)).answer ≡ Err TooDense → ⊥

-- records of a stream count as calls: the day that a stream leaves, and what it adds to the totals, are those of its records' calls
-- in turn, so every statement above speaks of streams too
abbrev pub RecordsAreCalls : Type 0
RecordsAreCalls = (D : ℕ) (rs : List Record) (p : Progress)
    → ((carry_all D rs p).day ≡ after D p.day (map call_of rs))
    × ((carry_all D rs p).accepted ≡ p.accepted + accepted D p.day (map call_of rs))
    × ((carry_all D rs p).reversals ≡ p.reversals + reversals D p.day (map call_of rs))
