-- What carrying out one record shows, for any of the calls.
use Rattle.std.specs.Prelude.{ℕ, ◌+◌, ◌*◌, ◌^◌, ◌≤◌, ◌<◌, List, ◌≡◌, length}
use Rattle.terms.specs.Refusal.{value_of}
use Rattle.record.specs.declared.Record.{Record}
use Rattle.terms.specs.Refusal.{Answer}
use Rattle.meaning.specs.Soundness.{Sound}
use Rattle.meaning.specs.Day.{day_of}
use Rattle.meaning.specs.Calls.{Call, Outcome, call}
use Rattle.meaning.specs.Promise.{Holds, Carries, Lent, spare_after, waiting_after}
use Rattle.meaning.specs.Stream.{call_of, answered, taken, reversed}
use Rattle.stream.specs.declared.totals.Totals.{Totals}

-- a call on a sound store with the tables beside it; its number fits a word
pub record Carried (n C D : ℕ) (q : Call) (w spare waiting : List ℕ) (a : Answer) (w' spare' waiting' : List ℕ) : Type 0 where
  pub carries : Carries n C D q w a w'
  pub spared : spare' ≡ spare_after (call D (day_of n C w) q).began w spare
  pub waited : waiting' ≡ waiting_after (call D (day_of n C w) q).began n waiting
  pub small : value_of a < 2 ^ 32

-- what is shown before a record is carried out: the store is sound, its answer words are there, no total can overflow
pub record StepOk (n C D : ℕ) (w spare waiting answers : List ℕ) (i : ℕ) (t : Totals) : Type 0 where
  pub lent : Lent n C D w spare waiting
  pub sound : Sound n C D w
  pub room : 2 * i + 1 < length answers
  pub accepted : t.accepted < 2 ^ 63
  pub reversals : t.reversals < 2 ^ 63

-- what the record's call answers and leaves on the day that the store holds
abbrev pub outcome : ℕ → ℕ → ℕ → Record → List ℕ → Outcome
outcome n C D r w = call D (day_of n C w) (call_of r)

-- a record carried out: the day, the tables and the totals as its call leaves them
pub record Stepped (n C D : ℕ) (r : Record) (w spare waiting answers : List ℕ) (i : ℕ) (t : Totals) (w' spare' waiting' answers' : List ℕ) (t' : Totals) : Type 0 where
  pub holds : Holds n C D w' (outcome n C D r w).after
  pub spared : spare' ≡ spare_after (outcome n C D r w).began w spare
  pub waited : waiting' ≡ waiting_after (outcome n C D r w).began n waiting
  pub answers_are : answers' ≡ answered answers i (outcome n C D r w).answer
  pub accepted : t'.accepted ≡ t.accepted + taken (call_of r) (outcome n C D r w).answer
  pub reversals : t'.reversals ≡ t.reversals + reversed (call_of r) (outcome n C D r w).answer
  pub few : (t'.accepted ≤ t.accepted + 1) × (t'.reversals < t.reversals + 2 ^ 32)
