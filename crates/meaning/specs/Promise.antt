-- What every public call promises, for all numbers and tables handed in: its answer and each table as it leaves it.
use Rattle.std.specs.Prelude.{ℕ, ◌*◌, ◌/◌, ◌≤◌, Bool, true, false, List, ◌≡◌, length, replicate}
use Rattle.std.specs.Prelude.{Option, None, Some}
use Rattle.terms.specs.Size.{InRoom, store_words, waiting_words, stream_most, total_most}
use Rattle.terms.specs.Refusal.{number_of}
use Rattle.terms.specs.declared.run.Run.{Run}
use Rattle.terms.specs.Refusal.{Answer}
use Rattle.std.specs.Prelude.{Ok, Err}
use Rattle.terms.specs.declared.refusal.Refusal.{Refusal}
use Rattle.terms.specs.declared.refusal.Refusal.TheVariants.{Sizes, Unsound}
use Rattle.record.specs.Bytes.{record_bytes}
use Rattle.meaning.specs.Soundness.{Sized, Sound}
use Rattle.meaning.specs.Day.{Day, day_of, empty_table}
use Rattle.meaning.specs.Calls.{Call, link, call}
use Rattle.meaning.specs.Stream.{records_of, Progress, carry_all}

-- the table is sound and holds the day; that day alone determines its words
pub record Holds (n C D : ℕ) (w : List ℕ) (s : Day) : Type 0 where
  pub sound : Sound n C D w
  pub day : day_of n C w ≡ s

-- a call on a sound table: the answer and the day are those of the call on the day that it holds
pub record Carries (n C D : ℕ) (q : Call) (w : List ℕ) (a : Answer) (w' : List ℕ) : Type 0 where
  pub answer : a ≡ (call D (day_of n C w) q).answer
  pub holds : Holds n C D w' (call D (day_of n C w) q).after

-- a call that takes the store alone: refusals 1 and 2 leave it, else it carries the call out
pub record Promise (n C D : ℕ) (q : Call) (w : List ℕ) (a : Answer) (w' : List ℕ) : Type 0 where
  pub sizes : (Sized n C D w → ⊥) → (a ≡ Err Sizes) × (w' ≡ w)
  pub unsound : Sized n C D w → (Sound n C D w → ⊥) → (a ≡ Err Unsound) × (w' ≡ w)
  pub sound : Sound n C D w → Carries n C D q w a w'

-- empty takes n, C and the store: refusal 1, or the words that document 01 lists
pub record EmptyPromise (n C : ℕ) (w : List ℕ) (a : Answer) (w' : List ℕ) : Type 0 where
  pub sizes : (InRoom n C × (length w ≡ store_words n C) → ⊥) → (a ≡ Err Sizes) × (w' ≡ w)
  pub done : InRoom n C → length w ≡ store_words n C → (a ≡ Ok 0) × (w' ≡ empty_table n C)

-- link and stream also take the spare, as long as the store, and the waiting table of n words
pub record Lent (n C D : ℕ) (w spare waiting : List ℕ) : Type 0 where
  pub sized : Sized n C D w
  pub spare_long : length spare ≡ store_words n C
  pub waiting_long : length waiting ≡ waiting_words n

-- after a link that began turning the spare holds the store as at entry and every word of waiting is 0; else both stay
abbrev pub spare_after : Bool → List ℕ → List ℕ → List ℕ
spare_after true w spare = w
spare_after false w spare = spare

abbrev pub waiting_after : Bool → ℕ → List ℕ → List ℕ
waiting_after true n waiting = replicate n 0
waiting_after false n waiting = waiting

-- a link on a sound table: the call, and what it leaves of spare and waiting
pub record LinkCarries (n C D : ℕ) (p q : Run) (w spare waiting : List ℕ) (a : Answer) (w' spare' waiting' : List ℕ) : Type 0 where
  pub carries : Carries n C D (link p q) w a w'
  pub spared : spare' ≡ spare_after (call D (day_of n C w) (link p q)).began w spare
  pub waited : waiting' ≡ waiting_after (call D (day_of n C w) (link p q)).began n waiting

-- link: refusal 1, refusal 2, or the call on the day
pub record LinkPromise (n C D : ℕ) (p q : Run) (w spare waiting : List ℕ) (a : Answer) (w' spare' waiting' : List ℕ) : Type 0 where
  pub sizes : (Lent n C D w spare waiting → ⊥) → (a ≡ Err Sizes) × (w' ≡ w) × (spare' ≡ spare) × (waiting' ≡ waiting)
  pub unsound : Lent n C D w spare waiting → (Sound n C D w → ⊥) → (a ≡ Err Unsound) × (w' ≡ w) × (spare' ≡ spare) × (waiting' ≡ waiting)
  pub sound : Lent n C D w spare waiting → Sound n C D w → LinkCarries n C D p q w spare waiting a w' spare' waiting'

-- the tables that a stream is lent beside its bytes, and its two running totals
pub record Tables : Type 0 where
  pub store : List ℕ
  pub spare : List ℕ
  pub waiting : List ℕ
  pub answers : List ℕ
  pub accepted : ℕ
  pub reversals : ℕ

-- refusal 1 for a stream: also a stream too long, an answer table shorter than two words a record, a total above 2^62
pub record StreamLent (n C D : ℕ) (bytes : List ℕ) (t : Tables) : Type 0 where
  pub lent : Lent n C D t.store t.spare t.waiting
  pub short : length bytes ≤ stream_most
  pub answers_long : 2 * (length bytes / record_bytes) ≤ length t.answers
  pub accepted_most : t.accepted ≤ total_most
  pub reversals_most : t.reversals ≤ total_most

-- what a stream returns: the refusal that stopped it, none at the end of the bytes, and the number of records carried out
pub record Result : Type 0 where
  pub stop : Option Refusal
  pub carried : ℕ

-- the refusal that stopped a stream as a number, 0 at the end of the bytes
abbrev pub stop_number : Option Refusal → ℕ
stop_number None = 0
stop_number (Some why) = number_of why

-- a stream on a sound table, from the day that it holds
abbrev pub progress : ℕ → ℕ → ℕ → List ℕ → Tables → Progress
progress n C D bytes t =
    carry_all D (records_of bytes).records
    (record { day = day_of n C t.store; answers = t.answers; carried = 0; accepted = t.accepted; reversals = t.reversals; turned = None })

-- spare and waiting hold what the last link that began turning left, and stay if none did
abbrev pub SpareIs : ℕ → ℕ → ℕ → Option Day → List ℕ → List ℕ → Type 0
SpareIs n C D None spare spare' = spare' ≡ spare
SpareIs n C D (Some s) spare spare' = Holds n C D spare' s

-- every word of waiting is 0 after a link that began turning
abbrev pub waiting_then : ℕ → Option Day → List ℕ → List ℕ
waiting_then n None waiting = waiting
waiting_then n (Some s) waiting = replicate n 0

-- a stream on a sound table: what it returns, and every table and total as its records leave them
pub record StreamCarries (n C D : ℕ) (bytes : List ℕ) (t : Tables) (r : Result) (t' : Tables) : Type 0 where
  pub stop : r.stop ≡ (records_of bytes).stop
  pub carried : r.carried ≡ (progress n C D bytes t).carried
  pub holds : Holds n C D t'.store (progress n C D bytes t).day
  pub spared : SpareIs n C D (progress n C D bytes t).turned t.spare t'.spare
  pub waited : t'.waiting ≡ waiting_then n (progress n C D bytes t).turned t.waiting
  pub answered : t'.answers ≡ (progress n C D bytes t).answers
  pub accepted : t'.accepted ≡ (progress n C D bytes t).accepted
  pub reversals : t'.reversals ≡ (progress n C D bytes t).reversals

-- stream: refusal 1, refusal 2, or its records in turn
pub record StreamPromise (n C D : ℕ) (bytes : List ℕ) (t : Tables) (r : Result) (t' : Tables) : Type 0 where
  pub sizes : (StreamLent n C D bytes t → ⊥) → (r ≡ record { stop = Some Sizes; carried = 0 }) × (t' ≡ t)
  pub unsound : StreamLent n C D bytes t → (Sound n C D t.store → ⊥) → (r ≡ record { stop = Some Unsound; carried = 0 }) × (t' ≡ t)
  pub sound : StreamLent n C D bytes t → Sound n C D t.store → StreamCarries n C D bytes t r t'
