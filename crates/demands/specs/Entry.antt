-- What spare and waiting hold at entry plays no part: a link and a stream, each lent two spares and two waiting tables of equal
-- lengths. proofs/Entry.antt proves each.
use Rattle.std.specs.Prelude.{ℕ, true, List, ◌≡◌, length, Some}
use Rattle.terms.specs.Refusal.{Answer}
use Rattle.terms.specs.declared.run.Run.{Run}
use Rattle.meaning.specs.Soundness.{Sound}
use Rattle.meaning.specs.Day.{Day, day_of}
use Rattle.meaning.specs.Calls.{link, call}
use Rattle.meaning.specs.Promise.{Lent, LinkPromise, Tables, StreamLent, Result, progress, StreamPromise}

-- turning began: the link is refused with neither 1 nor 2, and its call on the day began turning
pub record LinkTurns (n C D : ℕ) (p q : Run) (w spare waiting : List ℕ) : Type 0 where
  pub lent : Lent n C D w spare waiting
  pub sound : Sound n C D w
  pub began : (call D (day_of n C w) (link p q)).began ≡ true

-- the same answer and the same store; the same spare and waiting where turning began, else each stays as handed in
abbrev pub LinkEntry : Type 0
LinkEntry = (n C D : ℕ) (p q : Run) (w spare waiting : List ℕ) (a : Answer) (w' spare' waiting' : List ℕ)
    → LinkPromise n C D p q w spare waiting a w' spare' waiting'
    → (other_spare other_waiting : List ℕ) → length other_spare ≡ length spare → length other_waiting ≡ length waiting
    → (b : Answer) (x xs xw : List ℕ) → LinkPromise n C D p q w other_spare other_waiting b x xs xw
    → (b ≡ a) × (x ≡ w')
    × (LinkTurns n C D p q w spare waiting → (xs ≡ spare') × (xw ≡ waiting'))
    × ((LinkTurns n C D p q w spare waiting → ⊥)
    → (spare' ≡ spare) × (waiting' ≡ waiting) × (xs ≡ other_spare) × (xw ≡ other_waiting))

-- some record's link began turning: the stream is refused with neither 1 nor 2, and day is that at entry of the last such link
pub record StreamTurns (n C D : ℕ) (bytes : List ℕ) (t : Tables) : Type 0 where
  pub lent : StreamLent n C D bytes t
  pub sound : Sound n C D t.store
  pub day : Day
  pub turned : (progress n C D bytes t).turned ≡ Some day

-- the same result, store, answers and totals; the same spare and waiting where some record's link began turning, else each stays
abbrev pub StreamEntry : Type 0
StreamEntry = (n C D : ℕ) (bytes : List ℕ) (t t' : Tables) (r : Result) → StreamPromise n C D bytes t r t'
    → (other_spare other_waiting : List ℕ) → length other_spare ≡ length t.spare → length other_waiting ≡ length t.waiting
    → (u : Tables) (q : Result) → StreamPromise n C D bytes (record t { spare = other_spare; waiting = other_waiting }) q u
    → (q ≡ r) × (u.store ≡ t'.store) × (u.answers ≡ t'.answers) × (u.accepted ≡ t'.accepted) × (u.reversals ≡ t'.reversals)
    × (StreamTurns n C D bytes t → (u.spare ≡ t'.spare) × (u.waiting ≡ t'.waiting))
    × ((StreamTurns n C D bytes t → ⊥)
    → (t'.spare ≡ t.spare) × (t'.waiting ≡ t.waiting) × (u.spare ≡ other_spare) × (u.waiting ≡ other_waiting))
