-- Chains of calls as the public calls promise them, for any numbers and tables that the caller hands in, refused calls among them. Who
-- lets nobody else write to a store and keeps n, C and D in the calls that are not refused has such a chain; spare, waiting, answers and
-- totals may be others each time.
use Rattle.std.specs.Prelude.{ℕ, ◌+◌, ◌-◌, ◌*◌, ◌/◌, ◌≤◌, ◌<◌, Bool, true, false, not, ◌||◌, List, [], ◌∷◌, map, ◌≡◌, eqb, Ok, Err}
use Rattle.terms.specs.Refusal.{number_of, refusal_of, value_of, Answer}
use Rattle.terms.specs.Size.{InLimit}
use Rattle.terms.specs.declared.run.Run.{Run}
use Rattle.terms.specs.declared.refusal.Refusal.{Refusal}
use Rattle.terms.specs.declared.refusal.Refusal.TheVariants.{Sizes, Unsound, TooDense}
use Rattle.meaning.specs.Table.{length_of}
use Rattle.meaning.specs.Soundness.{Sound}
use Rattle.meaning.specs.Day.{Day, day_of, empty_day}
use Rattle.meaning.specs.Calls.{Call, link, ask, yes1}
use Rattle.meaning.specs.Stream.{accepts}
use Rattle.meaning.specs.Promise.{Holds, Promise, EmptyPromise, Lent, LinkPromise, Tables, Result, stop_number, StreamLent, StreamPromise}
use Rattle.demands.specs.History.{after, related, joinings, partings, asked, accepted, reversals, weigh, Directions, DirectedWith, History, calls, AllDirected, changes}
use Rattle.demands.specs.Tables.{Doing, single, stream, refused, all_calls, all_accepted, all_reversed}

-- a step of a chain: a call that takes the store alone, with its answer; a link, with spare and waiting before, its answer, and spare and
-- waiting after; a stream with its bytes, its tables before, what it returns and its tables after; empty with its n and C, refused; or
-- one of these that was handed other n, C and D, and refused
pub data Step : Type 0 where
  alone : Call → Answer → Step
  linking : Run → Run → List ℕ → List ℕ → Answer → List ℕ → List ℕ → Step
  streaming : List ℕ → Tables → Result → Tables → Step
  emptying : ℕ → ℕ → Refusal → Step
  other : ℕ → ℕ → ℕ → Step → Step

-- refusals 1 and 2 are for the numbers and tables handed in
abbrev pub early : ℕ → Bool
early why = eqb why (number_of Sizes) || eqb why (number_of Unsound)

-- the call is refused, or the stream as a whole
abbrev pub denied : Step → Bool
denied (alone q a) = not (accepts a)
denied (linking p q spare waiting a spare' waiting') = not (accepts a)
denied (streaming bytes t r t') = early (stop_number r.stop)
denied (emptying n C why) = true
denied (other n C D x) = true

-- the promise of its call, which leads from the words w to the words w'
abbrev pub Keeps : ℕ → ℕ → ℕ → List ℕ → Step → List ℕ → Type 0
Keeps n C D w (alone q a) w' = Promise n C D q w a w'
Keeps n C D w (linking p q spare waiting a spare' waiting') w' = LinkPromise n C D p q w spare waiting a w' spare' waiting'
Keeps n C D w (streaming bytes t r t') w' = StreamPromise n C D bytes t r t' × (t.store ≡ w) × (t'.store ≡ w')
Keeps n C D w (emptying n' C' why) w' = EmptyPromise n' C' w (Err why) w'
Keeps n C D w (other n' C' D' x) w' = Keeps n' C' D' w x w' × (denied x ≡ true)

-- the promises of a chain
abbrev pub KeepsAll : ℕ → ℕ → ℕ → List ℕ → List Step → List ℕ → Type 0
KeepsAll n C D w [] w' = w ≡ w'
KeepsAll n C D w (x ∷ xs) w' = (m : List ℕ) × Keeps n C D w x m × KeepsAll n C D m xs w'

-- what is refused with 1 or 2 does nothing: it is no call on the day
abbrev pub unless_early : Bool → Doing → Doing
unless_early true x = refused
unless_early false x = x

-- what a step does
abbrev pub doing : Step → Doing
doing (alone q a) = unless_early (early (refusal_of a)) (single q a)
doing (linking p q spare waiting a spare' waiting') = unless_early (early (refusal_of a)) (single (link p q) a)
doing (streaming bytes t r t') = unless_early (early (stop_number r.stop)) (stream bytes t r t')
doing (emptying n C why) = refused
doing (other n C D x) = refused

-- what the steps of a chain do
abbrev pub doings : List Step → List Doing
doings xs = map doing xs

-- the calls that they come to, on the days
abbrev pub chain_calls : List Step → List Call
chain_calls xs = all_calls (doings xs)

-- k: the links accepted, as the answers say them and the streams' totals
abbrev pub chain_accepted : List Step → ℕ
chain_accepted xs = all_accepted (doings xs)

-- their reversals, as the answers say them and the streams' totals
abbrev pub chain_reversed : List Step → ℕ
chain_reversed xs = all_reversed (doings xs)

-- ---- from any sound table
-- the table is sound again and holds the day that the calls lead to
abbrev pub PromisedHold : Type 0
PromisedHold = (n C D : ℕ) (w₀ : List ℕ) (xs : List Step) (w : List ℕ) → Sound n C D w₀ → KeepsAll n C D w₀ xs w
    → Holds n C D w (after D (day_of n C w₀) (chain_calls xs))

-- demand 2: asking says yes exactly for the pairs accepted as links, or linked at the start, and not unlinked since
abbrev pub PromisedAsk : Type 0
PromisedAsk = (n C D : ℕ) (w₀ : List ℕ) (xs : List Step) (w : List ℕ) → Sound n C D w₀ → KeepsAll n C D w₀ xs w
    → (p q : Run) (a : Answer) (w' : List ℕ) → Promise n C D (ask p q) w a w'
    → let s : Day = day_of n C w₀ in
    value_of a ≡ yes1 (related p q D s (eqb (asked D s p q) 1) (chain_calls xs))

-- the same by counting
abbrev pub PromisedCount : Type 0
PromisedCount = (n C D : ℕ) (w₀ : List ℕ) (xs : List Step) (w : List ℕ) → Sound n C D w₀ → KeepsAll n C D w₀ xs w
    → (p q : Run) (a : Answer) (w' : List ℕ) → Promise n C D (ask p q) w a w'
    → let s : Day = day_of n C w₀ in
    value_of a + partings p q D s (chain_calls xs) ≡ asked D s p q + joinings p q D s (chain_calls xs)

-- no list is longer than D
abbrev pub PromisedShort : Type 0
PromisedShort = (n C D : ℕ) (w₀ : List ℕ) (xs : List Step) (w : List ℕ) → Sound n C D w₀ → KeepsAll n C D w₀ xs w
    → (v : ℕ) → v < n → length_of n C w v ≤ D

-- the links accepted and their reversals, as answered, are those of the calls on the days
abbrev pub PromisedTotals : Type 0
PromisedTotals = (n C D : ℕ) (w₀ : List ℕ) (xs : List Step) (w : List ℕ) → Sound n C D w₀ → KeepsAll n C D w₀ xs w
    → let s : Day = day_of n C w₀ in
    (chain_accepted xs ≡ accepted D s (chain_calls xs)) × (chain_reversed xs ≡ reversals D s (chain_calls xs))

-- the links that stand against a choice: in the list of the run they do not go outward at
abbrev pub against : Directions → Day → ℕ
against X s = weigh (λ x y. X y x) s

-- demand 3: the links that stand against the choice at the start are paid for as well
abbrev pub PromisedBound : Type 0
PromisedBound = (n C D d : ℕ) → 2 * d ≤ D → (w₀ : List ℕ) (xs : List Step) (w : List ℕ) → Sound n C D w₀ → KeepsAll n C D w₀ xs w
    → let s : Day = day_of n C w₀ in
    (C₀ : Directions) (h : History) → calls h ≡ chain_calls xs → AllDirected d D s h
    → chain_reversed xs * (D + 1 - 2 * d) ≤ (chain_accepted xs + changes D s C₀ h + against C₀ s) * (D + 1)

-- no link is refused as too dense if the links with it can be directed with at most half of D outward at each run
abbrev pub PromisedDense : Type 0
PromisedDense = (n C D : ℕ) (w₀ : List ℕ) (xs : List Step) (w : List ℕ) → Sound n C D w₀ → KeepsAll n C D w₀ xs w
    → (p q : Run) (X : Directions) → DirectedWith p q (D / 2) X (after D (day_of n C w₀) (chain_calls xs))
    → (spare waiting w' spare' waiting' : List ℕ) → LinkPromise n C D p q w spare waiting (Err TooDense) w' spare' waiting' → ⊥

-- a call that takes the store alone is one on the day, whatever it answers; so is a link with spare and waiting of their lengths, and a
-- stream's records are, whatever stops it, if it is not too long and its tables and totals are in order
abbrev pub PromisedMade : Type 0
PromisedMade = (n C D : ℕ) (w : List ℕ) → Sound n C D w
    → ((q : Call) (a : Answer) (w' : List ℕ) → Promise n C D q w a w' → doing (alone q a) ≡ single q a)
    × ((p q : Run) (spare waiting : List ℕ) (a : Answer) (spare' waiting' w' : List ℕ) → Lent n C D w spare waiting
    → LinkPromise n C D p q w spare waiting a w' spare' waiting' → doing (linking p q spare waiting a spare' waiting') ≡ single (link p q) a)
    × ((bytes : List ℕ) (t : Tables) (r : Result) (t' : Tables) → t.store ≡ w → StreamLent n C D bytes t → StreamPromise n C D bytes t r t'
    → doing (streaming bytes t r t') ≡ stream bytes t r t')

-- ---- from any other table
-- every step is refused, comes to no call and leaves the table
abbrev pub PromisedStay : Type 0
PromisedStay = (n C D : ℕ) (w₀ : List ℕ) (xs : List Step) (w : List ℕ) → (Sound n C D w₀ → ⊥) → KeepsAll n C D w₀ xs w
    → (w ≡ w₀) × (chain_calls xs ≡ []) × (chain_accepted xs ≡ 0) × (chain_reversed xs ≡ 0)

-- ---- from an emptied store
-- empty was called and did not refuse, by its promise; then the chain
pub record FromEmpty (n C D : ℕ) (xs : List Step) (w : List ℕ) : Type 0 where
  pub before : List ℕ
  pub emptied : List ℕ
  pub empty : EmptyPromise n C before (Ok 0) emptied
  pub kept : KeepsAll n C D emptied xs w

-- the table is sound and holds the day that the statements of Demands speak of
abbrev pub EmptiedHold : Type 0
EmptiedHold = (n C D : ℕ) (xs : List Step) (w : List ℕ) → InLimit D → FromEmpty n C D xs w → Holds n C D w (after D (empty_day n C) (chain_calls xs))

-- demand 2, for any D: with one out of its limits every step is refused
abbrev pub EmptiedAsk : Type 0
EmptiedAsk = (n C D : ℕ) (xs : List Step) (w : List ℕ) → FromEmpty n C D xs w
    → (p q : Run) (a : Answer) (w' : List ℕ) → Promise n C D (ask p q) w a w'
    → value_of a ≡ yes1 (related p q D (empty_day n C) false (chain_calls xs))

-- the same by counting
abbrev pub EmptiedCount : Type 0
EmptiedCount = (n C D : ℕ) (xs : List Step) (w : List ℕ) → FromEmpty n C D xs w
    → (p q : Run) (a : Answer) (w' : List ℕ) → Promise n C D (ask p q) w a w'
    → value_of a + partings p q D (empty_day n C) (chain_calls xs) ≡ joinings p q D (empty_day n C) (chain_calls xs)

-- no list is longer than D
abbrev pub EmptiedShort : Type 0
EmptiedShort = (n C D : ℕ) (xs : List Step) (w : List ℕ) → FromEmpty n C D xs w → (v : ℕ) → v < n → length_of n C w v ≤ D

-- demand 3, for any D, with k and the reversals as they were answered
abbrev pub EmptiedBound : Type 0
EmptiedBound = (n C D d : ℕ) → 2 * d ≤ D → (xs : List Step) (w : List ℕ) → FromEmpty n C D xs w
    → (C₀ : Directions) (h : History) → calls h ≡ chain_calls xs → AllDirected d D (empty_day n C) h
    → chain_reversed xs * (D + 1 - 2 * d) ≤ (chain_accepted xs + changes D (empty_day n C) C₀ h) * (D + 1)

-- no link is refused as too dense if the links with it can be directed with at most half of D outward at each run
abbrev pub EmptiedDense : Type 0
EmptiedDense = (n C D : ℕ) (xs : List Step) (w : List ℕ) → FromEmpty n C D xs w
    → (p q : Run) (X : Directions) → DirectedWith p q (D / 2) X (after D (empty_day n C) (chain_calls xs))
    → (spare waiting w' spare' waiting' : List ℕ) → LinkPromise n C D p q w spare waiting (Err TooDense) w' spare' waiting' → ⊥
