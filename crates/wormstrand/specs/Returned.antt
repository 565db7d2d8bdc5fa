-- Chains of exported calls by the numbers that they return: each is a chain of promises of demands Promised, so the demands are said of
-- the numbers. Who lets nobody else write to a store and keeps n, C and D in the calls that are not refused has such a chain.
-- proofs/Returned.antt proves each statement.
use Rattle.std.specs.Prelude.{ℕ, ◌+◌, ◌-◌, ◌*◌, ◌/◌, ◌%◌, ◌^◌, ◌≤◌, ◌<◌, Bool, true, false, not, cond, List, [], ◌∷◌, ◌++◌, map, get_or, ◌≡◌, eqb, Ok, Err, None, Some}
use Rattle.terms.specs.Refusal.{refusal_of, value_of, Answer}
use Rattle.terms.specs.Size.{InLimit}
use Rattle.terms.specs.declared.run.Run.{Run}
use Rattle.terms.specs.declared.refusal.Refusal.{Refusal}
use Rattle.terms.specs.declared.refusal.Refusal.TheVariants.{Sizes, Unsound, BadName, SameRun, NotOpen, Already, NoLink, NoRoom, TooDense, Touched, WrongMark, WrongKind, CutShort, BadSet}
use Rattle.meaning.specs.Table.{length_of}
use Rattle.meaning.specs.Soundness.{Sound}
use Rattle.meaning.specs.Day.{Day, day_of, empty_day}
use Rattle.meaning.specs.Calls.{Call, link, ask, yes1}
use Rattle.meaning.specs.Stream.{call_of, records_of, taken, reversed}
use Rattle.meaning.specs.Promise.{Holds, Promise, EmptyPromise, LinkPromise, Tables, Result, stop_number, StreamPromise}
use Rattle.demands.specs.History.{after, related, joinings, partings, asked, Directions, DirectedWith, History, calls, AllDirected, changes}
use Rattle.demands.specs.Promised.{Step, alone, linking, streaming, emptying, other, early, KeepsAll, chain_calls, chain_accepted, chain_reversed, against}
use Rattle.wormstrand.specs.Pack.{Packed, pack_result, PackedResult}

-- ---- a returned number taken apart
-- the upper half, as ws_refusal has it
abbrev pub refusal_in : ℕ → ℕ
refusal_in r = r / 2 ^ 32

-- the lower half, as ws_number has it
abbrev pub number_in : ℕ → ℕ
number_in r = r % 2 ^ 32

-- it says done
abbrev pub is_done : ℕ → Bool
is_done r = eqb (refusal_in r) 0

-- the refusals in the order of their numbers, from 1 on
abbrev pub in_order : List Refusal
in_order =
    Sizes ∷ Unsound ∷ BadName ∷ SameRun ∷ NotOpen ∷ Already ∷ NoLink ∷ NoRoom ∷ TooDense ∷ Touched ∷ WrongMark ∷ WrongKind ∷ CutShort ∷ BadSet ∷ []

-- the refusal that it says, where it says one
abbrev pub reason_in : ℕ → Refusal
reason_in r = get_or in_order (refusal_in r - 1) Sizes

-- the answer that it says
abbrev pub answer_in : ℕ → Answer
answer_in r = cond (is_done r) (Ok (number_in r)) (Err (reason_in r))

-- the stream's result that it says
abbrev pub result_in : ℕ → Result
result_in r = record { stop = cond (is_done r) None (Some (reason_in r)); carried = number_in r }

-- an answer's refusal and number are the two halves of the number returned, and what is promised of it holds of the answer it says
abbrev pub AnswerUnpacked : Type 1
AnswerUnpacked = (P : Answer → Type 0) (r : ℕ) → Packed P r
    → P (answer_in r) × (refusal_of (answer_in r) ≡ refusal_in r) × (value_of (answer_in r) ≡ number_in r)

-- so are a result's stop and the records carried out
abbrev pub ResultHalves : Type 0
ResultHalves = (s : Result) (r : ℕ) → r ≡ pack_result s → s.carried < 2 ^ 32 → (refusal_in r ≡ stop_number s.stop) × (number_in r ≡ s.carried)

-- and what is promised of a stream's result holds of the result that its number says
abbrev pub ResultUnpacked : Type 1
ResultUnpacked = (P : Result → Type 0) (r : ℕ) → PackedResult P r
    → P (result_in r) × (stop_number (result_in r).stop ≡ refusal_in r) × ((result_in r).carried ≡ number_in r)

-- ---- chains
-- an exported call with the number that it returned: one that takes the store alone; ws_link, with spare and waiting before and after;
-- ws_stream with its bytes and its tables before and after; ws_empty with its n and C, refused; or one of these that was handed other n,
-- C and D, and refused
pub data Returned : Type 0 where
  called : Call → ℕ → Returned
  linked : Run → Run → List ℕ → List ℕ → ℕ → List ℕ → List ℕ → Returned
  streamed : List ℕ → Tables → ℕ → Tables → Returned
  emptied : ℕ → ℕ → ℕ → Returned
  elsewhere : ℕ → ℕ → ℕ → Returned → Returned

-- the number says that the call was refused, or the stream as a whole
abbrev pub denies : Returned → Bool
denies (called q r) = not (is_done r)
denies (linked p q spare waiting r spare' waiting') = not (is_done r)
denies (streamed bytes t r t') = early (refusal_in r)
denies (emptied n C r) = true
denies (elsewhere n C D x) = true

-- the contract of its exported call, which leads from the words w to the words w'
abbrev pub Returns : ℕ → ℕ → ℕ → List ℕ → Returned → List ℕ → Type 0
Returns n C D w (called q r) w' = Packed (λ a. Promise n C D q w a w') r
Returns n C D w (linked p q spare waiting r spare' waiting') w' = Packed (λ a. LinkPromise n C D p q w spare waiting a w' spare' waiting') r
Returns n C D w (streamed bytes t r t') w' = PackedResult (λ a. StreamPromise n C D bytes t a t') r × (t.store ≡ w) × (t'.store ≡ w')
Returns n C D w (emptied n' C' r) w' = Packed (λ a. EmptyPromise n' C' w a w') r × (is_done r ≡ false)
Returns n C D w (elsewhere n' C' D' x) w' = Returns n' C' D' w x w' × (denies x ≡ true)

-- the contracts of a chain
abbrev pub ReturnsAll : ℕ → ℕ → ℕ → List ℕ → List Returned → List ℕ → Type 0
ReturnsAll n C D w [] w' = w ≡ w'
ReturnsAll n C D w (x ∷ xs) w' = (m : List ℕ) × Returns n C D w x m × ReturnsAll n C D m xs w'

-- the step that the number says
abbrev pub step_of : Returned → Step
step_of (called q r) = alone q (answer_in r)
step_of (linked p q spare waiting r spare' waiting') = linking p q spare waiting (answer_in r) spare' waiting'
step_of (streamed bytes t r t') = streaming bytes t (result_in r) t'
step_of (emptied n C r) = emptying n C (reason_in r)
step_of (elsewhere n C D x) = other n C D (step_of x)

-- the steps of a chain
abbrev pub steps_of : List Returned → List Step
steps_of xs = map step_of xs

-- the calls that it comes to on the days: none if it is refused with 1 or 2, and a stream's records
abbrev pub calls_by : Returned → List Call
calls_by (called q r) = cond (early (refusal_in r)) [] (q ∷ [])
calls_by (linked p q spare waiting r spare' waiting') = cond (early (refusal_in r)) [] (link p q ∷ [])
calls_by (streamed bytes t r t') = cond (early (refusal_in r)) [] (map call_of (records_of bytes).records)
calls_by (emptied n C r) = []
calls_by (elsewhere n C D x) = []

-- the links accepted: 1 for a link that returned refusal 0, and a stream's by its totals; no exported call that takes the store alone links
abbrev pub accepted_by : Returned → ℕ
accepted_by (called q r) = taken q (answer_in r)
accepted_by (linked p q spare waiting r spare' waiting') = yes1 (is_done r)
accepted_by (streamed bytes t r t') = t'.accepted - t.accepted
accepted_by (emptied n C r) = 0
accepted_by (elsewhere n C D x) = accepted_by x

-- their reversals: the number that a link returned, and a stream's by its totals
abbrev pub reversed_by : Returned → ℕ
reversed_by (called q r) = reversed q (answer_in r)
reversed_by (linked p q spare waiting r spare' waiting') = number_in r
reversed_by (streamed bytes t r t') = t'.reversals - t.reversals
reversed_by (emptied n C r) = 0
reversed_by (elsewhere n C D x) = reversed_by x

-- the calls of a chain
abbrev pub returned_calls : List Returned → List Call
returned_calls [] = []
returned_calls (x ∷ xs) = calls_by x ++ returned_calls xs

-- k, added up from what was returned
abbrev pub returned_accepted : List Returned → ℕ
returned_accepted [] = 0
returned_accepted (x ∷ xs) = accepted_by x + returned_accepted xs

-- the reversals, added up from what was returned
abbrev pub returned_reversed : List Returned → ℕ
returned_reversed [] = 0
returned_reversed (x ∷ xs) = reversed_by x + returned_reversed xs

-- a chain of returned numbers is a chain of promises, of the steps that the numbers say
abbrev pub ReturnedKeeps : Type 0
ReturnedKeeps = (n C D : ℕ) (w : List ℕ) (xs : List Returned) (w' : List ℕ) → ReturnsAll n C D w xs w' → KeepsAll n C D w (steps_of xs) w'

-- every chain of promises is one of the numbers that its calls return
abbrev pub KeptReturns : Type 0
KeptReturns = (n C D : ℕ) (w : List ℕ) (ys : List Step) (w' : List ℕ) → KeepsAll n C D w ys w'
    → (xs : List Returned) × ReturnsAll n C D w xs w' × (steps_of xs ≡ ys)

-- the calls, the links accepted and the reversals read off the numbers are those of the promises
abbrev pub ReturnedSame : Type 0
ReturnedSame = (n C D : ℕ) (w : List ℕ) (xs : List Returned) (w' : List ℕ) → ReturnsAll n C D w xs w'
    → (chain_calls (steps_of xs) ≡ returned_calls xs)
    × (chain_accepted (steps_of xs) ≡ returned_accepted xs)
    × (chain_reversed (steps_of xs) ≡ returned_reversed xs)

-- ---- from any sound table
-- the table is sound again and holds the day that the calls lead to
abbrev pub ReturnedHold : Type 0
ReturnedHold = (n C D : ℕ) (w₀ : List ℕ) (xs : List Returned) (w : List ℕ) → Sound n C D w₀ → ReturnsAll n C D w₀ xs w
    → Holds n C D w (after D (day_of n C w₀) (returned_calls xs))

-- demand 2: ws_ask returns 1 exactly for the pairs accepted as links, or linked at the start, and not unlinked since, else 0
abbrev pub ReturnedAsk : Type 0
ReturnedAsk = (n C D : ℕ) (w₀ : List ℕ) (xs : List Returned) (w : List ℕ) → Sound n C D w₀ → ReturnsAll n C D w₀ xs w
    → (p q : Run) (r : ℕ) (w' : List ℕ) → Packed (λ a. Promise n C D (ask p q) w a w') r
    → let s : Day = day_of n C w₀ in
    number_in r ≡ yes1 (related p q D s (eqb (asked D s p q) 1) (returned_calls xs))

-- the same by counting
abbrev pub ReturnedCount : Type 0
ReturnedCount = (n C D : ℕ) (w₀ : List ℕ) (xs : List Returned) (w : List ℕ) → Sound n C D w₀ → ReturnsAll n C D w₀ xs w
    → (p q : Run) (r : ℕ) (w' : List ℕ) → Packed (λ a. Promise n C D (ask p q) w a w') r
    → let s : Day = day_of n C w₀ in
    number_in r + partings p q D s (returned_calls xs) ≡ asked D s p q + joinings p q D s (returned_calls xs)

-- no list is longer than D
abbrev pub ReturnedShort : Type 0
ReturnedShort = (n C D : ℕ) (w₀ : List ℕ) (xs : List Returned) (w : List ℕ) → Sound n C D w₀ → ReturnsAll n C D w₀ xs w
    → (v : ℕ) → v < n → length_of n C w v ≤ D

-- demand 3: the links that stand against the choice at the start are paid for as well
abbrev pub ReturnedBound : Type 0
ReturnedBound = (n C D d : ℕ) → 2 * d ≤ D → (w₀ : List ℕ) (xs : List Returned) (w : List ℕ) → Sound n C D w₀ → ReturnsAll n C D w₀ xs w
    → let s : Day = day_of n C w₀ in
    (C₀ : Directions) (h : History) → calls h ≡ returned_calls xs → AllDirected d D s h
    → returned_reversed xs * (D + 1 - 2 * d) ≤ (returned_accepted xs + changes D s C₀ h + against C₀ s) * (D + 1)

-- ws_link returns refusal 9 only where no choice directs the links with it with at most half of D outward at each run
abbrev pub ReturnedDense : Type 0
ReturnedDense = (n C D : ℕ) (w₀ : List ℕ) (xs : List Returned) (w : List ℕ) → Sound n C D w₀ → ReturnsAll n C D w₀ xs w
    → (p q : Run) (spare waiting w' spare' waiting' : List ℕ) (r : ℕ) → Packed (λ a. LinkPromise n C D p q w spare waiting a w' spare' waiting') r
    → refusal_in r ≡ 9
    → (X : Directions) → DirectedWith p q (D / 2) X (after D (day_of n C w₀) (returned_calls xs)) → ⊥

-- ---- from an emptied store
-- ws_empty was called and returned 0; then the chain
pub record FromReturned (n C D : ℕ) (xs : List Returned) (w : List ℕ) : Type 0 where
  pub before : List ℕ
  pub start : List ℕ
  pub empty : Packed (λ a. EmptyPromise n C before a start) 0
  pub returns : ReturnsAll n C D start xs w

-- the table is sound and holds the day that the statements of Demands speak of
abbrev pub FirstHold : Type 0
FirstHold = (n C D : ℕ) (xs : List Returned) (w : List ℕ) → InLimit D → FromReturned n C D xs w
    → Holds n C D w (after D (empty_day n C) (returned_calls xs))

-- demand 2, for any D: ws_ask returns 1 exactly for the pairs accepted as links and not unlinked since, else 0
abbrev pub FirstAsk : Type 0
FirstAsk = (n C D : ℕ) (xs : List Returned) (w : List ℕ) → FromReturned n C D xs w
    → (p q : Run) (r : ℕ) (w' : List ℕ) → Packed (λ a. Promise n C D (ask p q) w a w') r
    → number_in r ≡ yes1 (related p q D (empty_day n C) false (returned_calls xs))

-- the same by counting
abbrev pub FirstCount : Type 0
FirstCount = (n C D : ℕ) (xs : List Returned) (w : List ℕ) → FromReturned n C D xs w
    → (p q : Run) (r : ℕ) (w' : List ℕ) → Packed (λ a. Promise n C D (ask p q) w a w') r
    → number_in r + partings p q D (empty_day n C) (returned_calls xs) ≡ joinings p q D (empty_day n C) (returned_calls xs)

-- no list is longer than D
abbrev pub FirstShort : Type 0
FirstShort = (n C D : ℕ) (xs : List Returned) (w : List ℕ) → FromReturned n C D xs w → (v : ℕ) → v < n → length_of n C w v ≤ D

-- demand 3, for any D, with k and the reversals as they were returned
abbrev pub FirstBound : Type 0
FirstBound = (n C D d : ℕ) → 2 * d ≤ D → (xs : List Returned) (w : List ℕ) → FromReturned n C D xs w
    → (C₀ : Directions) (h : History) → calls h ≡ returned_calls xs → AllDirected d D (empty_day n C) h
    → returned_reversed xs * (D + 1 - 2 * d) ≤ (returned_accepted xs + changes D (empty_day n C) C₀ h) * (D + 1)

-- ws_link returns refusal 9 only where no choice directs the links with it with at most half of D outward at each run
abbrev pub FirstDense : Type 0
FirstDense = (n C D : ℕ) (xs : List Returned) (w : List ℕ) → FromReturned n C D xs w
    → (p q : Run) (spare waiting w' spare' waiting' : List ℕ) (r : ℕ) → Packed (λ a. LinkPromise n C D p q w spare waiting a w' spare' waiting') r
    → refusal_in r ≡ 9
    → (X : Directions) → DirectedWith p q (D / 2) X (after D (empty_day n C) (returned_calls xs)) → ⊥
