-- From tables to days: the store's words from call to call, as the contracts of the public calls and of the stream have them on a
-- sound store. Who empties a store once, lets nobody else write to it and keeps n, C and D has such words.
use Rattle.std.specs.Prelude.{ℕ, ◌+◌, ◌-◌, ◌*◌, ◌/◌, ◌≤◌, ◌<◌, false, List, [], ◌∷◌, ◌++◌, map, ◌≡◌, Err}
use Rattle.terms.specs.Refusal.{value_of, Answer}
use Rattle.terms.specs.Size.{InRoom, InLimit}
use Rattle.terms.specs.declared.run.Run.{Run}
use Rattle.terms.specs.declared.refusal.Refusal.TheVariants.{TooDense}
use Rattle.meaning.specs.Table.{length_of}
use Rattle.meaning.specs.Day.{empty_day, empty_table}
use Rattle.meaning.specs.Calls.{Call, link, ask, yes1}
use Rattle.meaning.specs.Stream.{call_of, records_of, taken, reversed}
use Rattle.meaning.specs.Promise.{Holds, Carries, Tables, Result, StreamCarries}
use Rattle.demands.specs.History.{after, related, Directions, DirectedWith, History, calls, AllDirected, changes}

-- a single call with its answer; a stream with its bytes, its tables before, what it returns and its tables after; or a call that is
-- refused with 1 for its other tables or its bytes
pub data Doing : Type 0 where
  single : Call → Answer → Doing
  stream : List ℕ → Tables → Result → Tables → Doing
  refused : Doing

-- records of a stream count as calls
abbrev pub calls_in : Doing → List Call
calls_in (single q a) = q ∷ []
calls_in (stream bytes t r t') = map call_of (records_of bytes).records
calls_in refused = []

abbrev pub all_calls : List Doing → List Call
all_calls [] = []
all_calls (x ∷ xs) = calls_in x ++ all_calls xs

-- the links accepted and their reversals, as the answers say them and the stream's totals
abbrev pub accepted_in : Doing → ℕ
accepted_in (single q a) = taken q a
accepted_in (stream bytes t r t') = t'.accepted - t.accepted
accepted_in refused = 0

abbrev pub reversed_in : Doing → ℕ
reversed_in (single q a) = reversed q a
reversed_in (stream bytes t r t') = t'.reversals - t.reversals
reversed_in refused = 0

abbrev pub all_accepted : List Doing → ℕ
all_accepted [] = 0
all_accepted (x ∷ xs) = accepted_in x + all_accepted xs

abbrev pub all_reversed : List Doing → ℕ
all_reversed [] = 0
all_reversed (x ∷ xs) = reversed_in x + all_reversed xs

-- it leads from the words w to the words w'
abbrev pub Does : ℕ → ℕ → ℕ → List ℕ → Doing → List ℕ → Type 0
Does n C D w (single q a) w' = Carries n C D q w a w'
Does n C D w (stream bytes t r t') w' = StreamCarries n C D bytes t r t' × (t.store ≡ w) × (t'.store ≡ w')
Does n C D w refused w' = w ≡ w'

abbrev pub Leads : ℕ → ℕ → ℕ → List ℕ → List Doing → List ℕ → Type 0
Leads n C D w [] w' = w ≡ w'
Leads n C D w (x ∷ xs) w' = (m : List ℕ) × Does n C D w x m × Leads n C D m xs w'

-- so from an emptied store
pub record Emptied (n C D : ℕ) (xs : List Doing) (w : List ℕ) : Type 0 where
  pub room : InRoom n C
  pub limit : InLimit D
  pub leads : Leads n C D (empty_table n C) xs w

-- the table holds the day that the statements of Demands speak of
abbrev pub TablesHold : Type 0
TablesHold = (n C D : ℕ) (xs : List Doing) (w : List ℕ) → Emptied n C D xs w → Holds n C D w (after D (empty_day n C) (all_calls xs))

-- demand 2: asking says yes exactly for the pairs accepted as links and not unlinked since; no list is longer than D
abbrev pub TablesAsk : Type 0
TablesAsk = (n C D : ℕ) (xs : List Doing) (w : List ℕ) → Emptied n C D xs w → (p q : Run) (a : Answer) (w' : List ℕ) → Carries n C D (ask p q) w a w'
    → value_of a ≡ yes1 (related p q D (empty_day n C) false (all_calls xs))

abbrev pub TablesShort : Type 0
TablesShort = (n C D : ℕ) (xs : List Doing) (w : List ℕ) → Emptied n C D xs w → (v : ℕ) → v < n → length_of n C w v ≤ D

-- demand 3, with k and the reversals as they were answered
abbrev pub TablesBound : Type 0
TablesBound = (n C D d : ℕ) → 2 * d ≤ D → (xs : List Doing) (w : List ℕ) → Emptied n C D xs w
    → (C₀ : Directions) (h : History) → calls h ≡ all_calls xs → AllDirected d D (empty_day n C) h
    → all_reversed xs * (D + 1 - 2 * d) ≤ (all_accepted xs + changes D (empty_day n C) C₀ h) * (D + 1)

abbrev pub TablesDense : Type 0
TablesDense = (n C D : ℕ) (xs : List Doing) (w : List ℕ) → Emptied n C D xs w → (p q : Run) (X : Directions)
    → DirectedWith p q (D / 2) X (after D (empty_day n C) (all_calls xs)) → (w' : List ℕ) → Carries n C D (link p q) w (Err TooDense) w' → ⊥
