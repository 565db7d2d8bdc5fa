-- A stream's stop is 0, 1, 2, 11, 12 or 13, and a stream that a record stopped is a stream of the bytes before that record. Assumes
-- nothing: the promises alone.
use Prim.Native.Nat.{ℕ, zero, suc, ◌+◌, ◌*◌, ◌≤◌, ◌<◌}
use mathlib.Core.Bool.{Bool, true, false, not, cond, ◌&&◌}
use mathlib.Core.List.{List, [], ◌∷◌}
use mathlib.Core.Logic.{◌⊎◌, inl, inr}
use mathlib.Core.Path.{◌≡◌, refl, sym, ap, ◌∙◌, subst}
use native.Mathlib.Omega.{arith}
use borrow.Author.Tests.{ne_eqb, le-ltb}
use lib.Dec.{eqb, ltb}
use lib.ListN.{length, drop, take, get_or}
use Rattle.std.specs.Prelude.{Option, None, Some, Result as Read, Ok, Err}
use Rattle.std.proofs.lemmas.List.{get_or-take, length-take, drop-take, drop-drop}
use Rattle.std.proofs.lemmas.Option.{none-some}
use Rattle.terms.specs.Refusal.{number_of}
use Rattle.terms.specs.Size.{InRoom, InLimit}
use Rattle.terms.specs.Run.{no_run, bad_name, same_run}
use Rattle.terms.specs.declared.run.Run.{Run}
use Rattle.terms.specs.declared.refusal.Refusal.{Refusal}
use Rattle.terms.specs.declared.refusal.Refusal.TheVariants.{WrongMark, WrongKind, CutShort}
use Rattle.record.specs.Bytes.{record_bytes, kind_at, first_at, second_at, marked, kind_byte, kind_of, run_at}
use Rattle.record.specs.Reading.{names_one, checked, kinded, record_of, reading_of}
use Rattle.record.specs.declared.Kind.{Kind}
use Rattle.record.specs.declared.Kind.TheVariants.{Open, Close, Link, Unlink, Ask}
use Rattle.record.specs.declared.Record.{Record}
use Rattle.record.proofs.Readings.{at_end, whole_long}
use Rattle.meaning.specs.Table.{word, written}
use Rattle.meaning.specs.Day.{empty_table, cells, day_of}
use Rattle.meaning.specs.Stream.{DayRecords, read_on, read_all, records_of, Progress, carry, carry_all}
use Rattle.meaning.specs.Promise.{Holds, Tables, StreamLent, Result, stop_number, progress, SpareIs, waiting_then, StreamCarries, StreamPromise}
use Rattle.meaning.specs.Soundness.{Sound}
use Rattle.meaning.proofs.EmptyDay.{empty_sound}
use Rattle.meaning.proofs.Rules.{sound_or}
use Rattle.meaning.proofs.Streamed.{progress_within}
use Rattle.demands.specs.Streaming.{StopNumbers, StopStands, StoppedAsBefore, asked_once, at_entry, StoppedOnce}
use Rattle.demands.proofs.Refusals.{stream_stopped}
use Rattle.demands.proofs.Tight.{stream_lent_dec, stream_tight}

-- ---- which numbers stop a stream
abbrev Numbered : ℕ → Type 0
Numbered k = (k ≡ 0) ⊎ (k ≡ 1) ⊎ (k ≡ 2) ⊎ (k ≡ 11) ⊎ (k ≡ 12) ⊎ (k ≡ 13)

-- a record that is none is refused with 11, 12 or 13
abbrev Bad : {A : Type 0} → Read A Refusal → Type 0
Bad (Ok x) = ℕ
Bad (Err why) = (number_of why ≡ 11) ⊎ (number_of why ≡ 12) ⊎ (number_of why ≡ 13)

checked_bad : (k : Kind) (a b : Run) → Bad (checked k a b)
unfolding checked
checked_bad k a b = go (names_one k && not (same_run b no_run))
  where
    go : (x : Bool) → Bad {A = Record} (cond x (Err WrongKind) (Ok (record { kind = k; first = a; second = b })))
    go true = inr (inl refl)
    go false = 0

kind_bad : (b : ℕ) → Bad (kind_of b)
unfolding kind_of
kind_bad b = go (eqb b (kind_byte Open)) (eqb b (kind_byte Close)) (eqb b (kind_byte Link)) (eqb b (kind_byte Unlink)) (eqb b (kind_byte Ask))
  where
    go : (u v w x y : Bool)
        → Bad {A = Kind} (cond u (Ok Open) (cond v (Ok Close) (cond w (Ok Link) (cond x (Ok Unlink) (cond y (Ok Ask) (Err WrongKind))))))
    go true v w x y = 0
    go false true w x y = 0
    go false false true x y = 0
    go false false false true y = 0
    go false false false false true = 0
    go false false false false false = inr (inl refl)

record_bad : (s : List ℕ) → Bad (record_of s)
unfolding record_of
record_bad s = go (ltb (length s) record_bytes) (not (marked s)) (kind_of (get_or s kind_at 0)) (kind_bad (get_or s kind_at 0))
  where
    go : (b c : Bool) (k : Read Kind Refusal) → Bad k
        → Bad {A = Record} (cond b (Err CutShort) (cond c (Err WrongMark) (kinded k (run_at s first_at) (run_at s second_at))))
    go true c k l = inr (inr refl)
    go false true k l = inl refl
    go false false (Ok k) l = checked_bad k (run_at s first_at) (run_at s second_at)
    go false false (Err why) l = l

read_numbered : (s : List ℕ) (rest : DayRecords) → Numbered (stop_number rest.stop) → Numbered (stop_number (read_on (reading_of s) rest).stop)
unfolding reading_of
read_numbered s rest later = go (eqb (length s) 0) (record_of s) (record_bad s)
  where
    go : (b : Bool) (r : Read Record Refusal) → Bad r → Numbered (stop_number (read_on (cond b None (Some r)) rest).stop)
    go true r l = inl refl
    go false (Ok x) l = later
    go false (Err x) l = inr (inr (inr l))

stop_numbered : (k : ℕ) (s : List ℕ) → Numbered (stop_number (read_all k s).stop)
unfolding read_all
stop_numbered zero s = inl refl
stop_numbered (suc k) s = read_numbered s (read_all k (drop record_bytes s)) (stop_numbered k (drop record_bytes s))

pub stop_numbers : StopNumbers
stop_numbers n C D bytes t t' r A =
    elim (stream_lent_dec n C D bytes t) [
      | no h ↦ inr (inl (ap (λ (z : Result). stop_number z.stop) (A.sizes h).0))
      | yes l ↦ elim (sound_or n C D t.store) [
        | inr h ↦ inr (inr (inl (ap (λ (z : Result). stop_number z.stop) (A.unsound l h).0)))
        | inl s ↦ subst (λ (z : Option Refusal). Numbered (stop_number z)) (sym (A.sound l s).stop) (stop_numbered (length bytes) bytes)
      ]
    ]

-- ---- the bytes before the record that stops a stream
-- bytes that agree in their first fifteen read alike
module _ (s z : List ℕ) (long : record_bytes ≤ length s) (long' : record_bytes ≤ length z)
    (at : (i : ℕ) → i < record_bytes → get_or s i 0 ≡ get_or z i 0) where
  same_marked : marked s ≡ marked z
  unfolding marked
  same_marked = rw (at 0 (omega arith), at 1 (omega arith))

  same_first : run_at s first_at ≡ run_at z first_at
  unfolding run_at
  same_first = rw (at 3 (omega arith), at 4 (omega arith), at 5 (omega arith), at 6 (omega arith), at 7 (omega arith), at 8 (omega arith))

  same_second : run_at s second_at ≡ run_at z second_at
  unfolding run_at
  same_second = rw (at 9 (omega arith), at 10 (omega arith), at 11 (omega arith), at 12 (omega arith), at 13 (omega arith), at 14 (omega arith))

  same_record : record_of s ≡ record_of z
  unfolding record_of
  same_record =
      rw (le-ltb (length s) record_bytes long, le-ltb (length z) record_bytes long', same_marked, at 2 (omega arith), same_first, same_second)

  same_reading : reading_of s ≡ reading_of z
  unfolding reading_of
  same_reading = rw (ne_eqb (length s) 0 (λ e. omega arith), ne_eqb (length z) 0 (λ e. omega arith), same_record)

none_read : (j : ℕ) → read_all j [] ≡ record { records = []; stop = None }
unfolding read_all
none_read zero = refl
none_read (suc j) = rw (at_end [] refl)

-- the bytes of the whole records of a stream, read by themselves, are these records and the end
before : (k : ℕ) (s : List ℕ) (j : ℕ) → length (read_all k s).records ≤ j
    → read_all j (take (record_bytes * length (read_all k s).records) s) ≡ record { records = (read_all k s).records; stop = None }
unfolding read_all
before zero s j h = none_read j
before (suc k) s j h = go (reading_of s) refl (read_all k (drop record_bytes s)) (before k (drop record_bytes s)) j h
  where
    go : (r : Option (Read Record Refusal)) → reading_of s ≡ r → (rest : DayRecords)
        → ((j : ℕ) → length rest.records ≤ j → read_all j (take (record_bytes * length rest.records) (drop record_bytes s)) ≡ record { records = rest.records; stop = None })
        → (j : ℕ) → length (read_on r rest).records ≤ j
        → read_all j (take (record_bytes * length (read_on r rest).records) s) ≡ record { records = (read_on r rest).records; stop = None }
    go None e rest f j h = none_read j
    go (Some (Err why)) e rest f j h = none_read j
    go (Some (Ok x)) e rest f zero h = absurd (omega arith)
    go (Some (Ok x)) e rest f (suc j) h =
        let m : ℕ = record_bytes * length rest.records in
        let whole : record_bytes ≤ length s = whole_long s x e in
        let k : record_bytes * suc (length rest.records) ≡ record_bytes + m = omega arith in
        let long : record_bytes ≤ length (take (record_bytes + m) s) = omega (arith, length-take (record_bytes + m) s) in
        let a : reading_of (take (record_bytes + m) s) ≡ reading_of s
        = same_reading (take (record_bytes + m) s) s long whole (λ i p. get_or-take (record_bytes + m) s i 0 (omega arith)) in
        ap (λ (n : ℕ). read_on (reading_of (take n s)) (read_all j (drop record_bytes (take n s)))) k
        ∙ ap (λ r. read_on r (read_all j (drop record_bytes (take (record_bytes + m) s)))) (a ∙ e)
        ∙ ap (λ (l : List ℕ). read_on (Some (Ok x)) (read_all j l)) (drop-take record_bytes m s)
        ∙ ap (read_on (Some (Ok x))) (f j (omega arith))

pub carried_all : (D : ℕ) (rs : List Record) (p : Progress) → (carry_all D rs p).carried ≡ p.carried + length rs
unfolding carry_all
carried_all D [] p = omega arith
carried_all D (r ∷ rs) p = omega (arith, carried_all D rs (carry D p r))

-- what stops a stream stands after its records
stands : (k : ℕ) (s : List ℕ) (why : Refusal) → (read_all k s).stop ≡ Some why
    → reading_of (drop (record_bytes * length (read_all k s).records) s) ≡ Some (Err why)
unfolding read_all
stands zero s why h = absurd (none-some why h)
stands (suc k) s why h = go (reading_of s) refl (read_all k (drop record_bytes s)) (stands k (drop record_bytes s) why) h
  where
    go : (r : Option (Read Record Refusal)) → reading_of s ≡ r → (rest : DayRecords)
        → (rest.stop ≡ Some why → reading_of (drop (record_bytes * length rest.records) (drop record_bytes s)) ≡ Some (Err why))
        → (read_on r rest).stop ≡ Some why → reading_of (drop (record_bytes * length (read_on r rest).records) s) ≡ Some (Err why)
    go None e rest f h = absurd (none-some why h)
    go (Some (Err x)) e rest f h = let z : x ≡ why = cc in e ∙ ap (λ (y : Refusal). Some (Err y)) z
    go (Some (Ok x)) e rest f h =
        let m : ℕ = record_bytes * length rest.records in
        let k : record_bytes * suc (length rest.records) ≡ record_bytes + m = omega arith in
        ap (λ (n : ℕ). reading_of (drop n s)) k ∙ ap reading_of (sym (drop-drop m record_bytes s)) ∙ f h

pub stop_stands : StopStands
stop_stands n C D bytes t t' r why A e large =
    let k = stream_stopped n C D bytes t t' r why A e large in
    let c : r.carried ≡ length (records_of bytes).records = k.carried ∙ (carried_all D (records_of bytes).records _ ∙ omega arith) in
    ap (λ (n : ℕ). reading_of (drop (record_bytes * n) bytes)) c ∙ stands (length bytes) bytes why (sym k.stop ∙ e)

tables_path : (t u : Tables) → t.store ≡ u.store → t.spare ≡ u.spare → t.waiting ≡ u.waiting → t.answers ≡ u.answers
    → t.accepted ≡ u.accepted → t.reversals ≡ u.reversals → t ≡ u
tables_path t u a b c d e f = λ i. record { store = a i; spare = b i; waiting = c i; answers = d i; accepted = e i; reversals = f i }

module _ (n C D : ℕ) (bytes : List ℕ) (t t' : Tables) (r : Result) (l : StreamLent n C D bytes t) (s : Sound n C D t.store)
    (A : StreamCarries n C D bytes t r t') where
  records : List Record
  records = (records_of bytes).records

  count : r.carried ≡ length records
  unfolding records
  count = A.carried ∙ (carried_all D (records_of bytes).records _ ∙ omega arith)

  whole_records : record_bytes * r.carried ≤ length bytes
  whole_records = omega (arith, A.carried, progress_within n C D bytes t)

  first_bytes : List ℕ
  first_bytes = take (record_bytes * r.carried) bytes

  first_long : length first_bytes ≡ record_bytes * r.carried
  unfolding first_bytes
  first_long = omega (arith, whole_records, length-take (record_bytes * r.carried) bytes)

  first_read : records_of first_bytes ≡ record { records = records; stop = None }
  unfolding first_bytes records
  first_read =
      ap (λ (k : ℕ). read_all (length first_bytes) (take (record_bytes * k) bytes)) count
      ∙ before (length bytes) bytes (length first_bytes) (omega (arith, first_long, count))

  first_lent : StreamLent n C D first_bytes t
  first_lent =
      record {
        lent = l.lent;
        short = omega (arith, l.short, first_long, whole_records);
        answers_long = omega (arith, l.answers_long, first_long, whole_records);
        accepted_most = l.accepted_most;
        reversals_most = l.reversals_most;
      }

  module _ (q : Result) (u : Tables) (B : StreamCarries n C D first_bytes t q u) where
    same_progress : progress n C D first_bytes t ≡ progress n C D bytes t
    unfolding records
    same_progress =
        ap
        (λ (d : DayRecords). carry_all D d.records (record { day = day_of n C t.store; answers = t.answers; carried = 0; accepted = t.accepted; reversals = t.reversals; turned = None }))
        first_read

    -- the stream of all the bytes may leave what that of the first leaves
    as_all : StreamCarries n C D bytes t (record { stop = (records_of bytes).stop; carried = q.carried }) u
    as_all =
        record {
          stop = refl;
          carried = B.carried ∙ ap (λ (p : Progress). p.carried) same_progress;
          holds = subst (λ (p : Progress). Holds n C D u.store p.day) same_progress B.holds;
          spared = subst (λ (p : Progress). SpareIs n C D p.turned t.spare u.spare) same_progress B.spared;
          waited = B.waited ∙ ap (λ (p : Progress). waiting_then n p.turned t.waiting) same_progress;
          answered = B.answered ∙ ap (λ (p : Progress). p.answers) same_progress;
          accepted = B.accepted ∙ ap (λ (p : Progress). p.accepted) same_progress;
          reversals = B.reversals ∙ ap (λ (p : Progress). p.reversals) same_progress;
        }

    told : (x : Result) (v : Tables) → StreamCarries n C D bytes t x v → StreamPromise n C D bytes t x v
    told x v K = record { sizes = λ h. absurd (h l); unsound = λ a h. absurd (h s); sound = λ a b. K }

    leaves : (q.stop ≡ None) × (q.carried ≡ r.carried) × (u ≡ t')
    leaves =
        let k = stream_tight n C D bytes t (record { stop = (records_of bytes).stop; carried = q.carried }) r u t' (told _ u as_all) (told r t' A) in (
          B.stop ∙ ap (λ (d : DayRecords). d.stop) first_read,
          k.carried,
          tables_path u t' k.store k.spare k.waiting k.answers k.accepted k.reversals,
        )

pub stopped_as_before : StoppedAsBefore
unfolding first_bytes
stopped_as_before n C D bytes t t' r why A e large u q B =
    elim (stream_lent_dec n C D bytes t) [
      | no h ↦ let z : 1 ≡ number_of why = ap stop_number (sym (ap (λ (x : Result). x.stop) (A.sizes h).0) ∙ e) in absurd (omega arith)
      | yes l ↦ elim (sound_or n C D t.store) [
        | inr h ↦ let z : 2 ≡ number_of why = ap stop_number (sym (ap (λ (x : Result). x.stop) (A.unsound l h).0) ∙ e) in absurd (omega arith)
        | inl s ↦ let k = A.sound l s in leaves n C D bytes t t' r l s k q u (B.sound (first_lent n C D bytes t t' r l s k) s)
      ]
    ]

-- ---- worked
one_room : InRoom 1 1
one_room = record { places_least = omega arith; places_at_most = omega arith; cells_least = omega arith; cells_at_most = omega arith }

two_limit : InLimit 2
two_limit = record { least = omega arith; most = omega arith }

asked_lent : StreamLent 1 1 2 asked_once at_entry
unfolding empty_table
asked_lent =
    record {
      lent = record { sized = (empty_sound 1 1 2 one_room two_limit).sized; spare_long = (empty_sound 1 1 2 one_room two_limit).sized.long; waiting_long = refl };
      short = omega arith;
      answers_long = omega arith;
      accepted_most = omega arith;
      reversals_most = omega arith;
    }

asked_carries : StreamCarries 1 1 2 asked_once at_entry (record { stop = Some CutShort; carried = 1 }) (record at_entry { answers = 5 ∷ 0 ∷ [] })
unfolding read_all reading_of record_of marked kind_of run_at checked carry_all written cells word empty_table same_run bad_name
asked_carries =
    record {
      stop = refl;
      carried = refl;
      holds = record { sound = empty_sound 1 1 2 one_room two_limit; day = refl };
      spared = refl;
      waited = refl;
      answered = refl;
      accepted = refl;
      reversals = refl;
    }

pub stopped_once : StoppedOnce
stopped_once =
    record {
      sizes = λ h. absurd (h asked_lent);
      unsound = λ l h. absurd (h (empty_sound 1 1 2 one_room two_limit));
      sound = λ l s. asked_carries;
    }
