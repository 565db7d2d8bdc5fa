-- Demand 1 proved: what a refused call, stream or record leaves. Assumes nothing: the promises alone.
use Prim.Native.Nat.{ℕ, zero, suc, ◌+◌, ◌≤◌}
use mathlib.Core.Bool.{Bool, true, false, not, cond, ◌&&◌}
use mathlib.Core.List.{List, [], ◌∷◌}
use mathlib.Core.Logic.{inl, inr}
use Rattle.std.specs.Prelude.{Option, None, Some, Result as Read, Ok, Err}
use Rattle.std.proofs.lemmas.Option.{none-some}
use mathlib.Core.Path.{◌≡◌, refl, sym, ap, ◌∙◌}
use native.Mathlib.Omega.{arith}
use native.Mathlib.Nat.{add-zero}
use lib.Dec.{eqb, ltb}
use lib.ListN.{length, drop, get_or}
use Rattle.terms.specs.Refusal.{number_of, Answer}
use Rattle.terms.specs.Run.{no_run, same_run}
use Rattle.terms.specs.declared.run.Run.{Run}
use Rattle.terms.specs.declared.refusal.Refusal.{Refusal}
use Rattle.terms.specs.declared.refusal.Refusal.TheVariants.{Sizes, Unsound, WrongMark, WrongKind, CutShort}
use Rattle.record.specs.Bytes.{record_bytes, kind_at, first_at, second_at, marked, kind_byte, kind_of, run_at}
use Rattle.record.specs.Reading.{names_one, checked, kinded, record_of, reading_of}
use Rattle.record.specs.declared.Kind.{Kind}
use Rattle.record.specs.declared.Kind.TheVariants.{Open, Close, Link, Unlink, Ask}
use Rattle.record.specs.declared.Record.{Record}
use Rattle.meaning.specs.Cells.{Lists, push, list, holds, links}
use Rattle.meaning.specs.Turning.{over, Ending, settled, dense, turning}
use Rattle.meaning.specs.Soundness.{Sound}
use Rattle.meaning.specs.Day.{Day, day_of, place_of}
use Rattle.meaning.specs.Calls.{Call, open_run, close_run, link, unlink, ask, reading as read_set, Outcome, Tests, first_refusal, tests, done, ended, do_link, do_unlink, act, call}
use Rattle.meaning.specs.Stream.{call_of, read_on, read_all, answered, taken, reversed, latest, DayRecords}
use Rattle.meaning.specs.Promise.{Carries, spare_after, waiting_after, Result}
use Rattle.meaning.proofs.Decided.{sized_dec}
use Rattle.meaning.proofs.Rules.{sound_or}
use Rattle.meaning.proofs.Determined.{sound_determined}
use Rattle.meaning.proofs.Kept.{call_case, link_run, run}
use Rattle.demands.specs.Demands.{CallRefused, EmptyRefused, is_dense, LinkRefused, StreamRefused, StreamStopped, RecordRefused, Demand1}
use Rattle.demands.proofs.Tight.{two_sized, lent_dec, stream_lent_dec}

different : {A : Type 0} (k : ℕ) (why : Refusal) → Ok k ≡ Err why → A
different k why e = absurd (let z : ◌≡◌ {A = ℕ} 0 1 = cc in omega arith)

module _ (D : ℕ) (s : Day) (why : Refusal) where
  -- an end that is refused leaves the day
  Stays : Outcome → Type 0
  Stays o = o.answer ≡ Err why → o.after ≡ s

  ended_stays : (fs : List ℕ) (e : Ending) → Stays (ended s fs e)
  unfolding Stays
  ended_stays fs (settled ls r) h = different r why h
  ended_stays fs dense h = refl

  link_stays : (u v : ℕ) (fs : List ℕ) → Stays (do_link D s u v fs)
  unfolding Stays
  link_stays u v [] h = refl
  link_stays u v (i ∷ fs) h = link_run (λ a t. a ≡ Err why → t ≡ s) D s u v i fs (ended_stays fs (run D s u v i)) h

  unlink_stays : (u v : ℕ) → Stays (do_unlink s u v)
  unfolding Stays
  unlink_stays u v = go (holds v (list s.lists u)) refl
    where
      go : (b : Bool) → holds v (list s.lists u) ≡ b → (do_unlink s u v).answer ≡ Err why → (do_unlink s u v).after ≡ s
      go true e h = different 0 why (rw (do_unlink, e) at h)
      go false e h = different 0 why (rw (do_unlink, e) at h)

  act_stays : (q : Call) → Stays (act D s q)
  unfolding Stays
  act_stays (open_run p) h = different _ why h
  act_stays (close_run p) h = different _ why h
  act_stays (link p q) h = link_stays (place_of s p) (place_of s q) s.free h
  act_stays (unlink p q) h = unlink_stays (place_of s p) (place_of s q) h
  act_stays (ask p q) h = different _ why h
  act_stays (read_set ps) h = different _ why h

  call_stays : (q : Call) → (call D s q).answer ≡ Err why → (call D s q).after ≡ s
  unfolding Stays
  call_stays q = call_case Stays D s q (λ _ _ _. refl) (λ _. act_stays q)

carries_stays : (n C D : ℕ) (q : Call) (w : List ℕ) (why : Refusal) (x : List ℕ) → Sound n C D w → Carries n C D q w (Err why) x → x ≡ w
carries_stays n C D q w why x s k =
    sound_determined n C D D x w k.holds.sound s (k.holds.day ∙ call_stays D (day_of n C w) why q (sym k.answer))

-- ---- single calls
pub call_refused : CallRefused
call_refused n C D q w x why A =
    elim (sized_dec n C D w) [
      | no h ↦ (A.sizes h).1
      | yes z ↦ elim (sound_or n C D w) [ inr h ↦ (A.unsound z h).1 | inl s ↦ carries_stays n C D q w why x s (A.sound s) ]
    ]

pub empty_refused : EmptyRefused
empty_refused n C w x why A =
    elim (sized_dec n C 2 w) [
      | yes z ↦ different 0 why (sym (A.done z.room z.long).0)
      | no h ↦ (A.sizes (λ z. h (two_sized n C w z))).1
    ]

-- ---- link: turning began exactly where the refusal is too dense
abbrev pub dense_answer : Answer → Bool
dense_answer (Ok k) = false
dense_answer (Err why) = is_dense why

abbrev pub dense_first : Option Refusal → Bool
dense_first None = false
dense_first (Some why) = is_dense why

-- no test is for too dense
abbrev pub Sparse : Tests → Type 0
Sparse [] = Unit {0}
Sparse (t ∷ ts) = (is_dense t.1 ≡ false) × Sparse ts

pub first_sparse : (ts : Tests) → Sparse ts → dense_first (first_refusal ts) ≡ false
first_sparse [] h = refl
first_sparse (t ∷ ts) h = go t.0 (first_sparse ts h.1)
  where
    go : (b : Bool) → dense_first (first_refusal ts) ≡ false → dense_first (elim b [ true ↦ Some t.1 | false ↦ first_refusal ts ]) ≡ false
    go true later = h.0
    go false later = later

pub tests_sparse : (s : Day) (q : Call) → Sparse (tests s q)
tests_sparse s (open_run p) = (refl, (refl, (refl, tt)))
tests_sparse s (close_run p) = (refl, (refl, (refl, tt)))
tests_sparse s (link p q) = (refl, (refl, (refl, (refl, (refl, tt)))))
tests_sparse s (unlink p q) = (refl, (refl, (refl, (refl, tt))))
tests_sparse s (ask p q) = (refl, (refl, (refl, tt)))
tests_sparse s (read_set ps) = (refl, (refl, tt))

module _ (D : ℕ) (s : Day) (why : Refusal) where
  Began : Outcome → Type 0
  Began o = o.answer ≡ Err why → o.began ≡ is_dense why

  ended_began : (fs : List ℕ) (e : Ending) → Began (ended s fs e)
  unfolding Began
  ended_began fs (settled ls r) h = different r why h
  ended_began fs dense h = ap dense_answer h

  link_began : (u v : ℕ) (fs : List ℕ) → Began (do_link D s u v fs)
  unfolding Began
  link_began u v [] = λ h. ap dense_answer h
  link_began u v (i ∷ fs) = go (over D (push s.lists u (record { index = i; target = v })) u)
    where
      go : (b : Bool)
          → let ls : Lists = push s.lists u (record { index = i; target = v }) in
          let o : Outcome = elim b [ true ↦ ended s fs (turning D (links ls) ls (u ∷ []) 0) | false ↦ done 0 (record { runs = s.runs; lists = ls; free = fs }) ] in
          o.answer ≡ Err why → o.began ≡ is_dense why
      go true h = ended_began fs (turning D (links (push s.lists u (record { index = i; target = v }))) (push s.lists u (record { index = i; target = v })) (u ∷ []) 0) h
      go false h = different 0 why h

  unlink_began : (u v : ℕ) → Began (do_unlink s u v)
  unfolding Began
  unlink_began u v = go (holds v (list s.lists u)) refl
    where
      go : (b : Bool) → holds v (list s.lists u) ≡ b → (do_unlink s u v).answer ≡ Err why → (do_unlink s u v).began ≡ is_dense why
      go true e h = different 0 why (rw (do_unlink, e) at h)
      go false e h = different 0 why (rw (do_unlink, e) at h)

  act_began : (q : Call) → Began (act D s q)
  unfolding Began
  act_began (open_run p) h = different _ why h
  act_began (close_run p) h = different _ why h
  act_began (link p q) h = link_began (place_of s p) (place_of s q) s.free h
  act_began (unlink p q) h = unlink_began (place_of s p) (place_of s q) h
  act_began (ask p q) h = different _ why h
  act_began (read_set ps) h = different _ why h

  call_began : (q : Call) → (call D s q).answer ≡ Err why → (call D s q).began ≡ is_dense why
  unfolding Began
  call_began q = call_case Began D s q early (λ _. act_began q)
    where
      early : (x : Refusal) → first_refusal (tests s q) ≡ Some x → ◌≡◌ {A = Answer} (Err x) (Err why) → false ≡ is_dense why
      early x e h = sym (first_sparse (tests s q) (tests_sparse s q)) ∙ ap dense_first e ∙ ap dense_answer h

pub link_refused : LinkRefused
link_refused n C D p q w spare waiting x xs xw why A =
    elim (lent_dec n C D w spare waiting) [
      | no h ↦ early Sizes refl (A.sizes h)
      | yes l ↦ elim (sound_or n C D w) [
        | inr h ↦ early Unsound refl (A.unsound l h)
        | inl s ↦
            let k = A.sound l s in
            let b : (call D (day_of n C w) (link p q)).began ≡ is_dense why = call_began D (day_of n C w) why (link p q) (sym k.carries.answer) in
            (carries_stays n C D (link p q) w why x s k.carries, k.spared ∙ ap (λ (z : Bool). spare_after z w spare) b, k.waited ∙ ap (λ (z : Bool). waiting_after z n waiting) b)
      ]
    ]
  where
    early : (c : Refusal) → is_dense c ≡ false → ◌≡◌ {A = Answer} (Err why) (Err c) × (x ≡ w) × (xs ≡ spare) × (xw ≡ waiting)
        → (x ≡ w) × (xs ≡ spare_after (is_dense why) w spare) × (xw ≡ waiting_after (is_dense why) n waiting)
    early c z t =
        let b : false ≡ is_dense why = sym (ap dense_answer t.0 ∙ z) in
        (t.1, t.2 ∙ ap (λ (z : Bool). spare_after z w spare) b, t.3 ∙ ap (λ (z : Bool). waiting_after z n waiting) b)

-- ---- stream
-- a record that is none is refused with 11, 12 or 13
abbrev Late : {A : Type 0} → Read A Refusal → Type 0
Late (Ok x) = ℕ
Late (Err why) = number_of WrongMark ≤ number_of why

checked_late : (k : Kind) (a b : Run) → Late (checked k a b)
unfolding checked
checked_late k a b = go (names_one k && not (same_run b no_run))
  where
    go : (x : Bool) → Late {A = Record} (cond x (Err WrongKind) (Ok (record { kind = k; first = a; second = b })))
    go true = omega arith
    go false = 0

kind_late : (b : ℕ) → Late (kind_of b)
unfolding kind_of
kind_late b = go (eqb b (kind_byte Open)) (eqb b (kind_byte Close)) (eqb b (kind_byte Link)) (eqb b (kind_byte Unlink)) (eqb b (kind_byte Ask))
  where
    go : (u v w x y : Bool)
        → Late {A = Kind} (cond u (Ok Open) (cond v (Ok Close) (cond w (Ok Link) (cond x (Ok Unlink) (cond y (Ok Ask) (Err WrongKind))))))
    go true v w x y = 0
    go false true w x y = 0
    go false false true x y = 0
    go false false false true y = 0
    go false false false false true = 0
    go false false false false false = omega arith

record_late : (s : List ℕ) → Late (record_of s)
unfolding record_of
record_late s = go (ltb (length s) record_bytes) (not (marked s)) (kind_of (get_or s kind_at 0)) (kind_late (get_or s kind_at 0))
  where
    go : (b c : Bool) (k : Read Kind Refusal) → Late k
        → Late {A = Record} (cond b (Err CutShort) (cond c (Err WrongMark) (kinded k (run_at s first_at) (run_at s second_at))))
    go true c k l = omega arith
    go false true k l = omega arith
    go false false (Ok k) l = checked_late k (run_at s first_at) (run_at s second_at)
    go false false (Err why) l = l

abbrev number_first : Option Refusal → ℕ
number_first None = 0
number_first (Some y) = number_of y

-- what stops a stream stands in one of its records
read_late : (s : List ℕ) (rest : DayRecords) (why : Refusal) → (rest.stop ≡ Some why → number_of WrongMark ≤ number_of why)
    → (read_on (reading_of s) rest).stop ≡ Some why → number_of WrongMark ≤ number_of why
unfolding reading_of
read_late s rest why later = go (eqb (length s) 0) (record_of s) (record_late s)
  where
    go : (b : Bool) (r : Read Record Refusal) → Late r → (read_on (cond b None (Some r)) rest).stop ≡ Some why → number_of WrongMark ≤ number_of why
    go true r l e = absurd (none-some why e)
    go false (Ok x) l e = later e
    go false (Err x) l e = omega (arith, l, ap number_first e)

pub stop_late : (k : ℕ) (s : List ℕ) (why : Refusal) → (read_all k s).stop ≡ Some why → number_of WrongMark ≤ number_of why
unfolding read_all
stop_late zero s why e = absurd (none-some why e)
stop_late (suc k) s why e = read_late s (read_all k (drop record_bytes s)) why (stop_late k (drop record_bytes s) why) e

pub stream_refused : StreamRefused
stream_refused n C D bytes t t' r why A e small =
    elim (stream_lent_dec n C D bytes t) [
      | no h ↦ (ap (λ (z : Result). z.carried) (A.sizes h).0, (A.sizes h).1)
      | yes l ↦ elim (sound_or n C D t.store) [
        | inr h ↦ (ap (λ (z : Result). z.carried) (A.unsound l h).0, (A.unsound l h).1)
        | inl s ↦ let late = stop_late (length bytes) bytes why (sym (A.sound l s).stop ∙ e) in absurd (omega arith)
      ]
    ]

pub stream_stopped : StreamStopped
stream_stopped n C D bytes t t' r why A e large =
    elim (stream_lent_dec n C D bytes t) [
      | no h ↦ let z : number_of Sizes ≡ number_of why = ap number_first (sym (ap (λ (x : Result). x.stop) (A.sizes h).0) ∙ e) in absurd (omega arith)
      | yes l ↦ elim (sound_or n C D t.store) [
        | inr h ↦ let z : number_of Unsound ≡ number_of why = ap number_first (sym (ap (λ (x : Result). x.stop) (A.unsound l h).0) ∙ e) in absurd (omega arith)
        | inl s ↦ A.sound l s
      ]
    ]

-- ---- a record in a stream
taken_refused : (q : Call) (why : Refusal) → taken q (Err why) ≡ 0
taken_refused (open_run p) why = refl
taken_refused (close_run p) why = refl
taken_refused (link p q) why = refl
taken_refused (unlink p q) why = refl
taken_refused (ask p q) why = refl
taken_refused (read_set ps) why = refl

reversed_refused : (q : Call) (why : Refusal) → reversed q (Err why) ≡ 0
reversed_refused (open_run p) why = refl
reversed_refused (close_run p) why = refl
reversed_refused (link p q) why = refl
reversed_refused (unlink p q) why = refl
reversed_refused (ask p q) why = refl
reversed_refused (read_set ps) why = refl

pub record_refused : RecordRefused
record_refused D p r why e = (
  call_stays D p.day why (call_of r) e,
  ap (λ (a : Answer). p.accepted + taken (call_of r) a) e ∙ ap (λ (x : ℕ). p.accepted + x) (taken_refused (call_of r) why) ∙ add-zero p.accepted,
  ap (λ (a : Answer). p.reversals + reversed (call_of r) a) e ∙ ap (λ (x : ℕ). p.reversals + x) (reversed_refused (call_of r) why) ∙ add-zero p.reversals,
  ap (answered p.answers p.carried) e,
  refl,
  ap (λ (b : Bool). latest b p.day p.turned) (call_began D p.day why (call_of r) e),
)

pub demand_1 : Demand1
demand_1 = (call_refused, empty_refused, link_refused, stream_refused, stream_stopped, record_refused)
