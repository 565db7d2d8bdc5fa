-- A stream's records, one by one: what each leaves, and which of them is the last that began turning. Assumes nothing: the promises
-- alone.
use Prim.Native.Nat.{ℕ, zero, suc, ◌+◌, ◌*◌, ◌≤◌, ◌<◌}
use mathlib.Core.Bool.{Bool, true, false, true≢false}
use mathlib.Core.List.{List, [], ◌∷◌, ◌++◌}
use mathlib.Core.Logic.{◌⊎◌, inl, inr}
use mathlib.Core.Path.{◌≡◌, refl, sym, ap, ◌∙◌, subst}
use native.Mathlib.Omega.{arith}
use lib.Dec.{eqb}
use lib.ListN.{length, take, replicate}
use Rattle.std.specs.Prelude.{Option, None, Some, Ok, Err}
use Rattle.std.proofs.lemmas.List.{take_all}
use Rattle.std.proofs.lemmas.Option.{none-some}
use Rattle.terms.specs.Refusal.{number_of, refusal_of, value_of, Answer}
use Rattle.terms.specs.Run.{bad_name, same_run}
use Rattle.terms.specs.declared.run.Run.{Run}
use Rattle.terms.specs.declared.refusal.Refusal.{Refusal}
use Rattle.terms.specs.declared.refusal.Refusal.TheVariants.{Sizes, Unsound, BadName, SameRun, NotOpen, Already, NoLink, NoRoom, TooDense, Touched, WrongMark, WrongKind, CutShort, BadSet}
use Rattle.record.specs.declared.Kind.{Kind}
use Rattle.record.specs.declared.Kind.TheVariants.{Open, Close, Link, Unlink, Ask}
use Rattle.record.specs.declared.Record.{Record}
use Rattle.meaning.specs.Table.{word, written}
use Rattle.meaning.specs.Cells.{list, holds, same}
use Rattle.meaning.specs.Turning.{hand_all, turning}
use Rattle.meaning.specs.Soundness.{Sound}
use Rattle.meaning.specs.Day.{Day, day_of, place_of, empty_day}
use Rattle.meaning.specs.Calls.{Call, open_run, close_run, link, unlink, ask, Outcome, tests, done, cut, do_unlink, act, call}
use Rattle.meaning.specs.Stream.{asks_for, call_of, records_of, Progress, latest, answered, carry, carry_all}
use Rattle.meaning.specs.Promise.{Holds, Tables, Result, StreamLent, progress, SpareIs, waiting_then, StreamCarries, StreamPromise}
use Rattle.meaning.proofs.Words.{written_length, word_same, word_other}
use Rattle.meaning.proofs.Rules.{sound_or}
use Rattle.meaning.proofs.Crossing.{sound_right}
use Rattle.meaning.proofs.Streamed.{progress_within}
use Rattle.meaning.proofs.Kept.{call_case}
use Rattle.demands.specs.History.{after, asked}
use Rattle.demands.specs.Promised.{chain_calls}
use Rattle.demands.specs.InTurn.{nth, carried_out, calls_before, day_before, single_call, LastTurned, NoneTurned, LastOrNone, Words, OtherWords, LastLeaves, NoneLeaves, InTurn, CarriedInTurn, PromisedInTurn, PromisedAll, InsideAsk, InsideDense, EmptiedInsideAsk, EmptiedInsideDense, worked_run, worked_link, worked, WorkedTurned, WorkedLeaves}
use Rattle.demands.proofs.Refusals.{dense_answer, dense_first, first_sparse, tests_sparse}
use Rattle.demands.proofs.Tight.{stream_lent_dec}
use Rattle.demands.proofs.Histories.{after_right, asked_le, related_from}
use Rattle.demands.proofs.Dense.{never_dense_from}
use Rattle.demands.proofs.Theorems.{yes_exactly, never_dense}
use Rattle.demands.proofs.Streams.{records_are_calls}
use Rattle.demands.proofs.Tables.{after_append}
use Rattle.demands.proofs.Stops.{carried_all}
use Rattle.demands.proofs.Promised.{promised_hold, emptied_hold, yes_one}

-- ---- records by their positions
nth_found : (rs : List Record) (i : ℕ) → i < length rs → (x : Record) × (nth rs i ≡ Some x)
nth_found [] i h = absurd (omega arith)
nth_found (x ∷ rs) zero h = (x, refl)
nth_found (x ∷ rs) (suc i) h = nth_found rs i (omega arith)

nth_below : (rs : List Record) (i : ℕ) (x : Record) → nth rs i ≡ Some x → i < length rs
nth_below [] i x h = absurd (none-some x h)
nth_below (y ∷ rs) zero x h = omega arith
nth_below (y ∷ rs) (suc i) x h = omega (arith, nth_below rs i x h)

same_some : (x y : Record) → Some x ≡ Some y → x ≡ y
same_some x y e = cc

-- ---- the answer words
module _ (ws : List ℕ) (i : ℕ) (a : Answer) where
  answered_length : length (answered ws i a) ≡ length ws
  answered_length = written_length (written ws (2 * i) (refusal_of a)) (2 * i + 1) (value_of a) ∙ written_length ws (2 * i) (refusal_of a)

  answered_other : (j : ℕ) → (j ≡ 2 * i → ⊥) → (j ≡ 2 * i + 1 → ⊥) → word (answered ws i a) j ≡ word ws j
  answered_other j f g = word_other (written ws (2 * i) (refusal_of a)) (2 * i + 1) j (value_of a) g ∙ word_other ws (2 * i) j (refusal_of a) f

  answered_first : 2 * i < length ws → word (answered ws i a) (2 * i) ≡ refusal_of a
  answered_first h =
      word_other (written ws (2 * i) (refusal_of a)) (2 * i + 1) (2 * i) (value_of a) (λ e. omega arith) ∙ word_same ws (2 * i) (refusal_of a) h

  answered_second : 2 * i + 1 < length ws → word (answered ws i a) (2 * i + 1) ≡ value_of a
  answered_second h =
      word_same (written ws (2 * i) (refusal_of a)) (2 * i + 1) (value_of a) (omega (arith, written_length ws (2 * i) (refusal_of a)))

module _ (D : ℕ) where
  all_length : (rs : List Record) (p : Progress) → length (carry_all D rs p).answers ≡ length p.answers
  unfolding carry_all
  all_length [] p = refl
  all_length (r ∷ rs) p = all_length rs (carry D p r) ∙ answered_length p.answers p.carried (call D p.day (call_of r)).answer

  words_early : (rs : List Record) (p : Progress) (j : ℕ) → j < 2 * p.carried → word (carry_all D rs p).answers j ≡ word p.answers j
  unfolding carry_all
  words_early [] p j h = refl
  words_early (r ∷ rs) p j h =
      words_early rs (carry D p r) j (omega arith)
      ∙ answered_other p.answers p.carried (call D p.day (call_of r)).answer j (λ e. omega arith) (λ e. omega arith)

  words_late : (rs : List Record) (p : Progress) (j : ℕ) → 2 * (p.carried + length rs) ≤ j → word (carry_all D rs p).answers j ≡ word p.answers j
  unfolding carry_all
  words_late [] p j h = refl
  words_late (r ∷ rs) p j h =
      words_late rs (carry D p r) j (omega arith)
      ∙ answered_other p.answers p.carried (call D p.day (call_of r)).answer j (λ e. omega arith) (λ e. omega arith)

  words_told : (rs : List Record) (p : Progress) (i : ℕ) (x : Record) → nth rs i ≡ Some x → 2 * (p.carried + length rs) ≤ length p.answers
      → (k : ℕ) → k ≡ p.carried + i
      → (word (carry_all D rs p).answers (2 * k) ≡ refusal_of (single_call D p.day rs i x).answer)
      × (word (carry_all D rs p).answers (2 * k + 1) ≡ value_of (single_call D p.day rs i x).answer)
  unfolding carry_all
  words_told [] p i x h room k e = absurd (none-some x h)
  words_told (r ∷ rs) p zero x h room k e =
      let a : Answer = (call D p.day (call_of r)).answer in
      let z : k ≡ p.carried = omega arith in
      let y : r ≡ x = same_some r x h in (
        words_early rs (carry D p r) (2 * k) (omega arith)
            ∙ ap (λ (m : ℕ). word (answered p.answers p.carried a) (2 * m)) z
            ∙ answered_first p.answers p.carried a (omega arith)
            ∙ ap (λ (v : Record). refusal_of (call D p.day (call_of v)).answer) y,
        words_early rs (carry D p r) (2 * k + 1) (omega arith)
            ∙ ap (λ (m : ℕ). word (answered p.answers p.carried a) (2 * m + 1)) z
            ∙ answered_second p.answers p.carried a (omega arith)
            ∙ ap (λ (v : Record). value_of (call D p.day (call_of v)).answer) y,
      )
  words_told (r ∷ rs) p (suc i) x h room k e =
      words_told rs (carry D p r) i x h (omega (arith, answered_length p.answers p.carried (call D p.day (call_of r)).answer)) k (omega arith)

  -- ---- the last that began turning
  turned_none : (rs : List Record) (p : Progress) → NoneTurned D p.day rs → (carry_all D rs p).turned ≡ p.turned
  unfolding carry_all
  turned_none [] p f = refl
  turned_none (r ∷ rs) p f = turned_none rs (carry D p r) (λ i x h. f (suc i) x h) ∙ ap (λ b. latest b p.day p.turned) (f zero r refl)

  turned_last : (rs : List Record) (p : Progress) (i : ℕ) (x : Record) → nth rs i ≡ Some x → (single_call D p.day rs i x).began ≡ true
      → ((j : ℕ) (y : Record) → i < j → nth rs j ≡ Some y → (single_call D p.day rs j y).began ≡ false)
      → (carry_all D rs p).turned ≡ Some (day_before D p.day rs i)
  unfolding carry_all
  turned_last [] p i x h b f = absurd (none-some x h)
  turned_last (r ∷ rs) p zero x h b f =
      turned_none rs (carry D p r) (λ j y g. f (suc j) y (omega arith) g)
      ∙ ap (λ b. latest b p.day p.turned) (ap (λ (v : Record). (call D p.day (call_of v)).began) (same_some r x h) ∙ b)
  turned_last (r ∷ rs) p (suc i) x h b f = turned_last rs (carry D p r) i x h b (λ j y a g. f (suc j) y (omega arith) g)

  later_on : (s : Day) (r : Record) (rs : List Record) (i : ℕ) → LastTurned D (call D s (call_of r)).after rs i → LastTurned D s (r ∷ rs) (suc i)
  later_on s r rs i t = record { rec = t.rec; stands = t.stands; began = t.began; later = more }
    where
      more : (j : ℕ) (y : Record) → suc i < j → nth (r ∷ rs) j ≡ Some y → (single_call D s (r ∷ rs) j y).began ≡ false
      more zero y a h = absurd (omega arith)
      more (suc j) y a h = t.later j y (omega arith) h

  first_of : (s : Day) (r : Record) (rs : List Record) → NoneTurned D (call D s (call_of r)).after rs → (b : Bool) → (call D s (call_of r)).began ≡ b
      → ((i : ℕ) × LastTurned D s (r ∷ rs) i) ⊎ NoneTurned D s (r ∷ rs)
  first_of s r rs f true e = inl (zero, record { rec = r; stands = refl; began = e; later = more })
    where
      more : (j : ℕ) (y : Record) → zero < j → nth (r ∷ rs) j ≡ Some y → (single_call D s (r ∷ rs) j y).began ≡ false
      more zero y a h = absurd (omega arith)
      more (suc j) y a h = f j y h
  first_of s r rs f false e = inr none
    where
      none : NoneTurned D s (r ∷ rs)
      none zero x h = ap (λ (v : Record). (call D s (call_of v)).began) (sym (same_some r x h)) ∙ e
      none (suc i) x h = f i x h

pub last_or_none : LastOrNone
last_or_none D s [] = inr (λ i x h. absurd (none-some x h))
last_or_none D s (r ∷ rs) =
    elim (last_or_none D (call D s (call_of r)).after rs) [
      | inl t ↦ inl (suc t.0, later_on D s r rs t.0 t.1)
      | inr f ↦ first_of D s r rs f (call D s (call_of r)).began refl
    ]

-- ---- a stream that is carried out
module _ (n C D : ℕ) (bytes : List ℕ) (t t' : Tables) (r : Result) (K : StreamCarries n C D bytes t r t') where
  abbrev Rs : List Record
  Rs = (records_of bytes).records

  abbrev Start : Progress
  Start = record { day = day_of n C t.store; answers = t.answers; carried = 0; accepted = t.accepted; reversals = t.reversals; turned = None }

  carried_count : r.carried ≡ length Rs
  carried_count = omega (arith, K.carried, carried_all D Rs Start)

  carried_words : 2 * r.carried ≤ length t.answers → Words D (day_of n C t.store) Rs t'
  carried_words room i h =
      let f : (x : Record) × (nth Rs i ≡ Some x) = nth_found Rs i h in
      let w = words_told D Rs Start i f.0 f.1 (omega (arith, carried_count)) i (omega arith) in
      (f.0, f.1, ap (λ (v : List ℕ). word v (2 * i)) K.answered ∙ w.0, ap (λ (v : List ℕ). word v (2 * i + 1)) K.answered ∙ w.1)

  carried_others : OtherWords Rs t t'
  carried_others = (
    ap length K.answered ∙ all_length D Rs Start,
    λ j h. ap (λ (v : List ℕ). word v j) K.answered ∙ words_late D Rs Start j (omega (arith, h)),
  )

  carried_last : LastLeaves n C D (day_of n C t.store) Rs t'
  carried_last i l =
      let e : (progress n C D bytes t).turned ≡ Some (day_before D (day_of n C t.store) Rs i) = turned_last D Rs Start i l.rec l.stands l.began l.later in
      (subst (λ (o : Option Day). SpareIs n C D o t.spare t'.spare) e K.spared, K.waited ∙ ap (λ (o : Option Day). waiting_then n o t.waiting) e)

  carried_none : NoneLeaves D (day_of n C t.store) Rs t t'
  carried_none f =
      let e : (progress n C D bytes t).turned ≡ None = turned_none D Rs Start f in
      (subst (λ (o : Option Day). SpareIs n C D o t.spare t'.spare) e K.spared, K.waited ∙ ap (λ (o : Option Day). waiting_then n o t.waiting) e)

  carried_turn : 2 * r.carried ≤ length t.answers → InTurn n C D Rs t t'
  carried_turn room =
      let c = records_are_calls D Rs Start in
      record {
        words = carried_words room;
        others = carried_others;
        last = carried_last;
        none = carried_none;
        totals = (K.accepted ∙ c.1, K.reversals ∙ c.2);
        holds = λ _. subst (Holds n C D t'.store) c.0 K.holds;
      }

  carried_rs : carried_out bytes r ≡ Rs
  carried_rs = take_all r.carried Rs (omega (arith, carried_count))

pub carried_in_turn : CarriedInTurn
carried_in_turn n C D bytes t t' r K room = (carried_count n C D bytes t t' r K, carried_turn n C D bytes t t' r K room)

-- ---- a stream by its promise
-- one that carried nothing out
idle : (n C D : ℕ) (t : Tables) → InTurn n C D [] t t
idle n C D t = record {
  words = λ i h. absurd (omega arith);
  others = (refl, λ j h. refl);
  last = λ i l. absurd (none-some l.rec l.stands);
  none = λ f. (refl, refl);
  totals = (omega arith, omega arith);
  holds = λ s. record { sound = s; day = refl };
}

module _ (n C D : ℕ) (bytes : List ℕ) (t t' : Tables) (r : Result) where
  abbrev Turns : Result → Tables → Type 0
  Turns q u = (q.carried ≡ length (carried_out bytes q)) × InTurn n C D (carried_out bytes q) t u

  stays_turn : (q : Result) → q.carried ≡ 0 → r ≡ q → t' ≡ t → Turns r t'
  stays_turn q z e f =
      let c : r.carried ≡ 0 = ap (λ (v : Result). v.carried) e ∙ z in
      let g : carried_out bytes r ≡ [] = ap (λ (k : ℕ). take k (records_of bytes).records) c in (
        c ∙ sym (ap (λ (v : List Record). length v) g),
        subst (λ (v : List Record). InTurn n C D v t t') (sym g) (subst (λ (u : Tables). InTurn n C D [] t u) (sym f) (idle n C D t)),
      )

  lent_turn : StreamLent n C D bytes t → StreamCarries n C D bytes t r t' → Turns r t'
  lent_turn l K =
      let g : carried_out bytes r ≡ (records_of bytes).records = carried_rs n C D bytes t t' r K in
      let room : 2 * r.carried ≤ length t.answers = omega (arith, K.carried, progress_within n C D bytes t, l.answers_long) in (
        carried_count n C D bytes t t' r K ∙ sym (ap (λ (v : List Record). length v) g),
        subst (λ (v : List Record). InTurn n C D v t t') (sym g) (carried_turn n C D bytes t t' r K room),
      )

pub promised_in_turn : PromisedInTurn
promised_in_turn n C D bytes t t' r A =
    elim (stream_lent_dec n C D bytes t) [
      | no h ↦ stays_turn n C D bytes t t' r _ refl (A.sizes h).0 (A.sizes h).1
      | yes l ↦ elim (sound_or n C D t.store) [
        | inr h ↦ stays_turn n C D bytes t t' r _ refl (A.unsound l h).0 (A.unsound l h).1
        | inl s ↦ lent_turn n C D bytes t t' r l (A.sound l s)
      ]
    ]

pub promised_all : PromisedAll
promised_all n C D bytes t t' r A l s = carried_rs n C D bytes t t' r (A.sound l s)

-- the words of a record that was carried out
module _ (n C D : ℕ) (bytes : List ℕ) (t t' : Tables) (r : Result) (A : StreamPromise n C D bytes t r t') (i : ℕ) (x : Record)
    (e : nth (carried_out bytes r) i ≡ Some x) where
  abbrev Single : Answer
  Single = (single_call D (day_of n C t.store) (carried_out bytes r) i x).answer

  inside_words : (word t'.answers (2 * i) ≡ refusal_of Single) × (word t'.answers (2 * i + 1) ≡ value_of Single)
  inside_words =
      let rs : List Record = carried_out bytes r in
      let w = (promised_in_turn n C D bytes t t' r A).1.words i (nth_below rs i x e) in
      let z : w.0 ≡ x = same_some w.0 x (sym w.1 ∙ e) in (
        w.2 ∙ ap (λ (v : Record). refusal_of (single_call D (day_of n C t.store) rs i v).answer) z,
        w.3 ∙ ap (λ (v : Record). value_of (single_call D (day_of n C t.store) rs i v).answer) z,
      )

  -- a stream on a store that is not sound carries nothing out
  inside_sound : Sound n C D t.store
  inside_sound =
      elim (stream_lent_dec n C D bytes t) [
        | no h ↦ nothing (ap (λ (v : Result). v.carried) (A.sizes h).0)
        | yes l ↦ elim (sound_or n C D t.store) [
          | inr h ↦ nothing (ap (λ (v : Result). v.carried) (A.unsound l h).0)
          | inl s ↦ s
        ]
      ]
    where
      nothing : {P : Type 0} → r.carried ≡ 0 → P
      nothing z =
          absurd (omega (arith, z, (promised_in_turn n C D bytes t t' r A).0, nth_below (carried_out bytes r) i x e))

-- ---- refusal 9 is a link's
dense_is : (why : Refusal) → number_of why ≡ 9 → why ≡ TooDense
dense_is Sizes e = absurd (omega arith)
dense_is Unsound e = absurd (omega arith)
dense_is BadName e = absurd (omega arith)
dense_is SameRun e = absurd (omega arith)
dense_is NotOpen e = absurd (omega arith)
dense_is Already e = absurd (omega arith)
dense_is NoLink e = absurd (omega arith)
dense_is NoRoom e = absurd (omega arith)
dense_is TooDense e = refl
dense_is Touched e = absurd (omega arith)
dense_is WrongMark e = absurd (omega arith)
dense_is WrongKind e = absurd (omega arith)
dense_is CutShort e = absurd (omega arith)
dense_is BadSet e = absurd (omega arith)

answer_dense : (a : Answer) → refusal_of a ≡ 9 → a ≡ Err TooDense
answer_dense (Ok k) e = absurd (omega arith)
answer_dense (Err why) e = ap Err (dense_is why e)

module _ (D : ℕ) (s : Day) where
  abbrev Thin : Outcome → Type 0
  Thin o = dense_answer o.answer ≡ false

  thin_unlink : (u v : ℕ) → Thin (do_unlink s u v)
  thin_unlink u v = go (holds v (list s.lists u))
    where
      go : (b : Bool) → dense_answer (elim b as (λ _. Outcome) [ true ↦ done 0 (cut s u v) | false ↦ done 0 (cut s v u) ]).answer ≡ false
      go true = refl
      go false = refl

  thin_call : (q : Call) → Thin (act D s q) → Thin (call D s q)
  thin_call q h = call_case Thin D s q (λ why e. sym (ap dense_first e) ∙ first_sparse (tests s q) (tests_sparse s q)) (λ e. h)

  dense_link : (k : Kind) (a b : Run) → (call D s (asks_for k a b)).answer ≡ Err TooDense
      → (k ≡ Link) × ((call D s (link a b)).answer ≡ Err TooDense)
  dense_link Open a b e = absurd (true≢false (sym (ap dense_answer e) ∙ thin_call (open_run a) refl))
  dense_link Close a b e = absurd (true≢false (sym (ap dense_answer e) ∙ thin_call (close_run a) refl))
  dense_link Link a b e = (refl, e)
  dense_link Unlink a b e = absurd (true≢false (sym (ap dense_answer e) ∙ thin_call (unlink a b) (thin_unlink (place_of s a) (place_of s b))))
  dense_link Ask a b e = absurd (true≢false (sym (ap dense_answer e) ∙ thin_call (ask a b) refl))

-- ---- inside a stream
pub inside_ask : InsideAsk
inside_ask n C D w₀ xs bytes t t' r S k A i p q e =
    let s : Day = day_of n C w₀ in
    let rs : List Record = carried_out bytes r in
    let cs : List Call = calls_before rs i in
    let H : Holds n C D t.store (after D s (chain_calls xs)) = promised_hold n C D w₀ xs t.store S k in
    let d : after D (day_of n C t.store) cs ≡ after D s (chain_calls xs ++ cs) = ap (λ v. after D v cs) H.day ∙ sym (after_append D s (chain_calls xs) cs) in
    (inside_words n C D bytes t t' r A i (record { kind = Ask; first = p; second = q }) e).1
    ∙ (ap (λ v. asked D v p q) d
    ∙ related_from n D p q s (sound_right n C D w₀ S) (eqb (asked D s p q) 1) (yes_one (asked D s p q) (asked_le D s p q)) (chain_calls xs ++ cs))

-- a link answered with 9, on the day before it
inside_refused : (n C D : ℕ) (bytes : List ℕ) (t t' : Tables) (r : Result) → StreamPromise n C D bytes t r t' → (i : ℕ) (x : Record)
    → nth (carried_out bytes r) i ≡ Some x → word t'.answers (2 * i) ≡ number_of TooDense → (s : Day)
    → day_before D (day_of n C t.store) (carried_out bytes r) i ≡ s
    → (x.kind ≡ Link) × ((call D s (link x.first x.second)).answer ≡ Err TooDense)
inside_refused n C D bytes t t' r A i x e f s d =
    let a : refusal_of (single_call D (day_of n C t.store) (carried_out bytes r) i x).answer ≡ 9 = sym (inside_words n C D bytes t t' r A i x e).0 ∙ f in
    dense_link D s x.kind x.first x.second
    (answer_dense (call D s (call_of x)).answer (ap (λ v. refusal_of (call D v (call_of x)).answer) (sym d) ∙ a))

pub inside_dense : InsideDense
inside_dense n C D w₀ xs bytes t t' r S k A i x e f =
    let s : Day = day_of n C w₀ in
    let cs : List Call = calls_before (carried_out bytes r) i in
    let H : Holds n C D t.store (after D s (chain_calls xs)) = promised_hold n C D w₀ xs t.store S k in
    let d : after D (day_of n C t.store) cs ≡ after D s (chain_calls xs ++ cs) = ap (λ v. after D v cs) H.day ∙ sym (after_append D s (chain_calls xs) cs) in
    let g = inside_refused n C D bytes t t' r A i x e f (after D s (chain_calls xs ++ cs)) d in (
      g.0,
      λ X h. never_dense_from n D (after D s (chain_calls xs ++ cs)) (after_right n D s (sound_right n C D w₀ S) (chain_calls xs ++ cs)) x.first x.second X h g.1,
    )

pub emptied_inside_ask : EmptiedInsideAsk
emptied_inside_ask n C D xs bytes t t' r E A i p q e =
    let s : Day = empty_day n C in
    let x : Record = record { kind = Ask; first = p; second = q } in
    let cs : List Call = calls_before (carried_out bytes r) i in
    let H : Holds n C D t.store (after D s (chain_calls xs)) = emptied_hold n C D xs t.store (inside_sound n C D bytes t t' r A i x e).sized.limit E in
    let d : after D (day_of n C t.store) cs ≡ after D s (chain_calls xs ++ cs) = ap (λ v. after D v cs) H.day ∙ sym (after_append D s (chain_calls xs) cs) in
    (inside_words n C D bytes t t' r A i x e).1 ∙ (ap (λ v. asked D v p q) d ∙ yes_exactly n C D (chain_calls xs ++ cs) p q)

pub emptied_inside_dense : EmptiedInsideDense
emptied_inside_dense n C D xs bytes t t' r E A i x e f =
    let s : Day = empty_day n C in
    let cs : List Call = calls_before (carried_out bytes r) i in
    let H : Holds n C D t.store (after D s (chain_calls xs)) = emptied_hold n C D xs t.store (inside_sound n C D bytes t t' r A i x e).sized.limit E in
    let d : after D (day_of n C t.store) cs ≡ after D s (chain_calls xs ++ cs) = ap (λ v. after D v cs) H.day ∙ sym (after_append D s (chain_calls xs) cs) in
    let g = inside_refused n C D bytes t t' r A i x e f (after D s (chain_calls xs ++ cs)) d in
    (g.0, λ X h. never_dense n C D (chain_calls xs ++ cs) x.first x.second X h g.1)

-- ---- worked
pub worked_turned : WorkedTurned
unfolding bad_name same_run same hand_all turning
worked_turned = record { rec = worked_link 4; stands = refl; began = refl; later = later }
  where
    later : (j : ℕ) (y : Record) → 6 < j → nth worked j ≡ Some y → (single_call 2 (empty_day 4 3) worked j y).began ≡ false
    later zero y a h = absurd (omega arith)
    later (suc zero) y a h = absurd (omega arith)
    later (suc (suc zero)) y a h = absurd (omega arith)
    later (suc (suc (suc zero))) y a h = absurd (omega arith)
    later (suc (suc (suc (suc zero)))) y a h = absurd (omega arith)
    later (suc (suc (suc (suc (suc zero))))) y a h = absurd (omega arith)
    later (suc (suc (suc (suc (suc (suc zero)))))) y a h = absurd (omega arith)
    later (suc (suc (suc (suc (suc (suc (suc zero))))))) y a h =
        ap (λ (v : Record). (single_call 2 (empty_day 4 3) worked 7 v).began) (sym (same_some (record { kind = Ask; first = worked_run 1; second = worked_run 4 }) y h))
    later (suc (suc (suc (suc (suc (suc (suc (suc j)))))))) y a h = absurd (none-some y h)

pub worked_leaves : WorkedLeaves
unfolding bad_name same_run same hand_all turning
worked_leaves t t' e k =
    let l : Holds 4 3 2 t'.spare (day_before 2 (day_of 4 3 t.store) worked 6) × (t'.waiting ≡ replicate 4 0)
    = k.last 6 (subst (λ s. LastTurned 2 s worked 6) (sym e) worked_turned) in
    let v = k.words 6 (omega arith) in
    let w = k.words 7 (omega arith) in
    let x : v.0 ≡ worked_link 4 = same_some v.0 (worked_link 4) (sym v.1) in
    let y : w.0 ≡ record { kind = Ask; first = worked_run 1; second = worked_run 4 } = same_some w.0 (record { kind = Ask; first = worked_run 1; second = worked_run 4 }) (sym w.1) in (
      subst (λ s. Holds 4 3 2 t'.spare (day_before 2 s worked 6)) e l.0,
      l.1,
      v.2 ∙ (ap (λ s. refusal_of (single_call 2 s worked 6 v.0).answer) e ∙ ap (λ z. refusal_of (single_call 2 (empty_day 4 3) worked 6 z).answer) x),
      v.3 ∙ (ap (λ s. value_of (single_call 2 s worked 6 v.0).answer) e ∙ ap (λ z. value_of (single_call 2 (empty_day 4 3) worked 6 z).answer) x),
      w.2 ∙ (ap (λ s. refusal_of (single_call 2 s worked 7 w.0).answer) e ∙ ap (λ z. refusal_of (single_call 2 (empty_day 4 3) worked 7 z).answer) y),
      w.3 ∙ (ap (λ s. value_of (single_call 2 s worked 7 w.0).answer) e ∙ ap (λ z. value_of (single_call 2 (empty_day 4 3) worked 7 z).answer) y),
    )
