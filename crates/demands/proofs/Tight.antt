-- How tight the contracts are: two outcomes that a call's promise allows for the same input coincide, in the answer and in every
-- table, a stream's in both totals too. And asking about two runs says the same whichever is named first. Assumes nothing: the
-- promises alone.
use Prim.Native.Nat.{ℕ, ◌*◌, ◌/◌}
use mathlib.Core.Bool.{not, or_comm}
use mathlib.Core.List.{List}
use mathlib.Core.Logic.Dec
use mathlib.Core.Logic.{inl, inr}
use Rattle.std.specs.Prelude.{Option, None, Some}
use mathlib.Core.Path.{◌≡◌, sym, ap, ◌∙◌}
use native.Mathlib.Decide.{ℕ_discrete, dec_le, map_dec}
use native.Mathlib.Omega.{arith}
use lib.ListN.{length}
use Rattle.terms.specs.Run.{bad_name, same_run}
use Rattle.terms.specs.Size.{InRoom, store_words, waiting_words, stream_most, total_most}
use Rattle.terms.specs.declared.run.Run.{Run}
use Rattle.terms.specs.Refusal.{Answer}
use Rattle.record.specs.Bytes.{record_bytes}
use Rattle.meaning.specs.Cells.{list, holds}
use Rattle.meaning.specs.Soundness.{Sized}
use Rattle.meaning.specs.Day.{Day, day_of, place_of, is_open}
use Rattle.meaning.specs.Calls.{Call, link, ask, call}
use Rattle.meaning.specs.Promise.{Holds, Carries, Promise, EmptyPromise, Lent, LinkPromise, Tables, StreamLent, Result, SpareIs, StreamCarries, StreamPromise, progress}
use Rattle.meaning.proofs.Decided.{sized_dec}
use Rattle.meaning.proofs.Rules.{sound_or}
use Rattle.meaning.proofs.Determined.{sound_determined}
use Rattle.meaning.proofs.Finding.{run_same, run_other, run_or}

-- one table holds a day
held_once : (n C D : ℕ) (s : Day) (x y : List ℕ) → Holds n C D x s → Holds n C D y s → x ≡ y
held_once n C D s x y a b = sound_determined n C D D x y a.sound b.sound (a.day ∙ sym b.day)

-- what carries a call out is one
carries_once : (n C D : ℕ) (q : Call) (w : List ℕ) (a b : Answer) (x y : List ℕ) → Carries n C D q w a x → Carries n C D q w b y → (a ≡ b) × (x ≡ y)
carries_once n C D q w a b x y A B = (A.answer ∙ sym B.answer, held_once n C D (call D (day_of n C w) q).after x y A.holds B.holds)

pub call_tight : (n C D : ℕ) (q : Call) (w : List ℕ) (a b : Answer) (x y : List ℕ) → Promise n C D q w a x → Promise n C D q w b y → (a ≡ b) × (x ≡ y)
call_tight n C D q w a b x y A B =
    elim (sized_dec n C D w) [
      | no h ↦ ((A.sizes h).0 ∙ sym (B.sizes h).0, (A.sizes h).1 ∙ sym (B.sizes h).1)
      | yes z ↦ elim (sound_or n C D w) [
        | inr h ↦ ((A.unsound z h).0 ∙ sym (B.unsound z h).0, (A.unsound z h).1 ∙ sym (B.unsound z h).1)
        | inl s ↦ carries_once n C D q w a b x y (A.sound s) (B.sound s)
      ]
    ]

-- empty asks for no list limit: with any limit, as 2, its sizes are decided
pub two_sized : (n C : ℕ) (w : List ℕ) → InRoom n C × (length w ≡ store_words n C) → Sized n C 2 w
two_sized n C w z = record { room = z.0; limit = record { least = omega arith; most = omega arith }; long = z.1 }

pub empty_tight : (n C : ℕ) (w : List ℕ) (a b : Answer) (x y : List ℕ) → EmptyPromise n C w a x → EmptyPromise n C w b y → (a ≡ b) × (x ≡ y)
empty_tight n C w a b x y A B =
    elim (sized_dec n C 2 w) [
      | yes z ↦
          let f = A.done z.room z.long in
          let g = B.done z.room z.long in
          (f.0 ∙ sym g.0, f.1 ∙ sym g.1)
      | no h ↦
          let f = A.sizes (λ z. h (two_sized n C w z)) in
          let g = B.sizes (λ z. h (two_sized n C w z)) in
          (f.0 ∙ sym g.0, f.1 ∙ sym g.1)
    ]

pub lent_dec : (n C D : ℕ) (w spare waiting : List ℕ) → Dec (Lent n C D w spare waiting)
lent_dec n C D w spare waiting =
    map_dec (λ p. record { sized = p.0; spare_long = p.1.0; waiting_long = p.1.1 }) (λ l. (l.sized, (l.spare_long, l.waiting_long)))
    (Dec.and (sized_dec n C D w) (Dec.and (ℕ_discrete (length spare) (store_words n C)) (ℕ_discrete (length waiting) (waiting_words n))))

module _ (n C D : ℕ) (p q : Run) (w spare waiting : List ℕ) (a b : Answer) (x xs xw y ys yw : List ℕ) where
  pub link_tight : LinkPromise n C D p q w spare waiting a x xs xw → LinkPromise n C D p q w spare waiting b y ys yw
      → (a ≡ b) × (x ≡ y) × (xs ≡ ys) × (xw ≡ yw)
  link_tight A B = elim (lent_dec n C D w spare waiting) [
    | no h ↦ both (A.sizes h) (B.sizes h)
    | yes l ↦ elim (sound_or n C D w) [
      | inr h ↦ both (A.unsound l h) (B.unsound l h)
      | inl s ↦
          let f = A.sound l s in
          let g = B.sound l s in
          let o = carries_once n C D (link p q) w a b x y f.carries g.carries in
          (o.0, o.1, f.spared ∙ sym g.spared, f.waited ∙ sym g.waited)
    ]
  ]
    where
      both : {c : Answer} {z zs zw : List ℕ} → (a ≡ c) × (x ≡ z) × (xs ≡ zs) × (xw ≡ zw) → (b ≡ c) × (y ≡ z) × (ys ≡ zs) × (yw ≡ zw)
          → (a ≡ b) × (x ≡ y) × (xs ≡ ys) × (xw ≡ yw)
      both f g = (f.0 ∙ sym g.0, f.1 ∙ sym g.1, f.2 ∙ sym g.2, f.3 ∙ sym g.3)

-- ---- a stream
pub stream_lent_dec : (n C D : ℕ) (bytes : List ℕ) (t : Tables) → Dec (StreamLent n C D bytes t)
stream_lent_dec n C D bytes t =
    map_dec
    (λ p. record { lent = p.0; short = p.1.0; answers_long = p.1.1.0; accepted_most = p.1.1.1.0; reversals_most = p.1.1.1.1 })
    (λ l. (l.lent, (l.short, (l.answers_long, (l.accepted_most, l.reversals_most)))))
    (Dec.and (lent_dec n C D t.store t.spare t.waiting)
    (Dec.and (dec_le (length bytes) stream_most)
    (Dec.and (dec_le (2 * (length bytes / record_bytes)) (length t.answers))
    (Dec.and (dec_le t.accepted total_most) (dec_le t.reversals total_most)))))

-- two results and the tables after them are the same, part by part
pub record Same (r r' : Result) (t t' : Tables) : Type 0 where
  pub stop : r.stop ≡ r'.stop
  pub carried : r.carried ≡ r'.carried
  pub store : t.store ≡ t'.store
  pub spare : t.spare ≡ t'.spare
  pub waiting : t.waiting ≡ t'.waiting
  pub answers : t.answers ≡ t'.answers
  pub accepted : t.accepted ≡ t'.accepted
  pub reversals : t.reversals ≡ t'.reversals

spare_once : (n C D : ℕ) (o : Option Day) (spare x y : List ℕ) → SpareIs n C D o spare x → SpareIs n C D o spare y → x ≡ y
spare_once n C D None spare x y a b = a ∙ sym b
spare_once n C D (Some s) spare x y a b = held_once n C D s x y a b

same : (r r' : Result) (t t' : Tables) → r ≡ r' → t ≡ t' → Same r r' t t'
same r r' t t' e f =
    record {
      stop = ap (λ (z : Result). z.stop) e;
      carried = ap (λ (z : Result). z.carried) e;
      store = ap (λ (z : Tables). z.store) f;
      spare = ap (λ (z : Tables). z.spare) f;
      waiting = ap (λ (z : Tables). z.waiting) f;
      answers = ap (λ (z : Tables). z.answers) f;
      accepted = ap (λ (z : Tables). z.accepted) f;
      reversals = ap (λ (z : Tables). z.reversals) f;
    }

module _ (n C D : ℕ) (bytes : List ℕ) (t : Tables) (r r' : Result) (x y : Tables) where
  stream_once : StreamCarries n C D bytes t r x → StreamCarries n C D bytes t r' y → Same r r' x y
  stream_once A B =
      record {
        stop = A.stop ∙ sym B.stop;
        carried = A.carried ∙ sym B.carried;
        store = held_once n C D (progress n C D bytes t).day x.store y.store A.holds B.holds;
        spare = spare_once n C D (progress n C D bytes t).turned t.spare x.spare y.spare A.spared B.spared;
        waiting = A.waited ∙ sym B.waited;
        answers = A.answered ∙ sym B.answered;
        accepted = A.accepted ∙ sym B.accepted;
        reversals = A.reversals ∙ sym B.reversals;
      }

  pub stream_tight : StreamPromise n C D bytes t r x → StreamPromise n C D bytes t r' y → Same r r' x y
  stream_tight A B = elim (stream_lent_dec n C D bytes t) [
    | no h ↦ same r r' x y ((A.sizes h).0 ∙ sym (B.sizes h).0) ((A.sizes h).1 ∙ sym (B.sizes h).1)
    | yes l ↦ elim (sound_or n C D t.store) [
      | inr h ↦ same r r' x y ((A.unsound l h).0 ∙ sym (B.unsound l h).0) ((A.unsound l h).1 ∙ sym (B.unsound l h).1)
      | inl s ↦ stream_once (A.sound l s) (B.sound l s)
    ]
  ]

-- ---- asking about p and q and about q and p is the same
run_comm : (p q : Run) → same_run p q ≡ same_run q p
run_comm p q = elim (run_or p q) [
  | inl e ↦ run_same p q e ∙ sym (run_same q p (sym e))
  | inr h ↦ run_other p q h ∙ sym (run_other q p (λ e. h (sym e)))
]

ask_same : (D : ℕ) (s : Day) (p q : Run) → (call D s (ask p q)).answer ≡ (call D s (ask q p)).answer
ask_same D s p q =
    rw (
      or_comm (bad_name p) (bad_name q),
      run_comm p q,
      or_comm (not (is_open s p)) (not (is_open s q)),
      or_comm (holds (place_of s q) (list s.lists (place_of s p))) (holds (place_of s p) (list s.lists (place_of s q))),
    )

pub ask_swaps : (n C D : ℕ) (p q : Run) (w : List ℕ) (a b : Answer) (x y : List ℕ) → Promise n C D (ask p q) w a x → Promise n C D (ask q p) w b y → a ≡ b
ask_swaps n C D p q w a b x y A B =
    elim (sized_dec n C D w) [
      | no h ↦ (A.sizes h).0 ∙ sym (B.sizes h).0
      | yes z ↦ elim (sound_or n C D w) [
        | inr h ↦ (A.unsound z h).0 ∙ sym (B.unsound z h).0
        | inl s ↦ (A.sound s).answer ∙ ask_same D (day_of n C w) p q ∙ sym (B.sound s).answer
      ]
    ]
