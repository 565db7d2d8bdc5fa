-- A returned number says the answer that was promised, so chains of returned numbers are chains of promises and the demands are said of
-- them. Assumes nothing.
use Prim.Native.Nat.{ℕ, ◌-◌, ◌^◌, ◌≤◌, ◌<◌}
use mathlib.Core.Bool.{Bool, true, false, not, cond, true≢false}
use mathlib.Core.List.{List, [], ◌∷◌, map}
use mathlib.Core.Logic.{⊎_elim}
use mathlib.Core.Path.{◌≡◌, refl, sym, ap, ◌∙◌, subst}
use native.Mathlib.Omega.{arith}
use borrow.Author.Tests.{eqb-true, ne_eqb}
use lib.Dec.{eqb}
use lib.ListN.{get_or}
use Rattle.std.specs.Prelude.{Option, None, Some, Ok, Err}
use Rattle.std.proofs.lemmas.Bool.{or_cases}
use Rattle.terms.specs.Refusal.{number_of, refusal_of, value_of, Answer}
use Rattle.terms.specs.declared.run.Run.{Run}
use Rattle.terms.specs.declared.refusal.Refusal.{Refusal}
use Rattle.terms.specs.declared.refusal.Refusal.TheVariants.{Sizes, TooDense}
use Rattle.meaning.specs.Calls.{Call, open_run, close_run, link, unlink, ask, reading, yes1}
use Rattle.meaning.specs.Stream.{call_of, records_of, accepts, taken, reversed}
use Rattle.meaning.specs.Promise.{Promise, EmptyPromise, LinkPromise, Tables, Result, stop_number, StreamPromise}
use Rattle.demands.specs.Tables.{Doing, single, stream, calls_in, accepted_in, reversed_in}
use Rattle.demands.specs.Promised.{Step, alone, linking, streaming, emptying, other, Keeps, early, denied, unless_early, doing, FromEmpty}
use Rattle.demands.proofs.Refusals.{stream_refused}
use Rattle.demands.proofs.Promised.{promised_hold, promised_ask, promised_count, promised_short, promised_bound, promised_dense, emptied_hold, emptied_ask, emptied_count, emptied_short, emptied_bound, emptied_dense}
use Rattle.wormstrand.specs.Pack.{pack, Small, Packed, pack_result}
use Rattle.wormstrand.specs.Returned.{refusal_in, number_in, is_done, in_order, reason_in, answer_in, result_in, AnswerUnpacked, ResultHalves, ResultUnpacked, Returned, called, linked, streamed, emptied, elsewhere, denies, Returns, ReturnsAll, step_of, steps_of, calls_by, accepted_by, reversed_by, ReturnedKeeps, KeptReturns, ReturnedSame, ReturnedHold, ReturnedAsk, ReturnedCount, ReturnedShort, ReturnedBound, ReturnedDense, FromReturned, FirstHold, FirstAsk, FirstCount, FirstShort, FirstBound, FirstDense}
use Rattle.wormstrand.proofs.Packing.{numbered, unpack_refusal, unpack_number}
use Rattle.wormstrand.proofs.Small.{empty_small, promise_small, link_promise_small}
use Rattle.wormstrand.proofs.Streams.{carried_small}

-- ---- a returned number taken apart
not_zero : (why : Refusal) → eqb (number_of why) 0 ≡ false
not_zero why = ne_eqb (number_of why) 0 (λ z. omega (arith, z, (numbered why).least))

answer_is : (r : ℕ) (a : Answer) → refusal_of a ≡ refusal_in r → value_of a ≡ number_in r → a ≡ answer_in r
answer_is r (Ok k) e f = ap Ok f ∙ ap (λ (x : ℕ). cond (eqb x 0) (Ok (number_in r)) (Err (reason_in r))) e
answer_is r (Err why) e f =
    subst (λ (x : ℕ). Err why ≡ cond (eqb x 0) (Ok (number_in r)) (Err (get_or in_order (x - 1) Sizes))) e
    (rw (not_zero why) (ap Err (sym (numbered why).place)))

stop_is : (r : ℕ) (o : Option Refusal) → stop_number o ≡ refusal_in r → o ≡ cond (is_done r) None (Some (reason_in r))
stop_is r None e = ap (λ (x : ℕ). cond (eqb x 0) None (Some (reason_in r))) e
stop_is r (Some why) e =
    subst (λ (x : ℕ). Some why ≡ cond (eqb x 0) None (Some (get_or in_order (x - 1) Sizes))) e
    (rw (not_zero why) (ap Some (sym (numbered why).place)))

pub answer_unpacked : AnswerUnpacked
answer_unpacked P r A =
    let e : refusal_of A.answer ≡ refusal_in r = sym (ap refusal_in A.packed ∙ unpack_refusal A.answer A.small) in
    let f : value_of A.answer ≡ number_in r = sym (ap number_in A.packed ∙ unpack_number A.answer A.small) in
    let i : A.answer ≡ answer_in r = answer_is r A.answer e f in
    (subst P i A.holds, ap refusal_of (sym i) ∙ e, ap value_of (sym i) ∙ f)

pub result_halves : ResultHalves
result_halves s r e h = (omega (arith, e, h), omega (arith, e, h))

result_is : (r : ℕ) (s : Result) → (refusal_in r ≡ stop_number s.stop) × (number_in r ≡ s.carried) → s ≡ result_in r
result_is r s g =
    ap (λ (o : Option Refusal). let z : Result = record { stop = o; carried = s.carried } in z) (stop_is r s.stop (sym g.0))
    ∙ ap (λ (k : ℕ). let z : Result = record { stop = (result_in r).stop; carried = k } in z) (sym g.1)

pub result_unpacked : ResultUnpacked
result_unpacked P r A =
    let g : (refusal_in r ≡ stop_number A.result.stop) × (number_in r ≡ A.result.carried) = result_halves A.result r A.packed A.small in
    let i : A.result ≡ result_in r = result_is r A.result g in
    (subst P i A.holds, ap (λ (z : Result). stop_number z.stop) (sym i) ∙ sym g.0, refl)

-- ---- chains
accepts_done : (b : Bool) (m : ℕ) (why : Refusal) → accepts (cond b (Ok m) (Err why)) ≡ b
accepts_done true m why = refl
accepts_done false m why = refl

denies_same : (n C D : ℕ) (w : List ℕ) (x : Returned) (w' : List ℕ) → Returns n C D w x w' → denies x ≡ denied (step_of x)
denies_same n C D w (called q r) w' k = sym (ap not (accepts_done (is_done r) (number_in r) (reason_in r)))
denies_same n C D w (linked p q spare waiting r spare' waiting') w' k = sym (ap not (accepts_done (is_done r) (number_in r) (reason_in r)))
denies_same n C D w (streamed bytes t r t') w' k = sym (ap early (result_unpacked (λ a. StreamPromise n C D bytes t a t') r k.0).1)
denies_same n C D w (emptied n' C' r) w' k = refl
denies_same n C D w (elsewhere n' C' D' x) w' k = refl

returned_step : (n C D : ℕ) (w : List ℕ) (x : Returned) (w' : List ℕ) → Returns n C D w x w' → Keeps n C D w (step_of x) w'
returned_step n C D w (called q r) w' k = (answer_unpacked (λ a. Promise n C D q w a w') r k).0
returned_step n C D w (linked p q spare waiting r spare' waiting') w' k =
    (answer_unpacked (λ a. LinkPromise n C D p q w spare waiting a w' spare' waiting') r k).0
returned_step n C D w (streamed bytes t r t') w' k = ((result_unpacked (λ a. StreamPromise n C D bytes t a t') r k.0).0, k.1, k.2)
returned_step n C D w (emptied n' C' r) w' k =
    subst (λ (b : Bool). EmptyPromise n' C' w (cond b (Ok (number_in r)) (Err (reason_in r))) w') k.1
    (answer_unpacked (λ a. EmptyPromise n' C' w a w') r k.0).0
returned_step n C D w (elsewhere n' C' D' x) w' k = (returned_step n' C' D' w x w' k.0, sym (denies_same n' C' D' w x w' k.0) ∙ k.1)

pub returned_keeps : ReturnedKeeps
returned_keeps n C D w [] w' k = k
returned_keeps n C D w (x ∷ xs) w' k = (k.0, returned_step n C D w x k.0 k.1, returned_keeps n C D k.0 xs w' k.2)

-- ---- a promised call returns the packing of its answer
pack_said : (a : Answer) → Small a → answer_in (pack a) ≡ a
pack_said a h = sym (answer_is (pack a) a (sym (unpack_refusal a h)) (sym (unpack_number a h)))

result_said : (s : Result) → s.carried < 2 ^ 32 → result_in (pack_result s) ≡ s
result_said s h = sym (result_is (pack_result s) s (result_halves s (pack_result s) refl h))

-- a step's call returned the number, which says the step
record Said (n C D : ℕ) (w : List ℕ) (y : Step) (w' : List ℕ) : Type 0 where
  number : Returned
  returns : Returns n C D w number w'
  step : step_of number ≡ y

said : (n C D : ℕ) (w : List ℕ) (y : Step) (w' : List ℕ) → Keeps n C D w y w' → Said n C D w y w'
said n C D w (alone q a) w' k =
    let h : Small a = promise_small n C D q w a w' k in
    record {
      number = called q (pack a);
      returns = record { answer = a; small = h; packed = refl; holds = k };
      step = ap (alone q) (pack_said a h);
    }
said n C D w (linking p q spare waiting a spare' waiting') w' k =
    let h : Small a = link_promise_small n C D p q w spare waiting a w' spare' waiting' k in
    record {
      number = linked p q spare waiting (pack a) spare' waiting';
      returns = record { answer = a; small = h; packed = refl; holds = k };
      step = ap (λ (b : Answer). linking p q spare waiting b spare' waiting') (pack_said a h);
    }
said n C D w (streaming bytes t r t') w' k =
    let h : r.carried < 2 ^ 32 = carried_small n C D bytes t r t' k.0 in
    record {
      number = streamed bytes t (pack_result r) t';
      returns = (record { result = r; small = h; packed = refl; holds = k.0 }, k.1, k.2);
      step = ap (λ (z : Result). streaming bytes t z t') (result_said r h);
    }
said n C D w (emptying n' C' why) w' k =
    let h : Small (Err why) = empty_small n' C' w (Err why) w' k in
    let e : refusal_in (pack (Err why)) ≡ number_of why = unpack_refusal (Err why) h in
    record {
      number = emptied n' C' (pack (Err why));
      returns = (record { answer = Err why; small = h; packed = refl; holds = k }, rw e (not_zero why));
      step = ap (emptying n' C') (ap (λ (x : ℕ). get_or in_order (x - 1) Sizes) e ∙ (numbered why).place);
    }
said n C D w (other n' C' D' y) w' k =
    let z : Said n' C' D' w y w' = said n' C' D' w y w' k.0 in
    record {
      number = elsewhere n' C' D' z.number;
      returns = (z.returns, denies_same n' C' D' w z.number w' z.returns ∙ (ap denied z.step ∙ k.1));
      step = ap (other n' C' D') z.step;
    }

pub kept_returns : KeptReturns
kept_returns n C D w [] w' k = ([], k, refl)
kept_returns n C D w (y ∷ ys) w' k =
    let a : Said n C D w y k.0 = said n C D w y k.0 k.1 in
    let b : (xs : List Returned) × ReturnsAll n C D k.0 xs w' × (steps_of xs ≡ ys) = kept_returns n C D k.0 ys w' k.2 in
    (a.number ∷ b.0, (k.0, a.returns, b.1), ap (λ (z : Step). z ∷ steps_of b.0) a.step ∙ ap (λ (zs : List Step). y ∷ zs) b.2)

-- ---- what the numbers add up to
taken_refused : (q : Call) (why : Refusal) → taken q (Err why) ≡ 0
taken_refused (open_run p) why = refl
taken_refused (close_run p) why = refl
taken_refused (link p q) why = refl
taken_refused (unlink p q) why = refl
taken_refused (ask p q) why = refl
taken_refused (reading ps) why = refl

reversed_refused : (q : Call) (why : Refusal) → reversed q (Err why) ≡ 0
reversed_refused (open_run p) why = refl
reversed_refused (close_run p) why = refl
reversed_refused (link p q) why = refl
reversed_refused (unlink p q) why = refl
reversed_refused (ask p q) why = refl
reversed_refused (reading ps) why = refl

-- what a step comes to and counts
record Counts (x : Doing) (cs : List Call) (k r : ℕ) : Type 0 where
  calls : calls_in x ≡ cs
  accepted : accepted_in x ≡ k
  reversals : reversed_in x ≡ r

-- a call refused with 1 or 2 counts nothing, on the day or off it
counts : (q : Call) (a : Answer) → Counts (unless_early (early (refusal_of a)) (single q a)) (cond (early (refusal_of a)) [] (q ∷ [])) (taken q a) (reversed q a)
counts q (Ok m) = record { calls = refl; accepted = refl; reversals = refl }
counts q (Err why) = go (early (number_of why))
  where
    go : (b : Bool) → Counts (unless_early b (single q (Err why))) (cond b [] (q ∷ [])) (taken q (Err why)) (reversed q (Err why))
    go true = record { calls = refl; accepted = sym (taken_refused q why); reversals = sym (reversed_refused q why) }
    go false = record { calls = refl; accepted = refl; reversals = refl }

early_small : (why : Refusal) → early (number_of why) ≡ true → number_of why ≤ 2
early_small why e =
    ⊎_elim (λ f. omega (arith, eqb-true (number_of why) 1 f)) (λ f. omega (arith, eqb-true (number_of why) 2 f))
    (or_cases (eqb (number_of why) 1) (eqb (number_of why) 2) e)

-- a stream refused with 1 or 2 leaves its totals, so it counts nothing either
early_stays : (n C D : ℕ) (bytes : List ℕ) (t t' : Tables) (s : Result) → StreamPromise n C D bytes t s t' → early (stop_number s.stop) ≡ true → t' ≡ t
early_stays n C D bytes t t' s A e = go s.stop refl
  where
    go : (o : Option Refusal) → s.stop ≡ o → t' ≡ t
    go None f = absurd (true≢false (sym e ∙ ap (λ (o : Option Refusal). early (stop_number o)) f))
    go (Some why) f = (stream_refused n C D bytes t t' s why A f (early_small why (ap (λ (o : Option Refusal). early (stop_number o)) (sym f) ∙ e))).1

early_counts : (t t' : Tables) → t' ≡ t → (t'.accepted - t.accepted ≡ 0) × (t'.reversals - t.reversals ≡ 0)
early_counts t t' e = (omega (arith, ap (λ (z : Tables). z.accepted) e), omega (arith, ap (λ (z : Tables). z.reversals) e))

-- a refused call counts nothing
denies_counts : (n C D : ℕ) (w : List ℕ) (x : Returned) (w' : List ℕ) → Returns n C D w x w' → denies x ≡ true → (accepted_by x ≡ 0) × (reversed_by x ≡ 0)
denies_counts n C D w (called q r) w' k e = go (is_done r) e
  where
    go : (b : Bool) → not b ≡ true → let a : Answer = cond b (Ok (number_in r)) (Err (reason_in r)) in (taken q a ≡ 0) × (reversed q a ≡ 0)
    go true f = absurd (true≢false (sym f))
    go false f = (taken_refused q (reason_in r), reversed_refused q (reason_in r))
denies_counts n C D w (linked p q spare waiting r spare' waiting') w' k e =
    let g : (yes1 (is_done r) ≡ 0) × (value_of (answer_in r) ≡ 0) = go (is_done r) e in
    (g.0, sym (answer_unpacked (λ a. LinkPromise n C D p q w spare waiting a w' spare' waiting') r k).2 ∙ g.1)
  where
    go : (b : Bool) → not b ≡ true → (yes1 b ≡ 0) × (value_of (cond b (Ok (number_in r)) (Err (reason_in r))) ≡ 0)
    go true f = absurd (true≢false (sym f))
    go false f = (refl, refl)
denies_counts n C D w (streamed bytes t r t') w' k e =
    let u = result_unpacked (λ a. StreamPromise n C D bytes t a t') r k.0 in
    early_counts t t' (early_stays n C D bytes t t' (result_in r) u.0 (ap early u.1 ∙ e))
denies_counts n C D w (emptied n' C' r) w' k e = (refl, refl)
denies_counts n C D w (elsewhere n' C' D' x) w' k e = denies_counts n' C' D' w x w' k.0 k.1

step_counts : (n C D : ℕ) (w : List ℕ) (x : Returned) (w' : List ℕ) → Returns n C D w x w'
    → Counts (doing (step_of x)) (calls_by x) (accepted_by x) (reversed_by x)
step_counts n C D w (called q r) w' k =
    let c = counts q (answer_in r) in
    record {
      calls = c.calls ∙ ap (λ (k : ℕ). cond (early k) [] (q ∷ [])) (answer_unpacked (λ a. Promise n C D q w a w') r k).1;
      accepted = c.accepted;
      reversals = c.reversals;
    }
step_counts n C D w (linked p q spare waiting r spare' waiting') w' k =
    let c = counts (link p q) (answer_in r) in
    let u = answer_unpacked (λ a. LinkPromise n C D p q w spare waiting a w' spare' waiting') r k in
    record {
      calls = c.calls ∙ ap (λ (k : ℕ). cond (early k) [] (link p q ∷ [])) u.1;
      accepted = c.accepted ∙ ap yes1 (accepts_done (is_done r) (number_in r) (reason_in r));
      reversals = c.reversals ∙ u.2;
    }
step_counts n C D w (streamed bytes t r t') w' k =
    let u = result_unpacked (λ a. StreamPromise n C D bytes t a t') r k.0 in
    subst (λ (k : ℕ). Counts (doing (step_of (streamed bytes t r t'))) (cond (early k) [] (map call_of (records_of bytes).records)) (t'.accepted - t.accepted) (t'.reversals - t.reversals)) u.1
    (go u.0 (early (stop_number (result_in r).stop)) refl)
  where
    go : StreamPromise n C D bytes t (result_in r) t' → (b : Bool) → early (stop_number (result_in r).stop) ≡ b
        → Counts (unless_early b (stream bytes t (result_in r) t')) (cond b [] (map call_of (records_of bytes).records)) (t'.accepted - t.accepted) (t'.reversals - t.reversals)
    go A true f =
        let z = early_counts t t' (early_stays n C D bytes t t' (result_in r) A f) in
        record { calls = refl; accepted = sym z.0; reversals = sym z.1 }
    go A false f = record { calls = refl; accepted = refl; reversals = refl }
step_counts n C D w (emptied n' C' r) w' k = record { calls = refl; accepted = refl; reversals = refl }
step_counts n C D w (elsewhere n' C' D' x) w' k =
    let z = denies_counts n' C' D' w x w' k.0 k.1 in
    record { calls = refl; accepted = sym z.0; reversals = sym z.1 }

pub returned_same : ReturnedSame
returned_same n C D w [] w' k = (refl, refl, refl)
returned_same n C D w (x ∷ xs) w' k =
    let a = step_counts n C D w x k.0 k.1 in
    let b = returned_same n C D k.0 xs w' k.2 in
    (rw (a.calls, b.0) refl, omega (arith, a.accepted, b.1), omega (arith, a.reversals, b.2))

-- ---- from any sound table
pub returned_hold : ReturnedHold
returned_hold n C D w₀ xs w s k = rw (← (returned_same n C D w₀ xs w k).0) (promised_hold n C D w₀ (steps_of xs) w s (returned_keeps n C D w₀ xs w k))

pub returned_ask : ReturnedAsk
returned_ask n C D w₀ xs w s k p q r w' A =
    let u = answer_unpacked (λ a. Promise n C D (ask p q) w a w') r A in
    rw (← u.2, ← (returned_same n C D w₀ xs w k).0) (promised_ask n C D w₀ (steps_of xs) w s (returned_keeps n C D w₀ xs w k) p q (answer_in r) w' u.0)

pub returned_count : ReturnedCount
returned_count n C D w₀ xs w s k p q r w' A =
    let u = answer_unpacked (λ a. Promise n C D (ask p q) w a w') r A in
    rw (← u.2, ← (returned_same n C D w₀ xs w k).0) (promised_count n C D w₀ (steps_of xs) w s (returned_keeps n C D w₀ xs w k) p q (answer_in r) w' u.0)

pub returned_short : ReturnedShort
returned_short n C D w₀ xs w s k = promised_short n C D w₀ (steps_of xs) w s (returned_keeps n C D w₀ xs w k)

pub returned_bound : ReturnedBound
returned_bound n C D d half w₀ xs w s k C₀ h same g =
    let T = returned_same n C D w₀ xs w k in
    rw (← T.1, ← T.2) (promised_bound n C D d half w₀ (steps_of xs) w s (returned_keeps n C D w₀ xs w k) C₀ h (same ∙ sym T.0) g)

-- refusal 9 is that a link is too dense
nine : (r : ℕ) → refusal_in r ≡ 9 → answer_in r ≡ Err TooDense
nine r e = ap (λ (x : ℕ). cond (eqb x 0) (Ok (number_in r)) (Err (get_or in_order (x - 1) Sizes))) e

dense_promise : (n C D : ℕ) (p q : Run) (w spare waiting w' spare' waiting' : List ℕ) (r : ℕ)
    → Packed (λ a. LinkPromise n C D p q w spare waiting a w' spare' waiting') r → refusal_in r ≡ 9
    → LinkPromise n C D p q w spare waiting (Err TooDense) w' spare' waiting'
dense_promise n C D p q w spare waiting w' spare' waiting' r A e =
    subst (λ a. LinkPromise n C D p q w spare waiting a w' spare' waiting') (nine r e)
    (answer_unpacked (λ a. LinkPromise n C D p q w spare waiting a w' spare' waiting') r A).0

pub returned_dense : ReturnedDense
returned_dense n C D w₀ xs w s k p q spare waiting w' spare' waiting' r A e X g =
    promised_dense n C D w₀ (steps_of xs) w s (returned_keeps n C D w₀ xs w k) p q X (rw (returned_same n C D w₀ xs w k).0 g) spare waiting w' spare' waiting'
    (dense_promise n C D p q w spare waiting w' spare' waiting' r A e)

-- ---- from an emptied store
from_empty : (n C D : ℕ) (xs : List Returned) (w : List ℕ) → FromReturned n C D xs w → FromEmpty n C D (steps_of xs) w
from_empty n C D xs w e = record {
  before = e.before;
  emptied = e.start;
  empty = (answer_unpacked (λ a. EmptyPromise n C e.before a e.start) 0 e.empty).0;
  kept = returned_keeps n C D e.start xs w e.returns;
}

pub first_hold : FirstHold
first_hold n C D xs w l e = rw (← (returned_same n C D e.start xs w e.returns).0) (emptied_hold n C D (steps_of xs) w l (from_empty n C D xs w e))

pub first_ask : FirstAsk
first_ask n C D xs w e p q r w' A =
    let u = answer_unpacked (λ a. Promise n C D (ask p q) w a w') r A in
    rw (← u.2, ← (returned_same n C D e.start xs w e.returns).0) (emptied_ask n C D (steps_of xs) w (from_empty n C D xs w e) p q (answer_in r) w' u.0)

pub first_count : FirstCount
first_count n C D xs w e p q r w' A =
    let u = answer_unpacked (λ a. Promise n C D (ask p q) w a w') r A in
    rw (← u.2, ← (returned_same n C D e.start xs w e.returns).0) (emptied_count n C D (steps_of xs) w (from_empty n C D xs w e) p q (answer_in r) w' u.0)

pub first_short : FirstShort
first_short n C D xs w e = emptied_short n C D (steps_of xs) w (from_empty n C D xs w e)

pub first_bound : FirstBound
first_bound n C D d half xs w e C₀ h same g =
    let T = returned_same n C D e.start xs w e.returns in
    rw (← T.1, ← T.2) (emptied_bound n C D d half (steps_of xs) w (from_empty n C D xs w e) C₀ h (same ∙ sym T.0) g)

pub first_dense : FirstDense
first_dense n C D xs w e p q spare waiting w' spare' waiting' r A f X g =
    emptied_dense n C D (steps_of xs) w (from_empty n C D xs w e) p q X (rw (returned_same n C D e.start xs w e.returns).0 g) spare waiting w' spare' waiting'
    (dense_promise n C D p q w spare waiting w' spare' waiting' r A f)
