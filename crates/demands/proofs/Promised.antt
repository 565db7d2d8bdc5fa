-- Chains of promised calls do what the tables' relation says, so the demands are about them. Assumes nothing: the promises alone.
use Prim.Native.Nat.{ℕ, zero, suc, ◌+◌, ◌-◌, ◌≤◌}
use mathlib.Core.Bool.{Bool, true, false, not, cond, ◌&&◌, true≢false}
use mathlib.Core.List.{List, [], ◌∷◌, ◌++◌, map}
use mathlib.Core.Logic.{inl, inr, ⊎_elim}
use mathlib.Core.Path.{◌≡◌, refl, sym, ap, ◌∙◌, subst}
use native.Mathlib.Omega.{arith}
use borrow.Author.Tests.{eqb-true, ne_eqb}
use lib.Dec.{eqb, ltb}
use lib.ListN.{length, drop, get_or}
use Rattle.std.specs.Prelude.{Option, None, Some, Result as Read, Ok, Err}
use Rattle.std.proofs.lemmas.Bool.{or_cases}
use Rattle.terms.specs.Refusal.{number_of, refusal_of, value_of, Answer}
use Rattle.terms.specs.Size.{InRoom, InLimit}
use Rattle.terms.specs.declared.run.Run.{Run}
use Rattle.terms.specs.declared.refusal.Refusal.{Refusal}
use Rattle.terms.specs.declared.refusal.Refusal.TheVariants.{Unsound, TooDense, WrongMark, WrongKind, CutShort}
use Rattle.terms.specs.Run.{no_run, same_run}
use Rattle.record.specs.Bytes.{record_bytes, kind_at, first_at, second_at, marked, kind_byte, kind_of, run_at}
use Rattle.record.specs.Reading.{names_one, checked, kinded, record_of, reading_of}
use Rattle.record.specs.declared.Kind.{Kind}
use Rattle.record.specs.declared.Kind.TheVariants.{Open, Close, Link, Unlink, Ask}
use Rattle.record.specs.declared.Record.{Record}
use Rattle.meaning.specs.Table.{length_of}
use Rattle.meaning.specs.Soundness.{Sound}
use Rattle.meaning.specs.Day.{Day, day_of, place_of, empty_table, empty_day}
use Rattle.meaning.specs.Cells.{list, holds}
use Rattle.meaning.specs.Turning.{Ending, settled, dense}
use Rattle.meaning.specs.Calls.{Call, open_run, close_run, link, unlink, ask, reading, Outcome, Tests, first_refusal, tests, done, ended, do_link, cut, do_unlink, act, call, yes1}
use Rattle.meaning.specs.Stream.{call_of, DayRecords, read_on, read_all, records_of, accepts, taken, reversed}
use Rattle.meaning.specs.Promise.{Holds, Carries, Promise, EmptyPromise, LinkPromise, StreamPromise, Tables, Result, stop_number}
use Rattle.meaning.proofs.Decided.{sized_dec}
use Rattle.meaning.proofs.Rules.{sound_or}
use Rattle.meaning.proofs.Crossing.{sound_right}
use Rattle.meaning.proofs.Right.{Right}
use Rattle.meaning.proofs.Empty.{empty_emptied}
use Rattle.demands.specs.History.{after, asked, related, joinings, partings, accepted, reversals, calls}
use Rattle.demands.specs.Tables.{Doing, single, stream, refused, calls_in, all_calls, accepted_in, reversed_in, all_accepted, all_reversed, Does, Leads, Emptied}
use Rattle.demands.specs.Promised.{Step, alone, linking, streaming, emptying, other, Keeps, KeepsAll, early, denied, unless_early, doing, doings, chain_calls, chain_accepted, chain_reversed, PromisedHold, PromisedAsk, PromisedCount, PromisedShort, PromisedTotals, PromisedMade, PromisedBound, PromisedDense, PromisedStay, FromEmpty, EmptiedHold, EmptiedAsk, EmptiedCount, EmptiedShort, EmptiedBound, EmptiedDense}
use Rattle.meaning.proofs.Kept.{call_case, link_run, run}
use Rattle.demands.proofs.Theorems.{yes_exactly, count_exactly}
use Rattle.demands.proofs.Tight.{two_sized, lent_dec, stream_lent_dec}
use Rattle.demands.proofs.Refusals.{call_refused, empty_refused, link_refused, stream_refused, stop_late}
use Rattle.demands.proofs.Histories.{asked_le, related_from, count_from, demand_3_from}
use Rattle.demands.proofs.Dense.{never_dense_from}
use Rattle.demands.proofs.Streams.{records_are_calls}
use Rattle.demands.proofs.Tables.{leads_accepted, leads_reversed, leads_hold, tables_hold, tables_ask, tables_dense, tables_bound}

early_small : (why : Refusal) → early (number_of why) ≡ true → number_of why ≤ number_of Unsound
early_small why e =
    ⊎_elim (λ f. omega (arith, eqb-true (number_of why) 1 f)) (λ f. omega (arith, eqb-true (number_of why) 2 f))
    (or_cases (eqb (number_of why) 1) (eqb (number_of why) 2) e)

-- a refused step leaves the table, whatever the numbers
denied_stays : (n C D : ℕ) (w : List ℕ) (x : Step) (w' : List ℕ) → Keeps n C D w x w' → denied x ≡ true → w' ≡ w
denied_stays n C D w (alone q (Ok m)) w' k e = absurd (true≢false (sym e))
denied_stays n C D w (alone q (Err why)) w' k e = call_refused n C D q w w' why k
denied_stays n C D w (linking p q spare waiting (Ok m) spare' waiting') w' k e = absurd (true≢false (sym e))
denied_stays n C D w (linking p q spare waiting (Err why) spare' waiting') w' k e =
    (link_refused n C D p q w spare waiting w' spare' waiting' why k).0
denied_stays n C D w (streaming bytes t r t') w' k e = go r.stop refl
  where
    go : (o : Option Refusal) → r.stop ≡ o → w' ≡ w
    go None f = absurd (true≢false (sym e ∙ ap (λ (o : Option Refusal). early (stop_number o)) f))
    go (Some why) f =
        let g : early (number_of why) ≡ true = ap (λ (o : Option Refusal). early (stop_number o)) (sym f) ∙ e in
        sym k.2 ∙ (ap (λ (b : Tables). b.store) (stream_refused n C D bytes t t' r why k.0 f (early_small why g)).1 ∙ k.1)
denied_stays n C D w (emptying n' C' why) w' k e = empty_refused n' C' w w' why k
denied_stays n C D w (other n' C' D' x) w' k e = denied_stays n' C' D' w x w' k.0 k.1

-- refusals 1 and 2 are refusals
early_denied : (a : Answer) → early (refusal_of a) ≡ true → not (accepts a) ≡ true
early_denied (Ok m) e = e
early_denied (Err why) e = refl

module _ (n C D : ℕ) where
  -- what is refused with 1 or 2 does nothing, and leaves the table
  abbrev Nothing : List ℕ → Step → List ℕ → Type 0
  Nothing w x w' = (doing x ≡ refused) × (w' ≡ w)

  early_alone : (w : List ℕ) (q : Call) (a : Answer) (w' : List ℕ) → Promise n C D q w a w' → early (refusal_of a) ≡ true → Nothing w (alone q a) w'
  early_alone w q a w' k e = (ap (λ b. unless_early b (single q a)) e, denied_stays n C D w (alone q a) w' k (early_denied a e))

  early_linking : (w : List ℕ) (p q : Run) (spare waiting : List ℕ) (a : Answer) (spare' waiting' w' : List ℕ)
      → LinkPromise n C D p q w spare waiting a w' spare' waiting' → early (refusal_of a) ≡ true → Nothing w (linking p q spare waiting a spare' waiting') w'
  early_linking w p q spare waiting a spare' waiting' w' k e =
      (ap (λ b. unless_early b (single (link p q) a)) e, denied_stays n C D w (linking p q spare waiting a spare' waiting') w' k (early_denied a e))

  early_streaming : (w bytes : List ℕ) (t : Tables) (r : Result) (t' : Tables) (w' : List ℕ)
      → Keeps n C D w (streaming bytes t r t') w' → early (stop_number r.stop) ≡ true → Nothing w (streaming bytes t r t') w'
  early_streaming w bytes t r t' w' k e = (ap (λ b. unless_early b (stream bytes t r t')) e, denied_stays n C D w (streaming bytes t r t') w' k e)

  -- on a table that is not sound every call is so refused
  module _ (w : List ℕ) (h : Sound n C D w → ⊥) where
    alone_unsound : (q : Call) (a : Answer) (w' : List ℕ) → Promise n C D q w a w' → early (refusal_of a) ≡ true
    alone_unsound q a w' k =
        elim (sized_dec n C D w) [
          | no g ↦ ap (λ (b : Answer). early (refusal_of b)) (k.sizes g).0
          | yes z ↦ ap (λ (b : Answer). early (refusal_of b)) (k.unsound z h).0
        ]

    linking_unsound : (p q : Run) (spare waiting : List ℕ) (a : Answer) (spare' waiting' w' : List ℕ)
        → LinkPromise n C D p q w spare waiting a w' spare' waiting' → early (refusal_of a) ≡ true
    linking_unsound p q spare waiting a spare' waiting' w' k =
        elim (lent_dec n C D w spare waiting) [
          | no g ↦ ap (λ (b : Answer). early (refusal_of b)) (k.sizes g).0
          | yes z ↦ ap (λ (b : Answer). early (refusal_of b)) (k.unsound z h).0
        ]

    streaming_unsound : (bytes : List ℕ) (t : Tables) (r : Result) (t' : Tables) → StreamPromise n C D bytes t r t' → t.store ≡ w → early (stop_number r.stop) ≡ true
    streaming_unsound bytes t r t' k f =
        elim (stream_lent_dec n C D bytes t) [
          | no g ↦ ap (λ (b : Result). early (stop_number b.stop)) (k.sizes g).0
          | yes z ↦ ap (λ (b : Result). early (stop_number b.stop)) (k.unsound z (λ s. h (subst (Sound n C D) f s))).0
        ]

    unsound_nothing : (x : Step) (w' : List ℕ) → Keeps n C D w x w' → Nothing w x w'
    unsound_nothing (alone q a) w' k = early_alone w q a w' k (alone_unsound q a w' k)
    unsound_nothing (linking p q spare waiting a spare' waiting') w' k =
        early_linking w p q spare waiting a spare' waiting' w' k (linking_unsound p q spare waiting a spare' waiting' w' k)
    unsound_nothing (streaming bytes t r t') w' k = early_streaming w bytes t r t' w' k (streaming_unsound bytes t r t' k.0 k.1)
    unsound_nothing (emptying n' C' why) w' k = (refl, denied_stays n C D w (emptying n' C' why) w' k refl)
    unsound_nothing (other n' C' D' x) w' k = (refl, denied_stays n C D w (other n' C' D' x) w' k refl)

  -- what does nothing is the relation's refused
  nothing_does : (w : List ℕ) (x : Step) (w' : List ℕ) → Nothing w x w' → Does n C D w (doing x) w'
  nothing_does w x w' h = subst (λ y. Does n C D w y w') (sym h.0) (sym h.1)

  -- on a sound table a call that is not so refused is carried out
  module _ (w : List ℕ) (s : Sound n C D w) where
    alone_does : (q : Call) (a : Answer) (w' : List ℕ) → Promise n C D q w a w' → Does n C D w (doing (alone q a)) w'
    alone_does q a w' k = go (early (refusal_of a)) refl
      where
        go : (b : Bool) → early (refusal_of a) ≡ b → Does n C D w (doing (alone q a)) w'
        go true e = nothing_does w (alone q a) w' (early_alone w q a w' k e)
        go false e = subst (λ b. Does n C D w (unless_early b (single q a)) w') (sym e) (k.sound s)

    linking_does : (p q : Run) (spare waiting : List ℕ) (a : Answer) (spare' waiting' w' : List ℕ)
        → LinkPromise n C D p q w spare waiting a w' spare' waiting' → Does n C D w (doing (linking p q spare waiting a spare' waiting')) w'
    linking_does p q spare waiting a spare' waiting' w' k = go (early (refusal_of a)) refl
      where
        go : (b : Bool) → early (refusal_of a) ≡ b → Does n C D w (doing (linking p q spare waiting a spare' waiting')) w'
        go true e = nothing_does w (linking p q spare waiting a spare' waiting') w' (early_linking w p q spare waiting a spare' waiting' w' k e)
        go false e =
            subst (λ b. Does n C D w (unless_early b (single (link p q) a)) w') (sym e)
            (elim (lent_dec n C D w spare waiting) [
              | no g ↦ absurd (true≢false (sym (ap (λ (b : Answer). early (refusal_of b)) (k.sizes g).0) ∙ e))
              | yes z ↦ (k.sound z s).carries
            ])

    streaming_does : (bytes : List ℕ) (t : Tables) (r : Result) (t' : Tables) (w' : List ℕ)
        → Keeps n C D w (streaming bytes t r t') w' → Does n C D w (doing (streaming bytes t r t')) w'
    streaming_does bytes t r t' w' k = go (early (stop_number r.stop)) refl
      where
        go : (b : Bool) → early (stop_number r.stop) ≡ b → Does n C D w (doing (streaming bytes t r t')) w'
        go true e = nothing_does w (streaming bytes t r t') w' (early_streaming w bytes t r t' w' k e)
        go false e =
            subst (λ b. Does n C D w (unless_early b (stream bytes t r t')) w') (sym e)
            (elim (stream_lent_dec n C D bytes t) [
              | no g ↦ absurd (true≢false (sym (ap (λ (b : Result). early (stop_number b.stop)) (k.0.sizes g).0) ∙ e))
              | yes z ↦ (k.0.sound z (subst (Sound n C D) (sym k.1) s), k.1, k.2)
            ])

    sound_does : (x : Step) (w' : List ℕ) → Keeps n C D w x w' → Does n C D w (doing x) w'
    sound_does (alone q a) w' k = alone_does q a w' k
    sound_does (linking p q spare waiting a spare' waiting') w' k = linking_does p q spare waiting a spare' waiting' w' k
    sound_does (streaming bytes t r t') w' k = streaming_does bytes t r t' w' k
    sound_does (emptying n' C' why) w' k = sym (denied_stays n C D w (emptying n' C' why) w' k refl)
    sound_does (other n' C' D' x) w' k = sym (denied_stays n C D w (other n' C' D' x) w' k refl)

  -- a promised step does what the tables' relation says, on any table
  keeps_does : (w : List ℕ) (x : Step) (w' : List ℕ) → Keeps n C D w x w' → Does n C D w (doing x) w'
  keeps_does w x w' k = elim (sound_or n C D w) [ inl s ↦ sound_does w s x w' k | inr h ↦ nothing_does w x w' (unsound_nothing w h x w' k) ]

  pub keeps_leads : (w : List ℕ) (xs : List Step) (w' : List ℕ) → KeepsAll n C D w xs w' → Leads n C D w (doings xs) w'
  keeps_leads w [] w' k = k
  keeps_leads w (x ∷ xs) w' k = (k.0, keeps_does w x k.0 k.1, keeps_leads k.0 xs w' k.2)

-- ---- from any sound table
pub promised_hold : PromisedHold
promised_hold n C D w₀ xs w s k = leads_hold n C D w₀ s (doings xs) w (keeps_leads n C D w₀ xs w k)

pub yes_one : (k : ℕ) → k ≤ 1 → yes1 (eqb k 1) ≡ k
yes_one zero h = refl
yes_one (suc zero) h = refl
yes_one (suc (suc k)) h = absurd (omega arith)

pub promised_ask : PromisedAsk
promised_ask n C D w₀ xs w s k p q a w' A =
    let H : Holds n C D w (after D (day_of n C w₀) (chain_calls xs)) = promised_hold n C D w₀ xs w s k in
    ap value_of (A.sound H.sound).answer
    ∙ (ap (λ s. asked D s p q) H.day
    ∙ related_from n D p q (day_of n C w₀) (sound_right n C D w₀ s) (eqb (asked D (day_of n C w₀) p q) 1)
    (yes_one (asked D (day_of n C w₀) p q) (asked_le D (day_of n C w₀) p q)) (chain_calls xs))

pub promised_count : PromisedCount
promised_count n C D w₀ xs w s k p q a w' A =
    let H : Holds n C D w (after D (day_of n C w₀) (chain_calls xs)) = promised_hold n C D w₀ xs w s k in
    ap (λ (x : ℕ). x + partings p q D (day_of n C w₀) (chain_calls xs)) (ap value_of (A.sound H.sound).answer ∙ ap (λ s. asked D s p q) H.day)
    ∙ count_from n D p q (day_of n C w₀) (sound_right n C D w₀ s) (chain_calls xs)

pub promised_short : PromisedShort
promised_short n C D w₀ xs w s k = (promised_hold n C D w₀ xs w s k).sound.chained.short

pub promised_totals : PromisedTotals
promised_totals n C D w₀ xs w s k =
    let L : Leads n C D w₀ (doings xs) w = keeps_leads n C D w₀ xs w k in
    (leads_accepted n C D w₀ s (doings xs) w L, leads_reversed n C D w₀ s (doings xs) w L)

pub promised_bound : PromisedBound
promised_bound n C D d half w₀ xs w s k C₀ h same g =
    let t : Day = day_of n C w₀ in
    let T : (chain_accepted xs ≡ accepted D t (chain_calls xs)) × (chain_reversed xs ≡ reversals D t (chain_calls xs)) = promised_totals n C D w₀ xs w s k in
    let a : chain_accepted xs ≡ accepted D t (calls h) = T.0 ∙ ap (accepted D t) (sym same) in
    let r : chain_reversed xs ≡ reversals D t (calls h) = T.1 ∙ ap (reversals D t) (sym same) in
    rw (a, r) (drop_end _ _ _ (demand_3_from n D d half t (sound_right n C D w₀ s) C₀ h g))
  where
    drop_end : (x y z : ℕ) → x + y ≤ z → x ≤ z
    drop_end x y z h = omega arith

-- a link refused as too dense was carried out on the day
dense_carries : (n C D : ℕ) (p q : Run) (w spare waiting w' spare' waiting' : List ℕ) → Sound n C D w
    → LinkPromise n C D p q w spare waiting (Err TooDense) w' spare' waiting' → Carries n C D (link p q) w (Err TooDense) w'
dense_carries n C D p q w spare waiting w' spare' waiting' s A =
    elim (lent_dec n C D w spare waiting) [
      | no g ↦ absurd (true≢false (sym (ap (λ (b : Answer). early (refusal_of b)) (A.sizes g).0)))
      | yes z ↦ (A.sound z s).carries
    ]

pub promised_dense : PromisedDense
promised_dense n C D w₀ xs w s k p q X g spare waiting w' spare' waiting' A =
    let H : Holds n C D w (after D (day_of n C w₀) (chain_calls xs)) = promised_hold n C D w₀ xs w s k in
    never_dense_from n D (after D (day_of n C w₀) (chain_calls xs)) (subst (Right n D) H.day (sound_right n C D w H.sound)) p q X g
    (sym ((dense_carries n C D p q w spare waiting w' spare' waiting' H.sound A).answer ∙ ap (λ s. (call D s (link p q)).answer) H.day))

-- ---- on a day no call is refused with 1 or 2
abbrev early_first : Option Refusal → Bool
early_first None = false
early_first (Some why) = early (number_of why)

abbrev Late : Tests → Type 0
Late [] = Unit {0}
Late (t ∷ ts) = (early (number_of t.1) ≡ false) × Late ts

first_late : (ts : Tests) → Late ts → early_first (first_refusal ts) ≡ false
first_late [] h = refl
first_late (t ∷ ts) h = go t.0 (first_late ts h.1)
  where
    go : (b : Bool) → early_first (first_refusal ts) ≡ false → early_first (elim b [ true ↦ Some t.1 | false ↦ first_refusal ts ]) ≡ false
    go true later = h.0
    go false later = later

tests_late : (s : Day) (q : Call) → Late (tests s q)
tests_late s (open_run p) = (refl, (refl, (refl, tt)))
tests_late s (close_run p) = (refl, (refl, (refl, tt)))
tests_late s (link p q) = (refl, (refl, (refl, (refl, (refl, tt)))))
tests_late s (unlink p q) = (refl, (refl, (refl, (refl, tt))))
tests_late s (ask p q) = (refl, (refl, (refl, tt)))
tests_late s (reading ps) = (refl, (refl, tt))

module _ (D : ℕ) (s : Day) where
  ended_late : (fs : List ℕ) (o : Ending) → early (refusal_of (ended s fs o).answer) ≡ false
  ended_late fs (settled ls r) = refl
  ended_late fs dense = refl

  link_late : (u v : ℕ) (fs : List ℕ) → early (refusal_of (do_link D s u v fs).answer) ≡ false
  link_late u v [] = refl
  link_late u v (i ∷ fs) = link_run (λ a t. early (refusal_of a) ≡ false) D s u v i fs (ended_late fs (run D s u v i))

  unlink_late : (u v : ℕ) → early (refusal_of (do_unlink s u v).answer) ≡ false
  unlink_late u v = go (holds v (list s.lists u))
    where
      go : (b : Bool) → early (refusal_of (elim b as (λ _. Outcome) [ true ↦ done 0 (cut s u v) | false ↦ done 0 (cut s v u) ]).answer) ≡ false
      go true = refl
      go false = refl

  act_late : (q : Call) → early (refusal_of (act D s q).answer) ≡ false
  act_late (open_run p) = refl
  act_late (close_run p) = refl
  act_late (link p q) = link_late (place_of s p) (place_of s q) s.free
  act_late (unlink p q) = unlink_late (place_of s p) (place_of s q)
  act_late (ask p q) = refl
  act_late (reading ps) = refl

  call_late : (q : Call) → early (refusal_of (call D s q).answer) ≡ false
  call_late q =
      call_case (λ o. early (refusal_of o.answer) ≡ false) D s q (λ why e. sym (ap early_first e) ∙ first_late (tests s q) (tests_late s q)) (λ e. act_late q)

carries_late : (n C D : ℕ) (q : Call) (w : List ℕ) (a : Answer) (w' : List ℕ) → Carries n C D q w a w' → early (refusal_of a) ≡ false
carries_late n C D q w a w' k = ap (λ (b : Answer). early (refusal_of b)) k.answer ∙ call_late D (day_of n C w) q

-- ---- no record stops a stream with 1 or 2
late_early : (o : Option Refusal) → ((why : Refusal) → o ≡ Some why → number_of WrongMark ≤ number_of why) → early (stop_number o) ≡ false
late_early None h = refl
late_early (Some why) h =
    let a : 11 ≤ number_of why = h why refl in
    rw (ne_eqb (number_of why) 1 (λ e. omega arith), ne_eqb (number_of why) 2 (λ e. omega arith))

pub promised_made : PromisedMade
promised_made n C D w s = (
  λ q a w' A. ap (λ b. unless_early b (single q a)) (carries_late n C D q w a w' (A.sound s)),
  λ p q spare waiting a spare' waiting' w' l A.
      ap (λ b. unless_early b (single (link p q) a)) (carries_late n C D (link p q) w a w' (A.sound l s).carries),
  λ bytes t r t' f l A.
      ap (λ b. unless_early b (stream bytes t r t'))
      (ap (λ (o : Option Refusal). early (stop_number o)) (A.sound l (subst (Sound n C D) (sym f) s)).stop ∙ late_early (records_of bytes).stop (stop_late (length bytes) bytes)),
)

-- ---- from any other table
pub promised_stay : PromisedStay
promised_stay n C D w₀ [] w h k = (sym k, refl, refl, refl)
promised_stay n C D w₀ (x ∷ xs) w h k =
    let u : (doing x ≡ refused) × (k.0 ≡ w₀) = unsound_nothing n C D w₀ h x k.0 k.1 in
    let e : doing x ≡ refused = u.0 in
    let rest : (w ≡ k.0) × (chain_calls xs ≡ []) × (chain_accepted xs ≡ 0) × (chain_reversed xs ≡ 0)
    = promised_stay n C D k.0 xs w (λ s. h (subst (Sound n C D) u.1 s)) k.2 in (
      rest.0 ∙ u.1,
      ap (λ y. calls_in y ++ chain_calls xs) e ∙ rest.1,
      omega (arith, rest.2, ap accepted_in e),
      omega (arith, rest.3, ap reversed_in e),
    )

-- ---- from an emptied store
emptied_is : (n C : ℕ) (b m : List ℕ) → EmptyPromise n C b (Ok 0) m → InRoom n C × (m ≡ empty_table n C)
emptied_is n C b m A =
    elim (sized_dec n C 2 b) [
      | yes z ↦ (z.room, (A.done z.room z.long).1)
      | no h ↦ absurd (true≢false (sym (ap (λ (b : Answer). early (refusal_of b)) (A.sizes (λ z. h (two_sized n C b z))).0)))
    ]

-- the relation of Tables, where D is within its limits
within : (n C D : ℕ) (xs : List Step) (w : List ℕ) → InLimit D → FromEmpty n C D xs w → Emptied n C D (doings xs) w
within n C D xs w l e =
    let i : InRoom n C × (e.emptied ≡ empty_table n C) = emptied_is n C e.before e.emptied e.empty in
    record { room = i.0; limit = l; leads = subst (λ m. Leads n C D m (doings xs) w) i.1 (keeps_leads n C D e.emptied xs w e.kept) }

pub emptied_hold : EmptiedHold
emptied_hold n C D xs w l e = tables_hold n C D (doings xs) w (within n C D xs w l e)

early_value : (a : Answer) → early (refusal_of a) ≡ true → value_of a ≡ 0
early_value (Ok k) e = absurd (true≢false (sym e))
early_value (Err why) e = refl

pub emptied_ask : EmptiedAsk
emptied_ask n C D xs w e p q a w' A =
    elim (sound_or n C D e.emptied) [
      | inl s ↦
          let E : Emptied n C D (doings xs) w = within n C D xs w s.sized.limit e in
          tables_ask n C D (doings xs) w E p q a w' (A.sound (tables_hold n C D (doings xs) w E).sound)
      | inr h ↦
          let t = promised_stay n C D e.emptied xs w h e.kept in
          early_value a (alone_unsound n C D w (λ s. h (subst (Sound n C D) t.0 s)) (ask p q) a w' A)
          ∙ ap (λ cs. yes1 (related p q D (empty_day n C) false cs)) (sym t.1)
    ]

pub emptied_count : EmptiedCount
emptied_count n C D xs w e p q a w' A =
    let c : asked D (after D (empty_day n C) (chain_calls xs)) p q + partings p q D (empty_day n C) (chain_calls xs) ≡ joinings p q D (empty_day n C) (chain_calls xs)
    = count_exactly n C D (chain_calls xs) p q in
    ap (λ (x : ℕ). x + partings p q D (empty_day n C) (chain_calls xs)) (emptied_ask n C D xs w e p q a w' A ∙ sym (yes_exactly n C D (chain_calls xs) p q)) ∙ c

pub emptied_short : EmptiedShort
emptied_short n C D xs w e v h =
    elim (sound_or n C D e.emptied) [
      | inl s ↦ promised_short n C D e.emptied xs w s e.kept v h
      | inr u ↦
          let i : InRoom n C × (e.emptied ≡ empty_table n C) = emptied_is n C e.before e.emptied e.empty in
          subst (λ x. length_of n C x v ≤ D) (sym ((promised_stay n C D e.emptied xs w u e.kept).0 ∙ i.1))
          (omega (arith, (empty_emptied n C i.0.cells_least).count v h))
    ]

pub emptied_bound : EmptiedBound
emptied_bound n C D d half xs w e C₀ h same g =
    elim (sound_or n C D e.emptied) [
      | inl s ↦ tables_bound n C D d half (doings xs) w (within n C D xs w s.sized.limit e) C₀ h same g
      | inr u ↦ rw ((promised_stay n C D e.emptied xs w u e.kept).3) (omega arith)
    ]

pub emptied_dense : EmptiedDense
emptied_dense n C D xs w e p q X g spare waiting w' spare' waiting' A =
    elim (sound_or n C D e.emptied) [
      | inl s ↦
          let E : Emptied n C D (doings xs) w = within n C D xs w s.sized.limit e in
          tables_dense n C D (doings xs) w E p q X g w' (dense_carries n C D p q w spare waiting w' spare' waiting' (tables_hold n C D (doings xs) w E).sound A)
      | inr h ↦
          let t = promised_stay n C D e.emptied xs w h e.kept in
          true≢false (sym (linking_unsound n C D w (λ s. h (subst (Sound n C D) t.0 s)) p q spare waiting (Err TooDense) spare' waiting' w' A))
    ]
