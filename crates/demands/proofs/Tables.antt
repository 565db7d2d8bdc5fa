-- Tables from an emptied store hold the days of the demands, so the demands are about them. Assumes nothing.
use Prim.Native.Nat.{ℕ, ◌+◌, ◌-◌}
use mathlib.Core.List.{List, [], ◌∷◌, ◌++◌, map}
use mathlib.Core.Path.{◌≡◌, refl, sym, ap, ◌∙◌, subst}
use native.Mathlib.Omega.{arith}
use Rattle.terms.specs.Refusal.{value_of}
use Rattle.meaning.specs.Soundness.{Sound}
use Rattle.meaning.specs.Day.{Day, day_of, empty_table, empty_day}
use Rattle.meaning.specs.Calls.{Call, link, ask, call}
use Rattle.meaning.specs.Stream.{call_of, records_of, taken, reversed}
use Rattle.meaning.specs.Promise.{Holds}
use Rattle.meaning.proofs.EmptyDay.{empty_sound, empty_day_lem}
use Rattle.demands.specs.History.{after, accepted, reversals, calls}
use Rattle.demands.specs.Tables.{Doing, single, stream, refused, calls_in, all_calls, accepted_in, reversed_in, all_accepted, all_reversed, Does, Leads, TablesHold, TablesAsk, TablesShort, TablesBound, TablesDense}
use Rattle.demands.proofs.Theorems.{yes_exactly, demand_3, never_dense}
use Rattle.demands.proofs.Streams.{records_are_calls}

pub after_append : (D : ℕ) (s : Day) (xs ys : List Call) → after D s (xs ++ ys) ≡ after D (after D s xs) ys
after_append D s [] ys = refl
after_append D s (x ∷ xs) ys = after_append D (call D s x).after xs ys

does_hold : (n C D : ℕ) (w : List ℕ) → Sound n C D w → (x : Doing) (w' : List ℕ) → Does n C D w x w' → Holds n C D w' (after D (day_of n C w) (calls_in x))
does_hold n C D w s (single q a) w' h = h.holds
does_hold n C D w s (stream bytes t r t') w' h =
    let cs : List Call = map call_of (records_of bytes).records in
    let k : Holds n C D t'.store (after D (day_of n C t.store) cs) = subst (Holds n C D t'.store) (records_are_calls D (records_of bytes).records _).0 h.0.holds in
    subst (λ v. Holds n C D w' (after D (day_of n C v) cs)) h.1 (subst (λ v. Holds n C D v (after D (day_of n C t.store) cs)) h.2 k)
does_hold n C D w s refused w' h = subst (λ v. Holds n C D v (day_of n C w)) h (record { sound = s; day = refl })

pub leads_hold : (n C D : ℕ) (w : List ℕ) → Sound n C D w → (xs : List Doing) (w' : List ℕ) → Leads n C D w xs w'
    → Holds n C D w' (after D (day_of n C w) (all_calls xs))
leads_hold n C D w s [] w' h = subst (λ v. Holds n C D v (day_of n C w)) h (record { sound = s; day = refl })
leads_hold n C D w s (x ∷ xs) w' h =
    let k : Holds n C D h.0 (after D (day_of n C w) (calls_in x)) = does_hold n C D w s x h.0 h.1 in
    subst (Holds n C D w') (ap (λ s. after D s (all_calls xs)) k.day ∙ sym (after_append D (day_of n C w) (calls_in x) (all_calls xs)))
    (leads_hold n C D h.0 k.sound xs w' h.2)

pub tables_hold : TablesHold
tables_hold n C D xs w e =
    subst (λ s. Holds n C D w (after D s (all_calls xs))) (empty_day_lem n C e.room)
    (leads_hold n C D (empty_table n C) (empty_sound n C D e.room e.limit) xs w e.leads)

pub tables_ask : TablesAsk
tables_ask n C D xs w e p q a w' k =
    ap value_of k.answer ∙ (ap (λ s. value_of (call D s (ask p q)).answer) (tables_hold n C D xs w e).day ∙ yes_exactly n C D (all_calls xs) p q)

pub tables_short : TablesShort
tables_short n C D xs w e = (tables_hold n C D xs w e).sound.chained.short

pub tables_dense : TablesDense
tables_dense n C D xs w e p q X g w' k =
    never_dense n C D (all_calls xs) p q X g (sym (k.answer ∙ ap (λ s. (call D s (link p q)).answer) (tables_hold n C D xs w e).day))

-- ---- what the answers and the totals count
pub accepted_append : (D : ℕ) (s : Day) (xs ys : List Call) → accepted D s (xs ++ ys) ≡ accepted D s xs + accepted D (after D s xs) ys
accepted_append D s [] ys = omega arith
accepted_append D s (x ∷ xs) ys = omega (arith, accepted_append D (call D s x).after xs ys)

pub reversals_append : (D : ℕ) (s : Day) (xs ys : List Call) → reversals D s (xs ++ ys) ≡ reversals D s xs + reversals D (after D s xs) ys
reversals_append D s [] ys = omega arith
reversals_append D s (x ∷ xs) ys = omega (arith, reversals_append D (call D s x).after xs ys)

module _ (n C D : ℕ) where
  -- a stream's total goes forward by what its records count
  forward : (count : Day → ℕ) (v w : List ℕ) (b e : ℕ) → v ≡ w → e ≡ b + count (day_of n C v) → e - b ≡ count (day_of n C w)
  forward count v w b e p q = subst (λ x. e - b ≡ count (day_of n C x)) p (omega arith)

  does_accepted : (w : List ℕ) (x : Doing) (w' : List ℕ) → Does n C D w x w' → accepted_in x ≡ accepted D (day_of n C w) (calls_in x)
  does_accepted w (single q a) w' h = omega (arith, ap (taken q) h.answer)
  does_accepted w (stream bytes t r t') w' h =
      let rs = (records_of bytes).records in
      forward (λ s. accepted D s (map call_of rs)) t.store w t.accepted t'.accepted h.1 (h.0.accepted ∙ (records_are_calls D rs _).1)
  does_accepted w refused w' h = refl

  does_reversed : (w : List ℕ) (x : Doing) (w' : List ℕ) → Does n C D w x w' → reversed_in x ≡ reversals D (day_of n C w) (calls_in x)
  does_reversed w (single q a) w' h = omega (arith, ap (reversed q) h.answer)
  does_reversed w (stream bytes t r t') w' h =
      let rs = (records_of bytes).records in
      forward (λ s. reversals D s (map call_of rs)) t.store w t.reversals t'.reversals h.1 (h.0.reversals ∙ (records_are_calls D rs _).2)
  does_reversed w refused w' h = refl

  pub leads_accepted : (w : List ℕ) → Sound n C D w → (xs : List Doing) (w' : List ℕ) → Leads n C D w xs w' → all_accepted xs ≡ accepted D (day_of n C w) (all_calls xs)
  leads_accepted w s [] w' h = refl
  leads_accepted w s (x ∷ xs) w' h =
      let k : Holds n C D h.0 (after D (day_of n C w) (calls_in x)) = does_hold n C D w s x h.0 h.1 in
      omega (
        arith,
        does_accepted w x h.0 h.1,
        leads_accepted h.0 k.sound xs w' h.2,
        accepted_append D (day_of n C w) (calls_in x) (all_calls xs),
        ap (λ s. accepted D s (all_calls xs)) k.day,
      )

  pub leads_reversed : (w : List ℕ) → Sound n C D w → (xs : List Doing) (w' : List ℕ) → Leads n C D w xs w' → all_reversed xs ≡ reversals D (day_of n C w) (all_calls xs)
  leads_reversed w s [] w' h = refl
  leads_reversed w s (x ∷ xs) w' h =
      let k : Holds n C D h.0 (after D (day_of n C w) (calls_in x)) = does_hold n C D w s x h.0 h.1 in
      omega (
        arith,
        does_reversed w x h.0 h.1,
        leads_reversed h.0 k.sound xs w' h.2,
        reversals_append D (day_of n C w) (calls_in x) (all_calls xs),
        ap (λ s. reversals D s (all_calls xs)) k.day,
      )

pub tables_bound : TablesBound
tables_bound n C D d half xs w e C₀ h same g =
    let s : Day = empty_day n C in
    let t : day_of n C (empty_table n C) ≡ s = empty_day_lem n C e.room in
    let k : all_accepted xs ≡ accepted D s (calls h)
    = leads_accepted n C D (empty_table n C) (empty_sound n C D e.room e.limit) xs w e.leads ∙ (ap (λ s. accepted D s (all_calls xs)) t ∙ ap (accepted D s) (sym same)) in
    let r : all_reversed xs ≡ reversals D s (calls h)
    = leads_reversed n C D (empty_table n C) (empty_sound n C D e.room e.limit) xs w e.leads ∙ (ap (λ s. reversals D s (all_calls xs)) t ∙ ap (reversals D s) (sym same)) in
    rw (k, r) (demand_3 n C D d half C₀ h g)
