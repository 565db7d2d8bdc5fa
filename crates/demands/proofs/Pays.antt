-- Each call pays for its reversals out of the links that disagree with the choice, one for an accepted link, and one for each
-- link on which the choice is changed. No link that can be directed is too dense. Assumes nothing.
use Prim.Native.Nat.{ℕ, ◌+◌, ◌-◌, ◌*◌, ◌≤◌, ◌<◌}
use mathlib.Core.Bool.{Bool, true, false}
use mathlib.Core.List.{List, [], ◌∷◌}
use Rattle.std.specs.Prelude.{None, Err}
use mathlib.Core.Path.{◌≡◌, refl, sym, subst, ◌∙◌}
use native.Mathlib.Nat.{mul-le-mul_left, le_refl}
use native.Mathlib.Omega.{arith}
use lib.ListN.{length}
use Rattle.terms.specs.Run.{no_run}
use Rattle.terms.specs.Refusal.{value_of}
use Rattle.terms.specs.declared.refusal.Refusal.{Refusal}
use Rattle.meaning.specs.Cells.{Cell, Lists, Weight, list, holds, sum}
use Rattle.meaning.specs.Turning.{Ending, settled, dense}
use Rattle.meaning.specs.Day.{Day, run_of, place_of, lowest}
use Rattle.meaning.specs.Calls.{Call, open_run, close_run, link, unlink, ask, reading, Outcome, done, tests, first_refusal, rename, ended, link_in, do_link, cut, do_unlink, yes1, act, call}
use Rattle.meaning.proofs.Right.{Right, outside, pair}
use Rattle.meaning.proofs.Sums.{push_sum, push_length}
use Rattle.meaning.proofs.Waiting.{none_waits}
use Rattle.meaning.proofs.Turnings.{Ends, Settles, Stands, begun, begun_waits}
use Rattle.meaning.proofs.Finding.{Both}
use Rattle.meaning.proofs.Kept.{joined, run, link_run, joined_stands, new_link, call_case}
use Rattle.demands.specs.History.{accepts, taken, reversed, weigh, Directions, unsure, outward, Directed, changed}
use Rattle.demands.proofs.Choices.{disagree, by, by_even, unsure_swaps, outward_swaps, turned, turned_swaps, one_way, Fewer, fewer_pays}
use Rattle.demands.proofs.Potential.{holding, potential, Paid, turning_paid}
use Rattle.demands.proofs.Law.{rename_weigh, cut_fewer, open_untouched, close_untouched}

-- k links accepted with R reversals, from s with the choice C, are paid for whatever choice is made for the links of s'
pub record Pays (D d : ℕ) (C : Directions) (s : Day) (k R : ℕ) (s' : Day) : Type 0 where
  pub pays : (C' : Directions) → Directed d C' s' → R * (D + 1 - 2 * d) + (D + 1) * disagree C' s' ≤ (D + 1) * (disagree C s + k + changed C C' s s')

fewer_paid : (D d : ℕ) (C : Directions) (s s' : Day) → Fewer s' s → Pays D d C s 0 0 s'
fewer_paid D d C s s' f = record {
  pays = λ C' g.
      let h : disagree C' s' ≤ disagree C s + 0 + changed C C' s s' = omega (arith, fewer_pays C C' s s' f g.each) in
      omega (arith, mul-le-mul_left (D + 1) h);
}

module _ (n D d : ℕ) (half : 2 * d ≤ D) (s : Day) (ok : Right n D s) where
  -- with a choice for the links, the new one included, turning settles, and each turn is paid for
  pub link_settles : (u v i : ℕ) → u < n → v < n → (C : Directions) (g : Directed d C (holding s (joined s u v i)))
      → Settles (Paid n D d half C s (joined s u v i) g ((D + 1) * potential C s (joined s u v i))) (run D s u v i)
  link_settles u v i hu hv C g =
      let c : Cell = record { index = i; target = v } in
      let hu' : u < length s.lists = omega (arith, ok.rows) in
      turning_paid n D d half C s (joined s u v i) g (begun D (joined s u v i) u) (push_length s.lists u c ∙ ok.rows)
      (omega (arith, ok.inside, push_sum (outside n) s.lists u c hu'))
      (begun_waits D s.lists u c hu' (none_waits D s.lists ok.short))

  module _ (C : Directions) where
    same_paid : Pays D d C s 0 0 s
    same_paid = fewer_paid D d C s s (λ F. le_refl (weigh F s))

    -- the new link may disagree with the choice, and so may each old link on which the choice is changed; the turns pay for the rest
    settled_paid : (u v i : ℕ) → u < n → v < n → (ls : Lists) (r : ℕ) → run D s u v i ≡ settled ls r → (C' : Directions) → Directed d C' (holding s ls)
        → r * (D + 1 - 2 * d) + (D + 1) * disagree C' (holding s ls) ≤ (D + 1) * (disagree C s + 1 + changed C C' s (holding s ls))
    unfolding potential
    settled_paid u v i hu hv ls r e C' g =
        let c : Cell = record { index = i; target = v } in
        let L : Lists = joined s u v i in
        let hu' : u < length s.lists = omega (arith, ok.rows) in
        let st : Stands n D L ls [] r = subst (Ends (Stands n D L)) e (joined_stands n D s ok u v i hu hv) in
        let added : (f : Weight) → sum f L ≡ sum f s.lists + f u c = λ f. push_sum f s.lists u c hu' in
        let g⁺ : Directed d C' (holding s L) = record {
          each = sym (st.evens (by (unsure C') s) (by_even (unsure C') s (unsure_swaps C'))) ∙ g.each;
          few = λ p. omega (arith, g.few p, st.evens (by (outward C' p) s) (by_even (outward C' p) s (outward_swaps C' p)));
        } in
        let p : Paid n D d half C' s L g⁺ ((D + 1) * potential C' s L) ls [] r =
        subst (Settles (Paid n D d half C' s L g⁺ ((D + 1) * potential C' s L))) e (link_settles u v i hu hv C' g⁺) in
        let sure : weigh (unsure C') s + unsure C' (run_of s u) (run_of s v) ≡ 0 = sym (added (by (unsure C') s)) ∙ g⁺.each in
        let old : disagree C' s ≤ disagree C s + changed C C' s s = fewer_pays C C' s s (λ F. le_refl (weigh F s)) (omega arith) in
        let now : changed C C' s s ≤ changed C C' s (holding s ls) =
        omega (arith, added (by (turned C C' s) s), st.evens (by (turned C C' s) s) (by_even (turned C C' s) s (turned_swaps C C' s))) in
        let more : disagree C' (holding s L) ≤ disagree C s + 1 + changed C C' s (holding s ls) =
        omega (arith, added (by (λ x y. C' y x) s), one_way C' (run_of s u) (run_of s v) (omega arith)) in
        omega (arith, p.paid, mul-le-mul_left (D + 1) more)

    link_paid : (u v i : ℕ) (fs : List ℕ) → u < n → v < n
        → Pays D d C s (yes1 (accepts (link_in D s u v i fs).answer)) (value_of (link_in D s u v i fs).answer) (link_in D s u v i fs).after
    link_paid u v i fs hu hv = link_run (λ a s'. Pays D d C s (yes1 (accepts a)) (value_of a) s') D s u v i fs (go (run D s u v i) refl)
      where
        go : (o : Ending) → run D s u v i ≡ o → Pays D d C s (yes1 (accepts (ended s fs o).answer)) (value_of (ended s fs o).answer) (ended s fs o).after
        go dense e = same_paid
        go (settled ls r) e = record { pays = λ C' g. settled_paid u v i hu hv ls r e C' (record { each = g.each; few = g.few }) }

    do_link_paid : (u v : ℕ) (fs : List ℕ) → u < n → v < n
        → Pays D d C s (yes1 (accepts (do_link D s u v fs).answer)) (value_of (do_link D s u v fs).answer) (do_link D s u v fs).after
    do_link_paid u v [] hu hv = same_paid
    do_link_paid u v (i ∷ fs) hu hv = link_paid u v i fs hu hv

    unlink_paid : (u v : ℕ) → Pays D d C s 0 0 (do_unlink s u v).after
    unlink_paid u v = go (holds v (list s.lists u))
      where
        go : (b : Bool) → let o : Outcome = elim b [ true ↦ done 0 (cut s u v) | false ↦ done 0 (cut s v u) ] in Pays D d C s 0 0 o.after
        go true = fewer_paid D d C s (cut s u v) (cut_fewer s u v)
        go false = fewer_paid D d C s (cut s v u) (cut_fewer s v u)

    act_paid : (c : Call) → first_refusal (tests s c) ≡ None → Pays D d C s (taken c (act D s c).answer) (reversed c (act D s c).answer) (act D s c).after
    act_paid (open_run p) e = fewer_paid D d C s (rename s (lowest s) p) (λ F. omega (arith, rename_weigh s (lowest s) p (open_untouched n D s ok p e) F))
    act_paid (close_run p) e =
        fewer_paid D d C s (rename s (place_of s p) no_run) (λ F. omega (arith, rename_weigh s (place_of s p) no_run (close_untouched n D s ok p e) F))
    act_paid (link p q) e =
        let t : Both n s p q × (sum (pair (place_of s p) (place_of s q)) s.lists ≡ 0) = new_link n D s ok p q e in
        do_link_paid (place_of s p) (place_of s q) s.free t.0.place_p t.0.place_q
    act_paid (unlink p q) e = unlink_paid (place_of s p) (place_of s q)
    act_paid (ask p q) e = same_paid
    act_paid (reading ps) e = same_paid

    refused_paid : (c : Call) (why : Refusal) → Pays D d C s (taken c (Err why)) (reversed c (Err why)) s
    refused_paid (open_run p) why = same_paid
    refused_paid (close_run p) why = same_paid
    refused_paid (link p q) why = same_paid
    refused_paid (unlink p q) why = same_paid
    refused_paid (ask p q) why = same_paid
    refused_paid (reading ps) why = same_paid

    pub call_paid : (c : Call) → Pays D d C s (taken c (call D s c).answer) (reversed c (call D s c).answer) (call D s c).after
    call_paid c = call_case (λ o. Pays D d C s (taken c o.answer) (reversed c o.answer) o.after) D s c (λ why e. refused_paid c why) (act_paid c)
