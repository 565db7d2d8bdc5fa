-- What each call does to the links that stand: an accepted link adds one, an accepted unlink takes one away, and no other call
-- changes which runs are linked, turning included. Assumes nothing.
use Prim.Native.Nat.{ℕ, ◌+◌, ◌*◌, ◌<◌}
use mathlib.Core.Bool.{Bool, true, false, not, ◌&&◌}
use mathlib.Core.List.{List, [], ◌∷◌}
use Rattle.std.specs.Prelude.{None}
use mathlib.Core.Path.{◌≡◌, refl, ap, ap₂}
use native.Mathlib.Omega.{arith}
use lib.ListN.{length}
use lib.Seq.{get_or-set_other}
use borrow.Author.Tests.{ltb-true, leb-false, not-false}
use Rattle.terms.specs.Run.{no_run}
use Rattle.terms.specs.declared.run.Run.{Run}
use Rattle.terms.specs.declared.refusal.Refusal.{Refusal}
use Rattle.terms.specs.declared.refusal.Refusal.TheVariants.{NoLink}
use Rattle.terms.specs.Refusal.{Answer}
use Rattle.meaning.specs.Cells.{Cell, list, without, seek, holds, sum}
use Rattle.meaning.specs.Turning.{Ending, settled, dense}
use Rattle.meaning.specs.Day.{Day, run_of, place_of, lowest}
use Rattle.meaning.specs.Calls.{Call, open_run, close_run, link, unlink, ask, reading, Outcome, done, refused, linked, Tests, tests, first_refusal, rename, ended, link_in, do_link, cut, do_unlink, yes1, act, call}
use Rattle.meaning.proofs.Right.{Right, pair}
use Rattle.meaning.proofs.Sums.{sum-set, set-le, sum_ext_in, push_sum}
use Rattle.meaning.proofs.Turnings.{Ends, Stands}
use Rattle.meaning.proofs.Finding.{found, found_target, without_sum, without_le, Failed, all_failed, Both, both_named, either_true, lowest_free}
use Rattle.meaning.proofs.Kept.{joined, run, link_run, Untouched, untouched, free_untouched, joined_stands, new_link, call_case}
use Rattle.demands.specs.History.{accepts, same_pair, joins, parts, weigh}
use Rattle.demands.proofs.Choices.{Swaps, by, by_even, Fewer}

-- what an answered call brings, and what it takes away
abbrev pub comes : (Run → Run → ℕ) → Call → Answer → ℕ
comes F (open_run x) a = 0
comes F (close_run x) a = 0
comes F (link x y) a = yes1 (accepts a) * F x y
comes F (unlink x y) a = 0
comes F (ask x y) a = 0
comes F (reading ps) a = 0

abbrev pub goes : (Run → Run → ℕ) → Call → Answer → ℕ
goes F (open_run x) a = 0
goes F (close_run x) a = 0
goes F (link x y) a = 0
goes F (unlink x y) a = yes1 (accepts a) * F x y
goes F (ask x y) a = 0
goes F (reading ps) a = 0

-- another run at a place that no link touches
pub rename_weigh : (s : Day) (x : ℕ) (p : Run) → Untouched s x → (F : Run → Run → ℕ) → weigh F (rename s x p) ≡ weigh F s
rename_weigh s x p un F = sum_ext_in (by F (rename s x p)) (by F s) s.lists
    (λ v c m. rw (get_or-set_other s.runs x v p no_run (un v c m).0, get_or-set_other s.runs x c.target p no_run (un v c m).1))

-- a link taken out of u's list
pub cut_fewer : (s : Day) (u v : ℕ) → Fewer (cut s u v) s
cut_fewer s u v F =
    let l : List Cell = list s.lists u in
    set-le (by F s) s.lists u (without (seek v l) l) (without_le (by F s u) (seek v l) l)

cut_weigh : (s : Day) (u v : ℕ) → u < length s.lists → holds v (list s.lists u) ≡ true → (F : Run → Run → ℕ)
    → weigh F (cut s u v) + F (run_of s u) (run_of s v) ≡ weigh F s
cut_weigh s u v hu e F =
    let l : List Cell = list s.lists u in
    let t : F (run_of s u) (run_of s (found v l).target) ≡ F (run_of s u) (run_of s v) = ap (λ (k : ℕ). F (run_of s u) (run_of s k)) (found_target v l e) in
    omega (
      arith,
      sum-set (by F s) s.lists u (without (seek v l) l) hu,
      without_sum (by F s u) (record { index = 0; target = 0 }) (seek v l) l (ltb-true (seek v l) (length l) e),
    )

module _ (n D : ℕ) (s : Day) (ok : Right n D s) where
  -- no link touches the place that an open takes or a close leaves
  pub open_untouched : (p : Run) → first_refusal (tests s (open_run p)) ≡ None → Untouched s (lowest s)
  open_untouched p e = free_untouched n D s ok (lowest s) (lowest_free s (leb-false _ _ (all_failed (tests s (open_run p)) e).1.1.0))

  pub close_untouched : (p : Run) → first_refusal (tests s (close_run p)) ≡ None → Untouched s (place_of s p)
  close_untouched p e = untouched s (place_of s p) (all_failed (tests s (close_run p)) e).1.1.0

  -- an unlink that no test refuses finds its link
  pub old_link : (p q : Run) → first_refusal (tests s (unlink p q)) ≡ None → Both n s p q × (linked s (place_of s p) (place_of s q) ≡ true)
  old_link p q e =
      let ts : Tests = (not (linked s (place_of s p) (place_of s q)), NoLink) ∷ [] in
      let t : Both n s p q × Failed ts = both_named n s ok.places p q ts e in
      (t.0, not-false _ t.1.0)

  module _ (F : Run → Run → ℕ) (sw : Swaps F) where
    link_law : (u v i : ℕ) (fs : List ℕ) → u < n → v < n
        → weigh F (link_in D s u v i fs).after ≡ weigh F s + yes1 (accepts (link_in D s u v i fs).answer) * F (run_of s u) (run_of s v)
    link_law u v i fs hu hv =
        link_run (λ a s'. weigh F s' ≡ weigh F s + yes1 (accepts a) * F (run_of s u) (run_of s v)) D s u v i fs (go (run D s u v i) (joined_stands n D s ok u v i hu hv))
      where
        go : (o : Ending) → Ends (Stands n D (joined s u v i)) o
            → weigh F (ended s fs o).after ≡ weigh F s + yes1 (accepts (ended s fs o).answer) * F (run_of s u) (run_of s v)
        go dense st = omega arith
        go (settled ls r) st =
            omega (arith, st.evens (by F s) (by_even F s sw), push_sum (by F s) s.lists u (record { index = i; target = v }) (omega (arith, ok.rows)))

    do_link_law : (u v : ℕ) (fs : List ℕ) → u < n → v < n
        → weigh F (do_link D s u v fs).after ≡ weigh F s + yes1 (accepts (do_link D s u v fs).answer) * F (run_of s u) (run_of s v)
    do_link_law u v [] hu hv = omega arith
    do_link_law u v (i ∷ fs) hu hv = link_law u v i fs hu hv

    unlink_law : (u v : ℕ) → u < n → v < n → linked s u v ≡ true
        → weigh F (do_unlink s u v).after + yes1 (accepts (do_unlink s u v).answer) * F (run_of s u) (run_of s v) ≡ weigh F s
    unlink_law u v hu hv e = go (holds v (list s.lists u)) refl
      where
        go : (b : Bool) → holds v (list s.lists u) ≡ b
            → let o : Outcome = elim b [ true ↦ done 0 (cut s u v) | false ↦ done 0 (cut s v u) ] in
            weigh F o.after + yes1 (accepts o.answer) * F (run_of s u) (run_of s v) ≡ weigh F s
        go true q = omega (arith, cut_weigh s u v (omega (arith, ok.rows)) q F)
        go false q = omega (arith, sw (run_of s u) (run_of s v), cut_weigh s v u (omega (arith, ok.rows)) (either_true _ _ e q) F)

    act_law : (c : Call) → first_refusal (tests s c) ≡ None
        → weigh F (act D s c).after + goes F c (act D s c).answer ≡ weigh F s + comes F c (act D s c).answer
    act_law (open_run p) e = omega (arith, rename_weigh s (lowest s) p (open_untouched p e) F)
    act_law (close_run p) e = omega (arith, rename_weigh s (place_of s p) no_run (close_untouched p e) F)
    act_law (link p q) e =
        let t : Both n s p q × (sum (pair (place_of s p) (place_of s q)) s.lists ≡ 0) = new_link n D s ok p q e in
        let f : F (run_of s (place_of s p)) (run_of s (place_of s q)) ≡ F p q = ap₂ F t.0.run_p t.0.run_q in
        let a : ℕ = yes1 (accepts (act D s (link p q)).answer) in
        omega (arith, do_link_law (place_of s p) (place_of s q) s.free t.0.place_p t.0.place_q, ap (λ (k : ℕ). a * k) f)
    act_law (unlink p q) e =
        let t : Both n s p q × (linked s (place_of s p) (place_of s q) ≡ true) = old_link p q e in
        let f : F (run_of s (place_of s p)) (run_of s (place_of s q)) ≡ F p q = ap₂ F t.0.run_p t.0.run_q in
        let a : ℕ = yes1 (accepts (act D s (unlink p q)).answer) in
        omega (arith, unlink_law (place_of s p) (place_of s q) t.0.place_p t.0.place_q t.1, ap (λ (k : ℕ). a * k) f)
    act_law (ask p q) e = omega arith
    act_law (reading ps) e = omega arith

    refused_law : (c : Call) (why : Refusal) → weigh F s + goes F c (refused why s).answer ≡ weigh F s + comes F c (refused why s).answer
    refused_law (open_run p) why = refl
    refused_law (close_run p) why = refl
    refused_law (link p q) why = omega arith
    refused_law (unlink p q) why = omega arith
    refused_law (ask p q) why = refl
    refused_law (reading ps) why = refl

    -- the links that stand after a call are those before, with what it brings and without what it takes away
    pub call_law : (c : Call) → weigh F (call D s c).after + goes F c (call D s c).answer ≡ weigh F s + comes F c (call D s c).answer
    call_law c =
        call_case (λ o. weigh F o.after + goes F c o.answer ≡ weigh F s + comes F c o.answer) D s c (λ why e. refused_law c why) (act_law c)

-- of one pair
yes_both : (a b : Bool) → yes1 a * yes1 b ≡ yes1 (a && b)
yes_both true b = omega arith
yes_both false b = omega arith

pub comes_pair : (p q : Run) (c : Call) (a : Answer) → comes (λ x y. yes1 (same_pair p q x y)) c a ≡ yes1 (joins p q c a)
comes_pair p q (open_run x) a = refl
comes_pair p q (close_run x) a = refl
comes_pair p q (link x y) a = yes_both (accepts a) (same_pair p q x y)
comes_pair p q (unlink x y) a = refl
comes_pair p q (ask x y) a = refl
comes_pair p q (reading ps) a = refl

pub goes_pair : (p q : Run) (c : Call) (a : Answer) → goes (λ x y. yes1 (same_pair p q x y)) c a ≡ yes1 (parts p q c a)
goes_pair p q (open_run x) a = refl
goes_pair p q (close_run x) a = refl
goes_pair p q (link x y) a = refl
goes_pair p q (unlink x y) a = yes_both (accepts a) (same_pair p q x y)
goes_pair p q (ask x y) a = refl
goes_pair p q (reading ps) a = refl
