-- Turning that settles is figure 1's own procedure, come to its end. Assumes nothing.
use Prim.Native.Nat.{ℕ, zero, suc, ◌+◌, ◌≤◌, ◌<◌}
use mathlib.Core.Bool.{Bool, true, false, true≢false}
use mathlib.Core.List.{List, [], ◌∷◌}
use mathlib.Core.Path.{◌≡◌, refl, sym, ap, ◌∙◌, subst}
use native.Mathlib.Omega.{arith}
use lib.Dec.{leb}
use lib.ListN.{length}
use borrow.Author.Tests.{leb-true, leb-false}
use Rattle.std.specs.Prelude.{Ok, Err}
use Rattle.terms.specs.Refusal.{value_of, Answer}
use Rattle.terms.specs.declared.run.Run.{Run}
use Rattle.terms.specs.declared.refusal.Refusal.{Refusal}
use Rattle.terms.specs.declared.refusal.Refusal.TheVariants.{TooDense}
use Rattle.meaning.specs.Cells.{Lists, list, links}
use Rattle.meaning.specs.Turning.{over, Work, turn, Ending, settled, dense, turning}
use Rattle.meaning.specs.Day.{Day, place_of, day_of}
use Rattle.meaning.specs.Calls.{link, tests, Outcome, done, ended, do_link, call}
use Rattle.meaning.specs.Stream.{accepts}
use Rattle.meaning.proofs.Kept.{call_case}
use Rattle.demands.specs.Unstopped.{EndsAfter, Figure1, OneEnd, Larger, Capped, Uncapped, with_link, LinkEnds, LinkFigure, TablesFigure, DenseFigure}
use Rattle.demands.proofs.Refusals.{dense_answer, dense_first, first_sparse, tests_sparse}

-- ---- endings
lists_of : Lists → Ending → Lists
lists_of ls (settled ls' r) = ls'
lists_of ls dense = ls

count_of : Ending → ℕ
count_of (settled ls r) = r
count_of dense = 0

settles : Ending → Bool
settles (settled ls r) = true
settles dense = false

settled_lists : (ls ls' : Lists) (r r' : ℕ) → settled ls r ≡ settled ls' r' → ls ≡ ls'
unfolding lists_of
settled_lists ls ls' r r' e = ap (lists_of ls) e

settled_count : (ls ls' : Lists) (r r' : ℕ) → settled ls r ≡ settled ls' r' → r ≡ r'
unfolding count_of
settled_count ls ls' r r' e = ap count_of e

not_dense : (ls : Lists) (r : ℕ) → dense ≡ settled ls r → ⊥
unfolding settles
not_dense ls r e = true≢false (sym (ap settles e))

settled_both : (ls ls' : Lists) (r r' : ℕ) → ls ≡ ls' → r ≡ r' → settled ls r ≡ settled ls' r'
settled_both ls ls' r r' a b = λ i. settled (a i) (b i)

module _ (D : ℕ) where
  -- what settles within m is an end of figure 1 after at most m
  ends_within : (m : ℕ) (ls : Lists) (st : List ℕ) (r : ℕ) (ls' : Lists) (r' : ℕ) → turning D m ls st r ≡ settled ls' r'
      → (t : ℕ) × (t ≤ m) × EndsAfter D t ls st r ls' r'
  unfolding turning
  ends_within zero ls [] r ls' r' e = (0, omega arith, (settled_lists ls ls' r r' e, settled_count ls ls' r r' e))
  ends_within zero ls (w ∷ st) r ls' r' e = absurd (not_dense ls' r' e)
  ends_within (suc m) ls [] r ls' r' e = (0, omega arith, (settled_lists ls ls' r r' e, settled_count ls ls' r r' e))
  ends_within (suc m) ls (w ∷ st) r ls' r' e =
      let k : Work = turn D w ls st in
      let t : (t : ℕ) × (t ≤ m) × EndsAfter D t k.lists k.waiting (r + length (list ls w)) ls' r' =
      ends_within m k.lists k.waiting (r + length (list ls w)) ls' r' e in
      (suc t.0, omega (arith, t.1), t.2)

  settles_within : (m t : ℕ) → t ≤ m → (ls : Lists) (st : List ℕ) (r : ℕ) (ls' : Lists) (r' : ℕ) → EndsAfter D t ls st r ls' r'
      → turning D m ls st r ≡ settled ls' r'
  unfolding turning
  settles_within zero zero h ls [] r ls' r' e = settled_both ls ls' r r' e.0 e.1
  settles_within zero zero h ls (w ∷ st) r ls' r' e = absurd e
  settles_within zero (suc t) h ls st r ls' r' e = absurd (omega arith)
  settles_within (suc m) zero h ls [] r ls' r' e = settled_both ls ls' r r' e.0 e.1
  settles_within (suc m) zero h ls (w ∷ st) r ls' r' e = absurd e
  settles_within (suc m) (suc t) h ls [] r ls' r' e = absurd e
  settles_within (suc m) (suc t) h ls (w ∷ st) r ls' r' e =
      settles_within m t (omega arith) (turn D w ls st).lists (turn D w ls st).waiting (r + length (list ls w)) ls' r' e

  ends_once : (t u : ℕ) (ls : Lists) (st : List ℕ) (r : ℕ) (ls' : Lists) (r' : ℕ) (ls'' : Lists) (r'' : ℕ)
      → EndsAfter D t ls st r ls' r' → EndsAfter D u ls st r ls'' r'' → (t ≡ u) × (ls' ≡ ls'') × (r' ≡ r'')
  ends_once zero zero ls [] r ls' r' ls'' r'' e f = (refl, sym e.0 ∙ f.0, sym e.1 ∙ f.1)
  ends_once zero zero ls (w ∷ st) r ls' r' ls'' r'' e f = absurd e
  ends_once zero (suc u) ls [] r ls' r' ls'' r'' e f = absurd f
  ends_once zero (suc u) ls (w ∷ st) r ls' r' ls'' r'' e f = absurd e
  ends_once (suc t) zero ls [] r ls' r' ls'' r'' e f = absurd e
  ends_once (suc t) zero ls (w ∷ st) r ls' r' ls'' r'' e f = absurd f
  ends_once (suc t) (suc u) ls [] r ls' r' ls'' r'' e f = absurd e
  ends_once (suc t) (suc u) ls (w ∷ st) r ls' r' ls'' r'' e f =
      let k : Work = turn D w ls st in
      let h : (t ≡ u) × (ls' ≡ ls'') × (r' ≡ r'') = ends_once t u k.lists k.waiting (r + length (list ls w)) ls' r' ls'' r'' e f in
      (ap suc h.0, h.1, h.2)

pub capped : Capped
capped D m ls st r ls' r' = (ends_within D m ls st r ls' r', λ t. settles_within D m t.0 t.1 ls st r ls' r' t.2)

pub larger : Larger
larger D m m' h ls st r ls' r' e =
    let t : (t : ℕ) × (t ≤ m) × EndsAfter D t ls st r ls' r' = ends_within D m ls st r ls' r' e in
    settles_within D m' t.0 (omega (arith, t.1)) ls st r ls' r' t.2

pub uncapped : Uncapped
uncapped D ls st r ls' r' = (
  λ t. (t.0, settles_within D t.0 t.0 (omega arith) ls st r ls' r' t.1),
  λ m. let t : (t : ℕ) × (t ≤ m.0) × EndsAfter D t ls st r ls' r' = ends_within D m.0 ls st r ls' r' m.1 in (t.0, t.2),
)

pub one_end : OneEnd
one_end D ls st r ls' r' ls'' r'' e f = ends_once D e.0 f.0 ls st r ls' r' ls'' r'' e.1 f.1

-- ---- a link
same_value : (j k : ℕ) → ◌≡◌ {A = Answer} (Ok j) (Ok k) → j ≡ k
same_value j k e = ap value_of e

not_done : (why : Refusal) (k : ℕ) → ◌≡◌ {A = Answer} (Err why) (Ok k) → ⊥
not_done why k e = true≢false (sym (ap accepts e))

module _ (D : ℕ) (s : Day) (p q : Run) where
  abbrev Fits : ℕ → Outcome → Type 0
  Fits k o = o.answer ≡ Ok k → LinkEnds D s p q o.began o.after.lists k

  turned : (i : ℕ) (fs : List ℕ) (k : ℕ) → s.free ≡ i ∷ fs → over D (with_link s p q i) (place_of s p) ≡ true → (e : Ending)
      → turning D (links (with_link s p q i)) (with_link s p q i) (place_of s p ∷ []) 0 ≡ e → Fits k (ended s fs e)
  turned i fs k f b (settled ls r) e a =
      let t : Figure1 D (with_link s p q i) (place_of s p ∷ []) 0 ls r =
      (uncapped D (with_link s p q i) (place_of s p ∷ []) 0 ls r).1 (links (with_link s p q i), e) in
      record {
        cell = i;
        rest = fs;
        free = f;
        begins = sym b;
        ends = subst (Figure1 D (with_link s p q i) (place_of s p ∷ []) 0 ls) (same_value r k a) t;
      }
  turned i fs k f b dense e a = absurd (not_done TooDense k a)

  fits : (k : ℕ) (fs : List ℕ) → s.free ≡ fs → Fits k (do_link D s (place_of s p) (place_of s q) fs)
  fits k [] f a = absurd (not_done _ k a)
  fits k (i ∷ fs) f a = go (over D (with_link s p q i) (place_of s p)) refl a
    where
      go : (b : Bool) → over D (with_link s p q i) (place_of s p) ≡ b
          → let ls : Lists = with_link s p q i in
          let u : ℕ = place_of s p in
          let o : Outcome = elim b [ true ↦ ended s fs (turning D (links ls) ls (u ∷ []) 0) | false ↦ done 0 (record { runs = s.runs; lists = ls; free = fs }) ] in
          Fits k o
      go true e b = turned i fs k f e (turning D (links (with_link s p q i)) (with_link s p q i) (place_of s p ∷ []) 0) refl b
      go false e a = record { cell = i; rest = fs; free = f; begins = sym e; ends = (0, (refl, same_value 0 k a)) }

  abbrev Passes : Outcome → Type 0
  Passes o = o.answer ≡ Err TooDense
      → (i : ℕ) × (fs : List ℕ) × (s.free ≡ i ∷ fs) × (over D (with_link s p q i) (place_of s p) ≡ true)
      × ((t : ℕ) (ls' : Lists) (r' : ℕ) → EndsAfter D t (with_link s p q i) (place_of s p ∷ []) 0 ls' r' → links (with_link s p q i) < t)

  passed : (i : ℕ) (fs : List ℕ) → s.free ≡ i ∷ fs → over D (with_link s p q i) (place_of s p) ≡ true → (e : Ending)
      → turning D (links (with_link s p q i)) (with_link s p q i) (place_of s p ∷ []) 0 ≡ e → Passes (ended s fs e)
  passed i fs f b (settled ls r) e a = absurd (not_done TooDense r (sym a))
  passed i fs f b dense e a = (i, fs, f, b, λ t ls' r' h. above t ls' r' h (leb t (links (with_link s p q i))) refl)
    where
      above : (t : ℕ) (ls' : Lists) (r' : ℕ) → EndsAfter D t (with_link s p q i) (place_of s p ∷ []) 0 ls' r' → (c : Bool)
          → leb t (links (with_link s p q i)) ≡ c → links (with_link s p q i) < t
      above t ls' r' h true c =
          absurd (not_dense ls' r' (sym e ∙ settles_within D (links (with_link s p q i)) t (leb-true _ _ c) (with_link s p q i) (place_of s p ∷ []) 0 ls' r' h))
      above t ls' r' h false c = leb-false _ _ c

  passes : (fs : List ℕ) → s.free ≡ fs → Passes (do_link D s (place_of s p) (place_of s q) fs)
  passes [] f a = absurd (true≢false (sym (ap dense_answer a)))
  passes (i ∷ fs) f a = go (over D (with_link s p q i) (place_of s p)) refl a
    where
      go : (b : Bool) → over D (with_link s p q i) (place_of s p) ≡ b
          → let ls : Lists = with_link s p q i in
          let u : ℕ = place_of s p in
          let o : Outcome = elim b [ true ↦ ended s fs (turning D (links ls) ls (u ∷ []) 0) | false ↦ done 0 (record { runs = s.runs; lists = ls; free = fs }) ] in
          Passes o
      go true e b = passed i fs f e (turning D (links (with_link s p q i)) (with_link s p q i) (place_of s p ∷ []) 0) refl b
      go false e a = absurd (not_done TooDense 0 (sym a))

pub link_figure : LinkFigure
link_figure D s p q k = call_case (Fits D s p q k) D s (link p q) (λ why e a. absurd (not_done why k a)) (λ e. fits D s p q k s.free refl)

pub tables_figure : TablesFigure
tables_figure n C D p q w k w' h =
    let s : Day = day_of n C w in
    subst (λ v. LinkEnds D s p q (call D s (link p q)).began v.lists k) (sym h.holds.day) (link_figure D s p q k (sym h.answer))

pub dense_figure : DenseFigure
dense_figure D s p q =
    call_case (Passes D s p q) D s (link p q)
    (λ why e f. absurd (true≢false (sym (ap dense_answer f) ∙ sym (ap dense_first e) ∙ first_sparse (tests s (link p q)) (tests_sparse s (link p q)))))
    (λ e. passes D s p q s.free refl)
