-- Every call keeps a right day right, and the empty day is right. Assumes nothing.
use Prim.Native.Nat.{ℕ, zero, suc, ◌+◌, ◌*◌, ◌≤◌, ◌<◌}
use mathlib.Core.Bool.{Bool, true, false}
use mathlib.Core.List.{List, [], ◌∷◌}
use Rattle.std.specs.Prelude.{Option, None, Some}
use mathlib.Core.Path.{◌≡◌, refl, sym, ap, ◌∙◌}
use native.Mathlib.Decide.{ℕ_discrete}
use native.Mathlib.Nat.{mul-zero, mul-le-mul}
use native.Mathlib.Omega.{arith}
use lib.Dec.{eqb}
use lib.ListN.{length, get_or, set, replicate, length-set, length-replicate}
use lib.Seq.{get_or-set_same, get_or-set_other}
use borrow.Author.Tests.{ltb-true, ltb-false, leb-false, not-false}
use Rattle.terms.specs.Run.{no_run, line_most}
use Rattle.terms.specs.declared.run.Run.{Run}
use Rattle.terms.specs.declared.refusal.Refusal.{Refusal}
use Rattle.terms.specs.declared.refusal.Refusal.TheVariants.{Already, NoRoom}
use Rattle.terms.specs.Refusal.{Answer}
use Rattle.terms.proofs.Names.{good_line}
use Rattle.meaning.specs.Cells.{Cell, Lists, Weight, list, push, without, seek, holds, sum, links, same}
use Rattle.meaning.specs.Turning.{over, put, Ending, settled, dense, turning}
use Rattle.meaning.specs.Day.{Day, run_of, place_of, lowest, empty_day}
use Rattle.meaning.specs.Calls.{Call, open_run, close_run, link, unlink, ask, reading, Outcome, done, refused, linked, touched, Tests, tests, first_refusal, rename, ended, link_in, do_link, cut, do_unlink, yes1, act, unless, call}
use Rattle.meaning.proofs.Same.{same_comm, same_eq, same_le, same_ne}
use Rattle.meaning.proofs.Right.{Right, outside, loop, shut, pair}
use Rattle.meaning.proofs.Sums.{row_sum_one, Has, sum_ext_in, sum-mem, sum_ext, set-le, push_sum, push_length, Even, pair_even, pair_comm}
use Rattle.meaning.proofs.Waiting.{waits_none, none_waits}
use Rattle.meaning.proofs.Turnings.{Ends, Stands, turning_rest, turning_stands, begun, begun_waits}
use Rattle.meaning.proofs.Finding.{Failed, all_failed, Both, both_named, absent, lowest_free, linked_pair, without_le}

-- ---- a link
-- the lists with the new link's cell at the front of u's, and what turning makes of them
abbrev pub joined : Day → ℕ → ℕ → ℕ → Lists
joined s u v i = push s.lists u (record { index = i; target = v })

abbrev pub run : ℕ → Day → ℕ → ℕ → ℕ → Ending
run D s u v i = turning D (links (joined s u v i)) (joined s u v i) (begun D (joined s u v i) u) 0

-- a link answers and leaves what its turning ends with, whether or not it began
pub link_run : (P : Answer → Day → Type 0) (D : ℕ) (s : Day) (u v i : ℕ) (fs : List ℕ)
    → P (ended s fs (run D s u v i)).answer (ended s fs (run D s u v i)).after → P (link_in D s u v i fs).answer (link_in D s u v i fs).after
link_run P D s u v i fs = go (over D (joined s u v i) u)
  where
    go : (b : Bool)
        → let ls : Lists = joined s u v i in
        let e : Outcome = ended s fs (turning D (links ls) ls (put b u []) 0) in
        let o : Outcome = elim b [ true ↦ ended s fs (turning D (links ls) ls (u ∷ []) 0) | false ↦ done 0 (record { runs = s.runs; lists = ls; free = fs }) ] in
        P e.answer e.after → P o.answer o.after
    go true h = h
    go false h = rw (turning_rest D (links (joined s u v i)) (joined s u v i) 0) at h

-- a pair that doesn't stand may be added
pub once_more : (ls : Lists) (u : ℕ) (c : Cell) → (u ≡ c.target → ⊥) → sum (pair u c.target) ls ≡ 0
    → ((p q : ℕ) → (p ≡ q → ⊥) → sum (pair p q) ls ≤ 1) → (p q : ℕ) → (p ≡ q → ⊥) → sum (pair p q) ls + pair p q u c ≤ 1
once_more ls u c n z once p q m = elim (ℕ_discrete p u) [
  | yes pu ↦ elim (ℕ_discrete q c.target) [
    | yes qt ↦
        let e : sum (pair p q) ls ≡ 0 = rw (pu, qt) z in
        omega (arith, e, ones (same_le p u) (same_le q c.target), nought (same p c.target) (same q u) (same_ne p c.target (λ f. n (sym pu ∙ f))))
    | no qt ↦
        omega (
          arith,
          once p q m,
          mul-zero (same p u),
          ap (λ (x : ℕ). same p u * x) (same_ne q c.target qt),
          nought (same p c.target) (same q u) (same_ne p c.target (λ f. n (sym pu ∙ f))),
        )
  ]
  | no pu ↦ elim (ℕ_discrete p c.target) [
    | yes pt ↦ elim (ℕ_discrete q u) [
      | yes qu ↦
          let e : sum (pair p q) ls ≡ 0 = rw (pt, qu) (sum_ext _ _ ls (pair_comm c.target u) ∙ z) in
          omega (arith, e, ones (same_le p c.target) (same_le q u), nought (same p u) (same q c.target) (same_ne p u pu))
      | no qu ↦
          omega (
            arith,
            once p q m,
            mul-zero (same p c.target),
            ap (λ (x : ℕ). same p c.target * x) (same_ne q u qu),
            nought (same p u) (same q c.target) (same_ne p u pu),
          )
    ]
    | no pt ↦ omega (arith, once p q m, nought (same p u) (same q c.target) (same_ne p u pu), nought (same p c.target) (same q u) (same_ne p c.target pt))
  ]
]
  where
    ones : {a b : ℕ} → a ≤ 1 → b ≤ 1 → a * b ≤ 1
    ones h k = mul-le-mul h k

    nought : (a b : ℕ) → a ≡ 0 → a * b ≡ 0
    nought a b e = rw e (omega arith)

-- ---- the other calls
-- no link has an end at x
abbrev pub Untouched : Day → ℕ → Type 0
Untouched s x = (v : ℕ) (c : Cell) → Has s.lists v c → (v ≡ x → ⊥) × (c.target ≡ x → ⊥)

pub untouched : (s : Day) (x : ℕ) → touched s x ≡ false → Untouched s x
untouched s x e v c m =
    let h : same v x + same c.target x ≤ 0 = omega (arith, ltb-false 0 (sum (λ u k. same u x + same k.target x) s.lists) e, sum-mem (λ u k. same u x + same k.target x) s.lists v c m) in
    ((λ f. omega (arith, same_eq v x f)), (λ f. omega (arith, same_eq c.target x f)))

-- the list of any place after one is set to a shorter
pub set_short : (ls : Lists) (u z : ℕ) (l : List Cell) → length l ≤ length (list ls u) → length (list (set ls u l) z) ≤ length (list ls z)
set_short [] u z l h = omega arith
set_short (k ∷ ls) zero zero l h = h
set_short (k ∷ ls) zero (suc z) l h = omega arith
set_short (k ∷ ls) (suc u) zero l h = omega arith
set_short (k ∷ ls) (suc u) (suc z) l h = set_short ls u z l h

module _ (n D : ℕ) (s : Day) (ok : Right n D s) where
  -- a link that stands has its ends at two open places
  pub ends_open : (v : ℕ) (c : Cell) → Has s.lists v c
      → (v < n) × (c.target < n) × (0 < (run_of s v).line) × (0 < (run_of s c.target).line) × (v ≡ c.target → ⊥)
  ends_open v c m =
      let a : outside n v c ≤ 0 = omega (arith, ok.inside, sum-mem (outside n) s.lists v c m) in
      let b : shut s v c ≤ 0 = omega (arith, ok.ended, sum-mem (shut s) s.lists v c m) in
      let d : same v c.target ≤ 0 = omega (arith, ok.unlooped, sum-mem loop s.lists v c m) in
      (omega arith, omega arith, omega arith, omega arith, (λ e. omega (arith, same_eq v c.target e)))

  -- asking reads the number of links between two places
  pub linked_once : (u v : ℕ) → (u ≡ v → ⊥) → yes1 (linked s u v) ≡ sum (pair u v) s.lists
  linked_once u v m = omega (arith, linked_pair s u v, ok.once u v m)

  pub free_untouched : (x : ℕ) → (run_of s x).line ≡ 0 → Untouched s x
  free_untouched x e v c m =
      let t : _ = ends_open v c m in
      ((λ f. omega (arith, t.2, ap (λ (y : ℕ). (run_of s y).line) f)), (λ f. omega (arith, t.3, ap (λ (y : ℕ). (run_of s y).line) f)))

  -- a link taken out of u's list
  pub cut_right : (u v : ℕ) → Right n D (cut s u v)
  cut_right u v =
      let l : List Cell = list s.lists u in
      let l' : List Cell = without (seek v l) l in
      let fewer : (f : Weight) → sum f (set s.lists u l') ≤ sum f s.lists = λ f. set-le f s.lists u l' (without_le (f u) (seek v l) l) in
      record {
        places = ok.places;
        rows = length-set s.lists u l' ∙ ok.rows;
        small = ok.small;
        freed = ok.freed;
        apart = ok.apart;
        short = λ z. omega (arith, ok.short z, set_short s.lists u z l' (omega (arith, without_le (λ c. 1) (seek v l) l, row_sum_one l, row_sum_one l')));
        inside = omega (arith, ok.inside, fewer (outside n));
        unlooped = omega (arith, ok.unlooped, fewer loop);
        ended = omega (arith, ok.ended, fewer (shut s));
        once = λ p q m. omega (arith, ok.once p q m, fewer (pair p q));
      }

  pub unlink_right : (u v : ℕ) → Right n D (do_unlink s u v).after
  unlink_right u v = go (holds v (list s.lists u))
    where
      go : (b : Bool) → let o : Outcome = elim b [ true ↦ done 0 (cut s u v) | false ↦ done 0 (cut s v u) ] in Right n D o.after
      go true = cut_right u v
      go false = cut_right v u

  -- another run at a place that no link touches
  pub rename_right : (x : ℕ) (p : Run) → x < n → Untouched s x → p.line ≤ line_most → (p.line ≡ 0 → p.trip ≡ 0)
      → (0 < p.line → (v : ℕ) → run_of s v ≡ p → ⊥) → Right n D (rename s x p)
  rename_right x p hx un small freed new =
      let at_x : run_of (rename s x p) x ≡ p = get_or-set_same s.runs x p no_run (omega (arith, ok.places)) in
      let at_other : (v : ℕ) → (v ≡ x → ⊥) → run_of (rename s x p) v ≡ run_of s v = λ v m. get_or-set_other s.runs x v p no_run m in
      record {
        places = length-set s.runs x p ∙ ok.places;
        rows = ok.rows;
        small = λ v h. elim (ℕ_discrete v x) [ yes e ↦ rw (e, at_x) small | no m ↦ rw (at_other v m) (ok.small v h) ];
        freed = λ v h. elim (ℕ_discrete v x) [ yes e ↦ rw (e, at_x) freed | no m ↦ rw (at_other v m) (ok.freed v h) ];
        apart = λ u v l e. elim (ℕ_discrete u x) [
          | yes ux ↦ elim (ℕ_discrete v x) [
            | yes vx ↦ ux ∙ sym vx
            | no vx ↦
                let f : run_of (rename s x p) u ≡ p = rw (ux, at_x) refl in
                absurd (new (rw f at l) v (sym (at_other v vx) ∙ sym e ∙ f))
          ]
          | no ux ↦ elim (ℕ_discrete v x) [
            | yes vx ↦
                let f : run_of (rename s x p) v ≡ p = rw (vx, at_x) refl in
                absurd (new (rw (e ∙ f) at l) u (sym (at_other u ux) ∙ e ∙ f))
            | no vx ↦ ok.apart u v (rw (at_other u ux) at l) (sym (at_other u ux) ∙ e ∙ at_other v vx)
          ]
        ];
        short = ok.short;
        inside = ok.inside;
        unlooped = ok.unlooped;
        ended = sum_ext_in (shut (rename s x p)) (shut s) s.lists (λ v c m. rw (at_other v (un v c m).0, at_other c.target (un v c m).1)) ∙ ok.ended;
        once = ok.once;
      }

  -- the day with the new link stands as before, but for the length of u's list
  pub joined_stands : (u v i : ℕ) → u < n → v < n → Ends (Stands n D (joined s u v i)) (run D s u v i)
  joined_stands u v i hu hv =
      let c : Cell = record { index = i; target = v } in
      turning_stands n D (links (joined s u v i)) (joined s u v i) (begun D (joined s u v i) u) (push_length s.lists u c ∙ ok.rows)
      (omega (arith, ok.inside, ok.rows, push_sum (outside n) s.lists u c (omega (arith, ok.rows))))
      (begun_waits D s.lists u c (omega (arith, ok.rows)) (none_waits D s.lists ok.short))

  pub link_right : (u v : ℕ) → u < n → v < n → (u ≡ v → ⊥) → 0 < (run_of s u).line → 0 < (run_of s v).line → sum (pair u v) s.lists ≡ 0
      → (i : ℕ) (fs : List ℕ) → Right n D (link_in D s u v i fs).after
  link_right u v hu hv m lu lv z i fs = link_run (λ a s'. Right n D s') D s u v i fs (go (run D s u v i) (joined_stands u v i hu hv))
    where
      go : (o : Ending) → Ends (Stands n D (joined s u v i)) o → Right n D (ended s fs o).after
      go dense st = ok
      go (settled ls r) st =
          let c : Cell = record { index = i; target = v } in
          let now : (f : Weight) → Even f → sum f ls ≡ sum f s.lists + f u c = λ f ev. st.evens f ev ∙ push_sum f s.lists u c (omega (arith, ok.rows)) in
          record {
            places = ok.places;
            rows = st.rows;
            small = ok.small;
            freed = ok.freed;
            apart = ok.apart;
            short = waits_none D ls st.waits;
            inside = st.inside;
            unlooped = omega (arith, ok.unlooped, now loop (λ a k. same_comm a k.target), same_ne u v m);
            ended = omega (arith, ok.ended, now (shut s) (λ a k. omega arith));
            once = λ p q d. omega (arith, now (pair p q) (pair_even p q), once_more s.lists u c m z ok.once p q d);
          }

  -- a link that no test refuses doesn't stand
  pub new_link : (p q : Run) → first_refusal (tests s (link p q)) ≡ None → Both n s p q × (sum (pair (place_of s p) (place_of s q)) s.lists ≡ 0)
  new_link p q e =
      let u : ℕ = place_of s p in
      let v : ℕ = place_of s q in
      let ts : Tests = (linked s u v, Already) ∷ (eqb (length s.free) 0, NoRoom) ∷ [] in
      let t : Both n s p q × Failed ts = both_named n s ok.places p q ts e in
      let no_link : yes1 (linked s u v) ≡ 0 = ap yes1 t.1.0 in
      (t.0, omega (arith, linked_pair s u v))

  do_link_right : (u v : ℕ) → u < n → v < n → (u ≡ v → ⊥) → 0 < (run_of s u).line → 0 < (run_of s v).line → sum (pair u v) s.lists ≡ 0
      → (fs : List ℕ) → Right n D (do_link D s u v fs).after
  do_link_right u v hu hv m lu lv z [] = ok
  do_link_right u v hu hv m lu lv z (i ∷ fs) = link_right u v hu hv m lu lv z i fs

  pub act_right : (q : Call) → first_refusal (tests s q) ≡ None → Right n D (act D s q).after
  act_right (open_run p) e =
      let f : Failed (tests s (open_run p)) = all_failed (tests s (open_run p)) e in
      let h : lowest s < length s.runs = leb-false _ _ f.1.1.0 in
      let g : (0 < p.line) × (p.line ≤ line_most) = good_line p f.0 in
      rename_right (lowest s) p (omega (arith, ok.places)) (free_untouched (lowest s) (lowest_free s h)) g.1 (λ z. absurd (omega arith)) (λ l. absent s p l f.1.0)
  act_right (close_run p) e =
      let f : Failed (tests s (close_run p)) = all_failed (tests s (close_run p)) e in
      let h : place_of s p < length s.runs = ltb-true _ _ (not-false _ f.1.0) in
      rename_right (place_of s p) no_run (omega (arith, ok.places)) (untouched s (place_of s p) f.1.1.0) (omega arith) (λ z. refl) (λ l. absurd (omega arith))
  act_right (link p q) e =
      let t : Both n s p q × (sum (pair (place_of s p) (place_of s q)) s.lists ≡ 0) = new_link p q e in
      do_link_right (place_of s p) (place_of s q) t.0.place_p t.0.place_q t.0.apart (rw t.0.run_p t.0.line_p) (rw t.0.run_q t.0.line_q) t.1 s.free
  act_right (unlink p q) e = unlink_right (place_of s p) (place_of s q)
  act_right (ask p q) e = ok
  act_right (reading ps) e = ok

-- a call refuses and leaves the day, or none of its tests holds and it acts
pub call_case : (P : Outcome → Type 0) (D : ℕ) (s : Day) (q : Call) → ((why : Refusal) → first_refusal (tests s q) ≡ Some why → P (refused why s))
    → (first_refusal (tests s q) ≡ None → P (act D s q)) → P (call D s q)
call_case P D s q f g = go (first_refusal (tests s q)) refl
  where
    go : (r : Option Refusal) → first_refusal (tests s q) ≡ r → P (unless r s (act D s q))
    go None e = g e
    go (Some why) e = f why e

pub call_right : (n D : ℕ) (s : Day) → Right n D s → (q : Call) → Right n D (call D s q).after
call_right n D s ok q = call_case (λ o. Right n D o.after) D s q (λ why e. ok) (act_right n D s ok q)

-- ---- the empty day
empty_run : (n v : ℕ) → get_or (replicate n no_run) v no_run ≡ no_run
empty_run zero v = refl
empty_run (suc n) zero = refl
empty_run (suc n) (suc v) = empty_run n v

pub empty_list : (n v : ℕ) → list (replicate n []) v ≡ []
empty_list zero v = refl
empty_list (suc n) zero = refl
empty_list (suc n) (suc v) = empty_list n v

pub empty_sum : (f : Weight) (n : ℕ) → sum f (replicate n []) ≡ 0
empty_sum f zero = refl
empty_sum f (suc n) = omega (arith, empty_sum (λ v. f (suc v)) n)

pub empty_right : (n C D : ℕ) → Right n D (empty_day n C)
empty_right n C D = record {
  places = length-replicate n no_run;
  rows = length-replicate n [];
  small = λ v h. rw (empty_run n v) (omega arith);
  freed = λ v h e. ap (λ (r : Run). r.trip) (empty_run n v);
  apart = λ u v l e. absurd (omega (arith, ap (λ (r : Run). r.line) (empty_run n u)));
  short = λ v. rw (empty_list n v) (omega arith);
  inside = empty_sum _ n;
  unlooped = empty_sum _ n;
  ended = empty_sum _ n;
  once = λ p q m. omega (arith, empty_sum (pair p q) n);
}
