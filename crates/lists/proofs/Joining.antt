-- Linking two places: the cell that is added, whether turning begins, and what each case leaves. Assumes nothing.
use Prim.Native.Nat.{ℕ, suc, ◌+◌, ◌≤◌, ◌<◌}
use mathlib.Core.Bool.{Bool, true, false}
use mathlib.Core.List.{List, [], ◌∷◌}
use mathlib.Core.Path.{◌≡◌, refl, sym, ap, subst, ◌∙◌}
use native.Mathlib.Omega.{arith}
use native.Mathlib.Numerals.{add-one}
use lib.ListN.{length, replicate}
use borrow.Author.Tests.{eq-eqb, ne_eqb}
use Rattle.std.specs.Prelude.{Result, Ok, Err}
use Rattle.terms.specs.declared.refusal.Refusal.{Refusal}
use Rattle.terms.specs.declared.refusal.Refusal.TheVariants.{NoRoom, TooDense}
use Rattle.meaning.specs.Cells.{Cell, Lists, list, push, links}
use Rattle.meaning.specs.Table.{head_of, length_of}
use Rattle.meaning.specs.Turning.{over, put, Ending, turning}
use Rattle.meaning.specs.Day.{Day, day_of, cells_of}
use Rattle.meaning.specs.Calls.{Outcome, ended, link_in, do_link}
use Rattle.meaning.proofs.Same.{same_ne}
use Rattle.meaning.proofs.Counts.{links_count}
use Rattle.meaning.proofs.Crossing.{sound_right}
use Rattle.meaning.proofs.Effects.{same_day, day_list, free_first, free_length, link_moves, link_day}
use Rattle.meaning.proofs.Lists.{each_length}
use Rattle.meaning.proofs.Right.{Right, outside, loop}
use Rattle.meaning.proofs.Steps.{moved}
use Rattle.meaning.proofs.Sums.{push_sum}
use Rattle.meaning.proofs.Threaded.{Threaded, sound_threaded, list_length}
use Rattle.meaning.proofs.Turnings.{begun_waits}
use Rattle.meaning.proofs.Waiting.{Waits, none_waits, push_list}
use Rattle.lists.specs.Cell.{Shifts, Front}
use Rattle.lists.specs.Turning.{lists_of, Begins, Ends}
use Rattle.lists.specs.Join.{Settling, Settles, Joins, joining, Joined}
use Rattle.find.specs.declared.Spot.{Spot}
use Rattle.lists.proofs.Shifting.{front_spot}

-- ---- adding the cell
-- ---- settling
module _ (n C D u : ℕ) (s spare waiting : List ℕ) (q : Settling n C D u s spare waiting) (m : ℕ) (m-is : m ≡ links (lists_of n C s)) where
  pub settle_begins : Begins n C D m u s waiting
  settle_begins = record { linked = q.linked; room = q.waiting_long; place = q.place; most = omega (arith, m-is, links_count n C s q.linked.threaded); waits = q.waits }

  -- the two ways out: what stands in store and waiting
  module _ (r : Result ℕ Refusal) (s' wt wt' : List ℕ) (en : Ends r n C D m u s s') (long : length wt ≡ n) (z : wt' ≡ replicate (length wt) 0) where
    zeros : wt' ≡ replicate n 0
    zeros = z ∙ ap (λ (k : ℕ). replicate k 0) long

    pub settle_done : (k : ℕ) → r ≡ Ok k → Settles (Ok k) n C D u s spare s' wt'
    settle_done k g =
        let h : Ends (Ok k) n C D m u s s' = subst (λ (x : Result ℕ Refusal). Ends x n C D m u s s') g en in
        (rw m-is at h.0, h.1, h.2, zeros)

    pub settle_dense : (why : Refusal) (s'' : List ℕ) → r ≡ Err why → s'' ≡ spare → Settles (Err why) n C D u s spare s'' wt'
    settle_dense why s'' g h =
        let a : Ends (Err why) n C D m u s s' = subst (λ (x : Result ℕ Refusal). Ends x n C D m u s s') g en in
        (a.0, rw m-is at a.1, h, zeros)

-- ---- the whole
module _ (n C D u v : ℕ) (w spare waiting : List ℕ) (q : Joins n C D u v w spare waiting) where
  T : Threaded n C w
  T = sound_threaded n C D w q.sound

  R : Right n D (day_of n C w)
  R = sound_right n C D w q.sound

  count_u : length (list (lists_of n C w) u) ≡ length_of n C w u
  count_u = ap length (day_list n C w u q.first) ∙ list_length n C w T u (omega (arith, q.first))

  rows : length (lists_of n C w) ≡ n
  rows = each_length n (cells_of n C w)

  none_free : (l : List ℕ) → length l ≡ 0 → (do_link D (day_of n C w) u v l).answer ≡ Err NoRoom
  none_free [] h = refl
  none_free (i ∷ l) h = absurd (omega arith)

  none_day : (l : List ℕ) → length l ≡ 0 → (do_link D (day_of n C w) u v l).after ≡ day_of n C w
  none_day [] h = refl
  none_day (i ∷ l) h = absurd (omega arith)

  none_began : (l : List ℕ) → length l ≡ 0 → (do_link D (day_of n C w) u v l).began ≡ false
  none_began [] h = refl
  none_began (i ∷ l) h = absurd (omega arith)

  pub join_full : (free : ℕ) → free ≡ length_of n C w n → free ≡ 0 → Joined n C D u v w spare waiting (Err NoRoom) w spare waiting
  join_full free e z =
      let h : length (day_of n C w).free ≡ 0 = free_length n C w ∙ (sym e ∙ z) in
      record {
        answer = sym (none_free (day_of n C w).free h);
        threaded = T;
        day = sym (none_day (day_of n C w).free h);
        spared = rw (none_began (day_of n C w).free h);
        waited = rw (none_began (day_of n C w).free h);
      }

  module _ (free : ℕ) (ef : free ≡ length_of n C w n) (some : free ≡ 0 → ⊥) where
    i : ℕ
    i = head_of n C w n

    some' : 0 < length_of n C w n
    some' = omega (arith, some)

    fs : List ℕ
    fs = (free_first n C w some').0

    free_is : (day_of n C w).free ≡ i ∷ fs
    unfolding i fs
    free_is = (free_first n C w some').1

    c : Cell
    c = record { index = i; target = v }

    L : Lists
    L = push (lists_of n C w) u c

    joining_is : joining n C D u v w ≡ link_in D (day_of n C w) u v i fs
    joining_is = ap (do_link D (day_of n C w) u v) free_is

    added : Day
    added = record { runs = (day_of n C w).runs; lists = L; free = fs }

    count_L : length (list L u) ≡ length_of n C w u + 1
    unfolding L
    count_L = ap length (push_list (lists_of n C w) u c (rw rows q.first)) ∙ (ap suc count_u ∙ sym (add-one _))

    module _ (s : List ℕ) (es : s ≡ moved n C w n 0 u v) where
      s_threaded : Threaded n C s
      s_threaded = rw es (link_moves n C w T u v i fs q.first free_is).threaded

      s_day : day_of n C s ≡ added
      unfolding added L c
      s_day = rw es (link_day n C w T u v i fs q.first free_is)

      s_lists : lists_of n C s ≡ L
      unfolding added
      s_lists = ap (λ (d : Day). d.lists) s_day

      -- the list stays within the limit
      pub join_short : (many : ℕ) → many ≡ length_of n C w u → many < D → Joined n C D u v w spare waiting (Ok 0) s spare waiting
      unfolding added L c
      join_short many em h =
          let o : over D L u ≡ false = ne_eqb (length (list L u)) (D + 1) (λ e. omega (arith, count_L)) in
          let j : joining n C D u v w ≡ record { answer = Ok 0; after = added; began = false } = joining_is ∙ rw (link_in, o) in
          record {
            answer = sym (ap (λ (x : Outcome). x.answer) j);
            threaded = s_threaded;
            day = s_day ∙ sym (ap (λ (x : Outcome). x.after) j);
            spared = rw j;
            waited = rw j;
          }

      module _ (many : ℕ) (em : many ≡ length_of n C w u) (h : D ≤ many) (copied : List ℕ) (ec : copied ≡ w) where
        is_over : over D L u ≡ true
        is_over = eq-eqb (length (list L u)) (D + 1) (omega (arith, count_L, R.short u, count_u))

        joining_turns : joining n C D u v w ≡ ended (day_of n C w) fs (turning D (links L) L (u ∷ []) 0)
        unfolding L c
        joining_turns = joining_is ∙ rw (link_in, is_over)

        pub join_settling : Settling n C D u s copied waiting
        unfolding L c
        join_settling = record {
          linked = record {
            threaded = s_threaded;
            limit = q.sound.sized.limit.most;
            inside = rw s_lists (omega (arith, push_sum (outside n) (lists_of n C w) u c (rw rows q.first), R.inside, q.first, q.second));
            unlooped = rw s_lists (omega (arith, push_sum loop (lists_of n C w) u c (rw rows q.first), R.unlooped, same_ne u v q.apart));
          };
          spare_long = ap length ec ∙ q.sound.sized.long;
          waiting_long = q.waiting_long;
          place = q.first;
          waits =
              subst (λ (ls : Lists). Waits D ls (u ∷ [])) (sym s_lists)
              (subst (λ (b : Bool). Waits D L (put b u [])) is_over (begun_waits D (lists_of n C w) u c (rw rows q.first) (none_waits D (lists_of n C w) R.short)));
        }

        module _ (x : Result ℕ Refusal) (s' wt' : List ℕ) (st : Settles x n C D u s copied s' wt') where
          turned_L : (e : Ending) → turning D (links (lists_of n C s)) (lists_of n C s) (u ∷ []) 0 ≡ e → turning D (links L) L (u ∷ []) 0 ≡ e
          turned_L e k = subst (λ (ls : Lists). turning D (links ls) ls (u ∷ []) 0 ≡ e) s_lists k

          pub join_settled : (r : ℕ) → x ≡ Ok r → Joined n C D u v w spare waiting (Ok r) s' copied wt'
          unfolding added
          join_settled r g =
              let a : Settles (Ok r) n C D u s copied s' wt' = subst (λ (y : Result ℕ Refusal). Settles y n C D u s copied s' wt') g st in
              let j : joining n C D u v w ≡ record { answer = Ok r; after = record { runs = (day_of n C w).runs; lists = lists_of n C s'; free = fs }; began = true }
              = joining_turns ∙ ap (ended (day_of n C w) fs) (turned_L _ a.0) in
              record {
                answer = sym (ap (λ (y : Outcome). y.answer) j);
                threaded = a.1;
                day = same_day (day_of n C s') _ (a.2.runs ∙ ap (λ (d : Day). d.runs) s_day) refl (a.2.free ∙ ap (λ (d : Day). d.free) s_day)
                    ∙ sym (ap (λ (y : Outcome). y.after) j);
                spared = rw (j, ec);
                waited = rw (j, a.3);
              }

          pub join_dense : (why : Refusal) → x ≡ Err why → Joined n C D u v w spare waiting (Err why) s' copied wt'
          join_dense why g =
              let a : Settles (Err why) n C D u s copied s' wt' = subst (λ (y : Result ℕ Refusal). Settles y n C D u s copied s' wt') g st in
              let j : joining n C D u v w ≡ record { answer = Err TooDense; after = day_of n C w; began = true } = joining_turns ∙ ap (ended (day_of n C w) fs) (turned_L _ a.1) in
              let e : s' ≡ w = a.2 ∙ ec in
              record {
                answer = rw a.0 (sym (ap (λ (y : Outcome). y.answer) j));
                threaded = rw e T;
                day = ap (day_of n C) e ∙ sym (ap (λ (y : Outcome). y.after) j);
                spared = rw (j, ec);
                waited = rw (j, a.3);
              }
