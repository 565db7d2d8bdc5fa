-- One cell of a turned list goes over: which cell, whither, and that what is left of the turn comes to the same. The waiting
-- table is never overrun. Assumes nothing.
use Prim.Native.Nat.{ℕ, zero, suc, ◌+◌, ◌-◌, ◌^◌, ◌≤◌, ◌<◌}
use mathlib.Core.Bool.{true, false}
use mathlib.Core.List.{List, [], ◌∷◌, Memᴰ}
use mathlib.Core.Path.{◌≡◌, refl, sym, ap, ap₂, subst, ◌∙◌}
use native.Mathlib.Omega.{arith}
use native.Mathlib.Numerals.{add-one}
use lib.ListN.{length, length-set}
use borrow.Author.Tests.{eq-eqb, ne_eqb}
use Rattle.meaning.specs.Cells.{Cell, Lists, list, push, bare, aimed}
use Rattle.meaning.specs.Table.{word, written, head_of, length_of, target_of, next_of}
use Rattle.meaning.specs.Turning.{over, put, turn}
use Rattle.meaning.specs.Day.{Day, day_of, cells, cells_of}
use Rattle.meaning.proofs.Same.{same_comm, same_eq}
use Rattle.meaning.proofs.Effects.{day_list, turning_moves, turning_day}
use Rattle.meaning.proofs.Handing.{handed, handed_target, handed_bare, handed_even, handed_turn}
use Rattle.meaning.proofs.Lists.{each_length}
use Rattle.meaning.proofs.Moved.{Moves}
use Rattle.meaning.proofs.Right.{outside, loop}
use Rattle.meaning.proofs.Steps.{nth, moved}
use Rattle.meaning.proofs.Sums.{Has, sum-mem, outside_even}
use Rattle.meaning.proofs.Threaded.{Threaded, cell_inside, list_length}
use Rattle.meaning.proofs.Waiting.{Waits, hand_waits, hand_room}
use Rattle.meaning.proofs.Words.{written_length, word_same, word_other}
use Rattle.lists.specs.Cell.{Shifts, Front}
use Rattle.lists.specs.Turning.{stack_of, lists_of, Linked, Walking, Beside, Handed}
use Rattle.find.specs.declared.Spot.{Spot}
use Rattle.lists.proofs.Shifting.{front_spot}

-- ---- the waiting table as a list
pub stack_length : (ws : List ℕ) (k : ℕ) → length (stack_of ws k) ≡ k
unfolding stack_of
stack_length ws zero = refl
stack_length ws (suc k) = ap suc (stack_length ws k)

stack_beyond : (ws : List ℕ) (k i x : ℕ) → k ≤ i → stack_of (written ws i x) k ≡ stack_of ws k
unfolding stack_of
stack_beyond ws zero i x h = refl
stack_beyond ws (suc k) i x h =
    let a : word (written ws i x) k ≡ word ws k = word_other ws i k x (λ e. omega arith) in
    let b : stack_of (written ws i x) k ≡ stack_of ws k = stack_beyond ws k i x (omega arith) in
    cc

pub stack_put : (ws : List ℕ) (k x : ℕ) → k < length ws → stack_of (written ws k x) (k + 1) ≡ x ∷ stack_of ws k
unfolding stack_of
stack_put ws k x h =
    let a : word (written ws k x) k ≡ x = word_same ws k x h in
    let b : stack_of (written ws k x) k ≡ stack_of ws k = stack_beyond ws k k x (omega arith) in
    rw (add-one k) (cc)

pub stack_take : (ws : List ℕ) (k : ℕ) → (k ≡ 0 → ⊥) → stack_of ws k ≡ word ws (k - 1) ∷ stack_of ws (k - 1)
unfolding stack_of
stack_take ws zero h = absurd (h refl)
stack_take ws (suc k) h = let e : suc k - 1 ≡ k = omega arith in rw e

-- a list's first cell
cells_front : (n C : ℕ) (w : List ℕ) (m x : ℕ) → 0 < m → cells n C w m x ≡ record { index = x; target = target_of n C w x } ∷ cells n C w (m - 1) (next_of n C w x)
unfolding cells
cells_front n C w zero x h = absurd (omega arith)
cells_front n C w (suc m) x h = let e : suc m - 1 ≡ m = omega arith in rw e

module _ (n C D w : ℕ) (s ws : List ℕ) (top : ℕ) (q : Walking n C D w s ws top) (some : 0 < length_of n C s w) where
  T : Threaded n C s
  T = q.linked.threaded

  L : Lists
  L = lists_of n C s

  c : Cell
  c = record { index = head_of n C s w; target = target_of n C s (head_of n C s w) }

  l : List Cell
  l = cells n C s (length_of n C s w - 1) (next_of n C s (head_of n C s w))

  row : list L w ≡ c ∷ l
  unfolding L c l
  row = day_list n C s w q.place ∙ cells_front n C s (length_of n C s w) (head_of n C s w) some

  stands : Has L w c
  stands = rw row (Memᴰ.head refl)

  x_in : c.target < n
  unfolding L
  x_in = omega (arith, q.linked.inside, sum-mem (outside n) L w c stands)

  x_other : w ≡ c.target → ⊥
  unfolding L
  x_other e = omega (arith, q.linked.unlooped, sum-mem loop L w c stands, same_eq w c.target e)

  rows : length L ≡ n
  unfolding L
  rows = each_length n (cells_of n C s)

  first_in : head_of n C s w < C
  unfolding nth
  first_in = cell_inside n C s T w (omega (arith, q.place)) 0 some

  module _ (k : Spot) (f : Front k n C s w) where
    cell_is : k.cell ≡ head_of n C s w
    unfolding nth
    cell_is = f.cell

    pub hand_cell : k.cell < C
    hand_cell = rw cell_is first_in

    module _ (x : ℕ) (ex : x ≡ target_of n C s k.cell) where
      x_is : x ≡ c.target
      unfolding c
      x_is = ex ∙ ap (target_of n C s) cell_is

      pub hand_shift : Shifts n C s k x w
      hand_shift = record {
        threaded = T;
        from = rw f.list (omega (arith, q.place));
        to = rw x_is (omega (arith, x_in));
        other = λ e. x_other (sym f.list ∙ (e ∙ x_is));
        spot = front_spot k n C s w f some;
        word = omega (arith, q.place, T.room.places_at_most);
      }

      -- the table with the cell gone over
      module _ (s' : List ℕ) (es : s' ≡ moved n C s k.list k.position x w) where
        s_is : s' ≡ moved n C s w 0 c.target w
        s_is =
            es
            ∙ (ap (λ (u : ℕ). moved n C s u k.position x w) f.list
            ∙ (ap (λ (p : ℕ). moved n C s w p x w) f.position ∙ ap (λ (y : ℕ). moved n C s w 0 y w) x_is))

        M : Moves n C s w 0 c.target w s'
        unfolding L c l
        M = rw s_is (turning_moves n C s T w c.target w c l q.place x_in x_other row)

        day : day_of n C s' ≡ record { runs = (day_of n C s).runs; lists = handed w c l L; free = (day_of n C s).free }
        unfolding L c l
        day = rw s_is (turning_day n C s T w c.target w c l q.place x_in x_other row)

        lists' : lists_of n C s' ≡ handed w c l L
        lists' = ap (λ (d : Day). d.lists) day

        hw : w < length L
        hw = rw rows q.place

        hx : c.target < length L
        hx = rw rows x_in

        linked' : Linked n C D s'
        unfolding L
        linked' = record {
          threaded = M.threaded;
          limit = q.linked.limit;
          inside = rw lists' (handed_even D w c l L hw hx x_other row (outside n) (outside_even n) ∙ q.linked.inside);
          unlooped = rw lists' (handed_even D w c l L hw hx x_other row loop (λ v e. same_comm v e.target) ∙ q.linked.unlooped);
        }

        beside' : Beside n C s s'
        beside' = record { runs = ap (λ (d : Day). d.runs) day; free = ap (λ (d : Day). d.free) day }

        waits' : Waits D (bare (lists_of n C s') w) (put (over D (handed w c l L) c.target) c.target (stack_of ws top))
        unfolding L
        waits' =
            rw (lists', handed_bare D w c l L hw hx x_other row, handed_target D w c l L hw hx x_other row l ∙ sym (handed_target D w c l L hw hx x_other row []))
            (hand_waits D w c (record { lists = bare L w; waiting = stack_of ws top }) (rw length-set hx) q.waits)

        -- its length is that of the day's list, and one more
        count_x : length (list (handed w c l L) c.target) ≡ length_of n C s c.target + 1
        unfolding L
        count_x =
            handed_target D w c l L hw hx x_other row l
            ∙ (ap (λ (r : List Cell). suc (length r)) (day_list n C s c.target x_in) ∙ (ap suc (list_length n C s T c.target (omega (arith, x_in))) ∙ sym (add-one _)))

        module _ (many : ℕ) (em : many ≡ length_of n C s x + 1) where
          many_is : length (list (handed w c l L) c.target) ≡ many
          many_is = count_x ∙ sym (em ∙ ap (λ (z : ℕ). length_of n C s z + 1) x_is)

          over_yes : many ≡ D + 1 → over D (handed w c l L) c.target ≡ true
          over_yes h = eq-eqb (length (list (handed w c l L) c.target)) (D + 1) (many_is ∙ h)

          over_no : (many ≡ D + 1 → ⊥) → over D (handed w c l L) c.target ≡ false
          over_no h = ne_eqb (length (list (handed w c l L) c.target)) (D + 1) (λ e. h (sym many_is ∙ e))

          pub hand_fits : many ≡ D + 1 → (top < length ws) × (x < 2 ^ 32)
          unfolding L
          hand_fits h =
              let a : over D (push (bare L w) c.target (aimed c w)) c.target ≡ true =
              rw (handed_target D w c l L hw hx x_other row [] ∙ sym (handed_target D w c l L hw hx x_other row l)) (over_yes h) in
              let b : length (stack_of ws top) < n = hand_room D w n c (record { lists = bare L w; waiting = stack_of ws top }) (length-set L w [] ∙ rows) x_in q.waits a in
              (rw (q.room, ← stack_length ws top) b, omega (arith, x_is, x_in, T.room.places_at_most))

          pub hand_waiting : (ws' : List ℕ) → many ≡ D + 1 → ws' ≡ written ws top x → Handed n C D w s ws top s' ws' (top + 1)
          unfolding L
          hand_waiting ws' h ew =
              let b : stack_of ws' (top + 1) ≡ put (over D (handed w c l L) c.target) c.target (stack_of ws top) =
              rw (over_yes h, ew, x_is) (stack_put ws top c.target (hand_fits h).0) in
              record {
                walking = record { linked = linked'; room = ap length ew ∙ (written_length ws top x ∙ q.room); place = q.place; waits = rw b waits' };
                fewer = M.from_count;
                same = rw (lists', b) (handed_turn D w c l L hw hx x_other row (stack_of ws top));
                beside = beside';
              }

          pub hand_passing : (many ≡ D + 1 → ⊥) → Handed n C D w s ws top s' ws top
          unfolding L
          hand_passing h =
              let b : stack_of ws top ≡ put (over D (handed w c l L) c.target) c.target (stack_of ws top) = rw (over_no h) in
              record {
                walking = record { linked = linked'; room = q.room; place = q.place; waits = subst (λ (st : List ℕ). Waits D (bare (lists_of n C s') w) st) (sym b) waits' };
                fewer = M.from_count;
                same = ap₂ (λ (ls : Lists) (st : List ℕ). turn D w ls st) lists' b ∙ handed_turn D w c l L hw hx x_other row (stack_of ws top);
                beside = beside';
              }
