-- A list is turned one cell at a time: its first cell is handed over, and what is left to turn is what was left before. So the
-- table is threaded and its day told between any two cells. Assumes nothing.
use Prim.Native.Nat.{ℕ, suc, ◌+◌, ◌<◌}
use mathlib.Core.List.{List, [], ◌∷◌}
use mathlib.Core.Path.{◌≡◌, sym, ap, ◌∙◌}
use native.Mathlib.Omega.{arith}
use lib.ListN.{length, set, length-set}
use lib.Seq.{get_or-set_same, get_or-set_other, set-set, set_comm, set-get_or}
use Rattle.meaning.specs.Cells.{Cell, Lists, Weight, list, push, bare, aimed, sum, row_sum}
use Rattle.meaning.specs.Turning.{over, put, hand_all, turn}
use Rattle.meaning.proofs.Sums.{Even, push_sum, sum-set}
use Rattle.meaning.proofs.Waiting.{push_list}

-- no cell is left to turn
pub turn_none : (D w : ℕ) (L : Lists) (st : List ℕ) → list L w ≡ [] → turn D w L st ≡ record { lists = L; waiting = st }
unfolding hand_all
turn_none D w L st e = rw e (ap (λ (x : Lists). record { lists = x; waiting = st }) (ap (λ (l : List Cell). set L w l) (sym e) ∙ set-get_or L w []))

-- the first cell c of w's list is handed over to its target; l is what is left of the list
abbrev pub handed : ℕ → Cell → List Cell → Lists → Lists
handed w c l L = push (set L w l) c.target (aimed c w)

module _ (D w : ℕ) (c : Cell) (l : List Cell) (L : Lists) (hw : w < length L) (hx : c.target < length L) (d : w ≡ c.target → ⊥) (e : list L w ≡ c ∷ l) where
  d' : c.target ≡ w → ⊥
  d' q = d (sym q)

  pub handed_length : length (handed w c l L) ≡ length L
  handed_length = length-set (set L w l) c.target _ ∙ length-set L w l

  pub handed_list : list (handed w c l L) w ≡ l
  handed_list = get_or-set_other (set L w l) c.target w _ [] d ∙ get_or-set_same L w l [] hw

  -- the target's list has one cell more, whether or not w's list was emptied first
  kept_row : (k : List Cell) → list (set L w k) c.target ≡ list L c.target
  kept_row k = get_or-set_other L w c.target k [] d'

  pub handed_target : (k : List Cell) → length (list (push (set L w k) c.target (aimed c w)) c.target) ≡ suc (length (list L c.target))
  handed_target k = ap length (push_list (set L w k) c.target (aimed c w) (rw length-set hx)) ∙ ap (λ (r : List Cell). suc (length r)) (kept_row k)

  pub handed_bare : bare (handed w c l L) w ≡ push (bare L w) c.target (aimed c w)
  handed_bare =
      rw (kept_row l, kept_row [])
      (set_comm (set L w l) c.target w (aimed c w ∷ list L c.target) [] d'
      ∙ ap (λ (x : Lists). set x c.target (aimed c w ∷ list L c.target)) (set-set L w l []))

  pub handed_even : (f : Weight) → Even f → sum f (handed w c l L) ≡ sum f L
  handed_even f ev =
      let a : row_sum (f w) (list L w) ≡ f w c + row_sum (f w) l = ap (row_sum (f w)) e in
      omega (arith, push_sum f (set L w l) c.target (aimed c w) (rw length-set hx), sum-set f L w l hw, ev w c)

  pub handed_turn : (st : List ℕ) → turn D w (handed w c l L) (put (over D (handed w c l L) c.target) c.target st) ≡ turn D w L st
  unfolding hand_all
  handed_turn st =
      let a : length (list (handed w c l L) c.target) ≡ length (list (push (bare L w) c.target (aimed c w)) c.target) = handed_target l ∙ sym (handed_target []) in
      rw (handed_list, e, handed_bare, a)
