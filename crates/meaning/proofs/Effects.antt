-- What a step on the words does to the day: link takes the first free cell, turning moves a place's first cell, unlink gives a
-- cell back, and a place gets another run. Assumes a threaded table.
use Prim.Native.Nat.{ℕ, zero, suc, ◌-◌, ◌<◌}
use mathlib.Core.List.{List, [], ◌∷◌, map}
use mathlib.Core.Path.{◌≡◌, refl, sym, ap, ◌∙◌}
use native.Mathlib.Omega.{arith}
use native.Mathlib.Numerals.{sub-one}
use lib.ListN.{length, get_or, set, length-map}
use lib.Seq.{get_or-set_other}
use Rattle.meaning.specs.Table.{NONE, head_of, length_of, next_of}
use Rattle.meaning.specs.Cells.{Cell, list, push, without, seek}
use Rattle.meaning.specs.Day.{Day, cells, cells_of, day_of}
use Rattle.meaning.specs.Calls.{cut}
use Rattle.meaning.proofs.Lists.{each_same, each_at}
use Rattle.meaning.proofs.Entries.{each_set, each_set_two, map_without}
use Rattle.meaning.proofs.Steps.{cell_at, moved, SameRun}
use Rattle.meaning.proofs.Walks.{nth_zero, standing, cells_length, cells_at}
use Rattle.meaning.proofs.Threaded.{Threaded}
use Rattle.meaning.proofs.Moved.{Moves, moves}

pub same_day : (s s' : Day) → s.runs ≡ s'.runs → s.lists ≡ s'.lists → s.free ≡ s'.free → s ≡ s'
same_day s s' p q r = λ i. record { runs = p i; lists = q i; free = r i }

-- the list of a place, and the index of the k-th cell in it
pub day_list : (n C : ℕ) (w : List ℕ) (v : ℕ) → v < n → list (day_of n C w).lists v ≡ cells_of n C w v
day_list n C w v h = each_at n (cells_of n C w) [] v h

same_runs : (n C : ℕ) (w w' : List ℕ) → ((z : ℕ) → z < n → SameRun n C w w' z) → (day_of n C w').runs ≡ (day_of n C w).runs
same_runs n C w w' h = each_same n _ _ (λ z p. λ i. record { line = (h z p).line i; trip = (h z p).number i })

module _ (n C : ℕ) (w : List ℕ) where
  pub free_length : length (day_of n C w).free ≡ length_of n C w n
  free_length = length-map (cells_of n C w n) (λ c. c.index) ∙ cells_length n C w (length_of n C w n) (head_of n C w n)

  -- where there is a free cell, the free list's head is the first
  free_from : (m x : ℕ) → 0 < m → map (λ c. c.index) (cells n C w m x) ≡ x ∷ map (λ c. c.index) (cells n C w (m - 1) (next_of n C w x))
  unfolding cells
  free_from zero x h = absurd (omega arith)
  free_from (suc m) x h = rw (sub-one (suc m))

  pub free_first : 0 < length_of n C w n → (fs : List ℕ) × ((day_of n C w).free ≡ head_of n C w n ∷ fs)
  free_first h = (map (λ c. c.index) (cells n C w (length_of n C w n - 1) (next_of n C w (head_of n C w n))), free_from (length_of n C w n) (head_of n C w n) h)

  pub free_head : (i : ℕ) (fs : List ℕ) → (day_of n C w).free ≡ i ∷ fs → head_of n C w n ≡ i
  free_head i fs e =
      let h : 0 < length_of n C w n = omega (arith, free_length, ap length e) in
      let g : (day_of n C w).free ≡ head_of n C w n ∷ (free_first h).0 = (free_first h).1 in
      cc

-- the k-th cell of a place's list
pub day_cell : (n C : ℕ) (w : List ℕ) (v k : ℕ) (d : Cell) → v < n → k < length_of n C w v
    → get_or (list (day_of n C w).lists v) k d ≡ standing n C w (cell_at n C w v k)
day_cell n C w v k d hv hk = rw (day_list n C w v hv) (cells_at n C w (length_of n C w v) (head_of n C w v) d k hk)

-- a list's first cell
first_cell : (n C : ℕ) (w : List ℕ) (v : ℕ) (c : Cell) (l : List Cell) → v < n → list (day_of n C w).lists v ≡ c ∷ l
    → (0 < length_of n C w v) × (cell_at n C w v 0 ≡ c.index)
first_cell n C w v c l hv e =
    let f : cells_of n C w v ≡ c ∷ l = sym (day_list n C w v hv) ∙ e in
    let h : 0 < length_of n C w v = omega (arith, ap length f, cells_length n C w (length_of n C w v) (head_of n C w v)) in
    let g : standing n C w (cell_at n C w v 0) ≡ c = sym (cells_at n C w (length_of n C w v) (head_of n C w v) c 0 h) ∙ ap (λ m. get_or m 0 c) f in
    (h, ap (λ x. x.index) g)

module _ (n C : ℕ) (w w' : List ℕ) where
  -- link: the first free cell goes to the front of a's list with target t
  pub link_effect : (a t i : ℕ) (fs : List ℕ) → Moves n C w n 0 a t w' → a < n → (day_of n C w).free ≡ i ∷ fs
      → day_of n C w' ≡ record { runs = (day_of n C w).runs; lists = push (day_of n C w).lists a (record { index = i; target = t }); free = fs }
  link_effect a t i fs M ha e =
      let x : cell_at n C w n 0 ≡ i = nth_zero n C w (head_of n C w n) ∙ free_head n C w i fs e in
      let y : cells_of n C w' a ≡ record { index = i; target = t } ∷ list (day_of n C w).lists a = rw (day_list n C w a ha, ← x) M.to_cells in
      same_day (day_of n C w') (record { runs = (day_of n C w).runs; lists = push (day_of n C w).lists a (record { index = i; target = t }); free = fs })
      (same_runs n C w w' M.run)
      (each_set n (cells_of n C w) (cells_of n C w') a _ ha y (λ z p q. M.other_cells z (omega arith) (λ b. omega arith) q))
      (ap (map (λ c. c.index)) M.from_cells ∙ (map_without (λ c. c.index) 0 (cells_of n C w n) ∙ ap (without 0) e))

  -- turning: the first cell of u's list goes to the front of v's with target t
  pub turning_effect : (u v t : ℕ) (c : Cell) (l : List Cell) → Moves n C w u 0 v t w' → u < n → v < n → (u ≡ v → ⊥) → list (day_of n C w).lists u ≡ c ∷ l
      → day_of n C w' ≡ record {
        runs = (day_of n C w).runs;
        lists = push (set (day_of n C w).lists u l) v (record { index = c.index; target = t });
        free = (day_of n C w).free;
      }
  turning_effect u v t c l M hu hv d e =
      let x : cell_at n C w u 0 ≡ c.index = (first_cell n C w u c l hu e).1 in
      let vu : v ≡ u → ⊥ = λ q. d (sym q) in
      let r : list (set (day_of n C w).lists u l) v ≡ cells_of n C w v = get_or-set_other (day_of n C w).lists u v l [] vu ∙ day_list n C w v hv in
      let y : cells_of n C w' v ≡ record { index = c.index; target = t } ∷ list (set (day_of n C w).lists u l) v = rw (r, ← x) M.to_cells in
      let s : cells_of n C w' u ≡ l = M.from_cells ∙ ap (without 0) (sym (day_list n C w u hu) ∙ e) in
      same_day (day_of n C w') (record {
        runs = (day_of n C w).runs;
        lists = push (set (day_of n C w).lists u l) v (record { index = c.index; target = t });
        free = (day_of n C w).free;
      })
      (same_runs n C w w' M.run)
      (each_set_two n (cells_of n C w) (cells_of n C w') u v l _ hu hv d s y (λ z p a b. M.other_cells z (omega arith) a b))
      (ap (map (λ c. c.index)) (M.other_cells n (omega arith) (λ q. omega arith) (λ q. omega arith)))

  -- unlink: the k-th cell of u's list goes to the front of the free list
  pub unlink_effect : (u k : ℕ) → Moves n C w u k n NONE w' → u < n
      → day_of n C w' ≡ record {
        runs = (day_of n C w).runs;
        lists = set (day_of n C w).lists u (without k (list (day_of n C w).lists u));
        free = cell_at n C w u k ∷ (day_of n C w).free;
      }
  unlink_effect u k M hu =
      let s : cells_of n C w' u ≡ without k (list (day_of n C w).lists u) = rw (day_list n C w u hu) M.from_cells in
      same_day (day_of n C w') (record {
        runs = (day_of n C w).runs;
        lists = set (day_of n C w).lists u (without k (list (day_of n C w).lists u));
        free = cell_at n C w u k ∷ (day_of n C w).free;
      })
      (same_runs n C w w' M.run)
      (each_set n (cells_of n C w) (cells_of n C w') u _ hu s (λ z p q. M.other_cells z (omega arith) q (λ b. omega arith)))
      (ap (map (λ c. c.index)) M.to_cells)

-- the same of the words that the steps write
module _ (n C : ℕ) (w : List ℕ) (T : Threaded n C w) where
  pub link_moves : (a t i : ℕ) (fs : List ℕ) → a < n → (day_of n C w).free ≡ i ∷ fs → Moves n C w n 0 a t (moved n C w n 0 a t)
  link_moves a t i fs ha e =
      let h : 0 < length_of n C w n = omega (arith, free_length n C w, ap length e) in
      moves n C w n 0 a t T (omega arith) (omega arith) (λ q. omega arith) h (λ q. absurd (omega arith))

  pub link_day : (a t i : ℕ) (fs : List ℕ) → a < n → (day_of n C w).free ≡ i ∷ fs
      → day_of n C (moved n C w n 0 a t) ≡ record { runs = (day_of n C w).runs; lists = push (day_of n C w).lists a (record { index = i; target = t }); free = fs }
  link_day a t i fs ha e = link_effect n C w (moved n C w n 0 a t) a t i fs (link_moves a t i fs ha e) ha e

  pub turning_moves : (u v t : ℕ) (c : Cell) (l : List Cell) → u < n → v < n → (u ≡ v → ⊥) → list (day_of n C w).lists u ≡ c ∷ l
      → Moves n C w u 0 v t (moved n C w u 0 v t)
  turning_moves u v t c l hu hv d e = moves n C w u 0 v t T (omega arith) (omega arith) d (first_cell n C w u c l hu e).0 (λ q. absurd (omega arith))

  pub turning_day : (u v t : ℕ) (c : Cell) (l : List Cell) → u < n → v < n → (u ≡ v → ⊥) → list (day_of n C w).lists u ≡ c ∷ l
      → day_of n C (moved n C w u 0 v t) ≡ record {
        runs = (day_of n C w).runs;
        lists = push (set (day_of n C w).lists u l) v (record { index = c.index; target = t });
        free = (day_of n C w).free;
      }
  turning_day u v t c l hu hv d e = turning_effect n C w (moved n C w u 0 v t) u v t c l (turning_moves u v t c l hu hv d e) hu hv d e

  pub unlink_moves : (u k : ℕ) → u < n → k < length_of n C w u → Moves n C w u k n NONE (moved n C w u k n NONE)
  unlink_moves u k hu hk = moves n C w u k n NONE T (omega arith) (omega arith) (λ q. omega arith) hk (λ q. refl)

  pub unlink_day : (u k : ℕ) → u < n → k < length_of n C w u
      → day_of n C (moved n C w u k n NONE) ≡ record {
        runs = (day_of n C w).runs;
        lists = set (day_of n C w).lists u (without k (list (day_of n C w).lists u));
        free = cell_at n C w u k ∷ (day_of n C w).free;
      }
  unlink_day u k hu hk = unlink_effect n C w (moved n C w u k n NONE) u k (unlink_moves u k hu hk) hu

  -- so a link to x that stands in u's list is cut
  cut_at : (u k : ℕ) (d : Cell) → u < n → k < length_of n C w u
      → day_of n C (moved n C w u k n NONE) ≡ record {
        runs = (day_of n C w).runs;
        lists = set (day_of n C w).lists u (without k (list (day_of n C w).lists u));
        free = (get_or (list (day_of n C w).lists u) k d).index ∷ (day_of n C w).free;
      }
  cut_at u k d hu hk = rw (day_cell n C w u k d hu hk) (unlink_day u k hu hk)

  pub unlink_cut : (u x : ℕ) → u < n → seek x (list (day_of n C w).lists u) < length (list (day_of n C w).lists u)
      → day_of n C (moved n C w u (seek x (list (day_of n C w).lists u)) n NONE) ≡ cut (day_of n C w) u x
  unlink_cut u x hu h =
      cut_at u (seek x (list (day_of n C w).lists u)) (record { index = 0; target = 0 }) hu
      (rw (ap length (day_list n C w u hu) ∙ cells_length n C w (length_of n C w u) (head_of n C w u)) at h)
