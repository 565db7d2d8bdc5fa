-- Reading of a set, told by the words of a sound table: which places are open, what the lists of the set's places add up to, and
-- that this is the number of links with both ends in the set. Assumes nothing.
use Prim.Native.Nat.{ℕ, zero, suc, ◌+◌, ◌-◌, ◌*◌, ◌/◌, ◌≤◌, ◌<◌}
use mathlib.Core.Bool.{true, not, ◌&&◌}
use mathlib.Core.List.{List, [], ◌∷◌}
use mathlib.Core.Path.{◌≡◌, refl, sym, ap, ◌∙◌}
use native.Mathlib.Decide.{dec_lt}
use native.Mathlib.Nat.{add-mul}
use native.Mathlib.Omega.{arith}
use lib.Dec.{eqb, ltb}
use lib.ListN.{length, get_or}
use borrow.Author.Tests.{lt-ltb, le-ltb, ltb-true}
use Rattle.std.specs.List.{list_all, sum_by}
use Rattle.std.proofs.lemmas.List.Sums.{sum_by-cons, AllPass-from_list_all}
use Rattle.terms.specs.Refusal.{Answer}
use Rattle.std.specs.Prelude.{Ok}
use Rattle.terms.specs.Size.{places_most}
use Rattle.meaning.specs.Table.{head_of, length_of, line_of, target_of, next_of}
use Rattle.meaning.specs.Cells.{Cell, Lists, list, row_sum, sum, same}
use Rattle.meaning.specs.Soundness.{Reaches, Along, Aims, Aimed, Sound}
use Rattle.meaning.specs.Day.{Day, cells, cells_of, day_of}
use Rattle.meaning.specs.Calls.{open_place, rising, all_open, in_set, inside, reading, done}
use Rattle.meaning.specs.Promise.{Carries}
use Rattle.meaning.proofs.Crossing.{row_of, line_of_lem}
use Rattle.meaning.proofs.Lists.{each_length}
use Rattle.meaning.proofs.Sums.{sum_ext, sum-add, sum-zero, sum_at}
use Rattle.meaning.proofs.Threaded.{Threaded, length_most, sound_threaded}
use Rattle.table.specs.Within.{named}
use Rattle.store.specs.Set.{AllBelow, Marks, marked}
use Rattle.store.proofs.Carrying.{does}
use Rattle.meaning.proofs.Sets.{and_true}
use Rattle.store.proofs.Rising.{few}

-- ---- every place of a set is open

module _ (s : Day) where
  pub open_listed : (ps : List ℕ) → list_all (open_place s) ps ≡ all_open s ps
  open_listed [] = refl
  open_listed (p ∷ ps) = ap (λ b. open_place s p && b) (open_listed ps)

  -- then every place is below n
  pub open_below : (ps : List ℕ) → all_open s ps ≡ true → AllBelow (length s.runs) ps
  open_below ps e k h = ltb-true _ _ (and_true _ _ (AllPass-from_list_all (open_place s) ps (open_listed ps ∙ e) k 0 h)).0

-- ---- adding up over a set

-- two numbers that agree on the places of a set
sum_same : (f g : ℕ → ℕ) (m : ℕ) (ps : List ℕ) → AllBelow m ps → ((p : ℕ) → p < m → f p ≡ g p) → sum_by f ps ≡ sum_by g ps
sum_same f g m [] b e = refl
sum_same f g m (p ∷ ps) b e =
    omega (arith, sum_by-cons f p ps, sum_by-cons g p ps, e p (b 0 (omega arith)), sum_same f g m ps (λ k h. b (suc k) (omega arith)) e)

-- a sum over the links that stand in the lists of a set's places
pub sum_of_set : (g : Cell → ℕ) (ps : List ℕ) (ls : Lists) → sum (λ v c. in_set ps v * g c) ls ≡ sum_by (λ p. row_sum g (list ls p)) ps
sum_of_set g [] ls = sum-zero (λ v c. 0 * g c) ls (λ v c. omega arith)
sum_of_set g (p ∷ ps) ls =
    sum_ext (λ v c. (same p v + in_set ps v) * g c) (λ v c. same p v * g c + in_set ps v * g c) ls (λ v c. add-mul (same p v) (in_set ps v) (g c))
    ∙ omega (arith, sum-add (λ v c. same p v * g c) (λ v c. in_set ps v * g c) ls, sum_at g p ls, sum_of_set g ps ls, sum_by-cons (λ p. row_sum g (list ls p)) p ps)

module _ (n C : ℕ) (w : List ℕ) where
  -- ---- whether a place is open, by its line word

  pub open_by_line : (v : ℕ) → open_place (day_of n C w) v ≡ (ltb v n && not (eqb (line_of n C w v) 0))
  open_by_line v = elim (dec_lt v n) [
    | yes h ↦ rw (each_length n (named n C w), lt-ltb v n h, line_of_lem n C w v h)
    | no h ↦ let k : n ≤ v = omega (arith, h) in rw (each_length n (named n C w), le-ltb v n k)
  ]

  -- ---- the marks of a list's targets, from a cell on

  reached : (v rest cell : ℕ) → Reaches n C w v rest cell → 0 < rest → cell < C
  unfolding Reaches
  reached v zero cell r h = absurd (omega arith)
  reached v (suc rest) cell r h = r.0

  aimed : (v rest cell : ℕ) → Along n C w (Aims n C w v) rest cell → 0 < rest → target_of n C w cell < n
  unfolding Along
  aimed v zero cell a h = absurd (omega arith)
  aimed v (suc rest) cell a h = a.0.place

  -- the last two say again of this cell what the first two do of all, so that the check finds it
  pub record Counting (marks : List ℕ) (v sum rest cell : ℕ) : Type 0 where
    pub reaches : Reaches n C w v rest cell
    pub aims : Along n C w (Aims n C w v) rest cell
    pub left : sum + marked marks (cells n C w rest cell) ≡ marked marks (cells_of n C w v)
    pub fits : sum + 255 * rest ≤ 255 * C
    pub cell_in : 0 < rest → cell < C
    pub target_in : 0 < rest → target_of n C w cell < n

  module _ (marks : List ℕ) (v : ℕ) where
    pub counting_start : Threaded n C w → Aimed n C w → v < n → (rest cell : ℕ) → rest ≡ length_of n C w v → cell ≡ head_of n C w v
        → Counting marks v 0 rest cell
    counting_start T a h rest cell e f =
        let r = T.reaches v (omega arith) in
        rw (e, f) record {
          reaches = r;
          aims = a.placed v h;
          left = omega arith;
          fits = omega (arith, length_most n C w T v (omega arith));
          cell_in = reached v _ _ r;
          target_in = aimed v _ _ (a.placed v h);
        }

    pub counting_more : (sum rest left cell aim next : ℕ) → Counting marks v sum rest cell → rest ≡ left + 1 → aim ≡ target_of n C w cell
        → get_or marks aim 0 < 256 → next ≡ next_of n C w cell → Counting marks v (sum + get_or marks aim 0) left next
    unfolding Reaches Along cells
    counting_more sum zero left cell aim next k h e q f = absurd (omega arith)
    counting_more sum (suc r) left cell aim next k h e q f =
        let d : left ≡ r = omega arith in
        rw (d, f) record {
          reaches = k.reaches.2;
          aims = k.aims.1;
          left = rw e (omega (arith, k.left));
          fits = omega (arith, k.fits);
          cell_in = reached v r _ k.reaches.2;
          target_in = aimed v r _ k.aims.1;
        }

    pub counting_all : (sum rest cell : ℕ) → Counting marks v sum rest cell → rest ≤ 0 → (sum ≡ marked marks (cells_of n C w v)) × (sum ≤ 255 * C)
    unfolding cells
    counting_all sum zero cell k h = (omega (arith, k.left), omega (arith, k.fits))
    counting_all sum (suc r) cell k h = absurd (omega arith)

  -- ---- the links with both ends in a set

  pub inside_marked : (m : ℕ) (ps marks : List ℕ) → AllBelow n ps → Marks m ps marks
      → inside (day_of n C w) ps ≡ sum_by (λ p. marked marks (cells_of n C w p)) ps
  inside_marked m ps marks b k =
      let ls : Lists = (day_of n C w).lists in
      sum_ext (λ v c. in_set ps v * in_set ps c.target) (λ v c. in_set ps v * get_or marks c.target 0) ls (λ v c. rw (k.mark c.target))
      ∙ sum_of_set (λ c. get_or marks c.target 0) ps ls
      ∙ sum_same (λ p. marked marks (list ls p)) (λ p. marked marks (cells_of n C w p)) n ps b (λ p h. rw (row_of n C w p h))

-- ---- the call

module _ (n C D : ℕ) (w : List ℕ) (s : Sound n C D w) (ps : List ℕ) where
  abbrev Carried : Answer → Type 0
  Carried a = Carries n C D (reading ps) w a w

  -- every place of the set is open
  module _ (here : true ≡ all_open (day_of n C w) ps) where
    below : AllBelow n ps
    below k q = rw (each_length n (named n C w)) at (open_below (day_of n C w) ps (sym here) k q)

    -- so there is a mark for it
    pub marks_each : AllBelow places_most ps
    marks_each k h = omega (arith, below k h, s.sized.room)

    -- and the set rises
    module _ (rise : true ≡ rising ps) where
      pub counts_each : (m : ℕ) → m ≡ places_most → Threaded n C w × Aimed n C w × AllBelow n ps × (length ps ≤ n) × (n ≤ m)
      counts_each m e = (sound_threaded n C D w s, s.aimed, below, few n ps (sym rise) below, omega (arith, s.sized.room))

      pub reads : 2 ≤ length ps → (m : ℕ) (marks : List ℕ) (links : ℕ) → Marks m ps marks → links ≡ sum_by (λ p. marked marks (cells_of n C w p)) ps
          → Carried (Ok (links / (length ps - 1)))
      reads two m marks links k e =
          does n C D (reading ps) w s (done (inside (day_of n C w) ps / (length ps - 1)) (day_of n C w)) (Ok (links / (length ps - 1))) w
          (rw (le-ltb (length ps) 2 two, ← rise, ← here))
          (ap (λ (k : ℕ). Ok (k / (length ps - 1))) (e ∙ sym (inside_marked n C w m ps marks below k)))
          (sound_threaded n C D w s)
          refl
