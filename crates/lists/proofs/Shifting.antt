-- A cell moves in two halves: it leaves its list, and it goes to the front of another. Assumes nothing.
use Prim.Native.Nat.{ℕ, ◌+◌, ◌<◌}
use mathlib.Core.List.{List}
use mathlib.Core.Path.{◌≡◌, sym, ap, ◌∙◌}
use native.Mathlib.Omega.{arith}
use lib.ListN.{length}
use Rattle.meaning.specs.Table.{length_of}
use Rattle.meaning.proofs.Moving.{out, out_list}
use Rattle.meaning.proofs.Steps.{unhooked, hooked, moved, unhooked_long}
use Rattle.meaning.proofs.Threaded.{cell_inside, hook_inside, length_most}
use Rattle.table.specs.Stepping.{Unhooks, Hooks}
use Rattle.lists.specs.Cell.{Shifts, Front}
use Rattle.find.specs.Find.{SpotOf}
use Rattle.find.specs.declared.Spot.{Spot}
use Rattle.find.proofs.Finding.{threaded_within}

module _ (n C : ℕ) (w : List ℕ) (s : Spot) (v t : ℕ) (p : Shifts n C w s v t) where
  cell_in : s.cell < C
  cell_in = rw p.spot.cell (cell_inside n C w p.threaded s.list p.from s.position p.spot.within)

  pub shift_out : Unhooks n C w s.hook s.list s.cell
  shift_out = record {
    within = threaded_within n C w p.threaded;
    named = rw p.spot.hook (hook_inside n C w p.threaded s.list p.from s.position (omega (arith, p.spot.within)));
    list = p.from;
    cell = cell_in;
    some = omega (arith, p.spot.within);
  }

  module _ (w1 : List ℕ) (e : w1 ≡ unhooked n C w s.hook s.list s.cell) where
    is_out : w1 ≡ out n C w s.list s.position
    is_out = rw (← p.spot.hook, ← p.spot.cell) e

    count_there : length_of n C w1 v ≡ length_of n C w v
    count_there = ap (λ (x : List ℕ). length_of n C x v) is_out
        ∙ (out_list n C w p.threaded s.list p.from s.position p.spot.within v p.to (λ q. p.other (sym q))).count

    pub shift_in : Hooks n C w1 s.cell v t
    shift_in = record {
      within = record { room = p.threaded.room; long = ap length e ∙ unhooked_long n C w s.hook s.list s.cell ∙ p.threaded.long };
      cell = cell_in;
      list = p.to;
      aim = p.word;
      short = rw count_there (length_most n C w p.threaded v p.to);
    }

    pub shift_count : (r : ℕ) → r ≡ length_of n C w1 v + 1 → r ≡ length_of n C w v + 1
    shift_count r h = omega (arith, count_there)

    pub shift_words : (w2 : List ℕ) → w2 ≡ hooked n C w1 s.cell v t → w2 ≡ moved n C w s.list s.position v t
    unfolding moved
    shift_words w2 h = h ∙ rw (is_out, p.spot.cell)

-- a list's first cell
pub front_spot : (s : Spot) (n C : ℕ) (w : List ℕ) (u : ℕ) → Front s n C w u → 0 < length_of n C w u → SpotOf s n C w
front_spot s n C w u f h = record { within = rw (f.list, f.position) h; cell = rw (f.list, f.position) f.cell; hook = rw (f.list, f.position) f.hook }
