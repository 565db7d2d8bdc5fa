-- One record: the call that it asks for, carried out; its number fits a word, and only a link touches spare and waiting.
-- Assumes nothing.
use Prim.Native.Nat.{ℕ, ◌+◌, ◌^◌, ◌≤◌, ◌<◌}
use mathlib.Core.List.{List}
use mathlib.Core.Path.{◌≡◌, sym, ap, subst, ◌∙◌}
use native.Mathlib.Nat.{mul-le-mul}
use native.Mathlib.Omega.{arith}
use Rattle.terms.specs.Refusal.{value_of}
use Rattle.terms.specs.declared.run.Run.{Run}
use Rattle.terms.specs.Refusal.{Answer}
use Rattle.record.specs.declared.Kind.{Kind}
use Rattle.record.specs.declared.Record.{Record}
use Rattle.meaning.specs.Cells.{links}
use Rattle.meaning.specs.Soundness.{Sound}
use Rattle.meaning.specs.Day.{day_of}
use Rattle.meaning.specs.Calls.{Call, link, call}
use Rattle.meaning.specs.Promise.{Carries, LinkCarries}
use Rattle.meaning.specs.Stream.{asks_for, call_of}
use Rattle.meaning.proofs.Crossing.{sound_right}
use Rattle.meaning.proofs.Numbers.{Plain, Calm, call_most, call_calm}
use Rattle.meaning.proofs.Threaded.{Threaded, sound_threaded}
use Rattle.meaning.proofs.Counts.{links_count}
use Rattle.stream.specs.Carry.{Carried}

-- at most 16,385 times 16,385 reversals
pub number_small : (n C D : ℕ) (w : List ℕ) → Sound n C D w → (q : Call) → Plain q → value_of (call D (day_of n C w) q).answer < 2 ^ 32
number_small n C D w s q h =
    let T : Threaded n C w = sound_threaded n C D w s in
    let few : links (day_of n C w).lists + 1 ≤ 16385 = omega (arith, links_count n C w T, T.room.cells_at_most) in
    omega (arith, call_most n D (day_of n C w) (sound_right n C D w s) 268468225 (omega (arith, T.room.places_at_most)) (omega arith) (mul-le-mul few few) q h)

module _ (n C D : ℕ) (w spare waiting : List ℕ) (s : Sound n C D w) where
  pub calmly : (q : Call) (a : Answer) (w' : List ℕ) → Plain q → Calm q → Carries n C D q w a w' → Carried n C D q w spare waiting a w' spare waiting
  calmly q a w' p h c = record {
    carries = c;
    spared = rw (call_calm D (day_of n C w) q h);
    waited = rw (call_calm D (day_of n C w) q h);
    small = rw c.answer (number_small n C D w s q p);
  }

  pub linking : (p q : Run) (a : Answer) (w' spare' waiting' : List ℕ) → LinkCarries n C D p q w spare waiting a w' spare' waiting'
      → Carried n C D (link p q) w spare waiting a w' spare' waiting'
  linking p q a w' spare' waiting' c = record {
    carries = c.carries;
    spared = c.spared;
    waited = c.waited;
    small = rw c.carries.answer (number_small n C D w s (link p q) tt);
  }

  -- the record's kind says which call it is
  pub by_kind : (r : Record) (k : Kind) (q : Call) (a : Answer) (w' spare' waiting' : List ℕ) → r.kind ≡ k → asks_for k r.first r.second ≡ q
      → Carried n C D q w spare waiting a w' spare' waiting' → Carried n C D (call_of r) w spare waiting a w' spare' waiting'
  by_kind r k q a w' spare' waiting' e f c =
      subst (λ (x : Call). Carried n C D x w spare waiting a w' spare' waiting') (sym (ap (λ (j : Kind). asks_for j r.first r.second) e ∙ f)) c
