-- One record's step put together: its call, its two answer words, the totals. Assumes nothing.
use Prim.Native.Nat.{ℕ, ◌+◌, ◌≤◌}
use mathlib.Core.List.{List}
use mathlib.Core.Path.{◌≡◌, refl, ap, ◌∙◌}
use native.Mathlib.Omega.{arith}
use Rattle.terms.specs.Refusal.{number_of, refusal_of, value_of}
use Rattle.terms.specs.Run.{no_run}
use Rattle.terms.specs.declared.run.Run.{Run}
use Rattle.terms.specs.Refusal.{Answer}
use Rattle.std.specs.Prelude.{Ok, Err}
use Rattle.terms.specs.declared.refusal.Refusal.{Refusal}
use Rattle.terms.specs.declared.refusal.Refusal.TheVariants.{Sizes, Unsound, BadName, SameRun, NotOpen, Already, NoLink, NoRoom, TooDense, Touched, WrongMark, WrongKind, CutShort, BadSet}
use Rattle.record.specs.declared.Kind.{Kind}
use Rattle.record.specs.declared.Kind.TheVariants.{Open, Close, Link, Unlink, Ask}
use Rattle.record.specs.declared.Record.{Record}
use Rattle.meaning.specs.Stream.{answered, asks_for, call_of, taken, reversed}
use Rattle.stream.specs.Carry.{Carried, Stepped}
use Rattle.stream.specs.Totals.{Forward}
use Rattle.stream.specs.declared.totals.Totals.{Totals}

number_most : (why : Refusal) → number_of why ≤ 14
number_most Sizes = omega arith
number_most Unsound = omega arith
number_most BadName = omega arith
number_most SameRun = omega arith
number_most NotOpen = omega arith
number_most Already = omega arith
number_most NoLink = omega arith
number_most NoRoom = omega arith
number_most TooDense = omega arith
number_most Touched = omega arith
number_most WrongMark = omega arith
number_most WrongKind = omega arith
number_most CutShort = omega arith
number_most BadSet = omega arith

pub refusal_most : (a : Answer) → refusal_of a ≤ 14
refusal_most (Ok k) = omega arith
refusal_most (Err why) = number_most why

-- what counts does not hang on the runs
same_taken : (k : Kind) (p q : Run) (a : Answer) → taken (asks_for k no_run no_run) a ≡ taken (asks_for k p q) a
same_taken Open p q a = refl
same_taken Close p q a = refl
same_taken Link p q a = refl
same_taken Unlink p q a = refl
same_taken Ask p q a = refl

same_reversed : (k : Kind) (p q : Run) (a : Answer) → reversed (asks_for k no_run no_run) a ≡ reversed (asks_for k p q) a
same_reversed Open p q a = refl
same_reversed Close p q a = refl
same_reversed Link p q a = refl
same_reversed Unlink p q a = refl
same_reversed Ask p q a = refl

taken_most : (k : Kind) (p q : Run) (a : Answer) → taken (asks_for k p q) a ≤ 1
taken_most Open p q a = omega arith
taken_most Close p q a = omega arith
taken_most Link p q (Ok r) = omega arith
taken_most Link p q (Err why) = omega arith
taken_most Unlink p q a = omega arith
taken_most Ask p q a = omega arith

reversed_most : (k : Kind) (p q : Run) (a : Answer) → reversed (asks_for k p q) a ≤ value_of a
reversed_most Open p q a = omega arith
reversed_most Close p q a = omega arith
reversed_most Link p q a = omega arith
reversed_most Unlink p q a = omega arith
reversed_most Ask p q a = omega arith

module _ (n C D : ℕ) (r : Record) (w spare waiting answers : List ℕ) (i : ℕ) (t : Totals) where
  pub stepped : (a : Answer) (w' spare' waiting' answers' : List ℕ) (t' : Totals) → Carried n C D (call_of r) w spare waiting a w' spare' waiting'
      → answers' ≡ answered answers i a → Forward t r.kind a t' → Stepped n C D r w spare waiting answers i t w' spare' waiting' answers' t'
  stepped a w' spare' waiting' answers' t' c e f =
      let g : t'.accepted ≡ t.accepted + taken (call_of r) a = f.accepted ∙ ap (λ (x : ℕ). t.accepted + x) (same_taken r.kind r.first r.second a) in
      let h : t'.reversals ≡ t.reversals + reversed (call_of r) a = f.reversals ∙ ap (λ (x : ℕ). t.reversals + x) (same_reversed r.kind r.first r.second a) in
      record {
        holds = c.carries.holds;
        spared = c.spared;
        waited = c.waited;
        answers_are = rw (← c.carries.answer) e;
        accepted = rw (← c.carries.answer) g;
        reversals = rw (← c.carries.answer) h;
        few = (omega (arith, taken_most r.kind r.first r.second a), omega (arith, reversed_most r.kind r.first r.second a, c.small));
      }
