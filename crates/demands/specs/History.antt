-- Calls one after another, the links that stand, and choices of directions for them: what demands 2 and 3 speak of.
use Rattle.std.specs.Prelude.{ℕ, ◌+◌, ◌-◌, ◌*◌, ◌≤◌, min, Bool, false, not, ◌||◌, ◌&&◌, List, [], ◌∷◌, map, ◌≡◌}
use Rattle.terms.specs.Run.{same_run}
use Rattle.terms.specs.Refusal.{value_of, Answer}
use Rattle.terms.specs.declared.run.Run.{Run}
use Rattle.meaning.specs.Cells.{sum, same}
use Rattle.meaning.specs.Day.{Day, run_of}
pub use Rattle.meaning.specs.Stream.{accepts, taken, reversed}
use Rattle.meaning.specs.Calls.{Call, open_run, close_run, link, unlink, ask, reading, Outcome, call, yes1}

-- ---- calls in turn, all with the one limit D
-- the day after them
abbrev pub after : ℕ → Day → List Call → Day
after D s [] = s
after D s (q ∷ qs) = after D (call D s q).after qs

-- the pair x, y is the pair p, q, in either order, each a line and a trip number together
unfoldable pub same_pair : Run → Run → Run → Run → Bool
same_pair p q x y = (same_run p x && same_run q y) || (same_run p y && same_run q x)

-- the call, so answered, is an accepted link of p and q; an accepted unlink of them
abbrev pub joins : Run → Run → Call → Answer → Bool
joins p q (open_run x) a = false
joins p q (close_run x) a = false
joins p q (link x y) a = accepts a && same_pair p q x y
joins p q (unlink x y) a = false
joins p q (ask x y) a = false
joins p q (reading ps) a = false

abbrev pub parts : Run → Run → Call → Answer → Bool
parts p q (open_run x) a = false
parts p q (close_run x) a = false
parts p q (link x y) a = false
parts p q (unlink x y) a = accepts a && same_pair p q x y
parts p q (ask x y) a = false
parts p q (reading ps) a = false

-- p and q were accepted as a link and not unlinked since; b says it of the calls before
abbrev pub related : Run → Run → ℕ → Day → Bool → List Call → Bool
related p q D s b [] = b
related p q D s b (c ∷ cs) =
    let o : Outcome = call D s c in
    related p q D o.after ((b && not (parts p q c o.answer)) || joins p q c o.answer) cs

-- how often they were accepted as a link; how often unlinked
abbrev pub joinings : Run → Run → ℕ → Day → List Call → ℕ
joinings p q D s [] = 0
joinings p q D s (c ∷ cs) = yes1 (joins p q c (call D s c).answer) + joinings p q D (call D s c).after cs

abbrev pub partings : Run → Run → ℕ → Day → List Call → ℕ
partings p q D s [] = 0
partings p q D s (c ∷ cs) = yes1 (parts p q c (call D s c).answer) + partings p q D (call D s c).after cs

-- asking says yes: 1; no, or the question is refused: 0
abbrev pub asked : ℕ → Day → Run → Run → ℕ
asked D s p q = value_of (call D s (ask p q)).answer

-- k: the links that were accepted; the reversals of accepted links
abbrev pub accepted : ℕ → Day → List Call → ℕ
accepted D s [] = 0
accepted D s (c ∷ cs) = taken c (call D s c).answer + accepted D (call D s c).after cs

abbrev pub reversals : ℕ → Day → List Call → ℕ
reversals D s [] = 0
reversals D s (c ∷ cs) = reversed c (call D s c).answer + reversals D (call D s c).after cs

-- ---- the links that stand
-- the sum over them of what F says of the run in whose list a link stands and of the other run
abbrev pub weigh : (Run → Run → ℕ) → Day → ℕ
weigh F s = sum (λ v c. F (run_of s v) (run_of s c.target)) s.lists

-- the links between p and q
abbrev pub between : Run → Run → Day → ℕ
between p q s = weigh (λ x y. yes1 (same_pair p q x y)) s

-- ---- choices of directions
-- a choice: 1 where the link of two runs goes outward at the first of them, else 0
abbrev pub Directions : Type 0
Directions = Run → Run → ℕ

-- 1 where a link of x and y has not exactly one direction
unfoldable pub unsure : Directions → Run → Run → ℕ
unsure C x y = 1 - same (C x y + C y x) 1

-- 1 where a link of x and y goes outward at p
unfoldable pub outward : Directions → Run → Run → Run → ℕ
outward C p x y = yes1 (same_run p x) * C x y + yes1 (same_run p y) * C y x

-- each standing link has exactly one direction, and at most d go outward at each run
pub record Directed (d : ℕ) (C : Directions) (s : Day) : Type 0 where
  pub each : weigh (unsure C) s ≡ 0
  pub few : (p : Run) → weigh (outward C p) s ≤ d

-- the same of the standing links with one more, of p and q
pub record DirectedWith (p q : Run) (d : ℕ) (C : Directions) (s : Day) : Type 0 where
  pub each : weigh (unsure C) s + unsure C p q ≡ 0
  pub few : (x : Run) → weigh (outward C x) s + outward C x p q ≤ d

-- 1 where two choices give a link of x and y different directions
unfoldable pub differ : Directions → Directions → Run → Run → ℕ
differ C C' x y = 1 - same (C x y) (C' x y) * same (C y x) (C' y x)

-- the links that stand both in s and in s', on which the choices C for s and C' for s' differ
abbrev pub changed : Directions → Directions → Day → Day → ℕ
changed C C' s s' = weigh (λ x y. min 1 (between x y s) * differ C C' x y) s'

-- a history: calls, each with a choice for the links that stand after it
abbrev pub History : Type 0
History = List (Call × Directions)

abbrev pub calls : History → List Call
calls h = map (λ x. x.0) h

-- at most d outward at each run, after each call
abbrev pub AllDirected : ℕ → ℕ → Day → History → Type 0
AllDirected d D s [] = Unit {0}
AllDirected d D s (x ∷ h) = let s' : Day = (call D s x.0).after in Directed d x.1 s' × AllDirected d D s' h

-- r: how often the choices change direction on links that stand before and after a call; C is the choice before the first
abbrev pub changes : ℕ → Day → Directions → History → ℕ
changes D s C [] = 0
changes D s C (x ∷ h) = let s' : Day = (call D s x.0).after in changed C x.1 s s' + changes D s' x.1 h
