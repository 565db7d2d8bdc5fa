-- When a day is right: what soundness says of the runs and the links, without the words. Between the steps of turning a day
-- is right but for the length of the lists that wait, so the limit is a parameter. Assumes nothing.
use Prim.Native.Nat.{ℕ, ◌+◌, ◌-◌, ◌*◌, ◌≤◌, ◌<◌}
use mathlib.Core.Path.{◌≡◌}
use lib.ListN.{length}
use Rattle.terms.specs.Run.{line_most}
use Rattle.meaning.specs.Cells.{Weight, list, sum, same}
use Rattle.meaning.specs.Day.{Day, run_of}

-- 1 where v is no place below n, else 0
abbrev pub far : ℕ → ℕ → ℕ
far n v = 1 - (n - v)

-- a link with an end that is no place; with both ends at one place; with an end that is not open
abbrev pub outside : ℕ → Weight
outside n v c = far n v + far n c.target

abbrev pub loop : Weight
loop v c = same v c.target

abbrev pub shut : Day → Weight
shut s v c = (1 - (run_of s v).line) + (1 - (run_of s c.target).line)

-- a link between the places p and q, whichever end it stands at
abbrev pub pair : ℕ → ℕ → Weight
pair p q v c = same p v * same q c.target + same p c.target * same q v

pub record Right (n D : ℕ) (s : Day) : Type 0 where
  pub places : length s.runs ≡ n
  pub rows : length s.lists ≡ n
  pub small : (v : ℕ) → v < n → (run_of s v).line ≤ line_most
  pub freed : (v : ℕ) → v < n → (run_of s v).line ≡ 0 → (run_of s v).trip ≡ 0
  pub apart : (u v : ℕ) → 0 < (run_of s u).line → run_of s u ≡ run_of s v → u ≡ v
  pub short : (v : ℕ) → length (list s.lists v) ≤ D
  pub inside : sum (outside n) s.lists ≡ 0
  pub unlooped : sum loop s.lists ≡ 0
  pub ended : sum (shut s) s.lists ≡ 0
  pub once : (p q : ℕ) → (p ≡ q → ⊥) → sum (pair p q) s.lists ≤ 1
