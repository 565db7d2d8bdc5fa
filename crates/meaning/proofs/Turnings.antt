-- Turning as a whole: what each turn keeps holds where turning ends; it settles within m turns if each turn lowers a number
-- that is at most m; the links stay the same links, and where it settles no list is longer than D. Assumes nothing.
use Prim.Native.Nat.{ℕ, zero, suc, ◌+◌, ◌*◌, ◌≤◌, ◌<◌}
use mathlib.Core.List.{List, [], ◌∷◌}
use mathlib.Core.Path.{◌≡◌, refl, ◌∙◌}
use native.Mathlib.Nat.{add-mul}
use native.Mathlib.Omega.{arith}
use lib.ListN.{length}
use Rattle.meaning.specs.Cells.{Cell, Lists, Weight, list, push, sum, links}
use Rattle.meaning.specs.Turning.{Work, over, put, turn, Ending, settled, dense, turning}
use Rattle.meaning.proofs.Right.{outside}
use Rattle.meaning.proofs.Sums.{Even, turn_even, turn_length, outside_even, links_row}
use Rattle.meaning.proofs.Waiting.{Waits, turn_waits, push_waits}

-- what may be said of the lists, the waiting places and the reversals so far
abbrev pub Fact : Type 1
Fact = Lists → List ℕ → ℕ → Type 0

-- it holds where turning settles; turning settles, and it holds
abbrev pub Ends : Fact → Ending → Type 0
Ends I (settled ls r) = I ls [] r
Ends I dense = Unit {0}

abbrev pub Settles : Fact → Ending → Type 0
Settles I (settled ls r) = I ls [] r
Settles I dense = ⊥

-- one turn keeps it
abbrev pub Keeps : ℕ → Fact → Type 0
Keeps D I = (ls : Lists) (w : ℕ) (st : List ℕ) (r : ℕ) → I ls (w ∷ st) r
    → I (turn D w ls st).lists (turn D w ls st).waiting (r + length (list ls w))

pub turning_keeps : (D : ℕ) (I : Fact) → Keeps D I → (m : ℕ) (ls : Lists) (st : List ℕ) (r : ℕ) → I ls st r → Ends I (turning D m ls st r)
unfolding turning
turning_keeps D I s zero ls [] r i = i
turning_keeps D I s zero ls (w ∷ st) r i = tt
turning_keeps D I s (suc m) ls [] r i = i
turning_keeps D I s (suc m) ls (w ∷ st) r i =
    turning_keeps D I s m (turn D w ls st).lists (turn D w ls st).waiting (r + length (list ls w)) (s ls w st r i)

-- μ becomes less with each turn and is at most m
pub turning_settles : (D : ℕ) (I : Fact) → Keeps D I
    → (μ : Lists → ℕ) → ((ls : Lists) (w : ℕ) (st : List ℕ) (r : ℕ) → I ls (w ∷ st) r → μ (turn D w ls st).lists < μ ls)
    → (m : ℕ) (ls : Lists) (st : List ℕ) (r : ℕ) → μ ls ≤ m → I ls st r → Settles I (turning D m ls st r)
unfolding turning
turning_settles D I s μ less zero ls [] r h i = i
turning_settles D I s μ less zero ls (w ∷ st) r h i = omega (arith, less ls w st r i)
turning_settles D I s μ less (suc m) ls [] r h i = i
turning_settles D I s μ less (suc m) ls (w ∷ st) r h i =
    turning_settles D I s μ less m (turn D w ls st).lists (turn D w ls st).waiting (r + length (list ls w))
    (omega (arith, less ls w st r i)) (s ls w st r i)

-- nothing waits: nothing is turned
pub turning_rest : (D m : ℕ) (ls : Lists) (r : ℕ) → turning D m ls [] r ≡ settled ls r
unfolding turning
turning_rest D zero ls r = refl
turning_rest D (suc m) ls r = refl

-- the links are those of ls₀, between the n places, and the places that wait are those with more than D
pub record Stands (n D : ℕ) (ls₀ ls : Lists) (st : List ℕ) (r : ℕ) : Type 0 where
  pub rows : length ls ≡ n
  pub inside : sum (outside n) ls ≡ 0
  pub evens : (f : Weight) → Even f → sum f ls ≡ sum f ls₀
  pub waits : Waits D ls st

pub stands_keeps : (n D : ℕ) (ls₀ : Lists) → Keeps D (Stands n D ls₀)
stands_keeps n D ls₀ ls w st r i = record {
  rows = turn_length D w ls st ∙ i.rows;
  inside = turn_even (outside n) (outside_even n) D w n ls st i.rows i.inside ∙ i.inside;
  evens = λ f ev. turn_even f ev D w n ls st i.rows i.inside ∙ i.evens f ev;
  waits = turn_waits D w n ls st i.rows i.inside i.waits;
}

pub stands_start : (n D : ℕ) (ls : Lists) (st : List ℕ) → length ls ≡ n → sum (outside n) ls ≡ 0 → Waits D ls st → Stands n D ls ls st 0
stands_start n D ls st e h p = record { rows = e; inside = h; evens = λ f ev. refl; waits = p }

-- whatever m is: where turning settles, the links are those it began with, and every list is at most D long
pub turning_stands : (n D m : ℕ) (ls : Lists) (st : List ℕ) → length ls ≡ n → sum (outside n) ls ≡ 0 → Waits D ls st
    → Ends (Stands n D ls) (turning D m ls st 0)
turning_stands n D m ls st e h p = turning_keeps D (Stands n D ls) (stands_keeps n D ls) m ls st 0 (stands_start n D ls st e h p)

-- the lists with a new link's cell at the front of u's, and what turning makes of them; where u's length is not D + 1, none waits
abbrev pub begun : ℕ → Lists → ℕ → List ℕ
begun D ls u = put (over D ls u) u []

pub begun_waits : (D : ℕ) (ls : Lists) (u : ℕ) (c : Cell) → u < length ls → Waits D ls [] → Waits D (push ls u c) (begun D (push ls u c) u)
begun_waits D ls u c h p = push_waits D ls [] u c h p

-- ---- few reversals: each of m turns reverses at most as many as there are links
pub turning_few : (n D m : ℕ) (ls₀ ls : Lists) (st : List ℕ) (r : ℕ) → Stands n D ls₀ ls st r
    → Ends (λ ls' st' r'. r' ≤ r + m * links ls₀) (turning D m ls st r)
unfolding turning
turning_few n D zero ls₀ ls [] r i = omega arith
turning_few n D zero ls₀ ls (w ∷ st) r i = tt
turning_few n D (suc m) ls₀ ls [] r i = omega arith
turning_few n D (suc m) ls₀ ls (w ∷ st) r i =
    let k : Work = turn D w ls st in
    more (turning D m k.lists k.waiting (r + length (list ls w))) (r + length (list ls w) + m * links ls₀) (r + suc m * links ls₀)
    (omega (arith, add-mul 1 m (links ls₀), links_row ls w, i.evens (λ v c. 1) (λ v c. refl)))
    (turning_few n D m ls₀ k.lists k.waiting (r + length (list ls w)) (stands_keeps n D ls₀ ls w st r i))
  where
    more : (o : Ending) (a b : ℕ) → a ≤ b → Ends (λ ls' st' r'. r' ≤ a) o → Ends (λ ls' st' r'. r' ≤ b) o
    more (settled ls r) a b h e = omega arith
    more dense a b h e = tt
