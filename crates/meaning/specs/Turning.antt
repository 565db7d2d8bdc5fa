-- Document 01, "Turning": source document 004, figure 1, in the order that document 01 fixes.
use Rattle.std.specs.Prelude.{ℕ, zero, suc, ◌+◌, Bool, true, false, List, [], ◌∷◌, eqb, length}
use Rattle.meaning.specs.Cells.{Cell, Lists, aimed, list, push, bare}

-- the lists, and the places that wait, the one last put to wait first
pub record Work : Type 0 where
  pub lists : Lists
  pub waiting : List ℕ

-- a place's length is exactly D + 1
abbrev pub over : ℕ → Lists → ℕ → Bool
over D ls v = eqb (length (list ls v)) (D + 1)

-- a place is put to wait, or not
abbrev pub put : Bool → ℕ → List ℕ → List ℕ
put true v st = v ∷ st
put false v st = st

-- a former cell of w goes to the front of its target's list, with target w; the target waits if its length becomes D + 1
abbrev pub hand : ℕ → ℕ → Cell → Work → Work
hand D w c k =
    let ls : Lists = push k.lists c.target (aimed c w) in
    record { lists = ls; waiting = put (over D ls c.target) c.target k.waiting }

-- the former cells are handled front to back
unfoldable pub hand_all : ℕ → ℕ → List Cell → Work → Work
hand_all D w [] k = k
hand_all D w (c ∷ cs) k = hand_all D w cs (hand D w c k)

-- w's list is emptied, and its former cells are handled
abbrev pub turn : ℕ → ℕ → Lists → List ℕ → Work
turn D w ls st = hand_all D w (list ls w) (record { lists = bare ls w; waiting = st })

-- how turning ends: the lists and the number of reversals, or too dense
pub data Ending : Type 0 where
  settled : Lists → ℕ → Ending
  dense : Ending

-- the place last put to wait is taken and its list turned, one reversal each cell; it stops as soon as no place waits or
-- m lists have been turned, and is too dense if a place still waits then
unfoldable pub turning : ℕ → ℕ → Lists → List ℕ → ℕ → Ending
turning D zero ls [] r = settled ls r
turning D zero ls (w ∷ st) r = dense
turning D (suc m) ls [] r = settled ls r
turning D (suc m) ls (w ∷ st) r = let k : Work = turn D w ls st in turning D m k.lists k.waiting (r + length (list ls w))
