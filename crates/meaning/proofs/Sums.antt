-- Sums over the links of all lists: what they become when a list is set, a cell is put at a front, a list is emptied or turned.
-- A weight that is the same at both ends of a link keeps its sum under turning. Assumes nothing.
use Prim.Native.Nat.{ℕ, zero, suc, ◌+◌, ◌*◌, ◌≤◌, ◌<◌}
use mathlib.Core.List.{List, [], ◌∷◌, Memᴰ}
use mathlib.Core.Path.{◌≡◌, refl, ◌∙◌}
use native.Mathlib.Nat.{mul_comm}
use native.Mathlib.Omega.{arith}
use lib.ListN.{length, set, length-set}
use Rattle.meaning.specs.Cells.{Cell, Lists, Weight, aimed, list, push, bare, row_sum, sum, links, same}
use Rattle.meaning.specs.Turning.{Work, hand, hand_all, turn}
use Rattle.meaning.proofs.Same.{same_eq, same_ne, same_suc}
use Rattle.meaning.proofs.Right.{far, outside, pair}

-- two weights compared: everywhere, or on the cells that stand
pub row_sum-le_in : (g h : Cell → ℕ) (l : List Cell) → ((c : Cell) → Memᴰ c l → g c ≤ h c) → row_sum g l ≤ row_sum h l
row_sum-le_in g h [] e = omega arith
row_sum-le_in g h (c ∷ l) e = omega (arith, e c (Memᴰ.head refl), row_sum-le_in g h l (λ k m. e k (Memᴰ.tail m)))

pub row_sum-le : (g h : Cell → ℕ) (l : List Cell) → ((c : Cell) → g c ≤ h c) → row_sum g l ≤ row_sum h l
row_sum-le g h l e = row_sum-le_in g h l (λ c m. e c)

pub row_sum_ext : (g h : Cell → ℕ) (l : List Cell) → ((c : Cell) → g c ≡ h c) → row_sum g l ≡ row_sum h l
row_sum_ext g h [] e = refl
row_sum_ext g h (c ∷ l) e = omega (arith, e c, row_sum_ext g h l e)

pub row_sum-add : (g h : Cell → ℕ) (l : List Cell) → row_sum (λ c. g c + h c) l ≡ row_sum g l + row_sum h l
row_sum-add g h [] = omega arith
row_sum-add g h (c ∷ l) = omega (arith, row_sum-add g h l)

pub row_sum-zero : (g : Cell → ℕ) (l : List Cell) → ((c : Cell) → g c ≡ 0) → row_sum g l ≡ 0
row_sum-zero g [] e = refl
row_sum-zero g (c ∷ l) e = omega (arith, e c, row_sum-zero g l e)

pub row_sum_one : (l : List Cell) → row_sum (λ c. 1) l ≡ length l
row_sum_one [] = refl
row_sum_one (c ∷ l) = omega (arith, row_sum_one l)

pub row_sum-mem : (g : Cell → ℕ) (c : Cell) (l : List Cell) → Memᴰ c l → g c ≤ row_sum g l
row_sum-mem g c [] m = elim m [ ]
row_sum-mem g c (k ∷ l) (Memᴰ.head e) = rw e (omega arith)
row_sum-mem g c (k ∷ l) (Memᴰ.tail m) = omega (arith, row_sum-mem g c l m)

-- a link stands as cell c in the list of v
abbrev pub Has : Lists → ℕ → Cell → Type 0
Has ls v c = Memᴰ c (list ls v)

pub sum-le_in : (f g : Weight) (ls : Lists) → ((v : ℕ) (c : Cell) → Has ls v c → f v c ≤ g v c) → sum f ls ≤ sum g ls
sum-le_in f g [] e = omega arith
sum-le_in f g (l ∷ ls) e = omega (arith, row_sum-le_in (f 0) (g 0) l (e 0), sum-le_in (λ v. f (suc v)) (λ v. g (suc v)) ls (λ v. e (suc v)))

pub sum-le : (f g : Weight) (ls : Lists) → ((v : ℕ) (c : Cell) → f v c ≤ g v c) → sum f ls ≤ sum g ls
sum-le f g ls e = sum-le_in f g ls (λ v c m. e v c)

pub sum_ext : (f g : Weight) (ls : Lists) → ((v : ℕ) (c : Cell) → f v c ≡ g v c) → sum f ls ≡ sum g ls
sum_ext f g [] e = refl
sum_ext f g (l ∷ ls) e = omega (arith, row_sum_ext (f 0) (g 0) l (e 0), sum_ext (λ v. f (suc v)) (λ v. g (suc v)) ls (λ v. e (suc v)))

pub sum_ext_in : (f g : Weight) (ls : Lists) → ((v : ℕ) (c : Cell) → Has ls v c → f v c ≡ g v c) → sum f ls ≡ sum g ls
sum_ext_in f g ls e = omega (arith, sum-le_in f g ls (λ v c m. omega (arith, e v c m)), sum-le_in g f ls (λ v c m. omega (arith, e v c m)))

pub sum-add : (f g : Weight) (ls : Lists) → sum (λ v c. f v c + g v c) ls ≡ sum f ls + sum g ls
sum-add f g [] = omega arith
sum-add f g (l ∷ ls) = omega (arith, row_sum-add (f 0) (g 0) l, sum-add (λ v. f (suc v)) (λ v. g (suc v)) ls)

pub sum-zero : (f : Weight) (ls : Lists) → ((v : ℕ) (c : Cell) → f v c ≡ 0) → sum f ls ≡ 0
sum-zero f [] e = refl
sum-zero f (l ∷ ls) e = omega (arith, row_sum-zero (f 0) l (e 0), sum-zero (λ v. f (suc v)) ls (λ v. e (suc v)))

-- the lists after a list is set, a cell is put at a front, a list is emptied
pub sum-set : (f : Weight) (ls : Lists) (v : ℕ) (l : List Cell) → v < length ls → sum f (set ls v l) + row_sum (f v) (list ls v) ≡ sum f ls + row_sum (f v) l
sum-set f [] v l h = omega arith
sum-set f (k ∷ ls) zero l h = omega arith
sum-set f (k ∷ ls) (suc v) l h = omega (arith, sum-set (λ u. f (suc u)) ls v l (omega arith))

pub set-le : (f : Weight) (ls : Lists) (v : ℕ) (l : List Cell) → row_sum (f v) l ≤ row_sum (f v) (list ls v) → sum f (set ls v l) ≤ sum f ls
set-le f [] v l h = omega arith
set-le f (k ∷ ls) zero l h = omega arith
set-le f (k ∷ ls) (suc v) l h = omega (arith, set-le (λ u. f (suc u)) ls v l h)

pub push_sum : (f : Weight) (ls : Lists) (v : ℕ) (c : Cell) → v < length ls → sum f (push ls v c) ≡ sum f ls + f v c
push_sum f ls v c h = omega (arith, sum-set f ls v (c ∷ list ls v) h)

pub push_length : (ls : Lists) (v : ℕ) (c : Cell) → length (push ls v c) ≡ length ls
push_length ls v c = length-set ls v (c ∷ list ls v)

pub bare_sum : (f : Weight) (ls : Lists) (w : ℕ) → sum f (bare ls w) + row_sum (f w) (list ls w) ≡ sum f ls
bare_sum f [] w = omega arith
bare_sum f (k ∷ ls) zero = omega arith
bare_sum f (k ∷ ls) (suc w) = omega (arith, bare_sum (λ u. f (suc u)) ls w)

pub bare_length : (ls : Lists) (w : ℕ) → length (bare ls w) ≡ length ls
bare_length ls w = length-set ls w []

pub row_le : (f : Weight) (ls : Lists) (w : ℕ) → row_sum (f w) (list ls w) ≤ sum f ls
row_le f ls w = omega (arith, bare_sum f ls w)

-- a link that stands counts
pub sum-mem : (f : Weight) (ls : Lists) (v : ℕ) (c : Cell) → Has ls v c → f v c ≤ sum f ls
sum-mem f ls v c m = omega (arith, row_sum-mem (f v) c (list ls v) m, row_le f ls v)

pub links_row : (ls : Lists) (v : ℕ) → length (list ls v) ≤ links ls
links_row ls v = omega (arith, row_le (λ u c. 1) ls v, row_sum_one (list ls v))

-- the sum over the links in one place's list
pub sum_at : (g : Cell → ℕ) (u : ℕ) (ls : Lists) → sum (λ v c. same u v * g c) ls ≡ row_sum g (list ls u)
sum_at g u [] = refl
sum_at g zero (l ∷ ls) =
    omega (
      arith,
      row_sum_ext (λ c. same 0 0 * g c) g l (λ c. rw (same_eq 0 0 refl) (omega arith)),
      sum-zero (λ v c. same 0 (suc v) * g c) ls (λ v c. rw (same_ne 0 (suc v) (omega arith)) (omega arith)),
    )
sum_at g (suc u) (l ∷ ls) =
    omega (
      arith,
      row_sum-zero (λ c. same (suc u) 0 * g c) l (λ c. rw (same_ne (suc u) 0 (omega arith)) (omega arith)),
      sum_at g u ls,
      sum_ext (λ v c. same (suc u) (suc v) * g c) (λ v c. same u v * g c) ls (λ v c. rw (same_suc u v) refl),
    )

-- cells handed over one after another
pub hand_all-length : (D w : ℕ) (cs : List Cell) (k : Work) → length (hand_all D w cs k).lists ≡ length k.lists
unfolding hand_all
hand_all-length D w [] k = refl
hand_all-length D w (c ∷ cs) k = hand_all-length D w cs (hand D w c k) ∙ push_length k.lists c.target (aimed c w)

-- every target is a place below n
abbrev pub Near : ℕ → List Cell → Type 0
Near n l = row_sum (λ c. far n c.target) l ≡ 0

pub hand_all-sum : (f : Weight) (D w n : ℕ) (cs : List Cell) (k : Work) → length k.lists ≡ n → Near n cs
    → sum f (hand_all D w cs k).lists ≡ sum f k.lists + row_sum (λ c. f c.target (aimed c w)) cs
unfolding hand_all
hand_all-sum f D w n [] k e h = omega arith
hand_all-sum f D w n (c ∷ cs) k e h =
    omega (
      arith,
      hand_all-sum f D w n cs (hand D w c k) (push_length k.lists c.target (aimed c w) ∙ e) (omega arith),
      push_sum f k.lists c.target (aimed c w) (omega arith),
    )

pub near : (n w : ℕ) (ls : Lists) → sum (outside n) ls ≡ 0 → Near n (list ls w)
near n w ls h =
    let j : row_sum (λ c. far n c.target) (list ls w) ≤ row_sum (outside n w) (list ls w) = row_sum-le _ _ (list ls w) (λ c. omega arith) in
    omega (arith, row_le (outside n) ls w)

pub turn_length : (D w : ℕ) (ls : Lists) (st : List ℕ) → length (turn D w ls st).lists ≡ length ls
turn_length D w ls st = hand_all-length D w (list ls w) (record { lists = bare ls w; waiting = st }) ∙ bare_length ls w

pub turn_sum : (f : Weight) (D w n : ℕ) (ls : Lists) (st : List ℕ) → length ls ≡ n → sum (outside n) ls ≡ 0
    → sum f (turn D w ls st).lists + row_sum (f w) (list ls w) ≡ sum f ls + row_sum (λ c. f c.target (aimed c w)) (list ls w)
turn_sum f D w n ls st e h =
    omega (arith, hand_all-sum f D w n (list ls w) (record { lists = bare ls w; waiting = st }) (bare_length ls w ∙ e) (near n w ls h), bare_sum f ls w)

-- a weight that doesn't ask at which end a link stands
abbrev pub Even : Weight → Type 0
Even f = (v : ℕ) (c : Cell) → f v c ≡ f c.target (aimed c v)

pub turn_even : (f : Weight) → Even f → (D w n : ℕ) (ls : Lists) (st : List ℕ) → length ls ≡ n → sum (outside n) ls ≡ 0
    → sum f (turn D w ls st).lists ≡ sum f ls
turn_even f ev D w n ls st e h =
    omega (arith, turn_sum f D w n ls st e h, row_sum_ext (f w) (λ c. f c.target (aimed c w)) (list ls w) (λ c. ev w c))

pub pair_even : (p q : ℕ) → Even (pair p q)
pair_even p q v c = omega arith

pub pair_comm : (p q v : ℕ) (c : Cell) → pair p q v c ≡ pair q p v c
pair_comm p q v c = omega (arith, mul_comm (same p v) (same q c.target), mul_comm (same p c.target) (same q v))

pub outside_even : (n : ℕ) → Even (outside n)
outside_even n v c = omega arith
