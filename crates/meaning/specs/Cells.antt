-- Lists of cells, and sums over the links that stand in them.
use Rattle.std.specs.Prelude.{ℕ, zero, suc, ◌+◌, Bool, true, false, List, [], ◌∷◌, eqb, ltb, length, get_or, set}

-- a cell in a place's list: which cell it is, and the place at the other end of its link
pub record Cell : Type 0 where
  pub index : ℕ
  pub target : ℕ

-- the same cell with another target
abbrev pub aimed : Cell → ℕ → Cell
aimed c t = record { index = c.index; target = t }

-- the lists of all places, by place
abbrev pub Lists : Type 0
Lists = List (List Cell)

-- the list of place v
abbrev pub list : Lists → ℕ → List Cell
list ls v = get_or ls v []

-- a cell goes to the front of v's list
abbrev pub push : Lists → ℕ → Cell → Lists
push ls v c = set ls v (c ∷ list ls v)

-- v's list is emptied
abbrev pub bare : Lists → ℕ → Lists
bare ls v = set ls v []

-- where the first entry that passes a test stands in a list, counted from 0; the list's length where none does
abbrev pub first : {A : Type 0} → (A → Bool) → List A → ℕ
first p [] = 0
first p (x ∷ xs) = elim (p x) [ true ↦ 0 | false ↦ suc (first p xs) ]

-- a list without the entry at position k
abbrev pub without : {A : Type 0} → ℕ → List A → List A
without k [] = []
without zero (x ∷ xs) = xs
without (suc k) (x ∷ xs) = x ∷ without k xs

-- where a list has a link to place t, and whether it has one
abbrev pub seek : ℕ → List Cell → ℕ
seek t l = first (λ c. eqb c.target t) l

abbrev pub holds : ℕ → List Cell → Bool
holds t l = ltb (seek t l) (length l)

-- what a link counts for: by the place in whose list it stands, and its cell there
abbrev pub Weight : Type 0
Weight = ℕ → Cell → ℕ

-- the sum over the links of one list
abbrev pub row_sum : (Cell → ℕ) → List Cell → ℕ
row_sum g [] = 0
row_sum g (c ∷ l) = g c + row_sum g l

-- the sum over all links
abbrev pub sum : Weight → Lists → ℕ
sum f [] = 0
sum f (l ∷ ls) = row_sum (f 0) l + sum (λ v. f (suc v)) ls

-- the number of links
abbrev pub links : Lists → ℕ
links ls = sum (λ v c. 1) ls

-- 1 where two numbers are the same, else 0
unfoldable pub same : ℕ → ℕ → ℕ
same a b = elim (eqb a b) [ true ↦ 1 | false ↦ 0 ]
