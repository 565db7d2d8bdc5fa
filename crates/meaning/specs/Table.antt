-- Document 01, "The store, section by section": which word of the table is which. n is the number of places, C of cells,
-- w the table's words.
use Rattle.std.specs.Prelude.{ℕ, ◌+◌, ◌*◌, List, get_or, set}

-- NONE is 4,294,967,295
abbrev pub NONE : ℕ
NONE = 4294967295

-- the word at a position, and the table with another word there
unfoldable pub word : List ℕ → ℕ → ℕ
word w i = get_or w i 0

unfoldable pub written : List ℕ → ℕ → ℕ → List ℕ
written w i x = set w i x

-- in order: line (n words), number (n), head (n+1), length (n+1), owner (C), target (C), next (C)
module _ (n C : ℕ) where
  abbrev pub line_at : ℕ → ℕ
  line_at v = v

  abbrev pub number_at : ℕ → ℕ
  number_at v = n + v

  abbrev pub head_at : ℕ → ℕ
  head_at v = 2 * n + v

  abbrev pub length_at : ℕ → ℕ
  length_at v = 3 * n + 1 + v

  abbrev pub owner_at : ℕ → ℕ
  owner_at i = 4 * n + 2 + i

  abbrev pub target_at : ℕ → ℕ
  target_at i = 4 * n + 2 + C + i

  abbrev pub next_at : ℕ → ℕ
  next_at i = 4 * n + 2 + 2 * C + i

  module _ (w : List ℕ) where
    abbrev pub line_of : ℕ → ℕ
    line_of v = word w (line_at v)

    abbrev pub number_of : ℕ → ℕ
    number_of v = word w (number_at v)

    abbrev pub head_of : ℕ → ℕ
    head_of v = word w (head_at v)

    abbrev pub length_of : ℕ → ℕ
    length_of v = word w (length_at v)

    abbrev pub owner_of : ℕ → ℕ
    owner_of i = word w (owner_at i)

    abbrev pub target_of : ℕ → ℕ
    target_of i = word w (target_at i)

    abbrev pub next_of : ℕ → ℕ
    next_of i = word w (next_at i)
