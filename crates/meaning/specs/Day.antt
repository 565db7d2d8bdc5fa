-- What a table holds: the runs by place, the lists of cells, the free cells; and the table that empty writes.
use Rattle.std.specs.Prelude.{ℕ, zero, suc, Bool, List, [], ◌∷◌, ◌++◌, map, eqb, ltb, length, get_or, replicate}
use Rattle.terms.specs.Run.{no_run, same_run}
use Rattle.terms.specs.declared.run.Run.{Run}
use Rattle.meaning.specs.Table.{NONE, line_of, number_of, head_of, length_of, target_of, next_of}
use Rattle.meaning.specs.Cells.{Cell, Lists, first}

-- f 0, f 1, .., k of them
abbrev pub each : {A : Type 0} → ℕ → (ℕ → A) → List A
each zero f = []
each (suc k) f = f 0 ∷ each k (λ i. f (suc i))

-- a day: the run at each place, a free place having line 0 and number 0; each place's list; the free cells in order
pub record Day : Type 0 where
  pub runs : List Run
  pub lists : Lists
  pub free : List ℕ

-- the run at a place
abbrev pub run_of : Day → ℕ → Run
run_of s v = get_or s.runs v no_run

-- the place that has a run's line and trip number, n where none has
abbrev pub place_of : Day → Run → ℕ
place_of s p = first (same_run p) s.runs

-- a run is open where it has a place
abbrev pub is_open : Day → Run → Bool
is_open s p = ltb (place_of s p) (length s.runs)

-- the lowest free place, n where none is free
abbrev pub lowest : Day → ℕ
lowest s = first (λ r. eqb r.line 0) s.runs

module _ (n C : ℕ) (w : List ℕ) where
  -- the k cells from i on, following next
  unfoldable pub cells : ℕ → ℕ → List Cell
  cells zero i = []
  cells (suc k) i = record { index = i; target = target_of n C w i } ∷ cells k (next_of n C w i)

  -- the list of v, as its head and length words say
  abbrev pub cells_of : ℕ → List Cell
  cells_of v = cells (length_of n C w v) (head_of n C w v)

  -- the day that a table holds
  abbrev pub day_of : Day
  day_of = record {
    runs = each n (λ v. record { line = line_of n C w v; trip = number_of n C w v });
    lists = each n cells_of;
    free = map (λ c. c.index) (cells_of n);
  }

-- empty writes lines, numbers and lengths 0, heads NONE, except head[n] = 0 and length[n] = C; owners n, targets NONE;
-- next of cell i is i+1, of the last NONE
unfoldable pub nexts : ℕ → ℕ → List ℕ
nexts i zero = NONE ∷ []
nexts i (suc k) = suc i ∷ nexts (suc i) k

unfoldable pub empty_table : ℕ → ℕ → List ℕ
empty_table n zero = []
empty_table n (suc c) =
    replicate n 0 ++ replicate n 0 ++ (replicate n NONE ++ 0 ∷ []) ++ (replicate n 0 ++ suc c ∷ [])
    ++ replicate (suc c) n ++ replicate (suc c) NONE ++ nexts 0 c

-- the day with no run and no link
abbrev pub empty_day : ℕ → ℕ → Day
empty_day n C = record { runs = replicate n no_run; lists = replicate n []; free = each C (λ i. i) }
