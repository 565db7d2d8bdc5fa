-- Document 01, "Sizes". The numbers stand here once.
use Rattle.std.specs.Prelude.{ℕ, ◌+◌, ◌*◌, ◌^◌, ◌≤◌}

-- places for runs: 1 to 4,096
abbrev pub places_most : ℕ
places_most = 4096

-- cells for links: 1 to 16,384
abbrev pub cells_most : ℕ
cells_most = 16384

pub record InRoom (n C : ℕ) : Type 0 where
  pub places_least : 1 ≤ n
  pub places_at_most : n ≤ places_most
  pub cells_least : 1 ≤ C
  pub cells_at_most : C ≤ cells_most

-- the list limit: 2 to 64
abbrev pub limit_most : ℕ
limit_most = 64

pub record InLimit (D : ℕ) : Type 0 where
  pub least : 2 ≤ D
  pub most : D ≤ limit_most

-- the store has exactly 4n + 2 + 3C words, the spare the same
abbrev pub store_words : ℕ → ℕ → ℕ
store_words n C = 4 * n + 2 + 3 * C

-- the waiting table has n words
abbrev pub waiting_words : ℕ → ℕ
waiting_words n = n

-- a stream has at most 983,025 bytes
abbrev pub stream_most : ℕ
stream_most = 983025

-- a running total is at most 2^62 on entry
abbrev pub total_most : ℕ
total_most = 2 ^ 62
