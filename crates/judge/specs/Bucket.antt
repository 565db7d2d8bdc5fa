-- How the name test finds the places that may have a place's name: a bucket for each name, and in each bucket the places from
-- the last to the first.
use Rattle.std.specs.Prelude.{ℕ, ◌+◌, ◌*◌, ◌%◌, ◌-◌, ◌≤◌, ◌<◌, List, ◌≡◌, length, get_or}
use Rattle.terms.specs.Size.{places_most}
use Rattle.meaning.specs.Table.{line_of, number_of}

-- as many as the judge has: twice as many as there can be places
abbrev pub buckets : ℕ
buckets = 2 * places_most

-- the bucket of a place's name
unfoldable pub bucket_of : ℕ → ℕ → List ℕ → ℕ → ℕ
bucket_of n C w v = (number_of n C w v + 4099 * line_of n C w v) % buckets

module _ (n C : ℕ) (w : List ℕ) where
  -- u is one more than the last place below v in bucket b, or 0: every place of the bucket is below u
  pub record Last (v b u : ℕ) : Type 0 where
    pub most : u ≤ v
    pub mine : 0 < u → bucket_of n C w (u - 1) ≡ b
    pub above : (j : ℕ) → j < v → bucket_of n C w j ≡ b → j < u

  -- `before` has the last place before each place below v, in that place's bucket
  pub record Befores (v : ℕ) (before : List ℕ) : Type 0 where
    pub long : n ≤ length before
    pub each : (k : ℕ) → k < v → Last k (bucket_of n C w k) (get_or before k 0)

  -- what the walk through a bucket needs
  pub record Chains (v last : ℕ) (before : List ℕ) : Type 0 where
    pub start : Last v (bucket_of n C w v) last
    pub befores : Befores v before
