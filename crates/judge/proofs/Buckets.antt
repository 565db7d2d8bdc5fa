-- What the name test keeps: how far the walk through the places of one bucket has come, and the last place of every bucket.
-- Assumes nothing.
use Prim.Native.Nat.{ℕ, ◌-◌, ◌≤◌, ◌<◌}
use mathlib.Core.List.{List}
use mathlib.Core.Path.{◌≡◌}
use native.Mathlib.Omega.{arith}
use lib.ListN.{length, get_or, replicate, length-replicate, get_or-replicate}
use borrow.Author.Count.{below_none}
use Rattle.meaning.specs.Table.{line_of, number_of}
use Rattle.meaning.proofs.Judged.{Differ}
use Rattle.judge.specs.Bucket.{buckets, bucket_of, Last, Befores}

module _ (n C : ℕ) (w : List ℕ) where
  -- places of one name are in one bucket
  pub one_bucket : (u v : ℕ) → line_of n C w u ≡ line_of n C w v → number_of n C w u ≡ number_of n C w v → bucket_of n C w u ≡ bucket_of n C w v
  unfolding bucket_of
  one_bucket u v p q = rw (p, q)

  -- the walk for v has come to u: u is one more than a place of v's bucket below v, or 0, and every place of the bucket from u on
  -- has not v's name
  pub record Walked (v u : ℕ) : Type 0 where
    pub most : u ≤ v
    pub mine : 0 < u → bucket_of n C w (u - 1) ≡ bucket_of n C w v
    pub seen : (j : ℕ) → j < v → u ≤ j → bucket_of n C w j ≡ bucket_of n C w v → Differ n C w v j

  -- the last place of every bucket
  pub record Lasts (v : ℕ) (lasts : List ℕ) : Type 0 where
    pub long : length lasts ≡ buckets
    pub each : (b : ℕ) → b < buckets → Last n C w v b (get_or lasts b 0)

  -- no place yet: every bucket is empty
  pub lasts_none : Lasts 0 (replicate buckets 0)
  lasts_none = record {
    long = length-replicate {A = ℕ} buckets 0;
    each = λ b h. rw (get_or-replicate {A = ℕ} buckets b 0 0 h) empty;
  }
    where
      empty : {b : ℕ} → Last n C w 0 b 0
      empty = record { most = omega arith; mine = λ p. absurd (omega arith); above = λ j p e. absurd (omega arith) }

  pub befores_none : (m : ℕ) → n ≤ m → Befores n C w 0 (replicate m 0)
  befores_none m h = record { long = rw (length-replicate {A = ℕ} m 0) h; each = below_none _ }
