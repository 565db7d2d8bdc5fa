-- What the judge answers of sizes and a table, and what it asks of one place on the way.
use Rattle.std.specs.Prelude.{ℕ, List, ◌≡◌, ◌⊎◌, Option, Some, None, Result, Ok, Err}
use Rattle.meaning.specs.Table.{head_of, length_of}
use Rattle.meaning.specs.Soundness.{Sized, Sound}
use Rattle.meaning.proofs.Judged.{Line, Walks, Alone}
use Rattle.terms.specs.declared.size.Sizes.{Sizes}
use Rattle.terms.specs.declared.refusal.Refusal.{Refusal}
use Rattle.terms.specs.declared.refusal.Refusal.TheVariants as refusal

-- all that is asked of one place, but that no other has its name
pub record Listed (n C : ℕ) (w : List ℕ) (v : ℕ) : Type 0 where
  pub line : Line n C w v
  pub walks : Walks n C w v (length_of n C w v) (head_of n C w v)
  pub alone : Alone n C w v (length_of n C w v) (head_of n C w v)

-- what the sizes are where they are within their limits and the table has their length
abbrev pub Sizing : Option Sizes → ℕ → ℕ → ℕ → List ℕ → Type 0
Sizing (Some s) n C D w = (s.room.n ≡ n) × (s.room.c ≡ C) × (s.limit.d ≡ D) × Sized n C D w
Sizing None n C D w = Sized n C D w → ⊥

-- refusal 1 comes before refusal 2: a store is called unsound only where sizes and length are right; no other refusal is the judge's
abbrev pub Says : Result Sizes Refusal → ℕ → ℕ → ℕ → List ℕ → Type 0
Says (Ok s) n C D w = (s.room.n ≡ n) × (s.room.c ≡ C) × (s.limit.d ≡ D) × Sound n C D w
Says (Err why) n C D w = ((why ≡ refusal.Sizes) × (Sized n C D w → ⊥)) ⊎ ((why ≡ refusal.Unsound) × Sized n C D w × (Sound n C D w → ⊥))
