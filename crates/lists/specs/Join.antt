-- What linking two places asks and shows.
use Rattle.std.specs.Prelude.{ℕ, ◌<◌, List, [], ◌∷◌, ◌≡◌, length, replicate, Result, Ok, Err}
use Rattle.terms.specs.Size.{store_words, waiting_words}
use Rattle.terms.specs.Refusal.{Answer}
use Rattle.terms.specs.declared.refusal.Refusal.{Refusal}
use Rattle.terms.specs.declared.refusal.Refusal.TheVariants.{TooDense}
use Rattle.meaning.specs.Cells.{links}
use Rattle.meaning.specs.Soundness.{Sound}
use Rattle.meaning.specs.Turning.{settled, dense, turning}
use Rattle.meaning.specs.Day.{day_of}
use Rattle.meaning.specs.Calls.{Outcome, do_link}
use Rattle.meaning.specs.Promise.{spare_after, waiting_after}
use Rattle.meaning.proofs.Threaded.{Threaded}
use Rattle.meaning.proofs.Waiting.{Waits}
use Rattle.lists.specs.Turning.{lists_of, Linked, Beside}

-- u alone waits
pub record Settling (n C D u : ℕ) (s spare waiting : List ℕ) : Type 0 where
  pub linked : Linked n C D s
  pub spare_long : length spare ≡ store_words n C
  pub waiting_long : length waiting ≡ waiting_words n
  pub place : u < n
  pub waits : Waits D (lists_of n C s) (u ∷ [])

-- m is the number of links
abbrev pub Settles : Result ℕ Refusal → ℕ → ℕ → ℕ → ℕ → List ℕ → List ℕ → List ℕ → List ℕ → Type 0
Settles (Ok r) n C D u s spare s' waiting' =
    (turning D (links (lists_of n C s)) (lists_of n C s) (u ∷ []) 0 ≡ settled (lists_of n C s') r) × Threaded n C s' × Beside n C s s' × (waiting' ≡ replicate n 0)
Settles (Err why) n C D u s spare s' waiting' =
    (why ≡ TooDense) × (turning D (links (lists_of n C s)) (lists_of n C s) (u ∷ []) 0 ≡ dense) × (s' ≡ spare) × (waiting' ≡ replicate n 0)

-- two places of a sound store
pub record Joins (n C D u v : ℕ) (w spare waiting : List ℕ) : Type 0 where
  pub sound : Sound n C D w
  pub spare_long : length spare ≡ store_words n C
  pub waiting_long : length waiting ≡ waiting_words n
  pub first : u < n
  pub second : v < n
  pub apart : u ≡ v → ⊥

-- what the link of two places is on the day
abbrev pub joining : ℕ → ℕ → ℕ → ℕ → ℕ → List ℕ → Outcome
joining n C D u v w = do_link D (day_of n C w) u v (day_of n C w).free

pub record Joined (n C D u v : ℕ) (w spare waiting : List ℕ) (a : Answer) (w' spare' waiting' : List ℕ) : Type 0 where
  pub answer : a ≡ (joining n C D u v w).answer
  pub threaded : Threaded n C w'
  pub day : day_of n C w' ≡ (joining n C D u v w).after
  pub spared : spare' ≡ spare_after (joining n C D u v w).began w spare
  pub waited : waiting' ≡ waiting_after (joining n C D u v w).began n waiting
