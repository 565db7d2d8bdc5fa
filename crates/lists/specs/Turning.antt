-- What turning's functions ask and show: between any two cells the table is threaded, its links are between places and apart,
-- and the waiting table has the places whose lists are too long.
use Rattle.std.specs.Prelude.{ℕ, zero, suc, ◌-◌, ◌≤◌, ◌<◌, List, [], ◌∷◌, ◌≡◌, length, Result, Ok, Err}
use Rattle.terms.specs.Size.{limit_most}
use Rattle.terms.specs.declared.refusal.Refusal.{Refusal}
use Rattle.terms.specs.declared.refusal.Refusal.TheVariants.{TooDense}
use Rattle.meaning.specs.Cells.{Lists, bare, sum}
use Rattle.meaning.specs.Table.{word, length_of}
use Rattle.meaning.specs.Turning.{turn, settled, dense, turning}
use Rattle.meaning.specs.Day.{day_of}
use Rattle.meaning.proofs.Right.{outside, loop}
use Rattle.meaning.proofs.Threaded.{Threaded}
use Rattle.meaning.proofs.Waiting.{Waits}

-- the places that wait, as the first words of the waiting table have them, the last first
unfoldable pub stack_of : List ℕ → ℕ → List ℕ
stack_of ws zero = []
stack_of ws (suc k) = word ws k ∷ stack_of ws k

-- the lists that the store holds
abbrev pub lists_of : ℕ → ℕ → List ℕ → Lists
lists_of n C s = (day_of n C s).lists

-- what holds of the store between any two cells
pub record Linked (n C D : ℕ) (s : List ℕ) : Type 0 where
  pub threaded : Threaded n C s
  pub limit : D ≤ limit_most
  pub inside : sum (outside n) (lists_of n C s) ≡ 0
  pub unlooped : sum loop (lists_of n C s) ≡ 0

-- w's list is being turned
pub record Walking (n C D w : ℕ) (s ws : List ℕ) (top : ℕ) : Type 0 where
  pub linked : Linked n C D s
  pub room : length ws ≡ n
  pub place : w < n
  pub waits : Waits D (bare (lists_of n C s) w) (stack_of ws top)

-- runs and free cells stay as they are
pub record Beside (n C : ℕ) (s s' : List ℕ) : Type 0 where
  pub runs : (day_of n C s').runs ≡ (day_of n C s).runs
  pub free : (day_of n C s').free ≡ (day_of n C s).free

-- one cell has gone over: what is left of the turn comes to the same
pub record Handed (n C D w : ℕ) (s ws : List ℕ) (top : ℕ) (s' ws' : List ℕ) (top' : ℕ) : Type 0 where
  pub walking : Walking n C D w s' ws' top'
  pub fewer : length_of n C s' w ≡ length_of n C s w - 1
  pub same : turn D w (lists_of n C s') (stack_of ws' top') ≡ turn D w (lists_of n C s) (stack_of ws top)
  pub beside : Beside n C s s'

-- turning may begin with a alone waiting
pub record Begins (n C D m a : ℕ) (s ws : List ℕ) : Type 0 where
  pub linked : Linked n C D s
  pub room : length ws ≡ n
  pub place : a < n
  pub most : m ≤ C
  pub waits : Waits D (lists_of n C s) (a ∷ [])

-- how it ended
abbrev pub Ends : Result ℕ Refusal → ℕ → ℕ → ℕ → ℕ → ℕ → List ℕ → List ℕ → Type 0
Ends (Ok r) n C D m a s s' = (turning D m (lists_of n C s) (a ∷ []) 0 ≡ settled (lists_of n C s') r) × Threaded n C s' × Beside n C s s'
Ends (Err why) n C D m a s s' = (why ≡ TooDense) × (turning D m (lists_of n C s) (a ∷ []) 0 ≡ dense)
