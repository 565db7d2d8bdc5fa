-- Why is my train late on a line it never uses? Over any calls on an emptied store, a yes about two runs is the mark of a link
-- that named exactly these two, line and trip number both, was accepted, and was not unlinked since.
use Rattle.std.specs.Prelude.{ℕ, true, List, ◌∷◌, ◌++◌, ◌≡◌, ◌⊎◌, ◌↔◌, Ok}
use Rattle.terms.specs.Refusal.{value_of, Answer}
use Rattle.terms.specs.declared.run.Run.{Run}
use Rattle.meaning.specs.Day.{Day, empty_day}
use Rattle.meaning.specs.Calls.{Call, link, unlink, ask, call}
use Rattle.meaning.specs.Stream.{accepts}
use Rattle.meaning.specs.Promise.{Carries}
use Rattle.demands.specs.History.{after, asked}
use Rattle.demands.specs.Tables.{Doing, all_calls, Emptied}

-- x and y are the runs p and q themselves, in either order
abbrev pub ThePair : Run → Run → Run → Run → Type 0
ThePair p q x y = ((x ≡ p) × (y ≡ q)) ⊎ ((x ≡ q) × (y ≡ p))

-- among the calls cs from the day s, c comes after those before it and ahead of those later, and is accepted there
pub record AcceptedAt (D : ℕ) (s : Day) (cs before : List Call) (c : Call) (later : List Call) : Type 0 where
  pub whole : cs ≡ before ++ c ∷ later
  pub accepted : accepts (call D (after D s before) c).answer ≡ true

-- a link of p and q was accepted, and none of the later calls is an accepted unlink of them
pub record OwnLink (D : ℕ) (s : Day) (cs : List Call) (p q : Run) : Type 0 where
  pub before : List Call
  pub x : Run
  pub y : Run
  pub later : List Call
  pub pair : ThePair p q x y
  pub linked : AcceptedAt D s cs before (link x y) later
  pub kept : (mid rest : List Call) (x' y' : Run) → ThePair p q x' y' → AcceptedAt D s cs (before ++ link x y ∷ mid) (unlink x' y') rest → ⊥

-- asking says yes exactly where such a link is among the calls; records of a stream are calls
abbrev pub Own : Type 0
Own = (n C D : ℕ) (cs : List Call) (p q : Run) → (asked D (after D (empty_day n C) cs) p q ≡ 1) ↔ OwnLink D (empty_day n C) cs p q

-- the same of tables: an ask is answered yes exactly where such a link is among the calls since the store was emptied
abbrev pub TablesOwn : Type 0
TablesOwn = (n C D : ℕ) (xs : List Doing) (w : List ℕ) → Emptied n C D xs w → (p q : Run) (a : Answer) (w' : List ℕ) → Carries n C D (ask p q) w a w'
    → (a ≡ Ok 1) ↔ OwnLink D (empty_day n C) (all_calls xs) p q

-- no link among the calls, accepted or not, names a run of which N holds
abbrev pub NoLinkNames : (Run → Type 0) → List Call → Type 0
NoLinkNames N cs = (before later : List Call) (x y : Run) → cs ≡ before ++ link x y ∷ later → (N x → ⊥) × (N y → ⊥)

-- where no link named the run, line and trip number both, no ask about it and any other says yes: not for links of its trip number
-- on other lines
abbrev pub TablesNeverLinked : Type 0
TablesNeverLinked = (n C D : ℕ) (xs : List Doing) (w : List ℕ) → Emptied n C D xs w → (p : Run) → NoLinkNames (λ x. x ≡ p) (all_calls xs)
    → (q : Run) (a : Answer) (w' : List ℕ) → Carries n C D (ask p q) w a w' ⊎ Carries n C D (ask q p) w a w' → value_of a ≡ 0

-- where no link named a run of its line, whatever the trip number, no ask about a run of this line says yes
abbrev pub TablesLineUnused : Type 0
TablesLineUnused = (n C D : ℕ) (xs : List Doing) (w : List ℕ) → Emptied n C D xs w → (p : Run) → NoLinkNames (λ x. x.line ≡ p.line) (all_calls xs)
    → (q : Run) (a : Answer) (w' : List ℕ) → Carries n C D (ask p q) w a w' ⊎ Carries n C D (ask q p) w a w' → value_of a ≡ 0
