-- Figure 1 of source document 004 has no stop; document 01 stops it at m lists. What turning settles is what figure 1 comes to.
use Rattle.std.specs.Prelude.{ℕ, zero, suc, ◌+◌, ◌≤◌, ◌<◌, Bool, true, List, [], ◌∷◌, ◌≡◌, ◌↔◌, length, Ok, Err}
use Rattle.terms.specs.declared.run.Run.{Run}
use Rattle.terms.specs.declared.refusal.Refusal.TheVariants.{TooDense}
use Rattle.meaning.specs.Cells.{Lists, list, push, links}
use Rattle.meaning.specs.Turning.{over, put, turn, settled, turning}
use Rattle.meaning.specs.Day.{Day, place_of, day_of}
use Rattle.meaning.specs.Calls.{link, call}
use Rattle.meaning.specs.Promise.{Carries}

-- with the lists ls, the waiting places st and r reversals so far, figure 1 turns t more lists; then no place waits, the lists are
-- ls' and the reversals r'
abbrev pub EndsAfter : ℕ → ℕ → Lists → List ℕ → ℕ → Lists → ℕ → Type 0
EndsAfter D zero ls [] r ls' r' = (ls ≡ ls') × (r ≡ r')
EndsAfter D zero ls (w ∷ st) r ls' r' = ⊥
EndsAfter D (suc t) ls [] r ls' r' = ⊥
EndsAfter D (suc t) ls (w ∷ st) r ls' r' = EndsAfter D t (turn D w ls st).lists (turn D w ls st).waiting (r + length (list ls w)) ls' r'

-- figure 1 itself: however many lists it turns
abbrev pub Figure1 : ℕ → Lists → List ℕ → ℕ → Lists → ℕ → Type 0
Figure1 D ls st r ls' r' = (t : ℕ) × EndsAfter D t ls st r ls' r'

-- it has one end at most: the lists turned are as many, the lists that it leaves and the reversals are the same
abbrev pub OneEnd : Type 0
OneEnd = (D : ℕ) (ls : Lists) (st : List ℕ) (r : ℕ) (ls' : Lists) (r' : ℕ) (ls'' : Lists) (r'' : ℕ)
    (e : Figure1 D ls st r ls' r') (f : Figure1 D ls st r ls'' r'') → (e.0 ≡ f.0) × (ls' ≡ ls'') × (r' ≡ r'')

-- turning that settles within m lists settles alike within any more
abbrev pub Larger : Type 0
Larger = (D m m' : ℕ) → m ≤ m' → (ls : Lists) (st : List ℕ) (r : ℕ) (ls' : Lists) (r' : ℕ)
    → turning D m ls st r ≡ settled ls' r' → turning D m' ls st r ≡ settled ls' r'

-- it settles exactly where figure 1 ends with at most m lists turned, and as figure 1 ends
abbrev pub Capped : Type 0
Capped = (D m : ℕ) (ls : Lists) (st : List ℕ) (r : ℕ) (ls' : Lists) (r' : ℕ)
    → (turning D m ls st r ≡ settled ls' r') ↔ ((t : ℕ) × (t ≤ m) × EndsAfter D t ls st r ls' r')

-- figure 1 has an end exactly where turning settles for some m, and what turning settles with is that end
abbrev pub Uncapped : Type 0
Uncapped = (D : ℕ) (ls : Lists) (st : List ℕ) (r : ℕ) (ls' : Lists) (r' : ℕ)
    → Figure1 D ls st r ls' r' ↔ ((m : ℕ) × (turning D m ls st r ≡ settled ls' r'))

-- the lists with a new link of p and q, in the cell i
abbrev pub with_link : Day → Run → Run → ℕ → Lists
with_link s p q i = push s.lists (place_of s p) (record { index = i; target = place_of s q })

-- from the lists with a link of p and q in the first free cell, figure 1 ends with the lists ls' and k reversals; turning began
-- exactly where p's list is then D + 1 long, and figure 1 then begins with p's place alone waiting, else with none
pub record LinkEnds (D : ℕ) (s : Day) (p q : Run) (began : Bool) (ls' : Lists) (k : ℕ) : Type 0 where
  pub cell : ℕ
  pub rest : List ℕ
  pub free : s.free ≡ cell ∷ rest
  pub begins : began ≡ over D (with_link s p q cell) (place_of s p)
  pub ends : Figure1 D (with_link s p q cell) (put began (place_of s p) []) 0 ls' k

-- the lists and the number of an accepted link, whether or not turning began, are figure 1's own
abbrev pub LinkFigure : Type 0
LinkFigure = (D : ℕ) (s : Day) (p q : Run) (k : ℕ) → (call D s (link p q)).answer ≡ Ok k
    → LinkEnds D s p q (call D s (link p q)).began (call D s (link p q)).after.lists k

-- the same of tables: of the lists that the table holds then, and of the number that is answered
abbrev pub TablesFigure : Type 0
TablesFigure = (n C D : ℕ) (p q : Run) (w : List ℕ) (k : ℕ) (w' : List ℕ) → Carries n C D (link p q) w (Ok k) w'
    → LinkEnds D (day_of n C w) p q (call D (day_of n C w) (link p q)).began (day_of n C w').lists k

-- a link is refused as too dense only where figure 1 turns more than m lists, or has no end
abbrev pub DenseFigure : Type 0
DenseFigure = (D : ℕ) (s : Day) (p q : Run) → (call D s (link p q)).answer ≡ Err TooDense
    → (i : ℕ) × (fs : List ℕ) × (s.free ≡ i ∷ fs) × (over D (with_link s p q i) (place_of s p) ≡ true)
    × ((t : ℕ) (ls' : Lists) (r' : ℕ) → EndsAfter D t (with_link s p q i) (place_of s p ∷ []) 0 ls' r' → links (with_link s p q i) < t)
