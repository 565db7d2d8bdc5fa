-- What p1 to p10 leave open: which of two waiting places is taken first, how far a waiting list may grow, that exactly as many
-- lists may be turned as there are links, the new one included, and that one pair in the lists of both its runs is not sound. One
-- joint statement, by computation. Assumes nothing.
use Prim.Native.Nat.{ℕ, suc, ◌+◌}
use mathlib.Core.List.{List, [], ◌∷◌, ◌++◌, map}
use mathlib.Core.Logic.{inr}
use mathlib.Core.Path.{◌≡◌, refl}
use native.Mathlib.Omega.{arith}
use Rattle.terms.specs.Refusal.{refusal_of, value_of}
use Rattle.terms.specs.Run.{bad_name, same_run}
use Rattle.terms.specs.declared.run.Run.{Run}
use Rattle.meaning.specs.Table.{NONE, word}
use Rattle.meaning.specs.Cells.{list, same}
use Rattle.meaning.specs.Soundness.{Single}
use Rattle.meaning.specs.Turning.{hand_all, turning}
use Rattle.meaning.specs.Day.{Day, each, empty_day}
use Rattle.meaning.specs.Calls.{Call, open_run, link, Outcome, call}
use Rattle.meaning.proofs.Examples.{after}

-- a run for each place
abbrev run : ℕ → Run
run i = record { line = 1; trip = 100 + i }

-- the links of a place's list, the front one last, so that the list is as given; and of each place from v on
abbrev links_of : ℕ → List ℕ → List Call
links_of v [] = []
links_of v (t ∷ ts) = links_of v ts ++ (link (run v) (run t) ∷ [])

abbrev links_from : ℕ → List (List ℕ) → List Call
links_from v [] = []
links_from v (l ∷ ls) = links_of v l ++ links_from (suc v) ls

-- n open runs with these lists of targets, no list longer than D = 2, and a free cell
abbrev laid : ℕ → List (List ℕ) → Day
laid n ls = after 2 (empty_day n 9) (each n (λ i. open_run (run i)) ++ links_from 0 ls)

abbrev ends : ℕ → Day → List (List ℕ)
ends n s = each n (λ v. map (λ e. e.target) (list s.lists v))

-- the refusal and number of the link of two places, and the lists afterwards
abbrev joined : ℕ → List (List ℕ) → ℕ → ℕ → (ℕ × ℕ × List (List ℕ))
joined n ls u v =
    let o : Outcome = call 2 (laid n ls) (link (run u) (run v)) in
    (refusal_of o.answer, value_of o.answer, ends n o.after)

-- 1 waits, and then 2; 2 is taken first, and hands 1 a fourth cell while it waits: 3 + 3 + 4 reversals
abbrev LastFirst : Type 0
LastFirst = joined 7 ((1 ∷ 2 ∷ []) ∷ (4 ∷ 5 ∷ []) ∷ (1 ∷ 6 ∷ []) ∷ [] ∷ [] ∷ [] ∷ [] ∷ []) 0 3
    ≡ (0, 10, (1 ∷ 2 ∷ []) ∷ [] ∷ (1 ∷ []) ∷ (0 ∷ []) ∷ (1 ∷ []) ∷ (1 ∷ []) ∷ (2 ∷ []) ∷ [])

-- eight links with the new one, and the eighth turned list settles it: 24 reversals
abbrev AsMany : Type 0
AsMany = joined 8 ([] ∷ (3 ∷ 4 ∷ []) ∷ (4 ∷ []) ∷ [] ∷ [] ∷ (4 ∷ 2 ∷ []) ∷ [] ∷ (1 ∷ 2 ∷ []) ∷ []) 5 7
    ≡ (0, 24, [] ∷ (7 ∷ 4 ∷ []) ∷ [] ∷ (1 ∷ []) ∷ (2 ∷ 5 ∷ []) ∷ (2 ∷ 7 ∷ []) ∷ [] ∷ (2 ∷ []) ∷ [])

-- eight links again, and a ninth list would have to be turned: refusal 9, and the lists are as they were
abbrev NoMore : Type 0
NoMore = joined 7 ((4 ∷ 3 ∷ []) ∷ (2 ∷ []) ∷ [] ∷ (4 ∷ []) ∷ (1 ∷ []) ∷ [] ∷ (0 ∷ 3 ∷ []) ∷ []) 6 1
    ≡ (9, 0, (4 ∷ 3 ∷ []) ∷ (2 ∷ []) ∷ [] ∷ (4 ∷ []) ∷ (1 ∷ []) ∷ [] ∷ (0 ∷ 3 ∷ []) ∷ [])

-- two places, two cells: lines, numbers, heads, lengths, owners, targets, nexts; each list has the one link
abbrev twice : List ℕ
twice =
    1 ∷ 1 ∷ 100 ∷ 101 ∷ 0 ∷ 1 ∷ NONE ∷ 1 ∷ 1 ∷ 0
    ∷ 0 ∷ 1 ∷ 1 ∷ 0 ∷ NONE ∷ NONE ∷ []

abbrev NotTwice : Type 0
NotTwice = Single 2 2 twice → ⊥

pub borders : LastFirst × AsMany × NoMore × NotTwice
unfolding turning hand_all bad_name same_run same word
borders = (refl, refl, refl, λ s. s.once 0 1 (omega arith) (omega arith) (omega arith) (omega arith) (inr (refl, refl)))
