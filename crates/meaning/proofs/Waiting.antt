-- The waiting places: a place waits once where its list is longer than D, else not. So the waiting table of n words is never
-- overrun, not even while cells are handed over. Assumes nothing.
use Prim.Native.Nat.{ℕ, zero, suc, ◌+◌, ◌-◌, ◌≤◌, ◌<◌, min}
use mathlib.Core.Bool.{Bool, true, false}
use mathlib.Core.List.{List, [], ◌∷◌, Memᴰ}
use mathlib.Core.Path.{◌≡◌, refl, ap, ◌∙◌}
use native.Mathlib.Decide.{ℕ_discrete}
use native.Mathlib.Omega.{arith}
use lib.Dec.{eqb, ltb}
use lib.ListN.{length, get_or-eq_default}
use lib.Seq.{get_or-set_same, get_or-set_other}
use borrow.Author.Tests.{eqb-true, eqb-false, ltb-true, ltb-false}
use Rattle.meaning.specs.Cells.{Cell, Lists, aimed, list, push, bare, sum, same}
use Rattle.meaning.specs.Turning.{Work, over, put, hand, hand_all, turn}
use Rattle.meaning.proofs.Same.{same_eq, same_le, same_ne}
use Rattle.meaning.proofs.Times.{times, Below, below_all, sum_times, sum-le, each_once}
use Rattle.meaning.proofs.Right.{outside}
use Rattle.meaning.proofs.Sums.{push_length, bare_length, Near, near}

-- 1 where a length is greater than D, else 0
abbrev pub beyond : ℕ → ℕ → ℕ
beyond D L = min 1 (L - D)

-- a place waits once where its list is longer than D, else not
abbrev pub Waits : ℕ → Lists → List ℕ → Type 0
Waits D ls st = (z : ℕ) → times z st ≡ beyond D (length (list ls z))

-- the list of any place after a cell is put at the front of x's
pub push_list : (ls : Lists) (x : ℕ) (c : Cell) → x < length ls → list (push ls x c) x ≡ c ∷ list ls x
push_list ls x c h = get_or-set_same ls x (c ∷ list ls x) [] h

pub push_other : (ls : Lists) (x z : ℕ) (c : Cell) → (z ≡ x → ⊥) → list (push ls x c) z ≡ list ls z
push_other ls x z c n = get_or-set_other ls x z (c ∷ list ls x) [] n

pub bare_list : (ls : Lists) (w : ℕ) → list (bare ls w) w ≡ []
bare_list [] w = refl
bare_list (k ∷ ls) zero = refl
bare_list (k ∷ ls) (suc w) = bare_list ls w

pub bare_other : (ls : Lists) (w z : ℕ) → (z ≡ w → ⊥) → list (bare ls w) z ≡ list ls z
bare_other ls w z n = get_or-set_other ls w z [] [] n

-- no place from n on has a list
pub past_list : (ls : Lists) (z : ℕ) → length ls ≤ z → list ls z ≡ []
past_list ls z h = get_or-eq_default ls [] {n = z} h

put_times : (z x a b : ℕ) (st : List ℕ) → times z (put (eqb a b) x st) ≡ times z st + min (same z x) (same a b)
unfolding times
put_times z x a b st = go (eqb a b) refl
  where
    go : (t : Bool) → eqb a b ≡ t → times z (put t x st) ≡ times z st + min (same z x) (same a b)
    go true e = omega (arith, same_eq a b (eqb-true a b e), same_le z x)
    go false e = omega (arith, same_ne a b (eqb-false a b e))

-- D is passed by one more: it was passed, or it was reached
beyond_suc : (D L : ℕ) → beyond D (suc L) ≡ beyond D L + same (suc L) (D + 1)
beyond_suc D L = elim (ℕ_discrete (suc L) (D + 1)) [
  | yes e ↦ omega (arith, same_eq (suc L) (D + 1) e)
  | no n ↦ omega (arith, same_ne (suc L) (D + 1) n)
]

-- a cell at the front of x's list, and x put to wait if its length is then D + 1
pub push_waits : (D : ℕ) (ls : Lists) (st : List ℕ) (x : ℕ) (c : Cell) → x < length ls → Waits D ls st
    → Waits D (push ls x c) (put (over D (push ls x c) x) x st)
push_waits D ls st x c h p z =
    let e : length (list (push ls x c) x) ≡ suc (length (list ls x)) = ap length (push_list ls x c h) in
    let q : times z (put (over D (push ls x c) x) x st) ≡ times z st + min (same z x) (same (suc (length (list ls x))) (D + 1)) =
    put_times z x (length (list (push ls x c) x)) (D + 1) st ∙ rw e in
    elim (ℕ_discrete z x) [
      | yes f ↦ q ∙ rw (f, e, beyond_suc) (omega (arith, p x, ap (λ (y : ℕ). times y st) f, same_eq x x refl, same_le (suc (length (list ls x))) (D + 1)))
      | no n ↦ q ∙ rw (push_other ls x z c n) (omega (arith, p z, same_ne z x n))
    ]

pub hand_waits : (D w : ℕ) (c : Cell) (k : Work) → c.target < length k.lists → Waits D k.lists k.waiting
    → Waits D (hand D w c k).lists (hand D w c k).waiting
hand_waits D w c k h p = push_waits D k.lists k.waiting c.target (aimed c w) h p

pub hand_all_waits : (D w n : ℕ) (cs : List Cell) (k : Work) → length k.lists ≡ n → Near n cs → Waits D k.lists k.waiting
    → Waits D (hand_all D w cs k).lists (hand_all D w cs k).waiting
unfolding hand_all
hand_all_waits D w n [] k e h p = p
hand_all_waits D w n (c ∷ cs) k e h p =
    hand_all_waits D w n cs (hand D w c k) (push_length k.lists c.target (aimed c w) ∙ e) (omega arith) (hand_waits D w c k (omega arith) p)

pub bare_waits : (D : ℕ) (ls : Lists) (w : ℕ) (st : List ℕ) → Waits D ls (w ∷ st) → Waits D (bare ls w) st
unfolding times
bare_waits D ls w st p z = elim (ℕ_discrete z w) [
  | yes e ↦ rw e (omega (arith, p w, same_eq w w refl, ap length (bare_list ls w)))
  | no n ↦ rw (bare_other ls w z n) (omega (arith, p z, same_ne z w n))
]

pub turn_waits : (D w n : ℕ) (ls : Lists) (st : List ℕ) → length ls ≡ n → sum (outside n) ls ≡ 0 → Waits D ls (w ∷ st)
    → Waits D (turn D w ls st).lists (turn D w ls st).waiting
turn_waits D w n ls st e h p =
    hand_all_waits D w n (list ls w) (record { lists = bare ls w; waiting = st }) (bare_length ls w ∙ e) (near n w ls h) (bare_waits D ls w st p)

-- no place waits: no list is longer than D, and the other way round
pub waits_none : (D : ℕ) (ls : Lists) → Waits D ls [] → (z : ℕ) → length (list ls z) ≤ D
unfolding times
waits_none D ls p z = omega (arith, p z)

pub none_waits : (D : ℕ) (ls : Lists) → ((z : ℕ) → length (list ls z) ≤ D) → Waits D ls []
unfolding times
none_waits D ls h z = omega (arith, h z)

-- a place waits: its list is longer than D, and it is a place
pub waits_first : (D : ℕ) (ls : Lists) (w : ℕ) (st : List ℕ) → Waits D ls (w ∷ st) → D < length (list ls w)
unfolding times
waits_first D ls w st p = omega (arith, p w, same_eq w w refl)

times_mem : (z : ℕ) (st : List ℕ) → Memᴰ z st → 1 ≤ times z st
unfolding times
times_mem z [] m = elim m [ ]
times_mem z (y ∷ st) (Memᴰ.head e) = omega (arith, same_eq z y e)
times_mem z (y ∷ st) (Memᴰ.tail m) = omega (arith, times_mem z st m)

pub waits_over : (D : ℕ) (ls : Lists) (st : List ℕ) → Waits D ls st → (z : ℕ) → Memᴰ z st → D < length (list ls z)
waits_over D ls st p z m = omega (arith, p z, times_mem z st m)

pub waits_place : (D : ℕ) (ls : Lists) (st : List ℕ) → Waits D ls st → (z : ℕ) → Memᴰ z st → z < length ls
waits_place D ls st p z m = ltor (ltb z (length ls)) refl
  where
    ltor : (t : Bool) → ltb z (length ls) ≡ t → z < length ls
    ltor true e = ltb-true _ _ e
    ltor false e = absurd (omega (arith, waits_over D ls st p z m, ap length (past_list ls z (ltb-false _ _ e))))

-- ---- no more places wait than there are
pub waits_fit : (D n : ℕ) (ls : Lists) (st : List ℕ) → length ls ≡ n → Waits D ls st → length st ≤ n
waits_fit D n ls st e p =
    omega (arith, sum_times n st (below_all n st (λ z m. omega (arith, waits_place D ls st p z m))), sum-le n (λ z. times z st) (λ z q. omega (arith, p z)))

-- one fewer where some place's list is at most D, as the emptied one's
pub waits_room : (D n : ℕ) (ls : Lists) (st : List ℕ) → length ls ≡ n → Waits D ls st → (z : ℕ) → z < n → length (list ls z) ≤ D → length st < n
waits_room D n ls st e p z l h = elim (ℕ_discrete (length st) n) [
  | no d ↦ omega (arith, waits_fit D n ls st e p)
  | yes f ↦
      let b : Below n st = below_all n st (λ y m. omega (arith, waits_place D ls st p y m)) in
      omega (arith, each_once n st b f (λ y q. omega (arith, p y)) z l, p z)
]

-- a place whose length becomes D + 1 finds room among the n words
pub hand_room : (D w n : ℕ) (c : Cell) (k : Work) → length k.lists ≡ n → c.target < n → Waits D k.lists k.waiting
    → over D (hand D w c k).lists c.target ≡ true → length k.waiting < n
hand_room D w n c k e h p t =
    let f : (hand D w c k).waiting ≡ c.target ∷ k.waiting = ap (λ (b : Bool). put b c.target k.waiting) t in
    omega (
      arith,
      ap length f,
      waits_fit D n (hand D w c k).lists (hand D w c k).waiting (push_length k.lists c.target (aimed c w) ∙ e) (hand_waits D w c k (omega arith) p),
    )
