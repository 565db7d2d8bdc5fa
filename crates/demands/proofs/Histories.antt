-- Demands 2 and 3 from any right day, over calls in turn. Assumes nothing.
use Prim.Native.Nat.{ℕ, ◌+◌, ◌-◌, ◌*◌, ◌≤◌}
use mathlib.Core.Bool.{Bool, true, false, not, ◌||◌, ◌&&◌}
use mathlib.Core.List.{List, [], ◌∷◌}
use mathlib.Core.Path.{◌≡◌, refl, sym, ap}
use native.Mathlib.Nat.{add-mul, mul_comm}
use native.Mathlib.Omega.{arith}
use Rattle.std.proofs.lemmas.Bool.{or_parts}
use Rattle.terms.specs.Refusal.{value_of, Answer}
use Rattle.terms.specs.declared.run.Run.{Run}
use Rattle.meaning.specs.Day.{Day, place_of}
use Rattle.meaning.specs.Calls.{Call, open_run, close_run, link, unlink, ask, reading, linked, call, yes1}
use Rattle.meaning.proofs.Right.{Right}
use Rattle.meaning.proofs.Numbers.{yes_most}
use Rattle.meaning.proofs.Kept.{call_right, call_case}
use Rattle.demands.specs.History.{after, accepts, same_pair, joins, parts, related, joinings, partings, asked, taken, reversed, accepted, reversals, between, changed, calls, changes, Directions, History, AllDirected}
use Rattle.demands.proofs.Choices.{disagree, yes_pair_swaps}
use Rattle.demands.proofs.Law.{call_law, comes_pair, goes_pair}
use Rattle.demands.proofs.Asking.{asked_between}
use Rattle.demands.proofs.Pays.{Pays, call_paid}

-- the choice after the last call
abbrev pub final : Directions → History → Directions
final C [] = C
final C (x ∷ h) = final x.1 h

pub after_right : (n D : ℕ) (s : Day) → Right n D s → (cs : List Call) → Right n D (after D s cs)
after_right n D s ok [] = ok
after_right n D s ok (c ∷ cs) = after_right n D (call D s c).after (call_right n D s ok c) cs

-- asking says 0 or 1
pub asked_le : (D : ℕ) (s : Day) (p q : Run) → asked D s p q ≤ 1
asked_le D s p q = call_case (λ o. value_of o.answer ≤ 1) D s (ask p q) (λ why e. omega arith) (λ e. yes_most (linked s (place_of s p) (place_of s q)))

module _ (n D : ℕ) (p q : Run) where
  -- one call: the links between p and q
  pub between_call : (s : Day) → Right n D s → (c : Call)
      → between p q (call D s c).after + yes1 (parts p q c (call D s c).answer) ≡ between p q s + yes1 (joins p q c (call D s c).answer)
  between_call s ok c =
      omega (
        arith,
        call_law n D s ok (λ x y. yes1 (same_pair p q x y)) (yes_pair_swaps p q) c,
        comes_pair p q c (call D s c).answer,
        goes_pair p q c (call D s c).answer,
      )

  -- how often they were linked and unlinked
  between_after : (s : Day) → Right n D s → (cs : List Call) → between p q (after D s cs) + partings p q D s cs ≡ between p q s + joinings p q D s cs
  between_after s ok [] = refl
  between_after s ok (c ∷ cs) = omega (arith, between_call s ok c, between_after (call D s c).after (call_right n D s ok c) cs)

  pub count_from : (s : Day) → Right n D s → (cs : List Call) → asked D (after D s cs) p q + partings p q D s cs ≡ asked D s p q + joinings p q D s cs
  count_from s ok cs =
      omega (arith, between_after s ok cs, asked_between n D s ok p q, asked_between n D (after D s cs) (after_right n D s ok cs) p q)

  -- only an accepted link or unlink of the two changes what asking says
  pub apart_from : (s : Day) → Right n D s → (c : Call) → (joins p q c (call D s c).answer || parts p q c (call D s c).answer) ≡ false
      → asked D (call D s c).after p q ≡ asked D s p q
  apart_from s ok c e =
      let t : (joins p q c (call D s c).answer ≡ false) × (parts p q c (call D s c).answer ≡ false) = or_parts _ _ e in
      omega (
        arith,
        between_call s ok c,
        asked_between n D s ok p q,
        asked_between n D (call D s c).after (call_right n D s ok c) p q,
        ap yes1 t.0,
        ap yes1 t.1,
      )

  -- no call is both a link and an unlink
  not_both : (c : Call) (a : Answer) → yes1 (joins p q c a) + yes1 (parts p q c a) ≤ 1
  not_both (open_run x) a = omega arith
  not_both (close_run x) a = omega arith
  not_both (link x y) a = omega (arith, yes_most (accepts a && same_pair p q x y))
  not_both (unlink x y) a = omega (arith, yes_most (accepts a && same_pair p q x y))
  not_both (ask x y) a = omega arith
  not_both (reading ps) a = omega arith

  -- before, b links stand between the two, after it k
  relates : (b j t : Bool) (k : ℕ) → k ≤ 1 → yes1 j + yes1 t ≤ 1 → k + yes1 t ≡ yes1 b + yes1 j → yes1 ((b && not t) || j) ≡ k
  relates true true t k h m e = omega arith
  relates true false true k h m e = omega arith
  relates true false false k h m e = omega arith
  relates false true true k h m e = absurd (omega arith)
  relates false true false k h m e = omega arith
  relates false false true k h m e = absurd (omega arith)
  relates false false false k h m e = omega arith

  pub related_from : (s : Day) → Right n D s → (b : Bool) → yes1 b ≡ asked D s p q → (cs : List Call) → asked D (after D s cs) p q ≡ yes1 (related p q D s b cs)
  related_from s ok b e [] = sym e
  related_from s ok b e (c ∷ cs) =
      let s' : Day = (call D s c).after in
      let a : Answer = (call D s c).answer in
      let ok' : Right n D s' = call_right n D s ok c in
      related_from s' ok' ((b && not (parts p q c a)) || joins p q c a)
      (relates b (joins p q c a) (parts p q c a) (asked D s' p q) (asked_le D s' p q) (not_both c a)
      (omega (arith, between_call s ok c, asked_between n D s ok p q, asked_between n D s' ok' p q)))
      cs

-- ---- demand 3
-- R reversals and k links accepted and r changes of direction, b links disagreeing before and b' after
abbrev pub Bounds : ℕ → ℕ → ℕ → ℕ → ℕ → ℕ → ℕ → Type 0
Bounds D d R k r b b' = R * (D + 1 - 2 * d) + b' * (D + 1) ≤ (k + r + b) * (D + 1)

-- two histories one after the other
pub bounds_join : (D d R k r b b' R' k' r' b'' : ℕ) → Bounds D d R k r b b' → Bounds D d R' k' r' b' b'' → Bounds D d (R + R') (k + k') (r + r') b b''
bounds_join D d R k r b b' R' k' r' b'' h h' = sums (D + 1) (D + 1 - 2 * d) h h'
  where
    sums : (N E : ℕ) → R * E + b' * N ≤ (k + r + b) * N → R' * E + b'' * N ≤ (k' + r' + b') * N → (R + R') * E + b'' * N ≤ (k + k' + (r + r') + b) * N
    sums N E h h' = simp add-mul (omega (arith, simp add-mul at h, simp add-mul at h'))

-- the bound from any right day, some of whose links may disagree with the choice C there; what disagrees at the end is still to be
-- paid for, so that histories can be joined
pub demand_3_from : (n D d : ℕ) → 2 * d ≤ D → (s : Day) → Right n D s → (C : Directions) (h : History) → AllDirected d D s h
    → Bounds D d (reversals D s (calls h)) (accepted D s (calls h)) (changes D s C h) (disagree C s) (disagree (final C h) (after D s (calls h)))
demand_3_from n D d half s ok C [] g = omega arith
demand_3_from n D d half s ok C (x ∷ h) g =
    let s' : Day = (call D s x.0).after in
    let a : Answer = (call D s x.0).answer in
    let k : ℕ = taken x.0 a in
    let R : ℕ = reversed x.0 a in
    let p : Pays D d C s k R s' = call_paid n D d half s ok C x.0 in
    bounds_join D d R k (changed C x.1 s s') (disagree C s) (disagree x.1 s') (reversals D s' (calls h)) (accepted D s' (calls h)) (changes D s' x.1 h)
    (disagree (final x.1 h) (after D s' (calls h)))
    (turn_about (D + 1) (D + 1 - 2 * d) R k (changed C x.1 s s') (disagree C s) (disagree x.1 s') (p.pays x.1 g.0))
    (demand_3_from n D d half s' (call_right n D s ok x.0) x.1 h g.1)
  where
    turn_about : (N E r a c b b' : ℕ) → r * E + N * b' ≤ N * (b + a + c) → r * E + b' * N ≤ (a + c + b) * N
    turn_about N E r a c b b' h =
        omega (arith, mul_comm N b', mul_comm N (b + a + c), add-mul (b + a) c N, add-mul b a N, add-mul (a + c) b N, add-mul a c N)
