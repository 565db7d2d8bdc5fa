-- How large a call's number can be: a place is below n, an ask is 0 or 1, and a link's reversals are at most the square of the
-- number of links, the new one included. So each fits a word of 32 bits. Assumes nothing.
use Prim.Native.Nat.{ℕ, ◌+◌, ◌*◌, ◌≤◌, ◌<◌}
use mathlib.Core.Bool.{Bool, true, false}
use mathlib.Core.List.{List, [], ◌∷◌}
use Rattle.std.specs.Prelude.{None}
use mathlib.Core.Path.{◌≡◌, refl, ◌∙◌}
use native.Mathlib.Omega.{arith}
use lib.Dec.{eqb}
use lib.ListN.{length}
use Rattle.terms.specs.Refusal.{value_of}
use Rattle.meaning.specs.Cells.{Cell, list, links, holds}
use Rattle.meaning.specs.Turning.{Ending, settled, dense}
use Rattle.meaning.specs.Day.{Day, place_of}
use Rattle.meaning.specs.Calls.{Call, open_run, close_run, link, unlink, ask, reading, Outcome, done, ended, link_in, do_link, do_unlink, cut, linked, yes1, tests, first_refusal, act, call}
use Rattle.meaning.proofs.Kept.{joined, run, link_run, new_link, call_case}
use Rattle.meaning.proofs.Lists.{first_most}
use Rattle.meaning.proofs.Right.{Right, outside}
use Rattle.meaning.proofs.Sums.{push_sum, push_length}
use Rattle.meaning.proofs.Turnings.{Ends, Stands, stands_start, begun, begun_waits, turning_few}
use Rattle.meaning.proofs.Waiting.{none_waits}

-- every call but the reading of a set
abbrev pub Plain : Call → Type 0
Plain (open_run p) = Unit {0}
Plain (close_run p) = Unit {0}
Plain (link p q) = Unit {0}
Plain (unlink p q) = Unit {0}
Plain (ask p q) = Unit {0}
Plain (reading ps) = ⊥

-- the number of an outcome is at most m
abbrev Most : ℕ → Outcome → Type 0
Most m o = value_of o.answer ≤ m

-- a yes counts at most 1
pub yes_most : (b : Bool) → yes1 b ≤ 1
yes_most true = omega arith
yes_most false = omega arith

module _ (n D : ℕ) (s : Day) (ok : Right n D s) where
  link_most : (u v i : ℕ) (fs : List ℕ) → u < n → v < n → Most ((links s.lists + 1) * (links s.lists + 1)) (link_in D s u v i fs)
  link_most u v i fs hu hv =
      let c : Cell = record { index = i; target = v } in
      let rows : u < length s.lists = omega (arith, ok.rows) in
      let new : links (joined s u v i) ≡ links s.lists + 1 = push_sum (λ a b. 1) s.lists u c rows in
      let st : Stands n D (joined s u v i) (joined s u v i) (begun D (joined s u v i) u) 0 =
      stands_start n D (joined s u v i) (begun D (joined s u v i) u) (push_length s.lists u c ∙ ok.rows)
      (omega (arith, ok.inside, ok.rows, push_sum (outside n) s.lists u c rows))
      (begun_waits D s.lists u c rows (none_waits D s.lists ok.short)) in
      rw (← new)
      (link_run (λ a d. value_of a ≤ links (joined s u v i) * links (joined s u v i)) D s u v i fs
      (go (run D s u v i) (links (joined s u v i) * links (joined s u v i))
      (turning_few n D (links (joined s u v i)) (joined s u v i) (joined s u v i) (begun D (joined s u v i) u) 0 st)))
    where
      go : (o : Ending) (k : ℕ) → Ends (λ ls' st' r'. r' ≤ 0 + k) o → value_of (ended s fs o).answer ≤ k
      go (settled ls r) k h = omega arith
      go dense k h = omega arith

  do_link_most : (u v : ℕ) (fs : List ℕ) → u < n → v < n → Most ((links s.lists + 1) * (links s.lists + 1)) (do_link D s u v fs)
  do_link_most u v [] hu hv = omega arith
  do_link_most u v (i ∷ fs) hu hv = link_most u v i fs hu hv

  unlink_most : (u v : ℕ) → Most 1 (do_unlink s u v)
  unlink_most u v = go (holds v (list s.lists u))
    where
      go : (b : Bool) → Most 1 (elim b [ true ↦ done 0 (cut s u v) | false ↦ done 0 (cut s v u) ])
      go true = omega arith
      go false = omega arith

  -- m bounds the places and the square of the links with a new one
  module _ (m : ℕ) (hn : n ≤ m) (one : 1 ≤ m) (hl : (links s.lists + 1) * (links s.lists + 1) ≤ m) where
    act_most : (q : Call) → Plain q → first_refusal (tests s q) ≡ None → Most m (act D s q)
    act_most (open_run p) w e = omega (arith, first_most (λ r. eqb r.line 0) s.runs, ok.places)
    act_most (close_run p) w e = omega arith
    act_most (link p q) w e =
        let b = (new_link n D s ok p q e).0 in
        omega (arith, do_link_most (place_of s p) (place_of s q) s.free b.place_p b.place_q)
    act_most (unlink p q) w e = omega (arith, unlink_most (place_of s p) (place_of s q))
    act_most (ask p q) w e = omega (arith, yes_most (linked s (place_of s p) (place_of s q)))
    act_most (reading ps) w e = absurd w

    pub call_most : (q : Call) → Plain q → value_of (call D s q).answer ≤ m
    call_most q w = call_case (λ o. Most m o) D s q (λ why e. omega arith) (act_most q w)

-- only a link begins turning
abbrev pub Calm : Call → Type 0
Calm (open_run p) = Unit {0}
Calm (close_run p) = Unit {0}
Calm (link p q) = ⊥
Calm (unlink p q) = Unit {0}
Calm (ask p q) = Unit {0}
Calm (reading ps) = Unit {0}

unlink_calm : (s : Day) (u v : ℕ) → (do_unlink s u v).began ≡ false
unlink_calm s u v = go (holds v (list s.lists u))
  where
    go : (b : Bool) → (elim b as (λ x. Outcome) [ true ↦ done 0 (cut s u v) | false ↦ done 0 (cut s v u) ]).began ≡ false
    go true = refl
    go false = refl

act_calm : (D : ℕ) (s : Day) (q : Call) → Calm q → (act D s q).began ≡ false
act_calm D s (open_run p) w = refl
act_calm D s (close_run p) w = refl
act_calm D s (link p q) w = absurd w
act_calm D s (unlink p q) w = unlink_calm s (place_of s p) (place_of s q)
act_calm D s (ask p q) w = refl
act_calm D s (reading ps) w = refl

pub call_calm : (D : ℕ) (s : Day) (q : Call) → Calm q → (call D s q).began ≡ false
call_calm D s q w = call_case (λ o. o.began ≡ false) D s q (λ why e. refl) (λ e. act_calm D s q w)
