-- What the judge's test says of the sizes it was made with, and that sizes and a table have one answer only. Assumes nothing.
use Prim.Native.Nat.{ℕ, ◌≤◌}
use mathlib.Core.List.{List}
use mathlib.Core.Logic.{◌⊎◌, inr, ⊎_elim}
use mathlib.Core.HLevel.{is_prop→PathP}
use mathlib.Core.Path.{◌≡◌, refl, sym, ap, subst, ◌∙◌}
use denote.Struct.Props.{props}
use Rattle.std.specs.Prelude.{Option, Some, Result, Ok, Err}
use Rattle.terms.specs.Size.{places_most, cells_most, limit_most, InRoom, InLimit}
use Rattle.terms.specs.declared.size.Room.{Room}
use Rattle.terms.specs.declared.size.Limit.{Limit}
use Rattle.terms.specs.declared.size.Sizes.{Sizes}
use Rattle.terms.specs.declared.refusal.Refusal.{Refusal}
use Rattle.terms.specs.declared.refusal.Refusal.TheVariants as refusal
use Rattle.meaning.specs.Soundness.{Sized, Sound}
use Rattle.meaning.proofs.Judged.{Judged}
use Rattle.meaning.proofs.Rules.{judged_sound, sound_judged}
use Rattle.judge.specs.Judging.{Sizing, Says}

-- what the judge's test says, where `sized` gave the sizes that it was made with
module _ (n C D : ℕ) (w : List ℕ) (s : Sizes) (a : Option Sizes) (e : a ≡ Some s) (t : Sizing a n C D w) where
  given : Sizing (Some s) n C D w
  given = subst (λ (x : Option Sizes). Sizing x n C D w) e t

  pub says_sound : Judged s.room.n s.room.c w s.limit.d → Says (Ok s) n C D w
  says_sound j = let g = given in (g.0, g.1, g.2, judged_sound n C D w g.3 (rw (g.0, g.1, g.2) at j))

  pub says_unsound : (Judged s.room.n s.room.c w s.limit.d → ⊥) → Says (Err refusal.Unsound) n C D w
  says_unsound j = let g = given in inr (refl, g.3, λ h. j (rw (g.0, g.1, g.2) (sound_judged n C D w h)))

-- sizes of the same numbers are the same: each fact of their limits has one proof
room_prop : (n C : ℕ) → IsProp (InRoom n C)
room_prop n C x y =
    let places_least_prop : IsProp (1 ≤ n) = hlevel props in
    let places_most_prop : IsProp (n ≤ places_most) = hlevel props in
    let cells_least_prop : IsProp (1 ≤ C) = hlevel props in
    let cells_most_prop : IsProp (C ≤ cells_most) = hlevel props in
    λ i. record {
      places_least = places_least_prop x.places_least y.places_least i;
      places_at_most = places_most_prop x.places_at_most y.places_at_most i;
      cells_least = cells_least_prop x.cells_least y.cells_least i;
      cells_at_most = cells_most_prop x.cells_at_most y.cells_at_most i;
    }

limit_prop : (D : ℕ) → IsProp (InLimit D)
limit_prop D x y =
    let least_prop : IsProp (2 ≤ D) = hlevel props in
    let most_prop : IsProp (D ≤ limit_most) = hlevel props in
    λ i. record { least = least_prop x.least y.least i; most = most_prop x.most y.most i }

room_path : (r s : Room) → r.n ≡ s.n → r.c ≡ s.c → r ≡ s
room_path r s p q = λ i. record {
  n = p i;
  c = q i;
  within = is_prop→PathP (λ j. InRoom (p j) (q j)) (λ j. room_prop (p j) (q j)) r.within s.within i;
}

limit_path : (l m : Limit) → l.d ≡ m.d → l ≡ m
limit_path l m p = λ i. record { d = p i; within = is_prop→PathP (λ j. InLimit (p j)) (λ j. limit_prop (p j)) l.within m.within i }

sizes_path : (s t : Sizes) → s.room.n ≡ t.room.n → s.room.c ≡ t.room.c → s.limit.d ≡ t.limit.d → s ≡ t
sizes_path s t p q r = λ i. record { room = room_path s.room t.room p q i; limit = limit_path s.limit t.limit r i }

-- numbers and a table have one answer: its sizes, or its refusal
module _ (n C D : ℕ) (w : List ℕ) where
  pub says_once : (a b : Result Sizes Refusal) → Says a n C D w → Says b n C D w → a ≡ b
  says_once (Ok s) (Ok t) p q = ap Ok (sizes_path s t (p.0 ∙ sym q.0) (p.1 ∙ sym q.1) (p.2 ∙ sym q.2))
  says_once (Ok s) (Err y) p q = absurd (⊎_elim (λ h. h.1 p.3.sized) (λ h. h.2 p.3) q)
  says_once (Err x) (Ok t) p q = absurd (⊎_elim (λ h. h.1 q.3.sized) (λ h. h.2 q.3) p)
  says_once (Err x) (Err y) p q =
      ⊎_elim (λ h. ⊎_elim (λ k. ap Err (h.0 ∙ sym k.0)) (λ k. absurd (h.1 k.1)) q)
      (λ h. ⊎_elim (λ k. absurd (k.1 h.1)) (λ k. ap Err (h.0 ∙ sym k.0)) q) p

-- an answer that is known says what it says
module _ (n C D : ℕ) (w : List ℕ) (r : Result Sizes Refusal) (s : Says r n C D w) where
  pub judged_ok : (k : Sizes) → r ≡ Ok k → (k.room.n ≡ n) × (k.room.c ≡ C) × (k.limit.d ≡ D) × Sound n C D w
  judged_ok k e = subst (λ (x : Result Sizes Refusal). Says x n C D w) e s

  pub judged_err : (why : Refusal) → r ≡ Err why
      → ((why ≡ refusal.Sizes) × (Sized n C D w → ⊥)) ⊎ ((why ≡ refusal.Unsound) × Sized n C D w × (Sound n C D w → ⊥))
  judged_err why e = subst (λ (x : Result Sizes Refusal). Says x n C D w) e s

  -- the store is sound for the sizes that are answered
  pub own_sound : (k : Sizes) → r ≡ Ok k → Sound k.room.n k.room.c k.limit.d w
  own_sound k e = let g = judged_ok k e in rw (g.0, g.1, g.2) g.3

  -- what holds of the sizes that are answered holds of the numbers
  pub of_numbers : (P : ℕ → ℕ → ℕ → Type 0) (k : Sizes) → r ≡ Ok k → P k.room.n k.room.c k.limit.d → P n C D
  of_numbers P k e h =
      let g = judged_ok k e in
      subst (λ (d : ℕ). P n C d) g.2 (subst (λ (c : ℕ). P n c k.limit.d) g.1 (subst (λ (m : ℕ). P m k.room.c k.limit.d) g.0 h))
