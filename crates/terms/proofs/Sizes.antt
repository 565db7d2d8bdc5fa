-- Laws of what Room::of and Limit::of answer, by the answer's variant. Assumes nothing.
use Prim.Native.Nat.{ℕ}
use mathlib.Core.Path.{◌≡◌, subst}
use Rattle.std.specs.Prelude.{Option, Some, None}
use Rattle.terms.specs.Size.{InRoom, InLimit}
use Rattle.terms.specs.Told.{RoomTold, LimitTold}
use Rattle.terms.specs.declared.size.Room.{Room}
use Rattle.terms.specs.declared.size.Limit.{Limit}

pub room_within : (a : Option Room) (r : Room) (n C : ℕ) → a ≡ Some r → RoomTold a n C → (r.n ≡ n) × (r.c ≡ C) × InRoom n C
room_within a r n C e t = subst (λ (x : Option Room). RoomTold x n C) e t

pub room_outside : (a : Option Room) (n C : ℕ) → a ≡ None → RoomTold a n C → InRoom n C → ⊥
room_outside a n C e t = subst (λ (x : Option Room). RoomTold x n C) e t

pub limit_within : (a : Option Limit) (l : Limit) (D : ℕ) → a ≡ Some l → LimitTold a D → (l.d ≡ D) × InLimit D
limit_within a l D e t = subst (λ (x : Option Limit). LimitTold x D) e t

pub limit_outside : (a : Option Limit) (D : ℕ) → a ≡ None → LimitTold a D → InLimit D → ⊥
limit_outside a D e t = subst (λ (x : Option Limit). LimitTold x D) e t
