-- What the constructors of the sizes answer: the value itself where its numbers are within their limits, else nothing.
use Rattle.std.specs.Prelude.{ℕ, ◌≤◌, ◌≡◌, Option, Some, None}
use Rattle.terms.specs.Size.{InRoom, InLimit, stream_most}
use Rattle.terms.specs.declared.size.Room.{Room}
use Rattle.terms.specs.declared.size.Limit.{Limit}
use Rattle.terms.specs.declared.size.Length.{Length}

-- what Room::of answers: the room itself where both sizes are within their limits
abbrev pub RoomTold : Option Room → ℕ → ℕ → Type 0
RoomTold (Some r) n C = (r.n ≡ n) × (r.c ≡ C) × InRoom n C
RoomTold None n C = InRoom n C → ⊥

-- what Limit::of answers
abbrev pub LimitTold : Option Limit → ℕ → Type 0
LimitTold (Some l) D = (l.d ≡ D) × InLimit D
LimitTold None D = InLimit D → ⊥

-- what Length::of answers
abbrev pub LengthTold : Option Length → ℕ → Type 0
LengthTold (Some l) bytes = (l.bytes ≡ bytes) × (bytes ≤ stream_most)
LengthTold None bytes = bytes ≤ stream_most → ⊥
