-- Document 01: "14 comes before 5": a bad set is refused as such, whether or not its places are open. Assumes nothing.
use Prim.Native.Nat.{ℕ}
use mathlib.Core.Bool.{true}
use mathlib.Core.List.{List}
use mathlib.Core.Path.{◌≡◌}
use Rattle.std.specs.Prelude.{Err}
use Rattle.terms.specs.declared.refusal.Refusal.TheVariants.{BadSet}
use Rattle.meaning.specs.Day.{Day}
use Rattle.meaning.specs.Calls.{reading, bad_set, call}

pub set_first : (D : ℕ) (s : Day) (ps : List ℕ) → bad_set ps ≡ true → (call D s (reading ps)).answer ≡ Err BadSet
set_first D s ps h = rw h
