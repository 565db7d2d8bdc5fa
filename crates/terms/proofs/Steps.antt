-- Laws of a step that may fail, `option.ok_or(why)?`: what its two exits say of the option; and of a test whether something is there.
-- Assumes nothing.
use mathlib.Core.Path.{◌≡◌, refl}
use mathlib.Core.Bool.{true, false}
use Rattle.std.specs.Prelude.{Option, Some, None, Result, Ok, Err, ok_or, is_some}

pub went_on : {A E : Type 0} (o : Option A) (why : E) (r : Result A E) (x : A) → r ≡ ok_or o why → r ≡ Ok x → o ≡ Some x
went_on (Some y) why r x e f = cc
went_on None why r x e f = cc

pub left_none : {A E : Type 0} (o : Option A) (why d : E) (r : Result A E) → r ≡ ok_or o why → r ≡ Err d → o ≡ None
left_none (Some y) why d r e f = cc
left_none None why d r e f = refl

pub left_why : {A E : Type 0} (o : Option A) (why d : E) (r : Result A E) → r ≡ ok_or o why → r ≡ Err d → d ≡ why
left_why (Some y) why d r e f = cc
left_why None why d r e f = cc

pub something : {A : Type 0} (o : Option A) → is_some o ≡ true → (x : A) × (o ≡ Some x)
something (Some x) e = (x, refl)
something None e = absurd (cc)

pub nothing : {A : Type 0} (o : Option A) → is_some o ≡ false → o ≡ None
nothing (Some x) e = absurd (cc)
nothing None e = refl
