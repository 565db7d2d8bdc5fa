-- `stream::fits` meets its contract. Assumes nothing.
use Rattle.stream.proofs.Promising.{too_long, not_too_long}
use native.Mathlib.Omega.{arith}
use borrow.Author.Rules.{rules}
use borrow.Author.Tests.{tests}
use Rattle.stream.proofs.fits.Goals as goal

pub returns-then-is_none : goal.returns-then-is_none
returns-then-is_none c = λ f. too_long _ _ c.of.ensures (search (rules, tests)) f.short

pub returns : goal.returns
returns c = let h = not_too_long _ _ c.of.ensures (search (rules, tests)) in record { spare_long = search rules; waiting_long = search rules; short = h; answers_long = omega arith; accepted_most = omega arith; reversals_most = omega arith }
