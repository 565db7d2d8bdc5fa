-- `table::empty::fill` meets its contract: the part that is filled is one section. Assumes nothing.
use borrow.Author.Rules.{rules}
use native.Mathlib.Omega.{arith}
use Rattle.table.proofs.Writing.{writes_same}
use Rattle.table.proofs.empty.fill.Goals as goal

pub returns : goal.returns
returns c = writes_same _ _ _ _ _ c.requires.0 (omega arith) _ (search rules)
