-- `table::section::word` meets its contract: an element of a slice of 32-bit words is below 2^32. Assumes nothing.
use mathlib.Core.Path.{refl}
use Rattle.meaning.specs.Table.{word}
use native.Mathlib.Omega.{arith}
use Rattle.table.proofs.section.word.Goals as goal

pub returns : goal.returns
unfolding word
returns c = (refl, omega (arith, c.type_inv.table c.args.i))
