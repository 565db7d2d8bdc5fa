-- `table::empty::count_up` meets its contract: the words below i are written. Assumes nothing.
use mathlib.Core.Path.{◌≡◌}
use lib.ListN.{length}
use borrow.Author.Rules.{rules}
use native.Mathlib.Omega.{arith}
use Rattle.table.proofs.Writing.{writes_part}
use Rattle.table.proofs.empty.count_up.Goals as goal

pub returns : goal.returns
returns c =
    let long : length c.loop-i.word-items ≡ c.args.many = search rules in
    writes_part _ _ _ _ _ c.requires.0 (omega arith) _ long (λ k h. c.loop-i.invariant k (omega arith))
