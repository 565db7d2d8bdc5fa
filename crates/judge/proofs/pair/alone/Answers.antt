-- `judge::pair::alone` meets its contract. The loop's invariant: what is left of the list walks right, and its pairs stand once
-- exactly if those of the whole do. Assumes nothing.
use Rattle.meaning.proofs.Judged.{walks_out, alone_end}
use borrow.Author.Rules.{rules}
use native.Mathlib.Omega.{arith}
use Rattle.judge.proofs.pair.alone.Goals as goal

pub lone-requires : goal.lone-requires
lone-requires c = (search rules, (walks_out _ _ _ _ _ _ (omega arith) c.loop-left.invariant.0).0)

pub returns : goal.returns
returns c = c.loop-left.invariant.1 (alone_end _ _ _ _ _ _ (omega arith))
