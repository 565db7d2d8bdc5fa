-- `terms::run::Run::is_bad` meets its contract, by the laws of a bad name. Assumes nothing.
use mathlib.Core.Path.{sym}
use Rattle.terms.proofs.Names.{bad_zero, bad_above, not_bad}
use Rattle.terms.proofs.run.Run.is_bad.Goals as goal

pub returns-then-self-eq0 : goal.returns-then-self-eq0
returns-then-self-eq0 c = sym (bad_zero _ c.if-self-eq0.true)

pub returns-then-self-gt-LINE_MOST : goal.returns-then-self-gt-LINE_MOST
returns-then-self-gt-LINE_MOST c = sym (bad_above _ c.if-self-eq0.false c.if-self-gt-LINE_MOST.true)

pub returns : goal.returns
returns c = sym (not_bad _ c.if-self-eq0.false c.if-self-gt-LINE_MOST.false)
