-- `lists::join::join` meets its contract: each way out is the law of its case. Assumes nothing.
use Rattle.std.proofs.lemmas.Result.{err_from_is_err_and}
use Rattle.lists.proofs.Joining.{join_full, join_short, join_settling, join_settled, join_dense}
use Rattle.lists.proofs.join.join.Goals as goal

pub returns-then-count-eq0 : goal.returns-then-count-eq0
returns-then-count-eq0 c = join_full _ _ _ _ _ _ _ _ c.requires _ c.count.ensures.0 c.if-count-eq0.true

pub returns-then-count-sizes : goal.returns-then-count-sizes
returns-then-count-sizes c = join_short _ _ _ _ _ _ _ _ c.requires _ c.count.ensures.0 c.if-count-eq0.false _ c.add.ensures _ c.count-2.ensures.0 c.if-count-sizes.true

pub settle-requires : goal.settle-requires
settle-requires c = join_settling _ _ _ _ _ _ _ _ c.requires _ c.count.ensures.0 c.if-count-eq0.false _ c.add-2.ensures _ c.count-2.ensures.0 c.if-count-sizes.false _ c.copy.ensures

pub returns-in_err-reversals : goal.returns-in_err-reversals
returns-in_err-reversals c =
    let p = err_from_is_err_and c.from_residual.result c.from_residual.ensures.1 in
    rw (p.1, p.2)
    (join_dense _ _ _ _ _ _ _ _ c.requires _ c.count.ensures.0 c.if-count-eq0.false _ c.add-2.ensures _ c.count-2.ensures.0 c.if-count-sizes.false _ c.copy.ensures _ _ _ c.settle.ensures _ c.in_err-reversals.was)

pub returns : goal.returns
returns c = join_settled _ _ _ _ _ _ _ _ c.requires _ c.count.ensures.0 c.if-count-eq0.false _ c.add-2.ensures _ c.count-2.ensures.0 c.if-count-sizes.false _ c.copy.ensures _ _ _ c.settle.ensures _ c.in_ok-reversals.was
