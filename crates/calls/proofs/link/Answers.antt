-- `calls::link` meets its contract: what the tables' lengths and the judge's answer make of the call. Assumes nothing.
use Rattle.std.proofs.lemmas.Result.{err_from_is_err_and}
use Rattle.calls.proofs.Promising.{link_spare, link_waiting, link_refused, sound_lent, link_sound}
use Rattle.calls.proofs.link.Goals as goal

pub returns-then-spare-store : goal.returns-then-spare-store
returns-then-spare-store c = link_spare _ _ _ _ _ _ _ _ c.if-spare-store.true

pub returns-then-waiting-n : goal.returns-then-waiting-n
returns-then-waiting-n c = link_waiting _ _ _ _ _ _ _ _ c.if-waiting-n.true

pub returns-in_err-sizes : goal.returns-in_err-sizes
returns-in_err-sizes c =
    let p = err_from_is_err_and c.from_residual.result c.from_residual.ensures.1 in
    rw (p.1, p.2)
    (link_refused _ _ _ _ _ _ _ _ c.if-spare-store.false c.if-waiting-n.false _ c.judge.ensures _ c.in_err-sizes.was)

pub link-requires : goal.link-requires
link-requires c = sound_lent _ _ _ _ _ _ c.if-spare-store.false c.if-waiting-n.false _ c.judge.ensures _ c.in_ok-sizes.was

pub returns : goal.returns
returns c =
    link_sound _ _ _ _ _ _ _ _ c.if-spare-store.false c.if-waiting-n.false _ c.judge.ensures _ c.in_ok-sizes.was _ _ _ _ c.link.ensures
