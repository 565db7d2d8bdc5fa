-- `calls::ask` meets its contract: what the judge's answer makes of the call. Assumes nothing.
use Rattle.std.proofs.lemmas.Result.{err_from_is_err_and}
use Rattle.judge.proofs.Judgings.{own_sound}
use Rattle.calls.proofs.Promising.{promise_refused, promise_sound}
use Rattle.calls.proofs.ask.Goals as goal

pub returns-in_err-sizes : goal.returns-in_err-sizes
returns-in_err-sizes c =
    let p = err_from_is_err_and c.from_residual.result c.from_residual.ensures.1 in
    rw (p.1, p.2) (promise_refused _ _ _ _ _ _ c.judge.ensures _ c.in_err-sizes.was)

pub ask-requires : goal.ask-requires
ask-requires c = own_sound _ _ _ _ _ c.judge.ensures _ c.in_ok-sizes.was

pub returns : goal.returns
returns c = promise_sound _ _ _ _ _ _ c.judge.ensures _ c.in_ok-sizes.was _ _ c.ask.ensures
