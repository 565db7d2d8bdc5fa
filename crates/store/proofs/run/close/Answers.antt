-- `store::run::close` meets its contract: each answer is the law of its test. Assumes nothing.
use Rattle.std.proofs.lemmas.Result.{err_from_is_err_and}
use Rattle.terms.proofs.Steps.{went_on, left_none, left_why}
use Rattle.store.proofs.Opening.{close_bad, close_shut, close_touches, close_touched, closes}
use Rattle.store.proofs.run.close.Goals as goal

pub returns-then-is_bad : goal.returns-then-is_bad
returns-then-is_bad c = close_bad _ _ _ _ c.requires _ (cc)

pub returns-in_err-v : goal.returns-in_err-v
returns-in_err-v c =
    let p = err_from_is_err_and c.from_residual.result c.from_residual.ensures.1 in
    rw (p.1, p.2, left_why _ _ _ _ c.ok_or.ensures.value c.in_err-v.was)
    (close_shut _ _ _ _ c.requires _ _ (cc) c.place.ensures (left_none _ _ _ _ c.ok_or.ensures.value c.in_err-v.was))

pub touched-requires : goal.touched-requires
touched-requires c = close_touches _ _ _ _ c.requires _ _ (cc) c.place.ensures _ (went_on _ _ _ _ c.ok_or.ensures.value c.in_ok-v.was)

pub returns-then-touched : goal.returns-then-touched
returns-then-touched c = close_touched _ _ _ _ c.requires _ _ (cc) c.place.ensures _ (went_on _ _ _ _ c.ok_or.ensures.value c.in_ok-v.was) (cc)

pub returns : goal.returns
returns c = closes _ _ _ _ c.requires _ _ (cc) c.place.ensures _ (went_on _ _ _ _ c.ok_or.ensures.value c.in_ok-v.was) _ (cc) (cc)
