-- `store::run::open` meets its contract: each answer is the law of its test. Assumes nothing.
use Rattle.std.proofs.lemmas.Result.{err_from_is_err_and}
use Rattle.terms.proofs.Steps.{went_on, left_none, left_why}
use Rattle.store.proofs.Opening.{open_bad, open_already, open_full, opens}
use Rattle.store.proofs.run.open.Goals as goal

pub returns-then-is_bad : goal.returns-then-is_bad
returns-then-is_bad c = open_bad _ _ _ _ c.requires _ (cc)

pub returns-then-is_some : goal.returns-then-is_some
returns-then-is_some c = open_already _ _ _ _ c.requires _ _ (cc) c.place.ensures (cc)

pub returns-in_err-v : goal.returns-in_err-v
returns-in_err-v c =
    let p = err_from_is_err_and c.from_residual.result c.from_residual.ensures.1 in
    rw (p.1, p.2, left_why _ _ _ _ c.ok_or.ensures.value c.in_err-v.was)
    (open_full _ _ _ _ c.requires _ _ _ (cc) c.place.ensures (cc) c.free_place.ensures (left_none _ _ _ _ c.ok_or.ensures.value c.in_err-v.was))

pub returns : goal.returns
returns c = opens _ _ _ _ c.requires _ _ _ (cc) c.place.ensures (cc) c.free_place.ensures _ _ (went_on _ _ _ _ c.ok_or.ensures.value c.in_ok-v.was) c.rename.ensures
