-- `find::both` meets its contract: the tests 3, 4 and 5 in turn. Assumes nothing.
use mathlib.Core.Path.{sym, ◌∙◌}
use Rattle.std.proofs.lemmas.Result.{err_from_is_err_and}
use Rattle.terms.proofs.Names.{same_by}
use Rattle.terms.proofs.Steps.{went_on, left_none, left_why}
use Rattle.find.proofs.Naming.{one_run, first_shut, second_shut, both_open}
use Rattle.find.proofs.both.Goals as goal

pub returns-then-eq : goal.returns-then-eq
returns-then-eq c = one_run _ _ _ _ _ (cc) (cc) (sym (same_by _ _) ∙ sym c.eq.ensures ∙ c.if-eq.true)

pub returns-in_err-first : goal.returns-in_err-first
returns-in_err-first c =
    let p = err_from_is_err_and c.from_residual.result c.from_residual.ensures.1 in
    let two = sym (same_by c.args.p c.args.q) ∙ sym c.eq.ensures ∙ c.if-eq.false in
    rw (p.1, p.2, left_why _ _ _ _ c.ok_or.ensures.value c.in_err-first.was)
    (first_shut _ _ _ _ _ (cc) (cc) two _ c.place.ensures (left_none _ _ _ _ c.ok_or.ensures.value c.in_err-first.was))

pub returns-in_err-second : goal.returns-in_err-second
returns-in_err-second c =
    let p = err_from_is_err_and c.from_residual-in_err-second.result c.from_residual-in_err-second.ensures.1 in
    let two = sym (same_by c.args.p c.args.q) ∙ sym c.eq.ensures ∙ c.if-eq.false in
    rw (p.1, p.2, left_why _ _ _ _ c.ok_or-2.ensures.value c.in_err-second.was)
    (second_shut _ _ _ _ _ (cc) (cc) two _ c.place.ensures _ c.place-2.ensures _
    (went_on _ _ _ _ c.ok_or.ensures.value c.in_ok-first.was) (left_none _ _ _ _ c.ok_or-2.ensures.value c.in_err-second.was))

pub returns : goal.returns
returns c =
    let two = sym (same_by c.args.p c.args.q) ∙ sym c.eq.ensures ∙ c.if-eq.false in
    both_open _ _ _ _ _ (cc) (cc) two _ c.place.ensures _ c.place-2.ensures _ _
    (went_on _ _ _ _ c.ok_or.ensures.value c.in_ok-first.was) (went_on _ _ _ _ c.ok_or-2.ensures.value c.in_ok-second.was)
