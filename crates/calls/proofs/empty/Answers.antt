-- `calls::empty` meets its contract: what the sizes and the length make of the call. Assumes nothing.
use Rattle.std.proofs.lemmas.Result.{err_from_is_err_and}
use Rattle.terms.proofs.Steps.{went_on, left_none, left_why}
use Rattle.calls.proofs.Promising.{empty_outside, empty_short, empty_within, empty_done}
use Rattle.calls.proofs.empty.Goals as goal

pub returns-in_err-room : goal.returns-in_err-room
returns-in_err-room c =
    let p = err_from_is_err_and c.from_residual.result c.from_residual.ensures.1 in
    rw (p.1, p.2, left_why _ _ _ _ c.ok_or.ensures.value c.in_err-room.was)
    (empty_outside _ _ _ _ c.of.ensures (left_none _ _ _ _ c.ok_or.ensures.value c.in_err-room.was))

pub returns-then-store-store_words : goal.returns-then-store-store_words
returns-then-store-store_words c =
    empty_short _ _ _ _ c.of.ensures _ (went_on _ _ _ _ c.ok_or.ensures.value c.in_ok-room.was) _ c.store_words.ensures c.if-store-store_words.true

pub empty-requires : goal.empty-requires
empty-requires c =
    empty_within _ _ _ _ c.of.ensures _ (went_on _ _ _ _ c.ok_or.ensures.value c.in_ok-room.was) _ c.store_words.ensures c.if-store-store_words.false

pub returns : goal.returns
returns c =
    empty_done _ _ _ _ c.of.ensures _ (went_on _ _ _ _ c.ok_or.ensures.value c.in_ok-room.was) _ c.store_words.ensures c.if-store-store_words.false _
    c.empty.ensures
