-- `store::link::unlink` meets its contract: each answer is the law of its case. Assumes nothing.
use Rattle.std.proofs.lemmas.Result.{err_from_is_err_and}
use Rattle.find.proofs.Finding.{named_both, named_barred, link_some, link_neither}
use Rattle.store.proofs.Linking.{found_two, link_spot, unlink_barred, unlink_linked, unlink_neither}
use Rattle.store.proofs.link.unlink.Goals as goal

pub returns-in_err-ends : goal.returns-in_err-ends
returns-in_err-ends c =
    let p = err_from_is_err_and c.from_residual.result c.from_residual.ensures.1 in
    rw (p.1, p.2) (unlink_barred _ _ _ _ c.requires _ _ _ (named_barred _ _ _ _ _ _ _ c.both.ensures c.in_err-ends.was))

pub link_of-requires : goal.link_of-requires
link_of-requires c = found_two _ _ _ _ _ _ _ c.requires (named_both _ _ _ _ _ _ _ c.both.ensures c.in_ok-ends.was)

pub returns-in_default : goal.returns-in_default
returns-in_default c =
    unlink_neither _ _ _ _ c.requires _ _ _ (named_both _ _ _ _ _ _ _ c.both.ensures c.in_ok-ends.was)
    (link_neither _ _ _ _ _ _ c.link_of.ensures c.in_default.is)

pub free-requires : goal.free-requires
free-requires c =
    link_spot _ _ _ _ c.requires _ _ _ (named_both _ _ _ _ _ _ _ c.both.ensures c.in_ok-ends.was) _
    (link_some _ _ _ _ _ _ _ c.link_of.ensures c.in-Some.is)

pub returns : goal.returns
returns c =
    unlink_linked _ _ _ _ c.requires _ _ _ (named_both _ _ _ _ _ _ _ c.both.ensures c.in_ok-ends.was) _ _
    (link_some _ _ _ _ _ _ _ c.link_of.ensures c.in-Some.is) c.free.ensures
