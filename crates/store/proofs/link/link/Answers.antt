-- `store::link::link` meets its contract: each answer is the law of its case. Assumes nothing.
use borrow.Author.Rules.{rules}
use Rattle.std.proofs.lemmas.Result.{err_from_is_err_and}
use Rattle.find.proofs.Finding.{named_both, named_barred}
use Rattle.store.proofs.Linking.{found_two}
use Rattle.store.proofs.Relating.{link_barred, link_already, link_apart, link_joins, link_joined}
use Rattle.store.proofs.link.link.Goals as goal

pub returns-in_err-ends : goal.returns-in_err-ends
returns-in_err-ends c =
    let p = err_from_is_err_and c.from_residual.result c.from_residual.ensures.1 in
    rw (p.1, p.2) (link_barred _ _ _ _ _ _ c.requires.0 c.requires.1 _ _ _ (named_barred _ _ _ _ _ _ _ c.both.ensures c.in_err-ends.was))

pub link_of-requires : goal.link_of-requires
link_of-requires c = found_two _ _ _ _ _ _ _ c.requires.1 (named_both _ _ _ _ _ _ _ c.both.ensures c.in_ok-ends.was)

pub returns-then-is_some : goal.returns-then-is_some
returns-then-is_some c = link_already _ _ _ _ _ _ c.requires.0 c.requires.1 _ _ _ (named_both _ _ _ _ _ _ _ c.both.ensures c.in_ok-ends.was) _ c.link_of.ensures (cc) _ (search rules)

pub join-requires : goal.join-requires
join-requires c =
    let f = named_both _ _ _ _ _ _ _ c.both.ensures c.in_ok-ends.was in
    link_joins _ _ _ _ _ _ c.requires.0 c.requires.1 _ _ _ f (link_apart _ _ _ _ _ _ c.requires.0 c.requires.1 _ _ _ f _ c.link_of.ensures (cc))

pub returns : goal.returns
returns c =
    let f = named_both _ _ _ _ _ _ _ c.both.ensures c.in_ok-ends.was in
    link_joined _ _ _ _ _ _ c.requires.0 c.requires.1 _ _ _ f (link_apart _ _ _ _ _ _ c.requires.0 c.requires.1 _ _ _ f _ c.link_of.ensures (cc)) _ _ _ _ c.join.ensures
