-- `lists::join::settle` meets its contract: each way out is the law of its case. Assumes nothing.
use Rattle.lists.proofs.Joining.{settle_begins}
use Rattle.lists.proofs.join.settle.Goals as goal

pub turning-ended-requires : goal.turning-ended-requires
turning-ended-requires c = settle_begins _ _ _ _ _ _ _ c.requires _ c.standing-links.ensures
