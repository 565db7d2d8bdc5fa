-- `find::standing` meets its contract: the cells that are not free are the links. Assumes nothing.
use Rattle.find.proofs.Finding.{free_fits, rest_stands}
use Rattle.find.proofs.standing.Goals as goal

pub overflow_sub-result : goal.overflow_sub-result
overflow_sub-result c = free_fits _ _ _ c.requires _ c.count.ensures.0

pub returns : goal.returns
returns c = rest_stands _ _ _ c.requires _ c.count.ensures.0
