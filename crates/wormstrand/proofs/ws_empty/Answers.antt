-- `wormstrand::ws_empty` meets its contract: the public call promises an answer, and its packing is returned. Assumes nothing.
use Rattle.wormstrand.proofs.Returning.{empty_packed}
use Rattle.wormstrand.proofs.ws_empty.Goals as goal

pub returns : goal.returns
returns c = empty_packed _ _ _ _ _ _ c.empty.ensures c.pack.ensures
