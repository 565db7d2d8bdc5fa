-- `wormstrand::ws_link` meets its contract: the public call promises an answer, and its packing is returned. Assumes nothing.
use Rattle.wormstrand.proofs.Returning.{link_packed}
use Rattle.wormstrand.proofs.ws_link.Goals as goal

pub returns : goal.returns
returns c = link_packed _ _ _ _ _ _ _ _ _ _ _ _ _ c.link.ensures c.pack.ensures
