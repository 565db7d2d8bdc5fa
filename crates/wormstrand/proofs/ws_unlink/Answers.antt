-- `wormstrand::ws_unlink` meets its contract: the public call promises an answer, and its packing is returned. Assumes nothing.
use Rattle.wormstrand.proofs.Returning.{packed}
use Rattle.wormstrand.proofs.ws_unlink.Goals as goal

pub returns : goal.returns
returns c = packed _ _ _ _ _ _ _ _ c.unlink.ensures c.pack.ensures
