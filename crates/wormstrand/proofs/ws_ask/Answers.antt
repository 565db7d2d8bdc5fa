-- `wormstrand::ws_ask` meets its contract: the public call promises an answer, and its packing is returned. Assumes nothing.
use Rattle.wormstrand.proofs.Returning.{packed}
use Rattle.wormstrand.proofs.ws_ask.Goals as goal

pub returns : goal.returns
returns c = packed _ _ _ _ _ _ _ _ c.ask.ensures c.pack.ensures
