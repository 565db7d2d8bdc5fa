-- `wormstrand::bring_forward` meets its contract: the stream promises a result, and its packing is returned. Assumes nothing.
use Rattle.wormstrand.proofs.Streams.{carried_small, result_packed}
use Rattle.wormstrand.proofs.bring_forward.Goals as goal

pub pack_result-requires : goal.pack_result-requires
pack_result-requires c = carried_small _ _ _ _ _ _ _ c.stream-streamed.ensures

pub returns : goal.returns
returns c =
    result_packed _ _ _ _ _ _ c.stream-streamed.result _
    c.stream-streamed.ensures c.pack_result.ensures
