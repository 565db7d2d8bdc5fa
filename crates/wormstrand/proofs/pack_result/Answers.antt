-- `wormstrand::pack_result` meets its contract: a refusal is at most 14, so both halves have room. Assumes nothing.
use Rattle.wormstrand.proofs.Streams.{stop_most}
use native.Mathlib.Omega.{arith}
use Rattle.wormstrand.proofs.pack_result.Goals as goal

pub overflow_mul-result : goal.overflow_mul-result
overflow_mul-result c = omega (arith, c.refusal.ensures, stop_most c.args.streamed.stop)

pub overflow_add-result : goal.overflow_add-result
overflow_add-result c = omega (arith, c.refusal.ensures, stop_most c.args.streamed.stop, c.requires)
