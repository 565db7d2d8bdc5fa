-- `dayrun::run_day` meets its contract: the store is emptied, the stream runs on it, and its numbers are told. Assumes nothing.
use mathlib.Core.Path.{refl}
use Rattle.dayrun.proofs.Days.{stands, ran}
use Rattle.dayrun.proofs.run_day.Goals as goal

pub standing-requires : goal.standing-requires
standing-requires c = stands _ _ _ _ _ _ _ _ c.stream-done.result _ _ _ _ c.requires.0 c.requires.1 refl refl refl c.default.ensures.0 c.default.ensures.1 c.empty.ensures c.stream-done.ensures

pub returns : goal.returns
returns c = ran _ _ _ _ _ _ _ _ c.stream-done.result _ _ _ _ c.requires.0 c.requires.1 refl refl refl c.default.ensures.0 c.default.ensures.1 c.empty.ensures c.stream-done.ensures _ _ c.refusal.ensures c.standing.ensures
