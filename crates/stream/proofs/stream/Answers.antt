-- `stream::stream` meets its contract: each way out is the law of its case. Assumes nothing.
use Rattle.stream.proofs.Promising.{unfit, refused_whole, own_lent, carried_out}
use Rattle.stream.proofs.stream.Goals as goal

pub returns-then-not-fits : goal.returns-then-not-fits
returns-then-not-fits c = unfit _ _ _ _ _ _ _ _ _ c.fits.result _ c.fits.ensures c.if-not-fits.true c.refused.ensures

pub carry_all-requires : goal.carry_all-requires
carry_all-requires c = own_lent _ _ _ _ _ _ _ _ _ c.fits.result c.fits.ensures c.if-not-fits.false c.judge.result c.judge.ensures _ c.in-Ok.is

pub returns-in-Err : goal.returns-in-Err
returns-in-Err c = refused_whole _ _ _ _ _ _ _ _ _ c.fits.result c.fits.ensures c.if-not-fits.false c.judge.result c.judge.ensures _ _ c.in-Err.is c.refused-in-Err.ensures

pub returns-in-Ok : goal.returns-in-Ok
returns-in-Ok c = carried_out _ _ _ _ _ _ _ _ _ c.fits.result c.fits.ensures c.if-not-fits.false c.judge.result c.judge.ensures _ c.in-Ok.is c.carry_all.result _ c.carry_all.ensures
