-- `store::set::reading` meets its contract. Assumes nothing.
use Rattle.store.proofs.Setting.{marks_each, counts_each, reads}
use mathlib.Core.Path.{refl, sym}
use Rattle.store.proofs.set.reading.Goals as goal

pub mark-requires : goal.mark-requires
mark-requires c = (refl, sym c.if-not-rising.ensures, marks_each _ _ _ _ c.requires _ c.if-not-all_open.ensures)

pub inside-links-requires : goal.inside-links-requires
inside-links-requires c = counts_each _ _ _ _ c.requires _ c.if-not-all_open.ensures c.if-not-rising.ensures _ c.mark.ensures.long

pub returns : goal.returns
returns c = reads _ _ _ _ c.requires _ c.if-not-all_open.ensures c.if-not-rising.ensures c.if-places-lt2.false _ _ _ c.mark.ensures c.inside-links.ensures
