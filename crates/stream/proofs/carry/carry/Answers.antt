-- `stream::carry::carry` meets its contract: each kind is its call. Assumes nothing.
use Rattle.stream.proofs.Carrying.{calmly, linking, by_kind}
use mathlib.Core.Path.{refl}
use Rattle.stream.proofs.carry.carry.Goals as goal

pub returns-in-Open : goal.returns-in-Open
returns-in-Open c = by_kind _ _ _ _ _ _ c.requires.1 _ _ _ _ _ _ _ c.in-Open.is refl (calmly _ _ _ _ _ _ c.requires.1 _ _ _ tt tt c.before.«open».ensures)

pub returns-in-Close : goal.returns-in-Close
returns-in-Close c = by_kind _ _ _ _ _ _ c.requires.1 _ _ _ _ _ _ _ c.in-Close.is refl (calmly _ _ _ _ _ _ c.requires.1 _ _ _ tt tt c.close.ensures)

pub returns-in-Link : goal.returns-in-Link
returns-in-Link c = by_kind _ _ _ _ _ _ c.requires.1 _ _ _ _ _ _ _ c.in-Link.is refl (linking _ _ _ _ _ _ c.requires.1 _ _ _ _ _ _ c.link.ensures)

pub returns-in-Unlink : goal.returns-in-Unlink
returns-in-Unlink c = by_kind _ _ _ _ _ _ c.requires.1 _ _ _ _ _ _ _ c.in-Unlink.is refl (calmly _ _ _ _ _ _ c.requires.1 _ _ _ tt tt c.unlink.ensures)

pub returns-in-Ask : goal.returns-in-Ask
returns-in-Ask c = by_kind _ _ _ _ _ _ c.requires.1 _ _ _ _ _ _ _ c.in-Ask.is refl (calmly _ _ _ _ _ _ c.requires.1 _ _ _ tt tt c.ask.ensures)
