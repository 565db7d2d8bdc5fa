-- `store::set::all_open` meets its contract. Assumes nothing.
use Rattle.store.proofs.Setting.{open_listed}
use Rattle.std.proofs.Common.{rules, ◌∙◌}
use Rattle.std.proofs.lemmas.Iterator.{YieldsList-from_slice}
use Rattle.std.proofs.lemmas.Iterator.Search.{all_from_yields_List}
use Rattle.meaning.specs.Day.{day_of}
use Rattle.meaning.specs.Calls.{open_place}
use Rattle.store.proofs.set.all_open.Goals as goal

pub returns : goal.returns
returns c =
    let s = day_of c.args.table.room.n c.args.table.room.c c.args.table.words.now in
    all_from_yields_List (open_place s) _ _ _ c.all.ensures.ran (YieldsList-from_slice c.args.places.now c.iter.ensures.rest) (λ x b q k. search rules)
    ∙ open_listed s c.args.places.now
