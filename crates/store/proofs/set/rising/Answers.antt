-- `store::set::rising` meets its contract. Assumes nothing.
use Rattle.store.proofs.Rising.{rising_told, Falls}
use Rattle.std.specs.Bool.{MatchBool}
use Rattle.std.specs.List.Sorted.{IsStrictlyIncreasing}
use Rattle.std.proofs.lemmas.Grind.{common_steps}
use Rattle.std.proofs.Common.{arith}
use Rattle.store.proofs.set.rising.Goals as goal

pub returns : goal.returns
returns c =
    let told : MatchBool c.all.result (IsStrictlyIncreasing c.args.places.now) (Falls c.args.places.now) = grind (arith, common_steps) in
    rising_told c.args.places.now c.all.result told
