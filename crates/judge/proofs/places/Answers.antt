-- `judge::places` meets its contract: `all` is asked of each place (Ranges). Assumes nothing.
use mathlib.Core.Path.{refl}
use Rattle.judge.specs.Judging.{Listed}
use Rattle.judge.proofs.Ranges.{all_told}
use borrow.Author.Rules.{rules}
use borrow.Author.Tests.{tests}
use Rattle.judge.proofs.places.Goals as goal

pub returns : goal.returns
returns c =
    let t = c.args.table in
    all_told t.room.n _ _ _ _ (Listed t.room.n t.room.c t.words.now) refl c.all.ensures.ran (λ x q k. search (rules, tests)) (λ x q k. search (rules, tests))
