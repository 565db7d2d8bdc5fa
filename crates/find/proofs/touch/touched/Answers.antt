-- `find::touch::touched` meets its contract: the list of v is not empty, or every cell is looked at until one aims at v. Assumes nothing.
use Rattle.std.proofs.Common.{◌≡◌, refl, arith, rules, sym, ◌∙◌}
use Rattle.std.proofs.lemmas.Iterator.{cases_from_any, YieldsList-from_range}
use borrow.Author.Tests.{tests}
use Rattle.meaning.specs.Table.{target_of}
use Rattle.find.proofs.Touching.{own_touched, looked}
use Rattle.find.proofs.touch.touched.Goals as goal

pub returns-then-count-ne0 : goal.returns-then-count-ne0
returns-then-count-ne0 c = own_touched _ _ _ c.requires.0 _ c.requires.1 _ c.count.ensures.0 c.if-count-ne0.true

pub returns : goal.returns
returns c =
    let t = c.args.table in
    looked _ _ _ c.requires.0 _ c.requires.1 c.any.result (sym c.count.ensures.0 ∙ c.if-count-ne0.false)
    (cases_from_any _ _ c.any.result (λ i. target_of t.room.n t.room.c t.words.now i ≡ c.args.v) (λ i. target_of t.room.n t.room.c t.words.now i ≡ c.args.v → ⊥)
    c.any.ensures.ran (YieldsList-from_range 0 t.room.c t.room.c refl (omega arith)) (λ x q k. search (rules, tests)) (λ x q k. search (rules, tests)))
