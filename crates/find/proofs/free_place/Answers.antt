-- `find::free_place` meets its contract: the first place with line 0. Assumes nothing.
use Rattle.std.proofs.Common.{◌≡◌, ℕ, rules, true, false, eqb}
use Rattle.std.proofs.lemmas.Iterator.{first_from_Range}
use borrow.Author.Tests.{tests}
use Rattle.table.specs.Within.{named}
use Rattle.find.proofs.Finding.{first_place}
use Rattle.find.proofs.free_place.Goals as goal

pub returns : goal.returns
returns c =
    let t = c.args.table in
    let is_free = λ (v : ℕ). eqb (named t.room.n t.room.c t.words.now v).line 0 in
    first_place t.room.n t.room.c t.words.now (λ r. eqb r.line 0) (λ v. is_free v ≡ true) (λ v. is_free v ≡ false) (λ k e. e) (λ k e. e) c.find.result
    (first_from_Range _ _ _ c.find.result (λ v. is_free v ≡ true) (λ v. is_free v ≡ false) c.find.ensures.ran
    (λ x q k. search (rules, tests)) (λ x q k. search (rules, tests)))
