-- `find::place` meets its contract: the first place whose run is the run. Assumes nothing.
use Rattle.std.proofs.Common.{◌≡◌, ℕ, rules, sym}
use Rattle.std.proofs.lemmas.Iterator.{first_from_Range}
use borrow.Author.Tests.{tests}
use Rattle.terms.specs.Run.{same_run}
use Rattle.terms.proofs.Names.{same_refl, same_no}
use Rattle.table.specs.Within.{named}
use Rattle.find.proofs.Finding.{first_place}
use Rattle.find.proofs.place.Goals as goal

pub returns : goal.returns
returns c =
    let t = c.args.table in
    let run_at = λ (v : ℕ). named t.room.n t.room.c t.words.now v in
    first_place t.room.n t.room.c t.words.now (same_run c.args.run) (λ v. run_at v ≡ c.args.run) (λ v. run_at v ≡ c.args.run → ⊥)
    (λ k e. rw e (same_refl c.args.run)) (λ k d. same_no c.args.run (run_at k) (λ e. d (sym e))) c.find.result
    (first_from_Range _ _ _ c.find.result (λ v. run_at v ≡ c.args.run) (λ v. run_at v ≡ c.args.run → ⊥) c.find.ensures.ran
    (λ x q k. search (rules, tests)) (λ x q k. search (rules, tests)))
