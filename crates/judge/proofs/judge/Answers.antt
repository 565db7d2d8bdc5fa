-- `judge::judge` meets its contract: the judge's test is a test of soundness (Judgings). Assumes nothing.
use Rattle.terms.proofs.Told.{yes_told, no_told}
use Rattle.judge.proofs.Judgings.{says_sound, says_unsound}
use Rattle.judge.proofs.judge.Goals as goal

pub returns-then-not-sound : goal.returns-then-not-sound
returns-then-not-sound c =
    says_unsound _ _ _ _ _ _ c.in_ok-sizes.ensures.ok_part c.sized.ensures
    (no_told c.sound.result c.if-not-sound.true c.sound.ensures)

pub returns : goal.returns
returns c =
    says_sound _ _ _ _ _ _ c.in_ok-sizes.ensures.ok_part c.sized.ensures
    (yes_told c.sound.result c.if-not-sound.false c.sound.ensures)
