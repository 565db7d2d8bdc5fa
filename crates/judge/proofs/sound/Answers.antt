-- `judge::sound` meets its contract: the tests together are the judge's whole test. Assumes nothing.
use Rattle.terms.proofs.Told.{yes_told, tells_iff}
use Rattle.judge.proofs.sound.Goals as goal

pub returns : goal.returns
returns c =
    let fresh = yes_told c.names.result c.if-not-names.false c.names.ensures in
    tells_iff
    (λ p. record {
      lengths = yes_told c.lengths.result c.if-not-lengths.false c.lengths.ensures;
      free = rw (c.head.ensures.0, c.count.ensures.0) at (yes_told c.walk.result c.if-not-walk.false c.walk.ensures);
      places = λ v q. record { line = (p v q).line; fresh = fresh v q; walks = (p v q).walks; alone = (p v q).alone };
    })
    (λ h v q. record { line = (h.places v q).line; walks = (h.places v q).walks; alone = (h.places v q).alone }) c.places.result c.places.ensures
