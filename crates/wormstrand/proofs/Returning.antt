-- What an exported call returns: the packing of the answer that the public call gave and promised. Assumes nothing.
use Prim.Native.Nat.{ℕ}
use mathlib.Core.List.{List}
use mathlib.Core.Path.{◌≡◌}
use Rattle.terms.specs.declared.run.Run.{Run}
use Rattle.terms.specs.Refusal.{Answer}
use Rattle.meaning.specs.Calls.{Call}
use Rattle.meaning.specs.Promise.{Promise, EmptyPromise, LinkPromise}
use Rattle.wormstrand.specs.Pack.{pack, Packed}
use Rattle.wormstrand.proofs.Small.{empty_small, promise_small, link_promise_small}

pub empty_packed : (n C : ℕ) (w : List ℕ) (a : Answer) (w' : List ℕ) (r : ℕ) → EmptyPromise n C w a w' → r ≡ pack a
    → Packed (λ b. EmptyPromise n C w b w') r
empty_packed n C w a w' r p e = record { answer = a; small = empty_small n C w a w' p; packed = e; holds = p }

pub packed : (n C D : ℕ) (q : Call) (w : List ℕ) (a : Answer) (w' : List ℕ) (r : ℕ) → Promise n C D q w a w' → r ≡ pack a
    → Packed (λ b. Promise n C D q w b w') r
packed n C D q w a w' r p e = record { answer = a; small = promise_small n C D q w a w' p; packed = e; holds = p }

pub link_packed : (n C D : ℕ) (p q : Run) (w spare waiting : List ℕ) (a : Answer) (w' spare' waiting' : List ℕ) (r : ℕ)
    → LinkPromise n C D p q w spare waiting a w' spare' waiting' → r ≡ pack a
    → Packed (λ b. LinkPromise n C D p q w spare waiting b w' spare' waiting') r
link_packed n C D p q w spare waiting a w' spare' waiting' r k e =
    record { answer = a; small = link_promise_small n C D p q w spare waiting a w' spare' waiting' k; packed = e; holds = k }
