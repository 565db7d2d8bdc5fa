-- Two outcomes that the contract of an exported call allows coincide: what it returns, every table and, of a stream, both totals.
-- Assumes nothing.
use Prim.Native.Nat.{ℕ}
use mathlib.Core.List.{List}
use mathlib.Core.Path.{◌≡◌, sym, ap, ◌∙◌}
use Rattle.terms.specs.declared.run.Run.{Run}
use Rattle.terms.specs.Refusal.{Answer}
use Rattle.meaning.specs.Calls.{Call}
use Rattle.meaning.specs.Promise.{Promise, EmptyPromise, LinkPromise, Tables, Result, StreamPromise}
use Rattle.demands.proofs.Tight.{call_tight, empty_tight, link_tight, Same, stream_tight}
use Rattle.wormstrand.specs.Pack.{pack, Packed, pack_result, PackedResult}

-- one answer has one packing
one_return : (P Q : Answer → Type 0) (r r' : ℕ) (p : Packed P r) (q : Packed Q r') → p.answer ≡ q.answer → r ≡ r'
one_return P Q r r' p q e = p.packed ∙ ap pack e ∙ sym q.packed

pub export_tight : (n C D : ℕ) (q : Call) (w x y : List ℕ) (r r' : ℕ)
    → Packed (λ a. Promise n C D q w a x) r → Packed (λ a. Promise n C D q w a y) r' → (r ≡ r') × (x ≡ y)
export_tight n C D q w x y r r' A B =
    let t : (A.answer ≡ B.answer) × (x ≡ y) = call_tight n C D q w A.answer B.answer x y A.holds B.holds in
    (one_return (λ a. Promise n C D q w a x) (λ a. Promise n C D q w a y) r r' A B t.0, t.1)

pub empty_export_tight : (n C : ℕ) (w x y : List ℕ) (r r' : ℕ)
    → Packed (λ a. EmptyPromise n C w a x) r → Packed (λ a. EmptyPromise n C w a y) r' → (r ≡ r') × (x ≡ y)
empty_export_tight n C w x y r r' A B =
    let t : (A.answer ≡ B.answer) × (x ≡ y) = empty_tight n C w A.answer B.answer x y A.holds B.holds in
    (one_return (λ a. EmptyPromise n C w a x) (λ a. EmptyPromise n C w a y) r r' A B t.0, t.1)

module _ (n C D : ℕ) (p q : Run) (w spare waiting x xs xw y ys yw : List ℕ) (r r' : ℕ) where
  pub link_export_tight : Packed (λ a. LinkPromise n C D p q w spare waiting a x xs xw) r
      → Packed (λ a. LinkPromise n C D p q w spare waiting a y ys yw) r' → (r ≡ r') × (x ≡ y) × (xs ≡ ys) × (xw ≡ yw)
  link_export_tight A B =
      let t = link_tight n C D p q w spare waiting A.answer B.answer x xs xw y ys yw A.holds B.holds in
      (one_return (λ a. LinkPromise n C D p q w spare waiting a x xs xw) (λ a. LinkPromise n C D p q w spare waiting a y ys yw) r r' A B t.0, t.1, t.2, t.3)

-- equal parts have one packing
one_packing : (a b : Result) → a.stop ≡ b.stop → a.carried ≡ b.carried → pack_result a ≡ pack_result b
one_packing a b e f = rw (e, f)

module _ (n C D : ℕ) (bytes : List ℕ) (t x y : Tables) (r r' : ℕ) where
  pub stream_export_tight : (A : PackedResult (λ a. StreamPromise n C D bytes t a x) r) (B : PackedResult (λ a. StreamPromise n C D bytes t a y) r')
      → (r ≡ r') × Same A.result B.result x y
  stream_export_tight A B =
      let e = stream_tight n C D bytes t A.result B.result x y A.holds B.holds in
      (A.packed ∙ one_packing A.result B.result e.stop e.carried ∙ sym B.packed, e)
