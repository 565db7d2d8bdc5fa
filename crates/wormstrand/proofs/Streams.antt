-- What an exported stream returns: the packing of the result that the stream promised. Assumes nothing.
use Prim.Native.Nat.{ℕ, ◌^◌, ◌≤◌, ◌<◌}
use mathlib.Core.List.{List}
use Rattle.std.specs.Prelude.{Option, None, Some}
use mathlib.Core.Path.{◌≡◌, ap}
use native.Mathlib.Decide.{dec_lt}
use native.Mathlib.Omega.{arith}
use Rattle.terms.specs.declared.refusal.Refusal.{Refusal}
use Rattle.meaning.specs.Soundness.{Sound}
use Rattle.meaning.specs.Promise.{Tables, Result, stop_number, StreamLent, StreamPromise}
use Rattle.meaning.proofs.Streamed.{progress_within}
use Rattle.stream.specs.Streamed.{result_of}
use Rattle.stream.specs.declared.Streamed.{Streamed}
use Rattle.wormstrand.specs.Pack.{pack_result, PackedResult}
use Rattle.wormstrand.proofs.Packing.{numbered}

-- ---- a stream carries out few records
pub carried_small : (n C D : ℕ) (bytes : List ℕ) (t : Tables) (r : Result) (t' : Tables) → StreamPromise n C D bytes t r t' → r.carried < 2 ^ 32
carried_small n C D bytes t r t' p = elim (dec_lt r.carried (2 ^ 32)) [
  | yes h ↦ h
  | no h ↦
      let unsound : StreamLent n C D bytes t → Sound n C D t.store → ⊥ =
      λ l s. h (omega (arith, (p.sound l s).carried, progress_within n C D bytes t, l.short)) in
      let unlent : StreamLent n C D bytes t → ⊥ = λ l. h (omega (arith, ap (λ (x : Result). x.carried) (p.unsound l (unsound l)).0)) in
      absurd (h (omega (arith, ap (λ (x : Result). x.carried) (p.sizes unlent).0)))
]

-- ---- packing: a stream's refusal is at most 14
pub stop_most : (s : Option Refusal) → stop_number s ≤ 14
stop_most None = omega arith
stop_most (Some why) = (numbered why).most

-- ---- what is returned is the packing of what was promised
pub result_packed : (n C D : ℕ) (bytes : List ℕ) (t t' : Tables) (s : Streamed) (r : ℕ)
    → StreamPromise n C D bytes t (result_of s) t' → r ≡ pack_result (result_of s) → PackedResult (λ a. StreamPromise n C D bytes t a t') r
result_packed n C D bytes t t' s r p e = record {
  result = result_of s;
  small = carried_small n C D bytes t (result_of s) t' p;
  packed = e;
  holds = p;
}
