-- How many records a stream carries out: at most one for each fifteen bytes. Assumes nothing.
use Prim.Native.Nat.{ℕ, zero, suc, ◌+◌, ◌*◌, ◌≤◌}
use mathlib.Core.List.{List, [], ◌∷◌}
use mathlib.Core.Path.{◌≡◌, refl}
use native.Mathlib.Omega.{arith}
use lib.ListN.{length, drop, length-drop}
use Rattle.record.specs.Bytes.{record_bytes}
use Rattle.record.specs.Reading.{reading_of}
use Rattle.record.specs.declared.Record.{Record}
use Rattle.std.specs.Prelude.{Option, Some, None, Result, Ok, Err}
use Rattle.terms.specs.declared.refusal.Refusal.{Refusal}
use Rattle.record.proofs.Readings.{whole_long}
use Rattle.meaning.specs.Promise.{Tables, progress}
use Rattle.meaning.specs.Stream.{DayRecords, read_on, read_all, records_of, Progress, carry, carry_all}

read_within : (k : ℕ) (s : List ℕ) → record_bytes * length (read_all k s).records ≤ length s
unfolding read_all
read_within zero s = omega arith
read_within (suc k) s = go (reading_of s) refl (read_all k (drop record_bytes s)) (read_within k (drop record_bytes s))
  where
    go : (r : Option (Result Record Refusal)) → reading_of s ≡ r → (rest : DayRecords) → record_bytes * length rest.records ≤ length (drop record_bytes s)
        → record_bytes * length (read_on r rest).records ≤ length s
    go (Some (Ok x)) e rest h = omega (arith, whole_long s x e, length-drop record_bytes s)
    go None e rest h = omega arith
    go (Some (Err why)) e rest h = omega arith

carried_all : (D : ℕ) (rs : List Record) (p : Progress) → (carry_all D rs p).carried ≡ p.carried + length rs
unfolding carry_all
carried_all D [] p = omega arith
carried_all D (r ∷ rs) p = omega (arith, carried_all D rs (carry D p r))

pub records_within : (D : ℕ) (bytes : List ℕ) (p : Progress) → p.carried ≡ 0 → record_bytes * (carry_all D (records_of bytes).records p).carried ≤ length bytes
records_within D bytes p e = omega (arith, carried_all D (records_of bytes).records p, read_within (length bytes) bytes)

pub progress_within : (n C D : ℕ) (bytes : List ℕ) (t : Tables) → record_bytes * (progress n C D bytes t).carried ≤ length bytes
progress_within n C D bytes t = records_within D bytes _ refl
