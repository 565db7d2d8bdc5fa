-- Laws of what stands first in the rest of a stream, one for each answer. Assumes nothing.
use Prim.Native.Nat.{ℕ, ◌≤◌, ◌<◌}
use mathlib.Core.Bool.{true, false}
use mathlib.Core.List.{List}
use mathlib.Core.Path.{◌≡◌}
use lib.ListN.{length, get_or}
use borrow.Author.Tests.{eq-eqb, ne_eqb, lt-ltb, le-ltb}
use native.Mathlib.Decide.{ℕ_discrete, dec_lt}
use native.Mathlib.Omega.{arith}
use Rattle.std.specs.Prelude.{Some, None, Ok, Err}
use Rattle.terms.specs.Run.{same_run, no_run}
use Rattle.terms.specs.declared.run.Run.{Run}
use Rattle.terms.specs.declared.refusal.Refusal.{Refusal}
use Rattle.terms.specs.declared.refusal.Refusal.TheVariants.{WrongMark, WrongKind, CutShort}
use Rattle.record.specs.Bytes.{record_bytes, kind_at, first_at, second_at, marked, kind_of, run_at}
use Rattle.record.specs.Reading.{names_one, checked, record_of, reading_of}
use Rattle.record.specs.declared.Kind.{Kind}
use Rattle.record.specs.declared.Record.{Record}

-- a kind that names two runs takes any second run
pub two_runs : (k : Kind) (a b : Run) → names_one k ≡ false → checked k a b ≡ Ok (record { kind = k; first = a; second = b })
unfolding checked
two_runs k a b e = rw e

-- a kind that names one run takes a second run of zeros and no other
pub one_run : (k : Kind) (a b : Run) → names_one k ≡ true → same_run b no_run ≡ true
    → checked k a b ≡ Ok (record { kind = k; first = a; second = b })
unfolding checked
one_run k a b e z = rw (e, z)

pub one_run_more : (k : Kind) (a b : Run) → names_one k ≡ true → same_run b no_run ≡ false → checked k a b ≡ Err WrongKind
unfolding checked
one_run_more k a b e z = rw (e, z)

module _ (s : List ℕ) where
  pub at_end : length s ≡ 0 → reading_of s ≡ None
  unfolding reading_of
  at_end e = rw (eq-eqb (length s) 0 e)

  pub cut_short : (length s ≡ 0 → ⊥) → length s < record_bytes → reading_of s ≡ Some (Err CutShort)
  unfolding reading_of record_of
  cut_short n h = rw (ne_eqb (length s) 0 n, lt-ltb (length s) record_bytes h)

  pub wrong_mark : record_bytes ≤ length s → marked s ≡ false → reading_of s ≡ Some (Err WrongMark)
  unfolding reading_of record_of
  wrong_mark h m = rw (ne_eqb (length s) 0 (λ e. omega arith), le-ltb (length s) record_bytes h, m)

  -- what refuses the kind refuses the record
  pub wrong_kind : (why : Refusal) → record_bytes ≤ length s → marked s ≡ true → kind_of (get_or s kind_at 0) ≡ Err why
      → reading_of s ≡ Some (Err why)
  unfolding reading_of record_of
  wrong_kind why h m e = rw (ne_eqb (length s) 0 (λ z. omega arith), le-ltb (length s) record_bytes h, m, e)

  pub by_kind : (k : Kind) (a b : Run) → record_bytes ≤ length s → marked s ≡ true → kind_of (get_or s kind_at 0) ≡ Ok k
      → a ≡ run_at s first_at → b ≡ run_at s second_at → reading_of s ≡ Some (checked k a b)
  unfolding reading_of record_of
  by_kind k a b h m e p q = rw (ne_eqb (length s) 0 (λ z. omega arith), le-ltb (length s) record_bytes h, m, e, p, q)

  -- a record is read only where fifteen bytes stand
  pub whole_long : (r : Record) → reading_of s ≡ Some (Ok r) → record_bytes ≤ length s
  whole_long r e = elim (dec_lt (length s) record_bytes) [
    | yes h ↦ absurd (elim (ℕ_discrete (length s) 0) [
      | yes z ↦ let a = at_end z in let q : ◌≡◌ {A = ℕ} 0 1 = cc in omega arith
      | no z ↦ let a = cut_short z h in let q : ◌≡◌ {A = ℕ} 0 1 = cc in omega arith
    ])
    | no h ↦ omega (arith, h)
  ]
