-- What is written is read back, and no two records have the same bytes. Assumes nothing.
use Prim.Native.Nat.{ℕ, ◌+◌, ◌*◌, ◌/◌, ◌%◌, ◌≤◌, ◌<◌, ◌^◌}
use mathlib.Core.Bool.{Bool, true, false}
use mathlib.Core.List.{List, [], ◌++◌}
use mathlib.Core.Path.{◌≡◌, refl, sym, ap, ◌∙◌}
use native.Mathlib.Omega.{arith}
use lib.ListN.{length, get_or}
use Rattle.std.specs.Prelude.{Some, Ok}
use Rattle.terms.specs.Run.{line_most, no_run}
use Rattle.terms.proofs.Names.{run_path, same_refl}
use Rattle.terms.specs.declared.run.Run.{Run}
use Rattle.record.specs.Bytes.{record_bytes, kind_of, run_bytes, RunFits, bytes_of, run_at}
use Rattle.record.specs.Reading.{names_one, checked, reading_of}
use Rattle.record.specs.declared.Record.{Record}
use Rattle.record.proofs.Parts.{marked_yes, known}
use Rattle.record.proofs.Readings.{two_runs, one_run, by_kind}

-- a record is fifteen bytes
pub bytes_length : (r : Record) → length (bytes_of r) ≡ record_bytes
bytes_length r = refl

-- two bytes for a line and four for a trip number lose nothing
line_back : (l : ℕ) → l ≤ line_most → l / 256 % 256 * 256 + l % 256 ≡ l
line_back l h = omega arith

trip_back : (t : ℕ) → t < 2 ^ 32
    → (t / 16777216 % 256 * 256 + t / 65536 % 256) * 65536 + (t / 256 % 256 * 256 + t % 256) ≡ t
trip_back t h =
    let high : t / 16777216 % 256 * 256 + t / 65536 % 256 ≡ t / 65536 = omega arith in
    let low : t / 256 % 256 * 256 + t % 256 ≡ t % 65536 = omega arith in
    omega arith

-- a run's six bytes are the run
pub run_back : (p : Run) → RunFits p → run_at (run_bytes p) 0 ≡ p
unfolding run_at
run_back p h = run_path _ _ (line_back p.line h.line) (trip_back p.trip h.trip)

-- each part stands at its place in the record's bytes, whatever follows
module _ (r : Record) (rest : List ℕ) where
  first_back : RunFits r.first → run_at (bytes_of r ++ rest) 3 ≡ r.first
  unfolding run_at
  first_back h = run_back r.first h

  second_back : RunFits r.second → run_at (bytes_of r ++ rest) 9 ≡ r.second
  unfolding run_at
  second_back h = run_back r.second h

  kind_back : kind_of (get_or (bytes_of r ++ rest) 2 0) ≡ Ok r.kind
  kind_back = known r.kind _ refl

-- a record whose second run is zero where its kind names one run passes the check
whole : (r : Record) → (names_one r.kind ≡ true → r.second ≡ no_run) → checked r.kind r.first r.second ≡ Ok r
whole r z = go (names_one r.kind) refl
  where
    go : (b : Bool) → names_one r.kind ≡ b → checked r.kind r.first r.second ≡ Ok r
    go true e = one_run _ _ _ e (rw (z e) (same_refl no_run))
    go false e = two_runs _ _ _ e

-- a record that is written is read back, whatever stands after it and where nothing does
pub round_trip : (r : Record) (rest : List ℕ) → RunFits r.first → RunFits r.second
    → (names_one r.kind ≡ true → r.second ≡ no_run) → reading_of (bytes_of r ++ rest) ≡ Some (Ok r)
round_trip r rest a b z =
    by_kind (bytes_of r ++ rest) _ _ _ (omega arith) (marked_yes _ refl)
    (kind_back r rest)
    (sym (first_back r rest a))
    (sym (second_back r rest b))
    ∙ ap Some (whole r z)

-- no two records have the same bytes
pub one_record : (r s : Record) → RunFits r.first → RunFits r.second → RunFits s.first → RunFits s.second
    → bytes_of r ≡ bytes_of s → r ≡ s
one_record r s a b c d e = λ i. record { kind = k i; first = f i; second = g i }
  where
    k : r.kind ≡ s.kind
    k =
        let known-r = kind_back r [] in
        let known-s = kind_back s [] in
        let same = ap (λ (l : List ℕ). kind_of (get_or l 2 0)) e in
        cc

    f : r.first ≡ s.first
    f = sym (first_back r [] a) ∙ ap (λ (l : List ℕ). run_at l 3) e ∙ first_back s [] c

    g : r.second ≡ s.second
    g = sym (second_back r [] b) ∙ ap (λ (l : List ℕ). run_at l 9) e ∙ second_back s [] d
