-- The stream's answer in the meaning's terms.
use Rattle.std.specs.Prelude.{ℕ, ◌*◌, ◌/◌, ◌≤◌, List, ◌≡◌, Some}
use Rattle.terms.specs.Size.{stream_most, total_most}
use Rattle.record.specs.Bytes.{record_bytes}
use Rattle.terms.specs.declared.refusal.Refusal.{Refusal}
use Rattle.meaning.specs.Promise.{Tables, Result}
use Rattle.stream.specs.declared.Streamed.{Streamed}
use Rattle.stream.specs.declared.totals.Totals.{Totals}

-- what it returns
abbrev pub result_of : Streamed → Result
result_of r = record { stop = r.stop; carried = r.carried }

-- the lent tables and the totals
abbrev pub tables : List ℕ → List ℕ → List ℕ → List ℕ → Totals → Tables
tables store spare waiting answers t =
    record { store = store; spare = spare; waiting = waiting; answers = answers; accepted = t.accepted; reversals = t.reversals }

-- the lengths beside the store's own, and the limits of the bytes and the totals
pub record Fitting (n store spare waiting bytes answers : ℕ) (t : Totals) : Type 0 where
  pub spare_long : spare ≡ store
  pub waiting_long : waiting ≡ n
  pub short : bytes ≤ stream_most
  pub answers_long : 2 * (bytes / record_bytes) ≤ answers
  pub accepted_most : t.accepted ≤ total_most
  pub reversals_most : t.reversals ≤ total_most

-- a stream refused as a whole
pub record Stopped (why : Refusal) (t : Totals) (r : Streamed) : Type 0 where
  pub stop : r.stop ≡ Some why
  pub carried : r.carried ≡ 0
  pub totals : r.totals ≡ t
