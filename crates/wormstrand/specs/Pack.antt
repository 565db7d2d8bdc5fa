-- How an answer comes back to a caller from C or Rust: one number of 64 bits.
use Rattle.std.specs.Prelude.{ℕ, ◌+◌, ◌*◌, ◌^◌, ◌<◌, ◌≡◌}
use Rattle.terms.specs.Refusal.{refusal_of, value_of}
use Rattle.terms.specs.declared.run.Run.{Run}
use Rattle.terms.specs.Refusal.{Answer}
use Rattle.meaning.specs.Promise.{Result, stop_number}

-- a run named by two words
abbrev pub named : ℕ → ℕ → Run
named line trip = record { line = line; trip = trip }

-- the refusal times 2^32 plus the number
abbrev pub pack : Answer → ℕ
pack a = refusal_of a * 2 ^ 32 + value_of a

-- the number leaves the refusal's half alone
abbrev pub Small : Answer → Type 0
Small a = value_of a < 2 ^ 32

-- what is returned is the packing of an answer of which P holds
pub record Packed (P : Answer → Type 0) (r : ℕ) : Type 0 where
  pub answer : Answer
  pub small : Small answer
  pub packed : r ≡ pack answer
  pub holds : P answer

-- a stream's refusal and the number of records carried out
abbrev pub pack_result : Result → ℕ
pack_result r = stop_number r.stop * 2 ^ 32 + r.carried

-- what is returned is the packing of a stream's result of which P holds
pub record PackedResult (P : Result → Type 0) (r : ℕ) : Type 0 where
  pub result : Result
  pub small : result.carried < 2 ^ 32
  pub packed : r ≡ pack_result result
  pub holds : P result
