-- What a record does to the running totals.
use Rattle.std.specs.Prelude.{◌+◌, ◌^◌, ◌<◌, ◌≡◌}
use Rattle.terms.specs.Refusal.{value_of}
use Rattle.terms.specs.Run.{no_run}
use Rattle.terms.specs.Refusal.{Answer}
use Rattle.record.specs.declared.Kind.{Kind}
use Rattle.meaning.specs.Stream.{asks_for, taken, reversed}
use Rattle.stream.specs.declared.totals.Totals.{Totals}

-- neither total can leave its 64 bits
pub record Small (t : Totals) (a : Answer) : Type 0 where
  pub accepted : t.accepted < 2 ^ 63
  pub reversals : t.reversals < 2 ^ 63
  pub number : value_of a < 2 ^ 32

-- whatever runs the record names
pub record Forward (t : Totals) (k : Kind) (a : Answer) (t' : Totals) : Type 0 where
  pub accepted : t'.accepted ≡ t.accepted + taken (asks_for k no_run no_run) a
  pub reversals : t'.reversals ≡ t.reversals + reversed (asks_for k no_run no_run) a
