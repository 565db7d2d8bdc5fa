-- Records of a stream count as calls: what a stream leaves and counts is what the calls of its records leave and count.
-- Assumes nothing.
use Prim.Native.Nat.{ℕ, ◌+◌}
use mathlib.Core.List.{List, [], ◌∷◌, map}
use mathlib.Core.Path.{◌≡◌, refl}
use native.Mathlib.Omega.{arith}
use Rattle.record.specs.declared.Record.{Record}
use Rattle.meaning.specs.Stream.{call_of, Progress, carry, carry_all}
use Rattle.demands.specs.Demands.{RecordsAreCalls}
use Rattle.demands.specs.History.{after, accepted, reversals}

stream_day : (D : ℕ) (rs : List Record) (p : Progress) → (carry_all D rs p).day ≡ after D p.day (map call_of rs)
unfolding carry_all
stream_day D [] p = refl
stream_day D (r ∷ rs) p = stream_day D rs (carry D p r)

stream_accepted : (D : ℕ) (rs : List Record) (p : Progress) → (carry_all D rs p).accepted ≡ p.accepted + accepted D p.day (map call_of rs)
unfolding carry_all
stream_accepted D [] p = omega arith
stream_accepted D (r ∷ rs) p = omega (arith, stream_accepted D rs (carry D p r))

stream_reversals : (D : ℕ) (rs : List Record) (p : Progress) → (carry_all D rs p).reversals ≡ p.reversals + reversals D p.day (map call_of rs)
unfolding carry_all
stream_reversals D [] p = omega arith
stream_reversals D (r ∷ rs) p = omega (arith, stream_reversals D rs (carry D p r))

pub records_are_calls : RecordsAreCalls
records_are_calls D rs p = (stream_day D rs p, stream_accepted D rs p, stream_reversals D rs p)
