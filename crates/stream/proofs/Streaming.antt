-- The stream's loop: what is left of the bytes, from where the stream stands, comes to the whole. Assumes nothing.
use Prim.Native.Nat.{ℕ, zero, suc, ◌+◌, ◌-◌, ◌*◌, ◌/◌, ◌^◌, ◌≤◌, ◌<◌}
use mathlib.Core.Bool.{Bool, true, false}
use mathlib.Core.List.{List, [], ◌∷◌}
use Rattle.std.specs.Prelude.{Option, None, Some, Result, Ok, Err}
use mathlib.Core.Path.{◌≡◌, refl, sym, ap, subst, ◌∙◌}
use native.Mathlib.Decide.{ℕ_discrete}
use native.Mathlib.Omega.{arith}
use lib.ListN.{length, drop, length-drop, length-replicate}
use Rattle.terms.specs.Size.{store_words, waiting_words, stream_most}
use Rattle.terms.specs.declared.refusal.Refusal.{Refusal}
use Rattle.record.specs.Bytes.{record_bytes}
use Rattle.record.specs.Reading.{reading_of}
use Rattle.record.specs.declared.Record.{Record}
use Rattle.record.proofs.Readings.{at_end, whole_long}
use Rattle.meaning.specs.Soundness.{Sound}
use Rattle.meaning.specs.Day.{Day, day_of}
use Rattle.meaning.specs.Stream.{DayRecords, read_on, read_all, records_of, Progress, latest, carry, carry_all}
use Rattle.meaning.specs.Promise.{Lent, spare_after, waiting_after, Tables, StreamLent, progress, SpareIs, waiting_then, StreamCarries}
use Rattle.meaning.proofs.Words.{written_length}
use Rattle.stream.specs.Carry.{StepOk, Stepped, outcome}
use Rattle.stream.specs.Streamed.{tables}
use Rattle.stream.specs.declared.totals.Totals.{Totals}

-- ---- reading on
module _ (s : List ℕ) where
  pub refused_some : (why : Refusal) → reading_of s ≡ Some (Err why) → 0 < length s
  refused_some why e = elim (ℕ_discrete (length s) 0) [
    | yes z ↦ let a = at_end s z in let q : ◌≡◌ {A = ℕ} 0 1 = cc in absurd (omega arith)
    | no z ↦ omega (arith, z)
  ]

  read_end : (k : ℕ) → reading_of s ≡ None → read_all k s ≡ record { records = []; stop = None }
  unfolding read_all
  read_end zero e = refl
  read_end (suc k) e = ap (λ (x : Option (Result Record Refusal)). read_on x (read_all k (drop record_bytes s))) e

  read_stop : (k : ℕ) (why : Refusal) → 0 < k → reading_of s ≡ Some (Err why) → read_all k s ≡ record { records = []; stop = Some why }
  unfolding read_all
  read_stop zero why h e = absurd (omega arith)
  read_stop (suc k) why h e = ap (λ (x : Option (Result Record Refusal)). read_on x (read_all k (drop record_bytes s))) e

  read_on_lem : (k j : ℕ) (r : Record) → k ≡ suc j → reading_of s ≡ Some (Ok r)
      → read_all k s ≡ record { records = r ∷ (read_all j (drop record_bytes s)).records; stop = (read_all j (drop record_bytes s)).stop }
  unfolding read_all
  read_on_lem k j r h e = ap (λ (i : ℕ). read_all i s) h ∙ ap (λ (x : Option (Result Record Refusal)). read_on x (read_all j (drop record_bytes s))) e

-- ---- where the stream stands; `turned` is the day as at entry of the last link that began turning
abbrev pub reached : ℕ → ℕ → List ℕ → List ℕ → ℕ → Totals → Option Day → Progress
reached n C store answers carried t turned =
    record { day = day_of n C store; answers = answers; carried = carried; accepted = t.accepted; reversals = t.reversals; turned = turned }

pub record Going (n C D : ℕ) (bytes : List ℕ) (t₀ : Tables) (store spare waiting answers rest : List ℕ) (carried : ℕ) (t : Totals) : Type 0 where
  pub turned : Option Day
  pub lent : Lent n C D store spare waiting
  pub sound : Sound n C D store
  pub left : length rest + record_bytes * carried ≡ length bytes
  pub short : length bytes ≤ stream_most
  pub room : length answers ≡ length t₀.answers
  pub long : 2 * (length bytes / record_bytes) ≤ length answers
  pub spared : SpareIs n C D turned t₀.spare spare
  pub waited : waiting ≡ waiting_then n turned t₀.waiting
  pub accepted : t.accepted ≤ 2 ^ 62 + carried
  pub reversals : t.reversals ≤ 2 ^ 62 + 2 ^ 32 * carried
  pub same : carry_all D (read_all (length bytes - carried) rest).records (reached n C store answers carried t turned) ≡ progress n C D bytes t₀
  pub stop : (read_all (length bytes - carried) rest).stop ≡ (records_of bytes).stop

pub going_start : (n C D : ℕ) (bytes store spare waiting answers : List ℕ) (t : Totals) → StreamLent n C D bytes (tables store spare waiting answers t) → Sound n C D store
    → Going n C D bytes (tables store spare waiting answers t) store spare waiting answers bytes 0 t
going_start n C D bytes store spare waiting answers t l s =
    let z : length bytes - 0 ≡ length bytes = omega arith in
    record {
      turned = None;
      lent = l.lent;
      sound = s;
      left = omega arith;
      short = l.short;
      room = refl;
      long = l.answers_long;
      spared = refl;
      waited = refl;
      accepted = omega (arith, l.accepted_most);
      reversals = omega (arith, l.reversals_most);
      same = rw z;
      stop = rw z;
    }

module _ (n C D : ℕ) (bytes : List ℕ) (t₀ : Tables) (store spare waiting answers rest : List ℕ) (carried : ℕ) (t : Totals)
    (g : Going n C D bytes t₀ store spare waiting answers rest carried t) (o : Option (Result Record Refusal)) (eo : o ≡ reading_of rest) where
  module _ (r : Record) (er : o ≡ Some (Ok r)) where
    whole : reading_of rest ≡ Some (Ok r)
    whole = sym eo ∙ er

    one_more : record_bytes ≤ length rest
    one_more = whole_long rest r whole

    pub going_step : StepOk n C D store spare waiting answers carried t
    going_step = record {
      lent = g.lent;
      sound = g.sound;
      room = omega (arith, one_more, g.left, g.long);
      accepted = omega (arith, g.accepted, one_more, g.left, g.short);
      reversals = omega (arith, g.reversals, one_more, g.left, g.short);
    }

    pub going_few : (carried < 65535) × (record_bytes ≤ length rest)
    going_few = (omega (arith, one_more, g.left, g.short), one_more)

    module _ (store' spare' waiting' answers' rest' : List ℕ) (t' : Totals) (on : rest' ≡ drop record_bytes rest)
        (h : Stepped n C D r store spare waiting answers carried t store' spare' waiting' answers' t') where
      turned' : Option Day
      turned' = latest (outcome n C D r store).began (day_of n C store) g.turned

      spared' : (b : Bool) → spare' ≡ spare_after b store spare → SpareIs n C D (latest b (day_of n C store) g.turned) t₀.spare spare'
      spared' true e = record { sound = rw e g.sound; day = rw e }
      spared' false e = subst (λ (x : List ℕ). SpareIs n C D g.turned t₀.spare x) (sym e) g.spared

      waited' : (b : Bool) → waiting' ≡ waiting_after b n waiting → waiting' ≡ waiting_then n (latest b (day_of n C store) g.turned) t₀.waiting
      waited' true e = e
      waited' false e = e ∙ g.waited

      spare_long' : (b : Bool) → spare' ≡ spare_after b store spare → length spare' ≡ store_words n C
      spare_long' true e = ap length e ∙ g.sound.sized.long
      spare_long' false e = ap length e ∙ g.lent.spare_long

      waiting_long' : (b : Bool) → waiting' ≡ waiting_after b n waiting → length waiting' ≡ waiting_words n
      waiting_long' true e = ap length e ∙ length-replicate n 0
      waiting_long' false e = ap length e ∙ g.lent.waiting_long

      forward : carry D (reached n C store answers carried t g.turned) r ≡ reached n C store' answers' (carried + 1) t' turned'
      unfolding turned'
      forward = λ i. record {
        day = sym h.holds.day i;
        answers = sym h.answers_are i;
        carried = carried + 1;
        accepted = sym h.accepted i;
        reversals = sym h.reversals i;
        turned = latest (outcome n C D r store).began (day_of n C store) g.turned;
      }

      fuel : length bytes - carried ≡ suc (length bytes - (carried + 1))
      fuel = omega (arith, one_more, g.left)

      step_read : read_all (length bytes - carried) rest
          ≡ record { records = r ∷ (read_all (length bytes - (carried + 1)) rest').records; stop = (read_all (length bytes - (carried + 1)) rest').stop }
      step_read = rw on (read_on_lem rest (length bytes - carried) (length bytes - (carried + 1)) r fuel whole)

      pub going_next : Going n C D bytes t₀ store' spare' waiting' answers' rest' (carried + 1) t'
      unfolding carry_all turned'
      going_next =
          let next : List Record = (read_all (length bytes - (carried + 1)) rest').records in
          let eq : carry_all D (read_all (length bytes - carried) rest).records (reached n C store answers carried t g.turned)
          ≡ carry_all D next (reached n C store' answers' (carried + 1) t' turned')
          = ap (λ (x : DayRecords). carry_all D x.records (reached n C store answers carried t g.turned)) step_read ∙ ap (carry_all D next) forward in
          record {
            turned = turned';
            lent = record {
              sized = h.holds.sound.sized;
              spare_long = spare_long' (outcome n C D r store).began h.spared;
              waiting_long = waiting_long' (outcome n C D r store).began h.waited;
            };
            sound = h.holds.sound;
            left = omega (arith, g.left, one_more, ap length on, length-drop record_bytes rest);
            short = g.short;
            room = long_answers ∙ g.room;
            long = omega (arith, g.long, long_answers);
            spared = spared' (outcome n C D r store).began h.spared;
            waited = waited' (outcome n C D r store).began h.waited;
            accepted = omega (arith, g.accepted, h.few.0);
            reversals = omega (arith, g.reversals, h.few.1);
            same = sym eq ∙ g.same;
            stop = sym (ap (λ (x : DayRecords). x.stop) step_read) ∙ g.stop;
          }
        where
          long_answers : length answers' ≡ length answers
          long_answers = ap length h.answers_are ∙ (simp written_length)

  -- ---- the two ways out
  module _ (st : Option Refusal) (er : read_all (length bytes - carried) rest ≡ record { records = []; stop = st }) where
    done : reached n C store answers carried t g.turned ≡ progress n C D bytes t₀
    unfolding carry_all
    done = sym (ap (λ (x : DayRecords). carry_all D x.records (reached n C store answers carried t g.turned)) er) ∙ g.same

    ended : StreamCarries n C D bytes t₀ (record { stop = st; carried = carried }) (tables store spare waiting answers t)
    ended = record {
      stop = sym (ap (λ (x : DayRecords). x.stop) er) ∙ g.stop;
      carried = ap (λ (p : Progress). p.carried) done;
      holds = record { sound = g.sound; day = ap (λ (p : Progress). p.day) done };
      spared = subst (λ (x : Option Day). SpareIs n C D x t₀.spare spare) (ap (λ (p : Progress). p.turned) done) g.spared;
      waited = g.waited ∙ ap (λ (p : Progress). waiting_then n p.turned t₀.waiting) done;
      answered = ap (λ (p : Progress). p.answers) done;
      accepted = ap (λ (p : Progress). p.accepted) done;
      reversals = ap (λ (p : Progress). p.reversals) done;
    }

  pub going_end : o ≡ None → StreamCarries n C D bytes t₀ (record { stop = None; carried = carried }) (tables store spare waiting answers t)
  going_end e = ended None (read_end rest (length bytes - carried) (sym eo ∙ e))

  pub going_stop : (why : Refusal) → o ≡ Some (Err why) → StreamCarries n C D bytes t₀ (record { stop = Some why; carried = carried }) (tables store spare waiting answers t)
  going_stop why e =
      let q : reading_of rest ≡ Some (Err why) = sym eo ∙ e in
      let z : 0 < length bytes - carried = omega (arith, refused_some rest why q, g.left) in
      ended (Some why) (read_stop rest (length bytes - carried) why z q)
