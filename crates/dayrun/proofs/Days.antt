-- What a day on the empty store comes to, and how many lines it has. Assumes nothing.
use Prim.Native.Nat.{ℕ, ◌*◌, ◌≤◌}
use mathlib.Core.List.{List}
use mathlib.Core.Path.{◌≡◌, refl, sym, ap, subst, ◌∙◌}
use native.Mathlib.Omega.{arith}
use lib.ListN.{length}
use Rattle.terms.specs.Size.{InRoom, InLimit, store_words}
use Rattle.terms.specs.Refusal.{Answer}
use Rattle.record.specs.Bytes.{record_bytes}
use Rattle.meaning.specs.Cells.{links}
use Rattle.meaning.specs.Day.{Day, day_of, empty_table}
use Rattle.meaning.specs.Promise.{EmptyPromise, stop_number, StreamLent, StreamCarries, StreamPromise, progress}
use Rattle.meaning.specs.Soundness.{Sound}
use Rattle.meaning.specs.Stream.{Progress}
use Rattle.meaning.proofs.EmptyDay.{empty_sound, empty_day_lem}
use Rattle.meaning.proofs.Streamed.{records_within}
use Rattle.meaning.proofs.Threaded.{Threaded, sound_threaded}
use Rattle.stream.specs.Streamed.{tables, result_of}
use Rattle.stream.specs.declared.Streamed.{Streamed}
use Rattle.stream.specs.declared.totals.Totals.{Totals}
use Rattle.dayrun.specs.Line.{places, cells, limit, bytes_most, answer_words, start, ran_day, DayEnds}
use Rattle.dayrun.specs.declared.Ran.{Ran}

room : InRoom places cells
room = record { places_least = omega arith; places_at_most = omega arith; cells_least = omega arith; cells_at_most = omega arith }

limited : InLimit limit
limited = record { least = omega arith; most = omega arith }

-- at most one line for fifteen bytes, and two words for each
module _ (bytes answers : List ℕ) (r : Ran) (answers' : List ℕ) (e : DayEnds bytes answers r answers') where
  pub lines_within : record_bytes * r.carried ≤ length bytes
  lines_within = omega (arith, e.carried, records_within limit bytes (start answers) refl)

  pub words_within : length bytes ≤ bytes_most → 2 * r.carried ≤ answer_words
  words_within short = omega (arith, lines_within)

-- the store is emptied, then the stream runs on it
module _ (bytes answers spare waiting w₀ w : List ℕ) (a : Answer) (none : Totals) (s : Streamed) (w' spare' waiting' answers' : List ℕ)
    (short : length bytes ≤ bytes_most) (words : length answers ≡ answer_words) (spare_long : length spare ≡ store_words places cells) (waiting_long : length waiting ≡ places)
    (store_long : length w₀ ≡ store_words places cells) (no-links : none.accepted ≡ 0) (no-reversals : none.reversals ≡ 0) (emptied : EmptyPromise places cells w₀ a w)
    (p : StreamPromise places cells limit bytes (tables w spare waiting answers none) (result_of s) (tables w' spare' waiting' answers' s.totals)) where
  is_empty : w ≡ empty_table places cells
  is_empty = (emptied.done room (omega arith)).1

  sound : Sound places cells limit w
  sound = subst (Sound places cells limit) (sym is_empty) (empty_sound places cells limit room limited)

  lends : StreamLent places cells limit bytes (tables w spare waiting answers none)
  lends = record {
    lent = record { sized = sound.sized; spare_long = omega arith; waiting_long = omega arith };
    short = omega arith;
    answers_long = omega arith;
    accepted_most = omega arith;
    reversals_most = omega arith;
  }

  carries : StreamCarries places cells limit bytes (tables w spare waiting answers none) (result_of s) (tables w' spare' waiting' answers' s.totals)
  carries = p.sound lends sound

  day_empty : progress places cells limit bytes (tables w spare waiting answers none) ≡ ran_day bytes answers
  day_empty = rw (is_empty, empty_day_lem places cells room, no-links, no-reversals)

  pub stands : Threaded places cells w'
  stands = sound_threaded places cells limit w' carries.holds.sound

  module _ (refusal standing : ℕ) (n : refusal ≡ stop_number s.stop) (l : standing ≡ links (day_of places cells w').lists) where
    pub ran : DayEnds bytes answers (record { refusal = refusal; carried = s.carried; reversals = s.totals.reversals; links = standing }) answers'
    ran = record {
      refusal = n ∙ ap stop_number carries.stop;
      carried = carries.carried ∙ ap (λ (x : Progress). x.carried) day_empty;
      reversals = carries.reversals ∙ ap (λ (x : Progress). x.reversals) day_empty;
      links = l ∙ (ap (λ (x : Day). links x.lists) carries.holds.day ∙ ap (λ (x : Progress). links x.day.lists) day_empty);
      answered = carries.answered ∙ ap (λ (x : Progress). x.answers) day_empty;
    }
