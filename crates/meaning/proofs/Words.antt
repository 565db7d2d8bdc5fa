-- Laws of a table's words: what is read after a write. Everything above cites these and not the text of `word` and `written`.
-- Assumes nothing.
use Prim.Native.Nat.{ℕ, ◌<◌}
use mathlib.Core.List.{List}
use mathlib.Core.Path.{◌≡◌}
use lib.ListN.{length, length-set}
use lib.Seq.{get_or-set_same, get_or-set_other, ext_get_or}
use Rattle.meaning.specs.Table.{word, written}

pub written_length : (w : List ℕ) (i x : ℕ) → length (written w i x) ≡ length w
unfolding written
written_length w i x = length-set w i x

pub word_same : (w : List ℕ) (i x : ℕ) → i < length w → word (written w i x) i ≡ x
unfolding word written
word_same w i x h = get_or-set_same w i x 0 h

pub word_other : (w : List ℕ) (i j x : ℕ) → (j ≡ i → ⊥) → word (written w i x) j ≡ word w j
unfolding word written
word_other w i j x d = get_or-set_other w i j x 0 d

pub words_equal : (a b : List ℕ) → length a ≡ length b → ((i : ℕ) → i < length a → word a i ≡ word b i) → a ≡ b
unfolding word
words_equal a b e h = ext_get_or 0 a b e h
