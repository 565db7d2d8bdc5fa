-- A cell that leaves a list, and one that goes to the front of one, from the words that each step writes. Assumes nothing.
use Prim.Native.Nat.{ℕ, ◌+◌, ◌-◌}
use mathlib.Core.List.{List}
use mathlib.Core.Path.{◌≡◌, ap, ◌∙◌}
use Rattle.meaning.specs.Table.{written, length_at, head_of, length_of, next_of}
use Rattle.meaning.proofs.Steps.{listed, celled, unhooked, hooked}

module _ (n C : ℕ) (w w1 w2 : List ℕ) (v i rest many : ℕ) (count : many ≡ length_of n C w v) where
  -- the word at `at` names the cell behind, and the list is one shorter
  pub unhook_words : (at l : ℕ) → rest ≡ next_of n C w i → l ≡ length_at n C v → w1 ≡ written w at rest → w2 ≡ written w1 l (many - 1)
      → w2 ≡ unhooked n C w at v i
  unfolding unhooked
  unhook_words at l e p f g =
      g ∙ (ap (λ (k : ℕ). written w1 k (many - 1)) p
      ∙ (ap (λ (x : List ℕ). written x (length_at n C v) (many - 1)) (f ∙ ap (written w at) e)
      ∙ ap (λ (k : ℕ). written (written w at (next_of n C w i)) (length_at n C v) (k - 1)) count))

  -- the cell's next is the first so far; the list begins with the cell and is one longer
  pub hook_words : (t : ℕ) → rest ≡ head_of n C w v → w1 ≡ celled n C w i v t rest → w2 ≡ listed n C w1 v i (many + 1) → w2 ≡ hooked n C w i v t
  unfolding hooked
  hook_words t e f g =
      g ∙ (ap (λ (x : List ℕ). listed n C x v i (many + 1)) (f ∙ ap (celled n C w i v t) e)
      ∙ ap (λ (k : ℕ). listed n C (celled n C w i v t (head_of n C w v)) v i (k + 1)) count)
