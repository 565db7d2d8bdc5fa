-- Two tables that hold the same day are the same words: lines and numbers are the runs', lengths, heads, owners and nexts follow
-- from the lists, targets of placed cells from the lists' cells, and free cells have target NONE. Assumes only what its premises
-- say of both tables: sizes, length, a chain for each list, lengths that add up to C, targets NONE along the free list.
use Prim.Native.Nat.{ℕ, zero, suc, ◌+◌, ◌*◌, ◌-◌, ◌≤◌, ◌<◌}
use mathlib.Core.List.{List, [], map}
use mathlib.Core.Logic.{⊎_elim, by_cases}
use mathlib.Core.Path.{◌≡◌, sym, ap, ◌∙◌, subst}
use native.Mathlib.Decide.{dec_lt}
use native.Mathlib.Omega.{arith}
use lib.ListN.{length, get_or}
use Rattle.terms.specs.Run.{no_run}
use Rattle.terms.specs.Size.{InRoom, store_words}
use Rattle.meaning.specs.Table.{NONE, word, line_of, number_of, head_of, length_of, owner_of, target_of, next_of}
use Rattle.meaning.specs.Cells.{Cell}
use Rattle.meaning.specs.Soundness.{Reaches, lengths, Along, Sound}
use Rattle.meaning.specs.Day.{run_of, cells, cells_of, day_of}
use Rattle.meaning.proofs.Same.{same_cases}
use Rattle.meaning.proofs.Words.{words_equal}
use Rattle.meaning.proofs.Lists.{each_at}
use Rattle.meaning.proofs.Times.{times}
use Rattle.meaning.proofs.Chains.{chain_front, chain_next}
use Rattle.meaning.proofs.Held.{steps, held, steps_length, cells_index, along_at, held_chain, held_owner, parted}

-- tables that agree at off + j for each j below m agree from off up to off + m
shift : (w w' : List ℕ) (off m : ℕ) → ((j : ℕ) → j < m → word w (off + j) ≡ word w' (off + j)) → (i : ℕ) → off ≤ i → i < off + m → word w i ≡ word w' i
shift w w' off m h i p q =
    let e : off + (i - off) ≡ i = omega arith in
    subst (λ (z : ℕ). word w z ≡ word w' z) e (h (i - off) (omega arith))

abbrev cell : ℕ → ℕ → Cell
cell i t = record { index = i; target = t }

module _ (n C : ℕ) (w w' : List ℕ) where
  -- lists of the same cells have the same targets in them
  cells_target : (k k' i i' : ℕ) → cells n C w k i ≡ cells n C w' k' i' → (j : ℕ) → 0 < times j (steps n C w k i) → target_of n C w j ≡ target_of n C w' j
  unfolding cells steps times
  cells_target zero k' i i' e j q = absurd (omega arith)
  cells_target (suc k) zero i i' e j q = absurd (let z : ◌≡◌ {A = ℕ} 0 1 = cc in omega arith)
  cells_target (suc k) (suc k') i i' e j q =
      let c : cell i (target_of n C w i) ≡ cell i' (target_of n C w' i') = cc in
      let a : i ≡ i' = ap (λ c. c.index) c in
      let b : target_of n C w i ≡ target_of n C w' i' = ap (λ c. c.target) c in
      let d : cells n C w k (next_of n C w i) ≡ cells n C w' k' (next_of n C w' i') = cc in
      ⊎_elim
      (λ f. ap (target_of n C w) f.0 ∙ b ∙ ap (target_of n C w') (sym (f.0 ∙ a)))
      (λ f. cells_target k k' (next_of n C w i) (next_of n C w' i') d j (omega arith))
      (same_cases j i)

  -- the words that a day gives by itself
  module _ (e : day_of n C w ≡ day_of n C w') where
    same_run : (v : ℕ) → v < n → (line_of n C w v ≡ line_of n C w' v) × (number_of n C w v ≡ number_of n C w' v)
    same_run v p =
        let a = each_at n (λ v. record { line = line_of n C w v; trip = number_of n C w v }) no_run v p in
        let b = each_at n (λ v. record { line = line_of n C w' v; trip = number_of n C w' v }) no_run v p in
        let d = ap (λ s. run_of s v) e in
        let f = sym a ∙ d ∙ b in
        (ap (λ r. r.line) f, ap (λ r. r.trip) f)

    same_cells : (v : ℕ) → v < n → cells_of n C w v ≡ cells_of n C w' v
    same_cells v p = sym (each_at n (cells_of n C w) [] v p) ∙ ap (λ s. get_or s.lists v []) e ∙ each_at n (cells_of n C w') [] v p

    same_held : (v : ℕ) → v ≤ n → held n C w v ≡ held n C w' v
    same_held v p =
        sym (cells_index n C w (length_of n C w v) (head_of n C w v)) ∙ by_index v p ∙ cells_index n C w' (length_of n C w' v) (head_of n C w' v)
      where
        by_index : (v : ℕ) → v ≤ n → map (λ c. c.index) (cells_of n C w v) ≡ map (λ c. c.index) (cells_of n C w' v)
        by_index v p =
            elim (dec_lt v n) [
              | yes q ↦ ap (map (λ c. c.index)) (same_cells v q)
              | no q ↦ subst (λ (z : ℕ). map (λ c. c.index) (cells_of n C w z) ≡ map (λ c. c.index) (cells_of n C w' z)) (omega arith) (ap (λ s. s.free) e)
            ]

module _ (n C : ℕ) (w w' : List ℕ) (room : InRoom n C) (long : length w ≡ store_words n C) (long' : length w' ≡ store_words n C)
    (reaches : (v : ℕ) → v ≤ n → Reaches n C w v (length_of n C w v) (head_of n C w v))
    (reaches' : (v : ℕ) → v ≤ n → Reaches n C w' v (length_of n C w' v) (head_of n C w' v))
    (whole : lengths n C w (n + 1) ≡ C)
    (freed : Along n C w (λ i. target_of n C w i ≡ NONE) (length_of n C w n) (head_of n C w n))
    (freed' : Along n C w' (λ i. target_of n C w' i ≡ NONE) (length_of n C w' n) (head_of n C w' n)) where
  low : C ≤ NONE
  low = omega arith

  module _ (e : day_of n C w ≡ day_of n C w') where
    same_heads : (v : ℕ) → v < n + 1 → head_of n C w v ≡ head_of n C w' v
    same_heads v p =
        chain_front (owner_of n C w) (next_of n C w) C low v (head_of n C w v) (held n C w v) (held_chain n C w low reaches v (omega arith))
        ∙ sym (chain_front (owner_of n C w') (next_of n C w') C low v (head_of n C w' v) (held n C w v)
        (rw (same_held n C w w' e v (omega arith)) (held_chain n C w' low reaches' v (omega arith))))

    same_lengths : (v : ℕ) → v < n + 1 → length_of n C w v ≡ length_of n C w' v
    same_lengths v p =
        sym (steps_length n C w (length_of n C w v) (head_of n C w v)) ∙ ap length (same_held n C w w' e v (omega arith))
        ∙ steps_length n C w' (length_of n C w' v) (head_of n C w' v)

    -- a cell stands in both tables in the list of one place
    shared : (i : ℕ) → i < C → (owner_of n C w i ≤ n) × (0 < times i (held n C w (owner_of n C w i))) × (0 < times i (held n C w' (owner_of n C w i)))
    shared i p =
        let r = parted n C w low reaches whole i p in
        let t = r.1 in
        let f = ap (times i) (same_held n C w w' e (owner_of n C w i) r.0) in
        (r.0, omega arith, omega arith)

    same_owners : (i : ℕ) → i < C → owner_of n C w i ≡ owner_of n C w' i
    same_owners i p = let r = shared i p in sym (held_owner n C w' low reaches' (owner_of n C w i) i r.0 r.2)

    same_nexts : (i : ℕ) → i < C → next_of n C w i ≡ next_of n C w' i
    same_nexts i p =
        let r = shared i p in
        let v = owner_of n C w i in
        chain_next (owner_of n C w) (next_of n C w) C low v (head_of n C w v) (held n C w v) (held_chain n C w low reaches v r.0) i r.1
        ∙ rw (same_held n C w w' e v r.0)
        (sym (chain_next (owner_of n C w') (next_of n C w') C low v (head_of n C w' v) (held n C w' v) (held_chain n C w' low reaches' v r.0) i r.2))

    same_targets : (i : ℕ) → i < C → target_of n C w i ≡ target_of n C w' i
    same_targets i p = go (owner_of n C w i) (shared i p)
      where
        go : (v : ℕ) → (v ≤ n) × (0 < times i (held n C w v)) × (0 < times i (held n C w' v)) → target_of n C w i ≡ target_of n C w' i
        go v r =
            elim (dec_lt v n) [
              | yes q ↦
                  cells_target n C w w' (length_of n C w v) (length_of n C w' v) (head_of n C w v) (head_of n C w' v) (same_cells n C w w' e v q) i r.1
              | no q ↦
                  let z : v ≡ n = omega (arith, r.0) in
                  along_at n C w (λ i. target_of n C w i ≡ NONE) (length_of n C w n) (head_of n C w n) freed i
                  (subst (λ (z : ℕ). 0 < times i (held n C w z)) z r.1)
                  ∙ sym (along_at n C w' (λ i. target_of n C w' i ≡ NONE) (length_of n C w' n) (head_of n C w' n) freed' i
                  (subst (λ (z : ℕ). 0 < times i (held n C w' z)) z r.2))
            ]

    pub determined : w ≡ w'
    determined = words_equal w w' (long ∙ sym long') at
      where
        at : (i : ℕ) → i < length w → word w i ≡ word w' i
        at i p =
            by_cases (dec_lt i n) (λ q. (same_run n C w w' e i q).0) (λ q1.
            by_cases (dec_lt i (2 * n)) (λ q. shift w w' n n (λ j h. (same_run n C w w' e j h).1) i (omega arith) (omega arith)) (λ q2.
            by_cases (dec_lt i (3 * n + 1)) (λ q. shift w w' (2 * n) (n + 1) same_heads i (omega arith) (omega arith)) (λ q3.
            by_cases (dec_lt i (4 * n + 2)) (λ q. shift w w' (3 * n + 1) (n + 1) same_lengths i (omega arith) (omega arith)) (λ q4.
            by_cases (dec_lt i (4 * n + 2 + C)) (λ q. shift w w' (4 * n + 2) C same_owners i (omega arith) (omega arith)) (λ q5.
            by_cases (dec_lt i (4 * n + 2 + 2 * C)) (λ q. shift w w' (4 * n + 2 + C) C same_targets i (omega arith) (omega arith)) (λ q6.
            shift w w' (4 * n + 2 + 2 * C) C same_nexts i (omega arith) (omega arith)))))))

pub sound_determined : (n C D D' : ℕ) (w w' : List ℕ) → Sound n C D w → Sound n C D' w' → day_of n C w ≡ day_of n C w' → w ≡ w'
sound_determined n C D D' w w' s s' e =
    determined n C w w' s.sized.room s.sized.long s'.sized.long s.chained.reaches s'.chained.reaches s.chained.whole
    s.aimed.freed s'.aimed.freed e
