-- Sections that are written one after the other: what one is whose words are replaced as a part of the table, and that the nine of
-- empty make the table that document 01 lists. Assumes nothing.
use Prim.Native.Nat.{ℕ, ◌+◌, ◌*◌, ◌-◌, ◌≤◌, ◌<◌}
use mathlib.Core.List.{List}
use mathlib.Core.Path.{◌≡◌, ap, subst, ◌∙◌}
use native.Mathlib.Omega.{arith}
use lib.ListN.{get_or, get_or-replicate, length, length-replicate, replicate}
use borrow.Author.Rules.{rules}
use borrow.Rule.Slice.PartMut.{put_mid}
use Rattle.std.proofs.lemmas.List.{places}
use Rattle.meaning.specs.Table.{NONE, word, head_at, length_at, owner_at, target_at, next_at, written}
use Rattle.meaning.specs.Day.{empty_table}
use Rattle.meaning.proofs.Words.{written_length, word_same, word_other}
use Rattle.meaning.proofs.Empty.{emptied_is}
use Rattle.table.specs.Within.{Within}
use Rattle.table.specs.Writing.{Writes, PlacesEmptied, CellsEmptied}

-- as many words as ys has are replaced by it; the loan of a part of a slice names how many by a number of its own, k
module _ (from k many : ℕ) (w ys : List ℕ) (room : from + many ≤ length w) (part : k ≡ many) where
  pub writes_part : (f : ℕ → ℕ) → length ys ≡ many → ((j : ℕ) → j < many → get_or ys j 0 ≡ f j) → Writes from many f w (put_mid from k w ys)
  unfolding word
  writes_part f long each = rw part (record {
    long = search (rules, places);
    inside = λ j q. let e = each j q in search (rules, places);
    below = λ p q. search (rules, places);
    above = λ p q. search (rules, places);
  })

  pub writes_same : (x : ℕ) → ys ≡ replicate many x → Writes from many (λ _. x) w (put_mid from k w ys)
  writes_same x e = writes_part (λ _. x) (rw e (length-replicate many x)) (λ j q. rw e (get_or-replicate many j x 0 q))

pub writes_one : (i x : ℕ) (w w' : List ℕ) → i < length w → w' ≡ written w i x → Writes i 1 (λ _. x) w w'
writes_one i x w w' h e = record {
  long = rw e (written_length w i x);
  inside = λ j q. let z : i + j ≡ i = omega arith in rw (e, z) (word_same w i x h);
  below = λ p q. rw e (word_other w i p x (λ z. omega arith));
  above = λ p q. rw e (word_other w i p x (λ z. omega arith));
}

-- the same at a position that is known by another name
writes_at : (a b many : ℕ) (f : ℕ → ℕ) (w w' : List ℕ) → a ≡ b → Writes a many f w w' → Writes b many f w w'
writes_at a b many f w w' e = subst (λ (p : ℕ). Writes p many f w w') e

-- the places' half, from its five sections, first to last; h and l are where heads and lengths begin, and h' and l' where the free
-- list's stand
module _ (n C : ℕ) (w w1 w2 w3 w4 w5 : List ℕ) (W : Within n C w) (names : Writes 0 (2 * n) (λ _. 0) w w1)
    (h : ℕ) (e₁ : h ≡ head_at n C 0) (heads-at : Writes h n (λ _. NONE) w1 w2) (h' : ℕ) (e₂ : h' ≡ head_at n C n) (Front-at : w3 ≡ written w2 h' 0)
    (l : ℕ) (e₃ : l ≡ length_at n C 0) (counts-at : Writes l n (λ _. 0) w3 w4) (l' : ℕ) (e₄ : l' ≡ length_at n C n) (all-at : w5 ≡ written w4 l' C) where
  heads : Writes (2 * n) n (λ _. NONE) w1 w2
  heads = writes_at h (2 * n) n (λ _. NONE) w1 w2 (omega (arith, e₁)) heads-at

  front : w3 ≡ written w2 (3 * n) 0
  front = Front-at ∙ ap (λ (p : ℕ). written w2 p 0) (omega (arith, e₂))

  counts : Writes (3 * n + 1) n (λ _. 0) w3 w4
  counts = writes_at l (3 * n + 1) n (λ _. 0) w3 w4 (omega (arith, e₃)) counts-at

  all : w5 ≡ written w4 (4 * n + 1) C
  all = all-at ∙ ap (λ (p : ℕ). written w4 p C) (omega (arith, e₄))

  free_head : Writes (3 * n) 1 (λ _. 0) w2 w3
  free_head = writes_one (3 * n) 0 w2 w3 (omega (arith, W.long, names.long, heads.long)) front

  free_count : Writes (4 * n + 1) 1 (λ _. C) w4 w5
  free_count = writes_one (4 * n + 1) C w4 w5 (omega (arith, W.long, names.long, heads.long, free_head.long, counts.long)) all

  names_stay : (p : ℕ) → p < 2 * n → word w5 p ≡ 0
  names_stay p h =
      free_count.below p (omega arith) ∙ counts.below p (omega arith) ∙ free_head.below p (omega arith) ∙ heads.below p h ∙ ap (word w1) (omega arith)
      ∙ names.inside p h

  pub places_emptied : PlacesEmptied n C w w5
  places_emptied = record {
    long = free_count.long ∙ counts.long ∙ free_head.long ∙ heads.long ∙ names.long;
    line = λ v h. names_stay v (omega arith);
    number = λ v h. names_stay (n + v) (omega arith);
    head = λ v h.
        free_count.below (2 * n + v) (omega arith) ∙ counts.below (2 * n + v) (omega arith) ∙ free_head.below (2 * n + v) (omega arith)
        ∙ heads.inside v h;
    free_head =
        free_count.below (2 * n + n) (omega arith) ∙ counts.below (2 * n + n) (omega arith) ∙ ap (word w3) (omega arith)
        ∙ free_head.inside 0 (omega arith);
    count = λ v h. free_count.below (3 * n + 1 + v) (omega arith) ∙ counts.inside v h;
    free_count = ap (word w5) (omega arith) ∙ free_count.inside 0 (omega arith);
  }

-- the cells' half, from its four sections, which begin at o, t and x; the last cell's next stands at x'
module _ (n C : ℕ) (w w1 w2 w3 w4 : List ℕ) (W : Within n C w) (o : ℕ) (e₁ : o ≡ owner_at n C 0) (owners-at : Writes o C (λ _. n) w w1)
    (t : ℕ) (e₂ : t ≡ target_at n C 0) (targets-at : Writes t C (λ _. NONE) w1 w2) (x : ℕ) (e₃ : x ≡ next_at n C 0)
    (nexts-at : Writes x (C - 1) (λ j. j + 1) w2 w3) (x' : ℕ) (e₄ : x' ≡ next_at n C (C - 1)) (back_at : w4 ≡ written w3 x' NONE) where
  owners : Writes (4 * n + 2) C (λ _. n) w w1
  owners = writes_at o (4 * n + 2) C (λ _. n) w w1 (omega (arith, e₁)) owners-at

  targets : Writes (4 * n + 2 + C) C (λ _. NONE) w1 w2
  targets = writes_at t (4 * n + 2 + C) C (λ _. NONE) w1 w2 (omega (arith, e₂)) targets-at

  nexts : Writes (4 * n + 2 + 2 * C) (C - 1) (λ j. j + 1) w2 w3
  nexts = writes_at x (4 * n + 2 + 2 * C) (C - 1) (λ j. j + 1) w2 w3 (omega (arith, e₃)) nexts-at

  back : w4 ≡ written w3 (4 * n + 1 + 3 * C) NONE
  back = back_at ∙ ap (λ (p : ℕ). written w3 p NONE) (omega (arith, e₄, W.room.cells_least))

  last : Writes (4 * n + 1 + 3 * C) 1 (λ _. NONE) w3 w4
  last = writes_one (4 * n + 1 + 3 * C) NONE w3 w4 (omega (arith, W.long, owners.long, targets.long, nexts.long)) back

  pub cells_emptied : CellsEmptied n C w w4
  cells_emptied =
      let some : 1 ≤ C = W.room.cells_least in
      record {
        long = last.long ∙ nexts.long ∙ targets.long ∙ owners.long;
        owner = λ i h.
            last.below (4 * n + 2 + i) (omega arith) ∙ nexts.below (4 * n + 2 + i) (omega arith) ∙ targets.below (4 * n + 2 + i) (omega arith)
            ∙ owners.inside i h;
        target = λ i h. last.below (4 * n + 2 + C + i) (omega arith) ∙ nexts.below (4 * n + 2 + C + i) (omega arith) ∙ targets.inside i h;
        next = λ i h. last.below (4 * n + 2 + 2 * C + i) (omega arith) ∙ nexts.inside i (omega arith);
        last = λ i h. ap (word w4) (omega arith) ∙ last.inside 0 (omega arith);
        kept = λ p h. last.below p (omega arith) ∙ nexts.below p (omega arith) ∙ targets.below p (omega arith) ∙ owners.below p (omega arith);
      }

-- both halves
pub halves_empty : (n C : ℕ) (w w1 w2 : List ℕ) → Within n C w → PlacesEmptied n C w w1 → CellsEmptied n C w1 w2 → w2 ≡ empty_table n C
halves_empty n C w w1 w2 W P Q = emptied_is n C w2 W.room.cells_least (record {
  long = Q.long ∙ P.long ∙ W.long;
  line = λ v h. Q.kept v (omega arith) ∙ P.line v h;
  number = λ v h. Q.kept (n + v) (omega arith) ∙ P.number v h;
  head = λ v h. Q.kept (2 * n + v) (omega arith) ∙ P.head v h;
  free_head = Q.kept (2 * n + n) (omega arith) ∙ P.free_head;
  count = λ v h. Q.kept (3 * n + 1 + v) (omega arith) ∙ P.count v h;
  free_count = Q.kept (3 * n + 1 + n) (omega arith) ∙ P.free_count;
  owner = Q.owner;
  target = Q.target;
  next = Q.next;
  last = Q.last;
})
