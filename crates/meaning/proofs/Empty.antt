-- The table that empty writes, word by word: that it has these words, that no other table has, that it is threaded and that it
-- holds the day with no run and no link. Assumes at least one cell.
use Prim.Native.Nat.{ℕ, zero, suc, ◌+◌, ◌-◌, ◌*◌, ◌≤◌, ◌<◌}
use mathlib.Core.List.{List, [], ◌∷◌, ◌++◌, append_assoc}
use mathlib.Core.Path.{◌≡◌, refl, sym, ◌∙◌}
use native.Mathlib.Omega.{arith}
use native.Mathlib.Decide.{ℕ_discrete, dec_lt}
use lib.ListN.{length, replicate, length-append, length-replicate, get_or-replicate, get_or-append}
use lib.Seq.{get_or-append-add}
use Rattle.terms.specs.Size.{store_words}
use Rattle.meaning.specs.Table.{NONE, word, line_of, number_of, head_of, length_of, owner_of, target_of, next_of}
use Rattle.meaning.specs.Day.{nexts, empty_table}
use Rattle.meaning.proofs.Words.{words_equal}

-- document 01: "Empty writes"
pub record Emptied (n C : ℕ) (w : List ℕ) : Type 0 where
  pub long : length w ≡ store_words n C
  pub line : (v : ℕ) → v < n → line_of n C w v ≡ 0
  pub number : (v : ℕ) → v < n → number_of n C w v ≡ 0
  pub head : (v : ℕ) → v < n → head_of n C w v ≡ NONE
  pub free_head : head_of n C w n ≡ 0
  pub count : (v : ℕ) → v < n → length_of n C w v ≡ 0
  pub free_count : length_of n C w n ≡ C
  pub owner : (i : ℕ) → i < C → owner_of n C w i ≡ n
  pub target : (i : ℕ) → i < C → target_of n C w i ≡ NONE
  pub next : (i : ℕ) → i + 1 < C → next_of n C w i ≡ i + 1
  pub last : (i : ℕ) → i + 1 ≡ C → next_of n C w i ≡ NONE

-- the word behind a section of m words, and in it
behind : (a b : List ℕ) (m i p : ℕ) → length a ≡ m → p ≡ m + i → word (a ++ b) p ≡ word b i
unfolding word
behind a b m i p e q = rw (q, ← e) (get_or-append-add a b i 0)

within : (a b : List ℕ) (i : ℕ) → i < length a → word (a ++ b) i ≡ word a i
unfolding word
within a b i h = get_or-append a b 0 i h

filled : (k x i : ℕ) → i < k → word (replicate k x) i ≡ x
unfolding word
filled k x i h = get_or-replicate k i x 0 h

-- a section of m equal words and one more
module _ (m x y : ℕ) where
  ended_long : length (replicate m x ++ y ∷ []) ≡ m + 1
  ended_long = simp (length-append, length-replicate)

  ended_in : (i : ℕ) → i < m → word (replicate m x ++ y ∷ []) i ≡ x
  ended_in i h = within (replicate m x) (y ∷ []) i (rw length-replicate h) ∙ filled m x i h

  ended_last : word (replicate m x ++ y ∷ []) m ≡ y
  unfolding word
  ended_last = behind (replicate m x) (y ∷ []) m 0 m (length-replicate m x) (omega arith)

nexts_long : (i k : ℕ) → length (nexts i k) ≡ k + 1
unfolding nexts
nexts_long i zero = refl
nexts_long i (suc k) = omega (arith, nexts_long (suc i) k)

nexts_in : (i k a : ℕ) → a < k → word (nexts i k) a ≡ i + a + 1
unfolding nexts word
nexts_in i zero a h = absurd (omega arith)
nexts_in i (suc k) zero h = omega arith
nexts_in i (suc k) (suc a) h = nexts_in (suc i) k a (omega arith) ∙ omega arith

nexts_last : (i k : ℕ) → word (nexts i k) k ≡ NONE
unfolding nexts word
nexts_last i zero = refl
nexts_last i (suc k) = nexts_last (suc i) k

-- the table from each section on
module _ (n c : ℕ) where
  from_target : List ℕ
  from_target = replicate (suc c) NONE ++ nexts 0 c

  from_owner : List ℕ
  from_owner = replicate (suc c) n ++ from_target

  from_length : List ℕ
  from_length = (replicate n 0 ++ suc c ∷ []) ++ from_owner

  from_head : List ℕ
  from_head = (replicate n NONE ++ 0 ∷ []) ++ from_length

  from_number : List ℕ
  from_number = replicate n 0 ++ from_head

  table : List ℕ
  table = replicate n 0 ++ from_number

  table_is : empty_table n (suc c) ≡ table
  unfolding empty_table table from_number from_head from_length from_owner from_target
  table_is = simp append_assoc

  number_at : (p i : ℕ) → p ≡ n + i → word table p ≡ word from_number i
  unfolding table
  number_at p i e = behind (replicate n 0) from_number n i p (length-replicate n 0) e

  head_at : (p i : ℕ) → p ≡ 2 * n + i → word table p ≡ word from_head i
  unfolding from_number
  head_at p i e = number_at p (n + i) (omega arith) ∙ behind (replicate n 0) from_head n i (n + i) (length-replicate n 0) refl

  length_at : (p i : ℕ) → p ≡ 3 * n + 1 + i → word table p ≡ word from_length i
  unfolding from_head
  length_at p i e = head_at p (n + 1 + i) (omega arith) ∙ behind (replicate n NONE ++ 0 ∷ []) from_length (n + 1) i (n + 1 + i) (ended_long n NONE 0) refl

  owner_at : (p i : ℕ) → p ≡ 4 * n + 2 + i → word table p ≡ word from_owner i
  unfolding from_length
  owner_at p i e = length_at p (n + 1 + i) (omega arith) ∙ behind (replicate n 0 ++ suc c ∷ []) from_owner (n + 1) i (n + 1 + i) (ended_long n 0 (suc c)) refl

  target_at : (p i : ℕ) → p ≡ 4 * n + 2 + suc c + i → word table p ≡ word from_target i
  unfolding from_owner
  target_at p i e = owner_at p (suc c + i) (omega arith) ∙ behind (replicate (suc c) n) from_target (suc c) i (suc c + i) (length-replicate (suc c) n) refl

  next_at_lem : (p i : ℕ) → p ≡ 4 * n + 2 + 2 * suc c + i → word table p ≡ word (nexts 0 c) i
  unfolding from_target
  next_at_lem p i e = target_at p (suc c + i) (omega arith) ∙ behind (replicate (suc c) NONE) (nexts 0 c) (suc c) i (suc c + i) (length-replicate (suc c) NONE) refl

  table_long : length table ≡ store_words n (suc c)
  unfolding table from_number from_head from_length from_owner from_target
  table_long = simp (length-append, length-replicate, nexts_long) (omega arith)

  table_emptied : Emptied n (suc c) table
  unfolding table from_number from_head from_length from_owner from_target
  table_emptied = record {
    long = table_long;
    line = λ v h. within (replicate n 0) from_number v (rw length-replicate h) ∙ filled n 0 v h;
    number = λ v h. number_at (n + v) v refl ∙ (within (replicate n 0) from_head v (rw length-replicate h) ∙ filled n 0 v h);
    head = λ v h. head_at (2 * n + v) v refl ∙ (within (replicate n NONE ++ 0 ∷ []) from_length v (rw ended_long (omega arith)) ∙ ended_in n NONE 0 v h);
    free_head = head_at (2 * n + n) n refl ∙ (within (replicate n NONE ++ 0 ∷ []) from_length n (rw ended_long (omega arith)) ∙ ended_last n NONE 0);
    count = λ v h. length_at (3 * n + 1 + v) v refl ∙ (within (replicate n 0 ++ suc c ∷ []) from_owner v (rw ended_long (omega arith)) ∙ ended_in n 0 (suc c) v h);
    free_count = length_at (3 * n + 1 + n) n refl ∙ (within (replicate n 0 ++ suc c ∷ []) from_owner n (rw ended_long (omega arith)) ∙ ended_last n 0 (suc c));
    owner = λ i h. owner_at (4 * n + 2 + i) i refl ∙ (within (replicate (suc c) n) from_target i (rw (length-replicate (suc c) n) h) ∙ filled (suc c) n i h);
    target = λ i h. target_at (4 * n + 2 + suc c + i) i refl
        ∙ (within (replicate (suc c) NONE) (nexts 0 c) i (rw (length-replicate (suc c) NONE) h) ∙ filled (suc c) NONE i h);
    next = λ i h. next_at_lem (4 * n + 2 + 2 * suc c + i) i refl ∙ (nexts_in 0 c i (omega arith) ∙ omega arith);
    last = λ i h. next_at_lem (4 * n + 2 + 2 * suc c + i) i refl ∙ (let e : i ≡ c = omega arith in rw e (nexts_last 0 c));
  }

pub empty_emptied : (n C : ℕ) → 1 ≤ C → Emptied n C (empty_table n C)
empty_emptied n zero h = absurd (omega arith)
empty_emptied n (suc c) h = rw (table_is n c) (table_emptied n c)

-- no other table has these words
module _ (n C : ℕ) (a b : List ℕ) (A : Emptied n C a) (B : Emptied n C b) where
  agree_head : (v : ℕ) → v ≤ n → head_of n C a v ≡ head_of n C b v
  agree_head v h = elim (ℕ_discrete v n) [
    | yes e ↦ rw e (A.free_head ∙ sym B.free_head)
    | no e ↦ let q : v < n = omega (arith, e) in A.head v q ∙ sym (B.head v q)
  ]

  agree_count : (v : ℕ) → v ≤ n → length_of n C a v ≡ length_of n C b v
  agree_count v h = elim (ℕ_discrete v n) [
    | yes e ↦ rw e (A.free_count ∙ sym B.free_count)
    | no e ↦ let q : v < n = omega (arith, e) in A.count v q ∙ sym (B.count v q)
  ]

  agree_next : (i : ℕ) → i < C → next_of n C a i ≡ next_of n C b i
  agree_next i h = elim (ℕ_discrete (i + 1) C) [
    | yes e ↦ A.last i e ∙ sym (B.last i e)
    | no e ↦ let q : i + 1 < C = omega (arith, e) in A.next i q ∙ sym (B.next i q)
  ]

  -- by the position in its section
  at : (p q : ℕ) → p ≡ q → word a q ≡ word b q → word a p ≡ word b p
  at p q e h = rw e h

  agree : (p : ℕ) → p < length a → word a p ≡ word b p
  agree p h = elim (dec_lt p n) [
    | yes e ↦ A.line p e ∙ sym (B.line p e)
    | no e1 ↦ elim (dec_lt p (2 * n)) [
      | yes e ↦ let q : p - n < n = omega (arith, e1) in at p (n + (p - n)) (omega (arith, e1)) (A.number (p - n) q ∙ sym (B.number (p - n) q))
      | no e2 ↦ elim (dec_lt p (3 * n + 1)) [
        | yes e ↦ at p (2 * n + (p - 2 * n)) (omega (arith, e2)) (agree_head (p - 2 * n) (omega (arith, e2)))
        | no e3 ↦ elim (dec_lt p (4 * n + 2)) [
          | yes e ↦ at p (3 * n + 1 + (p - (3 * n + 1))) (omega (arith, e3)) (agree_count (p - (3 * n + 1)) (omega (arith, e3)))
          | no e4 ↦ elim (dec_lt p (4 * n + 2 + C)) [
            | yes e ↦
                let q : p - (4 * n + 2) < C = omega (arith, e4) in
                at p (4 * n + 2 + (p - (4 * n + 2))) (omega (arith, e4)) (A.owner (p - (4 * n + 2)) q ∙ sym (B.owner (p - (4 * n + 2)) q))
            | no e5 ↦ elim (dec_lt p (4 * n + 2 + 2 * C)) [
              | yes e ↦
                  let q : p - (4 * n + 2 + C) < C = omega (arith, e5) in
                  at p (4 * n + 2 + C + (p - (4 * n + 2 + C))) (omega (arith, e5))
                  (A.target (p - (4 * n + 2 + C)) q ∙ sym (B.target (p - (4 * n + 2 + C)) q))
              | no e6 ↦
                  at p (4 * n + 2 + 2 * C + (p - (4 * n + 2 + 2 * C))) (omega (arith, e6))
                  (agree_next (p - (4 * n + 2 + 2 * C)) (omega (arith, e6, A.long)))
            ]
          ]
        ]
      ]
    ]
  ]

  pub emptied_same : a ≡ b
  emptied_same = words_equal a b (A.long ∙ sym B.long) agree

pub emptied_is : (n C : ℕ) (w : List ℕ) → 1 ≤ C → Emptied n C w → w ≡ empty_table n C
emptied_is n C w h E = emptied_same n C w (empty_table n C) E (empty_emptied n C h)
