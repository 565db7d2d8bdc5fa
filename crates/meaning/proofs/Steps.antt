-- The store's writes as functions on its words, and what is read after each. What a step leaves alone is told by the run at a
-- place, by the list of a place and by the cell: SameRun, SameList, SameCell. Assumes a table of the store's length.
use Prim.Native.Nat.{ℕ, zero, suc, ◌+◌, ◌-◌, ◌≤◌, ◌<◌}
use mathlib.Core.List.{List}
use mathlib.Core.Path.{◌≡◌, ◌∙◌}
use native.Mathlib.Omega.{arith}
use lib.ListN.{length}
use Rattle.terms.specs.Size.{store_words}
use Rattle.meaning.specs.Table.{written, word, line_at, number_at, head_at, length_at, owner_at, target_at, next_at, line_of, number_of, head_of, length_of, owner_of, target_of, next_of}
use Rattle.meaning.proofs.Words.{written_length, word_same, word_other}

module _ (n C : ℕ) (w : List ℕ) where
  -- a list's two words
  unfoldable pub listed : ℕ → ℕ → ℕ → List ℕ
  listed v h l = written (written w (head_at n C v) h) (length_at n C v) l

  -- a cell's three
  unfoldable pub celled : ℕ → ℕ → ℕ → ℕ → List ℕ
  celled i o t x = written (written (written w (owner_at n C i) o) (target_at n C i) t) (next_at n C i) x

  -- a place's two
  unfoldable pub renamed : ℕ → ℕ → ℕ → List ℕ
  renamed v line trip = written (written w (line_at n C v) line) (number_at n C v) trip

  -- cell i leaves v's list; the word that names it stands at `at`: v's head word, or the next word of the cell before
  unfoldable pub unhooked : ℕ → ℕ → ℕ → List ℕ
  unhooked at v i = written (written w at (next_of n C w i)) (length_at n C v) (length_of n C w v - 1)

  -- the cell reached from cell i after k steps of next
  unfoldable pub nth : ℕ → ℕ → ℕ
  nth zero i = i
  nth (suc k) i = nth k (next_of n C w i)

  -- the k-th cell of v's list
  abbrev pub cell_at : ℕ → ℕ → ℕ
  cell_at v k = nth k (head_of n C w v)

  -- the position of the word that names it
  unfoldable pub hook_at : ℕ → ℕ → ℕ
  hook_at v zero = head_at n C v
  hook_at v (suc k) = next_at n C (cell_at v k)

-- cell i goes to the front of v's list with target t
unfoldable pub hooked : ℕ → ℕ → List ℕ → ℕ → ℕ → ℕ → List ℕ
hooked n C w i v t = listed n C (celled n C w i v t (head_of n C w v)) v i (length_of n C w v + 1)

-- the k-th cell of u's list goes to the front of v's list with target t
unfoldable pub moved : ℕ → ℕ → List ℕ → ℕ → ℕ → ℕ → ℕ → List ℕ
moved n C w u k v t = hooked n C (unhooked n C w (hook_at n C w u k) u (cell_at n C w u k)) (cell_at n C w u k) v t

-- what a step from w to w' leaves alone
module _ (n C : ℕ) (w w' : List ℕ) where
  pub record SameRun (v : ℕ) : Type 0 where
    pub line : line_of n C w' v ≡ line_of n C w v
    pub number : number_of n C w' v ≡ number_of n C w v

  pub record SameList (v : ℕ) : Type 0 where
    pub head : head_of n C w' v ≡ head_of n C w v
    pub count : length_of n C w' v ≡ length_of n C w v

  pub record SameCell (i : ℕ) : Type 0 where
    pub owner : owner_of n C w' i ≡ owner_of n C w i
    pub target : target_of n C w' i ≡ target_of n C w i
    pub next : next_of n C w' i ≡ next_of n C w i

-- two steps, one after the other
module _ (n C : ℕ) (a b c : List ℕ) where
  pub then_run : (v : ℕ) → SameRun n C a b v → SameRun n C b c v → SameRun n C a c v
  then_run v p q = record { line = q.line ∙ p.line; number = q.number ∙ p.number }

  pub then_list : (v : ℕ) → SameList n C a b v → SameList n C b c v → SameList n C a c v
  then_list v p q = record { head = q.head ∙ p.head; count = q.count ∙ p.count }

  pub then_cell : (i : ℕ) → SameCell n C a b i → SameCell n C b c i → SameCell n C a c i
  then_cell i p q = record { owner = q.owner ∙ p.owner; target = q.target ∙ p.target; next = q.next ∙ p.next }

-- the lengths of the tables
module _ (n C : ℕ) (w : List ℕ) where
  pub listed_long : (v h l : ℕ) → length (listed n C w v h l) ≡ length w
  unfolding listed
  listed_long v h l = simp written_length

  pub celled_long : (i o t x : ℕ) → length (celled n C w i o t x) ≡ length w
  unfolding celled
  celled_long i o t x = simp written_length

  pub renamed_long : (v line trip : ℕ) → length (renamed n C w v line trip) ≡ length w
  unfolding renamed
  renamed_long v line trip = simp written_length

  pub unhooked_long : (at v i : ℕ) → length (unhooked n C w at v i) ≡ length w
  unfolding unhooked
  unhooked_long at v i = simp written_length

pub hooked_long : (n C : ℕ) (w : List ℕ) (i v t : ℕ) → length (hooked n C w i v t) ≡ length w
unfolding hooked
hooked_long n C w i v t = simp (listed_long, celled_long)

pub moved_long : (n C : ℕ) (w : List ℕ) (u k v t : ℕ) → length (moved n C w u k v t) ≡ length w
unfolding moved
moved_long n C w u k v t = simp (hooked_long, unhooked_long)

-- a list's two words are written
module _ (n C : ℕ) (w : List ℕ) (v h l : ℕ) where
  pub listed_other : (p : ℕ) → (p ≡ head_at n C v → ⊥) → (p ≡ length_at n C v → ⊥) → word (listed n C w v h l) p ≡ word w p
  unfolding listed
  listed_other p a b = simp word_other

  module _ (z : length w ≡ store_words n C) (hv : v ≤ n) where
    pub listed_head : head_of n C (listed n C w v h l) v ≡ h
    unfolding listed
    listed_head = word_other _ _ _ _ (λ e. omega arith) ∙ word_same _ _ _ (omega arith)

    pub listed_count : length_of n C (listed n C w v h l) v ≡ l
    unfolding listed
    listed_count = word_same _ _ _ (rw written_length (omega arith))

    pub listed_run : (u : ℕ) → u < n → SameRun n C w (listed n C w v h l) u
    listed_run u hu = record { line = listed_other _ (λ e. omega arith) (λ e. omega arith); number = listed_other _ (λ e. omega arith) (λ e. omega arith) }

    pub listed_list : (u : ℕ) → u ≤ n → (u ≡ v → ⊥) → SameList n C w (listed n C w v h l) u
    listed_list u hu d = record { head = listed_other _ (λ e. d (omega arith)) (λ e. omega arith); count = listed_other _ (λ e. omega arith) (λ e. d (omega arith)) }

    pub listed_cell : (j : ℕ) → SameCell n C w (listed n C w v h l) j
    listed_cell j = record {
      owner = listed_other _ (λ e. omega arith) (λ e. omega arith);
      target = listed_other _ (λ e. omega arith) (λ e. omega arith);
      next = listed_other _ (λ e. omega arith) (λ e. omega arith);
    }

-- a cell's three words are written
module _ (n C : ℕ) (w : List ℕ) (i o t x : ℕ) where
  pub celled_other : (p : ℕ) → (p ≡ owner_at n C i → ⊥) → (p ≡ target_at n C i → ⊥) → (p ≡ next_at n C i → ⊥) → word (celled n C w i o t x) p ≡ word w p
  unfolding celled
  celled_other p a b c = simp word_other

  module _ (z : length w ≡ store_words n C) (hi : i < C) where
    pub celled_owner : owner_of n C (celled n C w i o t x) i ≡ o
    unfolding celled
    celled_owner = word_other _ _ _ _ (λ e. omega arith) ∙ (word_other _ _ _ _ (λ e. omega arith) ∙ word_same _ _ _ (omega arith))

    pub celled_target : target_of n C (celled n C w i o t x) i ≡ t
    unfolding celled
    celled_target = word_other _ _ _ _ (λ e. omega arith) ∙ word_same _ _ _ (rw written_length (omega arith))

    pub celled_next : next_of n C (celled n C w i o t x) i ≡ x
    unfolding celled
    celled_next = word_same _ _ _ (simp written_length (omega arith))

    pub celled_run : (u : ℕ) → u < n → SameRun n C w (celled n C w i o t x) u
    celled_run u hu = record {
      line = celled_other _ (λ e. omega arith) (λ e. omega arith) (λ e. omega arith);
      number = celled_other _ (λ e. omega arith) (λ e. omega arith) (λ e. omega arith);
    }

    pub celled_list : (u : ℕ) → u ≤ n → SameList n C w (celled n C w i o t x) u
    celled_list u hu = record {
      head = celled_other _ (λ e. omega arith) (λ e. omega arith) (λ e. omega arith);
      count = celled_other _ (λ e. omega arith) (λ e. omega arith) (λ e. omega arith);
    }

    pub celled_cell : (j : ℕ) → j < C → (j ≡ i → ⊥) → SameCell n C w (celled n C w i o t x) j
    celled_cell j hj d = record {
      owner = celled_other _ (λ e. d (omega arith)) (λ e. omega arith) (λ e. omega arith);
      target = celled_other _ (λ e. omega arith) (λ e. d (omega arith)) (λ e. omega arith);
      next = celled_other _ (λ e. omega arith) (λ e. omega arith) (λ e. d (omega arith));
    }

-- a place's two words are written
module _ (n C : ℕ) (w : List ℕ) (v line trip : ℕ) where
  pub renamed_other : (p : ℕ) → (p ≡ line_at n C v → ⊥) → (p ≡ number_at n C v → ⊥) → word (renamed n C w v line trip) p ≡ word w p
  unfolding renamed
  renamed_other p a b = simp word_other

  module _ (z : length w ≡ store_words n C) (hv : v < n) where
    pub renamed_line : line_of n C (renamed n C w v line trip) v ≡ line
    unfolding renamed
    renamed_line = word_other _ _ _ _ (λ e. omega arith) ∙ word_same _ _ _ (omega arith)

    pub renamed_number : number_of n C (renamed n C w v line trip) v ≡ trip
    unfolding renamed
    renamed_number = word_same _ _ _ (rw written_length (omega arith))

    pub renamed_run : (u : ℕ) → u < n → (u ≡ v → ⊥) → SameRun n C w (renamed n C w v line trip) u
    renamed_run u hu d = record { line = renamed_other _ d (λ e. omega arith); number = renamed_other _ (λ e. omega arith) (λ e. d (omega arith)) }

    pub renamed_list : (u : ℕ) → SameList n C w (renamed n C w v line trip) u
    renamed_list u = record { head = renamed_other _ (λ e. omega arith) (λ e. omega arith); count = renamed_other _ (λ e. omega arith) (λ e. omega arith) }

    pub renamed_cell : (j : ℕ) → SameCell n C w (renamed n C w v line trip) j
    renamed_cell j = record {
      owner = renamed_other _ (λ e. omega arith) (λ e. omega arith);
      target = renamed_other _ (λ e. omega arith) (λ e. omega arith);
      next = renamed_other _ (λ e. omega arith) (λ e. omega arith);
    }

-- cell i to the front of v's list with target t
module _ (n C : ℕ) (w : List ℕ) (i v t : ℕ) (z : length w ≡ store_words n C) (hi : i < C) (hv : v ≤ n) where
  mid : List ℕ
  mid = celled n C w i v t (head_of n C w v)

  mid_long : length mid ≡ store_words n C
  unfolding mid
  mid_long = celled_long n C w i v t (head_of n C w v) ∙ z

  pub hooked_head : head_of n C (hooked n C w i v t) v ≡ i
  unfolding hooked mid
  hooked_head = listed_head n C mid v i (length_of n C w v + 1) mid_long hv

  pub hooked_count : length_of n C (hooked n C w i v t) v ≡ length_of n C w v + 1
  unfolding hooked mid
  hooked_count = listed_count n C mid v i (length_of n C w v + 1) mid_long hv

  pub hooked_owner : owner_of n C (hooked n C w i v t) i ≡ v
  unfolding hooked mid
  hooked_owner = (listed_cell n C mid v i (length_of n C w v + 1) mid_long hv i).owner ∙ celled_owner n C w i v t (head_of n C w v) z hi

  pub hooked_target : target_of n C (hooked n C w i v t) i ≡ t
  unfolding hooked mid
  hooked_target = (listed_cell n C mid v i (length_of n C w v + 1) mid_long hv i).target ∙ celled_target n C w i v t (head_of n C w v) z hi

  pub hooked_next : next_of n C (hooked n C w i v t) i ≡ head_of n C w v
  unfolding hooked mid
  hooked_next = (listed_cell n C mid v i (length_of n C w v + 1) mid_long hv i).next ∙ celled_next n C w i v t (head_of n C w v) z hi

  pub hooked_run : (u : ℕ) → u < n → SameRun n C w (hooked n C w i v t) u
  unfolding hooked mid
  hooked_run u hu = then_run n C w mid _ u (celled_run n C w i v t (head_of n C w v) z hi u hu) (listed_run n C mid v i (length_of n C w v + 1) mid_long hv u hu)

  pub hooked_list : (u : ℕ) → u ≤ n → (u ≡ v → ⊥) → SameList n C w (hooked n C w i v t) u
  unfolding hooked mid
  hooked_list u hu d = then_list n C w mid _ u (celled_list n C w i v t (head_of n C w v) z hi u hu) (listed_list n C mid v i (length_of n C w v + 1) mid_long hv u hu d)

  pub hooked_cell : (j : ℕ) → j < C → (j ≡ i → ⊥) → SameCell n C w (hooked n C w i v t) j
  unfolding hooked mid
  hooked_cell j hj d = then_cell n C w mid _ j (celled_cell n C w i v t (head_of n C w v) z hi j hj d) (listed_cell n C mid v i (length_of n C w v + 1) mid_long hv j)

-- cell i leaves v's list
module _ (n C : ℕ) (w : List ℕ) (at v i : ℕ) where
  pub unhooked_other : (p : ℕ) → (p ≡ at → ⊥) → (p ≡ length_at n C v → ⊥) → word (unhooked n C w at v i) p ≡ word w p
  unfolding unhooked
  unhooked_other p a b = simp word_other

  pub unhooked_at : at < length w → (at ≡ length_at n C v → ⊥) → word (unhooked n C w at v i) at ≡ next_of n C w i
  unfolding unhooked
  unhooked_at h d = word_other _ _ _ _ d ∙ word_same _ _ _ h

  pub unhooked_count : length w ≡ store_words n C → v ≤ n → length_of n C (unhooked n C w at v i) v ≡ length_of n C w v - 1
  unfolding unhooked
  unhooked_count z h = word_same _ _ _ (rw written_length (omega arith))
