-- One cell moves from one list to another: the words afterwards, and the walk of each list over them.
-- Assumes a threaded table.
use Prim.Native.Nat.{ℕ, zero, suc, ◌+◌, ◌-◌, ◌≤◌, ◌<◌}
use mathlib.Core.List.{List}
use mathlib.Core.Path.{◌≡◌, sym, ap, ◌∙◌}
use native.Mathlib.Omega.{arith}
use native.Mathlib.Decide.{ℕ_discrete, dec_lt}
use lib.ListN.{length}
use Rattle.terms.specs.Size.{store_words}
use Rattle.meaning.specs.Table.{word, line_at, number_at, head_at, length_at, owner_at, target_at, next_at, head_of, length_of, owner_of, target_of, next_of}
use Rattle.meaning.specs.Soundness.{lengths}
use Rattle.meaning.proofs.Entries.{skip, skip_before, skip_behind, skip_other, skip_most}
use Rattle.meaning.proofs.Steps.{nth, cell_at, hook_at, unhooked, moved, SameRun, SameList, SameCell, then_run, then_list, then_cell, unhooked_long, hooked_long, unhooked_other, unhooked_at, unhooked_count, hooked_head, hooked_count, hooked_owner, hooked_target, hooked_next, hooked_run, hooked_list, hooked_cell}
use Rattle.meaning.proofs.Walks.{nth_zero, Walk}
use Rattle.meaning.proofs.Threaded.{Threaded, lengths_change, cell_inside, cell_owner, cell_next, cell_end, cell_once, hook_apart}

-- the k-th cell leaves u's list; what is read before it goes to another
abbrev pub out : ℕ → ℕ → List ℕ → ℕ → ℕ → List ℕ
out n C w u k = unhooked n C w (hook_at n C w u k) u (cell_at n C w u k)

module _ (n C : ℕ) (w : List ℕ) (T : Threaded n C w) (u : ℕ) (hu : u ≤ n) where
  module _ (k : ℕ) (hk : k < length_of n C w u) where
    apart : (p : ℕ) → (p ≡ head_at n C u → ⊥) → ((j : ℕ) → j < C → owner_of n C w j ≡ u → p ≡ next_at n C j → ⊥) → (p ≡ length_at n C u → ⊥)
        → word (out n C w u k) p ≡ word w p
    apart p a b c = unhooked_other n C w (hook_at n C w u k) u (cell_at n C w u k) p (hook_apart n C w T u hu k (omega arith) p a b) c

    pub out_run : (z : ℕ) → z < n → SameRun n C w (out n C w u k) z
    out_run z hz = record {
      line = apart (line_at n C z) (λ e. omega arith) (λ j p o e. omega arith) (λ e. omega arith);
      number = apart (number_at n C z) (λ e. omega arith) (λ j p o e. omega arith) (λ e. omega arith);
    }

    pub out_list : (z : ℕ) → z ≤ n → (z ≡ u → ⊥) → SameList n C w (out n C w u k) z
    out_list z hz d = record {
      head = apart (head_at n C z) (λ e. d (omega arith)) (λ j p o e. omega arith) (λ e. omega arith);
      count = apart (length_at n C z) (λ e. omega arith) (λ j p o e. omega arith) (λ e. d (omega arith));
    }

    pub out_owner : (j : ℕ) → j < C → owner_of n C (out n C w u k) j ≡ owner_of n C w j
    out_owner j hj = apart (owner_at n C j) (λ e. omega arith) (λ j p o e. omega arith) (λ e. omega arith)

    pub out_target : (j : ℕ) → j < C → target_of n C (out n C w u k) j ≡ target_of n C w j
    out_target j hj = apart (target_at n C j) (λ e. omega arith) (λ j p o e. omega arith) (λ e. omega arith)

    -- the cells of the other lists keep their words
    pub out_cell : (j : ℕ) → j < C → (owner_of n C w j ≡ u → ⊥) → SameCell n C w (out n C w u k) j
    out_cell j hj d = record {
      owner = out_owner j hj;
      target = out_target j hj;
      next = apart (next_at n C j) (λ e. omega arith) (λ i p o e. let s : j ≡ i = omega arith in d (rw s o)) (λ e. omega arith);
    }

  -- u's list starts at the cell that was first, or second if the first has left
  pub out_head : (k : ℕ) → k < length_of n C w u → head_of n C (out n C w u k) u ≡ cell_at n C w u (skip k 0)
  unfolding hook_at skip
  out_head zero hk = unhooked_at n C w (head_at n C u) u (cell_at n C w u 0) (omega (arith, T.long)) (λ e. omega arith) ∙ cell_next n C w T u hu 0
  out_head (suc k) hk =
      unhooked_other n C w (next_at n C (cell_at n C w u k)) u (cell_at n C w u (suc k)) (head_at n C u) (λ e. omega arith) (λ e. omega arith)
      ∙ sym (nth_zero n C w (head_of n C w u))

  -- the next word of a cell that stays: only that of the cell before the k-th is written
  next_kept : (k a : ℕ) → k < length_of n C w u → a < length_of n C w u → (suc a ≡ k → ⊥) → next_of n C (out n C w u k) (cell_at n C w u a) ≡ cell_at n C w u (suc a)
  unfolding hook_at
  next_kept zero a hk ha d =
      unhooked_other n C w (head_at n C u) u (cell_at n C w u 0) (next_at n C (cell_at n C w u a)) (λ e. omega arith) (λ e. omega arith) ∙ cell_next n C w T u hu a
  next_kept (suc k) a hk ha d =
      unhooked_other n C w (next_at n C (cell_at n C w u k)) u (cell_at n C w u (suc k)) (next_at n C (cell_at n C w u a))
      (λ e. d (ap suc (cell_once n C w T u hu a k ha (omega arith) (omega arith)))) (λ e. omega arith)
      ∙ cell_next n C w T u hu a

  next_cut : (a : ℕ) → suc a < length_of n C w u → next_of n C (out n C w u (suc a)) (cell_at n C w u a) ≡ cell_at n C w u (suc (suc a))
  unfolding hook_at
  next_cut a h =
      unhooked_at n C w (next_at n C (cell_at n C w u a)) u (cell_at n C w u (suc a)) (omega (arith, T.long, cell_inside n C w T u hu a (omega arith))) (λ e. omega arith)
      ∙ cell_next n C w T u hu (suc a)

  out_next : (k a : ℕ) → k < length_of n C w u → suc a < length_of n C w u → next_of n C (out n C w u k) (cell_at n C w u (skip k a)) ≡ cell_at n C w u (skip k (suc a))
  out_next k a hk ha = elim (dec_lt a k) [
    | yes p ↦ elim (ℕ_discrete (suc a) k) [
      | yes e ↦ rw (← e, skip_before (suc a) a (omega arith), skip_behind (suc a) (suc a) (omega arith)) (next_cut a ha)
      | no e ↦ rw (skip_before k a p, skip_before k (suc a) (omega (arith, e))) (next_kept k a hk (omega arith) e)
    ]
    | no p ↦ rw (skip_behind k a (omega (arith, p)), skip_behind k (suc a) (omega (arith, p))) (next_kept k (suc a) hk ha (λ e. omega (arith, p)))
  ]

-- a list's cells by position once cell i has come to its front
unfoldable pub fronted : ℕ → ℕ → List ℕ → ℕ → ℕ → ℕ → ℕ
fronted n C w i v zero = i
fronted n C w i v (suc a) = cell_at n C w v a

-- and goes to the front of v's: the words afterwards
module _ (n C : ℕ) (w : List ℕ) (u k v t : ℕ) (T : Threaded n C w) (hu : u ≤ n) (hv : v ≤ n) (d : u ≡ v → ⊥) (hk : k < length_of n C w u) where
  abbrev i : ℕ
  i = cell_at n C w u k

  abbrev after : List ℕ
  after = moved n C w u k v t

  i_in : i < C
  i_in = cell_inside n C w T u hu k hk

  i_of : owner_of n C w i ≡ u
  i_of = cell_owner n C w T u hu k hk

  out_long : length (out n C w u k) ≡ store_words n C
  out_long = unhooked_long n C w (hook_at n C w u k) u i ∙ T.long

  pub moved_table : length after ≡ store_words n C
  unfolding moved
  moved_table = hooked_long n C (out n C w u k) i v t ∙ out_long

  pub moved_run : (z : ℕ) → z < n → SameRun n C w after z
  unfolding moved
  moved_run z h = then_run n C w (out n C w u k) _ z (out_run n C w T u hu k hk z h) (hooked_run n C (out n C w u k) i v t out_long i_in hv z h)

  pub moved_list : (z : ℕ) → z ≤ n → (z ≡ u → ⊥) → (z ≡ v → ⊥) → SameList n C w after z
  unfolding moved
  moved_list z h a b = then_list n C w (out n C w u k) _ z (out_list n C w T u hu k hk z h a) (hooked_list n C (out n C w u k) i v t out_long i_in hv z h b)

  pub moved_from_head : head_of n C after u ≡ cell_at n C w u (skip k 0)
  unfolding moved
  moved_from_head = (hooked_list n C (out n C w u k) i v t out_long i_in hv u hu d).head ∙ out_head n C w T u hu k hk

  pub moved_from_count : length_of n C after u ≡ length_of n C w u - 1
  unfolding moved
  moved_from_count = (hooked_list n C (out n C w u k) i v t out_long i_in hv u hu d).count ∙ unhooked_count n C w (hook_at n C w u k) u i T.long hu

  pub moved_to_head : head_of n C after v ≡ i
  unfolding moved
  moved_to_head = hooked_head n C (out n C w u k) i v t out_long i_in hv

  pub moved_to_count : length_of n C after v ≡ length_of n C w v + 1
  unfolding moved
  moved_to_count = hooked_count n C (out n C w u k) i v t out_long i_in hv ∙ ap (λ (x : ℕ). x + 1) (out_list n C w T u hu k hk v hv (λ e. d (sym e))).count

  pub moved_owner : owner_of n C after i ≡ v
  unfolding moved
  moved_owner = hooked_owner n C (out n C w u k) i v t out_long i_in hv

  pub moved_target : target_of n C after i ≡ t
  unfolding moved
  moved_target = hooked_target n C (out n C w u k) i v t out_long i_in hv

  pub moved_next : next_of n C after i ≡ head_of n C w v
  unfolding moved
  moved_next = hooked_next n C (out n C w u k) i v t out_long i_in hv ∙ (out_list n C w T u hu k hk v hv (λ e. d (sym e))).head

  -- the lengths' sum stays
  pub moved_lengths : lengths n C after (n + 1) ≡ lengths n C w (n + 1)
  unfolding moved
  moved_lengths =
      let a : lengths n C (out n C w u k) (n + 1) + 1 ≡ lengths n C w (n + 1) + 0 =
      lengths_change n C w (out n C w u k) (n + 1) u 0 1 (omega arith) (omega (arith, unhooked_count n C w (hook_at n C w u k) u i T.long hu))
      (λ z h e. (out_list n C w T u hu k hk z (omega arith) e).count) in
      let b : lengths n C after (n + 1) + 0 ≡ lengths n C (out n C w u k) (n + 1) + 1 =
      lengths_change n C (out n C w u k) after (n + 1) v 1 0 (omega arith) (omega (arith, hooked_count n C (out n C w u k) i v t out_long i_in hv))
      (λ z h e. (hooked_list n C (out n C w u k) i v t out_long i_in hv z (omega arith) e).count) in
      omega arith

  kept_owner : (j : ℕ) → j < C → (j ≡ i → ⊥) → owner_of n C after j ≡ owner_of n C w j
  unfolding moved
  kept_owner j h e = (hooked_cell n C (out n C w u k) i v t out_long i_in hv j h e).owner ∙ out_owner n C w T u hu k hk j h

  pub kept_target : (j : ℕ) → j < C → (j ≡ i → ⊥) → target_of n C after j ≡ target_of n C w j
  unfolding moved
  kept_target j h e = (hooked_cell n C (out n C w u k) i v t out_long i_in hv j h e).target ∙ out_target n C w T u hu k hk j h

  -- a cell of another list keeps its words
  kept_cell : (z j : ℕ) → j < C → owner_of n C w j ≡ z → (z ≡ u → ⊥) → SameCell n C w after j
  unfolding moved
  kept_cell z j h o a =
      then_cell n C w (out n C w u k) _ j (out_cell n C w T u hu k hk j h (λ e. a (sym o ∙ e)))
      (hooked_cell n C (out n C w u k) i v t out_long i_in hv j h (λ e. a (sym o ∙ (ap (owner_of n C w) e ∙ i_of))))

  -- a cell that stays in u's list
  pub stays_below : (a : ℕ) → suc a < length_of n C w u → skip k a < length_of n C w u
  stays_below a h = omega (arith, skip_most k a)

  pub stays : (a : ℕ) → suc a < length_of n C w u → cell_at n C w u (skip k a) ≡ i → ⊥
  stays a h e = skip_other k a (cell_once n C w T u hu (skip k a) k (stays_below a h) hk e)

  kept_next : (a : ℕ) → suc a < length_of n C w u → next_of n C after (cell_at n C w u (skip k a)) ≡ cell_at n C w u (skip k (suc a))
  unfolding moved
  kept_next a h =
      (hooked_cell n C (out n C w u k) i v t out_long i_in hv (cell_at n C w u (skip k a)) (cell_inside n C w T u hu (skip k a) (stays_below a h)) (stays a h)).next
      ∙ out_next n C w T u hu k a hk h

  -- the walk of each list afterwards
  pub moved_from_walk : Walk n C after u (length_of n C w u - 1) (head_of n C after u) (λ a. cell_at n C w u (skip k a))
  moved_from_walk = record {
    starts = sym moved_from_head;
    ends =
        let e : suc (length_of n C w u - 1) ≡ length_of n C w u = omega arith in
        rw (skip_behind k (length_of n C w u - 1) (omega arith), e) (cell_end n C w T u hu);
    inside = λ a h. cell_inside n C w T u hu (skip k a) (stays_below a (omega arith));
    owned = λ a h.
        kept_owner (cell_at n C w u (skip k a)) (cell_inside n C w T u hu (skip k a) (stays_below a (omega arith))) (stays a (omega arith))
        ∙ cell_owner n C w T u hu (skip k a) (stays_below a (omega arith));
    steps = λ a h. kept_next a (omega arith);
  }

  pub to_cell : (a : ℕ) → a < length_of n C w v → SameCell n C w after (cell_at n C w v a)
  to_cell a h = kept_cell v (cell_at n C w v a) (cell_inside n C w T v hv a h) (cell_owner n C w T v hv a h) (λ e. d (sym e))

  pub moved_to_walk : Walk n C after v (suc (length_of n C w v)) (head_of n C after v) (fronted n C w i v)
  unfolding fronted
  moved_to_walk = record {
    starts = sym moved_to_head;
    ends = cell_end n C w T v hv;
    inside = λ a. elim a as (λ a. a < suc (length_of n C w v) → fronted n C w i v a < C) [ zero ↦ λ h. i_in | suc b ↦ λ h. cell_inside n C w T v hv b (omega arith) ];
    owned = λ a. elim a as (λ a. a < suc (length_of n C w v) → owner_of n C after (fronted n C w i v a) ≡ v) [ zero ↦ λ h. moved_owner | suc b ↦ λ h. (to_cell b (omega arith)).owner ∙ cell_owner n C w T v hv b (omega arith) ];
    steps = λ a. elim a as (λ a. a < suc (length_of n C w v) → next_of n C after (fronted n C w i v a) ≡ fronted n C w i v (suc a)) [
      | zero ↦ λ h. moved_next ∙ sym (nth_zero n C w (head_of n C w v))
      | suc b ↦ λ h. (to_cell b (omega arith)).next ∙ cell_next n C w T v hv b
    ];
  }

  module _ (z : ℕ) (hz : z ≤ n) (zu : z ≡ u → ⊥) (zv : z ≡ v → ⊥) where
    pub other_cell : (a : ℕ) → a < length_of n C w z → SameCell n C w after (cell_at n C w z a)
    other_cell a h = kept_cell z (cell_at n C w z a) (cell_inside n C w T z hz a h) (cell_owner n C w T z hz a h) zu

    pub moved_other_walk : Walk n C after z (length_of n C w z) (head_of n C after z) (λ a. cell_at n C w z a)
    moved_other_walk = record {
      starts = nth_zero n C w (head_of n C w z) ∙ sym (moved_list z hz zu zv).head;
      ends = cell_end n C w T z hz;
      inside = λ a h. cell_inside n C w T z hz a h;
      owned = λ a h. (other_cell a h).owner ∙ cell_owner n C w T z hz a h;
      steps = λ a h. (other_cell a h).next ∙ cell_next n C w T z hz a;
    }

-- where the first cell moves, its list starts at the cell behind it
pub moved_first : (n C : ℕ) (w : List ℕ) (u v t : ℕ) → Threaded n C w → u ≤ n → v ≤ n → (u ≡ v → ⊥) → 0 < length_of n C w u
    → head_of n C (moved n C w u 0 v t) u ≡ next_of n C w (head_of n C w u)
unfolding skip nth
moved_first n C w u v t T hu hv d h = moved_from_head n C w u 0 v t T hu hv d h
