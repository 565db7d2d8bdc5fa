-- Rules 1 to 4 of "The store, section by section" hold exactly where the judge's finite test does; so soundness is decided.
-- Assumes nothing.
use Prim.Native.Nat.{ℕ, zero, suc, ◌+◌, ◌≤◌, ◌<◌}
use mathlib.Core.Bool.{Bool}
use mathlib.Core.List.{List}
use mathlib.Core.Logic.{◌⊎◌, inl, inr, ⊎_elim}
use mathlib.Core.Path.{◌≡◌, sym, ap, ◌∙◌, subst}
use native.Mathlib.Decide.{dec_lt}
use native.Mathlib.Omega.{arith}
use Rattle.terms.specs.Tells.{Tells}
use Rattle.terms.proofs.Told.{tells_iff}
use Rattle.meaning.specs.Table.{NONE, head_of, length_of, owner_of, target_of, next_of}
use Rattle.meaning.specs.Soundness.{Reaches, lengths, Along, Aims, Single, Sized, Sound}
use Rattle.meaning.proofs.Same.{same_cases, same_self}
use Rattle.meaning.proofs.Judged.{Aim, Walks, Has, Alone, Judged}
use Rattle.meaning.proofs.Times.{times}
use Rattle.meaning.proofs.Chains.{chain_owner, chain_once}
use Rattle.meaning.proofs.Held.{steps, held, reaches_chain, parted}
use Rattle.meaning.proofs.Decided.{sized_dec, judged_dec}

module _ (n C : ℕ) (w : List ℕ) where
  -- a walk is a chain along which each cell aims right
  pub walks_reaches : (v k i : ℕ) → Walks n C w v k i → Reaches n C w v k i
  unfolding Walks Reaches
  walks_reaches v zero i p = p
  walks_reaches v (suc k) i p = (p.0.within, p.0.owned, walks_reaches v k (next_of n C w i) p.1)

  pub walks_along : (v k i : ℕ) → Walks n C w v k i → Along n C w (Aim n C w v) k i
  unfolding Walks Along
  walks_along v zero i p = tt
  walks_along v (suc k) i p = (p.0.aims, walks_along v k (next_of n C w i) p.1)

  pub walks_make : (v k i : ℕ) → Reaches n C w v k i → Along n C w (Aim n C w v) k i → Walks n C w v k i
  unfolding Walks Reaches Along
  walks_make v zero i p a = p
  walks_make v (suc k) i p a = (record { within = p.0; owned = p.1; aims = a.0 }, walks_make v k (next_of n C w i) p.2 a.1)

  pub along_map : (P Q : ℕ → Type 0) → ((i : ℕ) → P i → Q i) → (k i : ℕ) → Along n C w P k i → Along n C w Q k i
  unfolding Along
  along_map P Q f zero i a = tt
  along_map P Q f (suc k) i a = (f i a.0, along_map P Q f k (next_of n C w i) a.1)

  -- the list has a link to t where one of its cells has target t
  pub has_cell : (t k i : ℕ) → Has n C w t k i → (j : ℕ) × (0 < times j (steps n C w k i)) × (target_of n C w j ≡ t)
  unfolding Has steps times
  has_cell t zero i q = absurd q
  has_cell t (suc k) i q =
      ⊎_elim
      (λ e. (i, omega (arith, same_self i), e))
      (λ r. let s = has_cell t k (next_of n C w i) r in (s.0, omega (arith, s.1), s.2))
      q.1

  pub cell_has : (v k i j : ℕ) → Reaches n C w v k i → 0 < times j (steps n C w k i) → Has n C w (target_of n C w j) k i
  unfolding Has Reaches steps times
  cell_has v zero i j p q = absurd (omega arith)
  cell_has v (suc k) i j p q = (
    p.0,
    ⊎_elim (λ e. inl (ap (target_of n C w) (sym e.0))) (λ e. inr (cell_has v k (next_of n C w i) j p.2 (omega arith))) (same_cases j i),
  )

  -- in a list that is alone no two cells have one target, and no cell's target has v in its list
  alone_once : (v k x i j : ℕ) → Reaches n C w v k x → Alone n C w v k x → 0 < times i (steps n C w k x) → 0 < times j (steps n C w k x) → (i ≡ j → ⊥)
      → target_of n C w i ≡ target_of n C w j → ⊥
  unfolding Reaches Alone steps times
  alone_once v zero x i j p a q r d e = absurd (omega arith)
  alone_once v (suc k) x i j p a q r d e =
      ⊎_elim
      (λ f. ⊎_elim
      (λ g. d (f.0 ∙ sym g.0))
      (λ g. a.0.later
      (subst (λ (z : ℕ). Has n C w z k (next_of n C w x)) (sym e ∙ ap (target_of n C w) f.0) (cell_has v k (next_of n C w x) j p.2 (omega arith))))
      (same_cases j x))
      (λ f. ⊎_elim
      (λ g. a.0.later
      (subst (λ (z : ℕ). Has n C w z k (next_of n C w x)) (e ∙ ap (target_of n C w) g.0) (cell_has v k (next_of n C w x) i p.2 (omega arith))))
      (λ g. alone_once v k (next_of n C w x) i j p.2 a.1 (omega arith) (omega arith) d e)
      (same_cases j x))
      (same_cases i x)

  alone_back : (v k x j : ℕ) → Alone n C w v k x → 0 < times j (steps n C w k x)
      → Has n C w v (length_of n C w (target_of n C w j)) (head_of n C w (target_of n C w j)) → ⊥
  unfolding Alone steps times
  alone_back v zero x j a q h = absurd (omega arith)
  alone_back v (suc k) x j a q h =
      ⊎_elim
      (λ f. a.0.back (subst (λ (z : ℕ). Has n C w v (length_of n C w (target_of n C w z)) (head_of n C w (target_of n C w z))) f.0 h))
      (λ f. alone_back v k (next_of n C w x) j a.1 (omega arith) h)
      (same_cases j x)

module _ (n C : ℕ) (w : List ℕ) (low : C ≤ NONE) (reaches : (v : ℕ) → v ≤ n → Reaches n C w v (length_of n C w v) (head_of n C w v)) where
  -- from the lists to the cells
  pub alone_single : lengths n C w (n + 1) ≡ C → ((v : ℕ) → v < n → Alone n C w v (length_of n C w v) (head_of n C w v)) → Single n C w
  alone_single whole al = record { once = λ i j p q o u s. ⊎_elim (λ e. twice i j p q o e.0 e.1) (λ e. turned i j p q o e.0 e.1) s }
    where
      at : (i : ℕ) → i < C → (owner_of n C w i ≤ n) × (times i (held n C w (owner_of n C w i)) ≡ 1)
      at i p = parted n C w low reaches whole i p

      twice : (i j : ℕ) → i < j → j < C → owner_of n C w i < n → owner_of n C w i ≡ owner_of n C w j → target_of n C w i ≡ target_of n C w j → ⊥
      twice i j p q o e f =
          let v = owner_of n C w i in
          let a = (at i (omega arith)).1 in
          let b = subst (λ (z : ℕ). times j (held n C w z) ≡ 1) (sym e) (at j q).1 in
          alone_once n C w v (length_of n C w v) (head_of n C w v) i j (reaches v (omega arith)) (al v o) (omega arith) (omega arith) (λ z. omega arith) f

      turned : (i j : ℕ) → i < j → j < C → owner_of n C w i < n → owner_of n C w i ≡ target_of n C w j → target_of n C w i ≡ owner_of n C w j → ⊥
      turned i j p q o e f =
          let v = owner_of n C w i in
          let u = owner_of n C w j in
          let a = (at i (omega arith)).1 in
          let b = at j q in
          let h = cell_has n C w u (length_of n C w u) (head_of n C w u) j (reaches u b.0) (omega (arith, b.1)) in
          alone_back n C w v (length_of n C w v) (head_of n C w v) i (al v o) (omega arith)
          (subst (λ (z : ℕ). Has n C w v (length_of n C w z) (head_of n C w z)) (sym f)
          (subst (λ (z : ℕ). Has n C w z (length_of n C w u) (head_of n C w u)) (sym e) h))

  -- a cell is not met again
  again : (v k i : ℕ) → Reaches n C w v (suc k) i → 0 < times i (steps n C w k (next_of n C w i)) → ⊥
  unfolding steps times
  again v k i p q =
      omega (arith, same_self i, chain_once (owner_of n C w) (next_of n C w) C low v i (steps n C w (suc k) i) (reaches_chain n C w v (suc k) i p) i)

  -- from the cells to the lists
  pub single_alone : Single n C w → (v k i : ℕ) → v < n → Reaches n C w v k i → Along n C w (Aims n C w v) k i → Alone n C w v k i
  unfolding Reaches Along Alone
  single_alone s v zero i l p a = tt
  single_alone s v (suc k) i l p a = (record { later = later; back = back }, single_alone s v k (next_of n C w i) l p.2 a.1)
    where
      next : ℕ
      next = next_of n C w i

      t : ℕ
      t = target_of n C w i

      own : (u k x : ℕ) → Reaches n C w u k x → (j : ℕ) → 0 < times j (steps n C w k x) → (owner_of n C w j ≡ u) × (j < C)
      own u k x q j m = chain_owner (owner_of n C w) (next_of n C w) C low u x (steps n C w k x) (reaches_chain n C w u k x q) j m

      both : (j : ℕ) → (i ≡ j → ⊥) → j < C → owner_of n C w j < n
          → ((owner_of n C w i ≡ owner_of n C w j) × (t ≡ target_of n C w j)) ⊎ ((owner_of n C w i ≡ target_of n C w j) × (t ≡ owner_of n C w j)) → ⊥
      both j d q o e =
          elim (dec_lt i j) [
            | yes h ↦ s.once i j h q (omega (arith, p.1)) o e
            | no h ↦ s.once j i (omega arith) p.0 o (omega (arith, p.1)) (⊎_elim (λ f. inl (sym f.0, sym f.1)) (λ f. inr (sym f.1, sym f.0)) e)
          ]

      later : Has n C w t k next → ⊥
      later h =
          let r = has_cell n C w t k next h in
          let o = own v k next p.2 r.0 r.1 in
          both r.0 (λ z. again v k i p (subst (λ (y : ℕ). 0 < times y (steps n C w k next)) (sym z) r.1)) o.1 (omega (arith, o.0))
          (inl (p.1 ∙ sym o.0, sym r.2))

      back : Has n C w v (length_of n C w t) (head_of n C w t) → ⊥
      back h =
          let g : Aims n C w v i = a.0 in
          let r = has_cell n C w v (length_of n C w t) (head_of n C w t) h in
          let o = own t (length_of n C w t) (head_of n C w t) (reaches t (omega arith)) r.0 r.1 in
          both r.0 (λ z. g.other (sym o.0 ∙ ap (owner_of n C w) (sym z) ∙ p.1)) o.1 (omega (arith, o.0)) (inr (p.1 ∙ sym r.2, sym o.0))

module _ (n C D : ℕ) (w : List ℕ) where
  pub sound_judged : Sound n C D w → Judged n C w D
  sound_judged s = record {
    lengths = record { whole = s.chained.whole; short = s.chained.short };
    free =
        walks_make n C w n (length_of n C w n) (head_of n C w n) (s.chained.reaches n (omega arith))
        (along_map n C w (λ i. target_of n C w i ≡ NONE) (Aim n C w n) (λ i e. (λ h. absurd (omega arith), λ h. e)) (length_of n C w n) (head_of n C w n)
        s.aimed.freed);
    places = λ v p. record {
      line = record { small = s.named.small v p; freed = s.named.freed v p };
      fresh = λ u q o e f. s.named.apart u v q p o e f;
      walks =
          walks_make n C w v (length_of n C w v) (head_of n C w v) (s.chained.reaches v (omega arith))
          (along_map n C w (Aims n C w v) (Aim n C w v) (λ i a. (λ h. a, λ h. absurd (omega arith))) (length_of n C w v) (head_of n C w v)
          (s.aimed.placed v p));
      alone =
          single_alone n C w (omega arith) s.chained.reaches s.single v (length_of n C w v) (head_of n C w v) p (s.chained.reaches v (omega arith))
          (s.aimed.placed v p);
    };
  }

  judged_walks : Judged n C w D → (v : ℕ) → v ≤ n → Walks n C w v (length_of n C w v) (head_of n C w v)
  judged_walks g v p =
      elim (dec_lt v n) [
        | yes q ↦ (g.places v q).walks
        | no q ↦ subst (λ (z : ℕ). Walks n C w z (length_of n C w z) (head_of n C w z)) (omega arith) g.free
      ]

  judged_reaches : Judged n C w D → (v : ℕ) → v ≤ n → Reaches n C w v (length_of n C w v) (head_of n C w v)
  judged_reaches g v p = walks_reaches n C w v (length_of n C w v) (head_of n C w v) (judged_walks g v p)

  pub judged_sound : Sized n C D w → Judged n C w D → Sound n C D w
  judged_sound z g = record {
    sized = z;
    named = record {
      small = λ v p. (g.places v p).line.small;
      freed = λ v p. (g.places v p).line.freed;
      apart = λ u v q p o e f. (g.places v p).fresh u q o e f;
    };
    chained = record { reaches = judged_reaches g; whole = g.lengths.whole; short = g.lengths.short };
    aimed = record {
      placed = λ v p.
          along_map n C w (Aim n C w v) (Aims n C w v) (λ i a. a.0 p) (length_of n C w v) (head_of n C w v)
          (walks_along n C w v (length_of n C w v) (head_of n C w v) (g.places v p).walks);
      freed =
          along_map n C w (Aim n C w n) (λ i. target_of n C w i ≡ NONE) (λ i a. a.1 (omega arith)) (length_of n C w n) (head_of n C w n)
          (walks_along n C w n (length_of n C w n) (head_of n C w n) g.free);
    };
    single = alone_single n C w (omega arith) (judged_reaches g) g.lengths.whole (λ v p. (g.places v p).alone);
  }

  -- a test of the judge is a test of soundness, where sizes and length are right
  pub told_sound : Sized n C D w → (b : Bool) → Tells b (Judged n C w D) → Tells b (Sound n C D w)
  told_sound z b t = tells_iff (judged_sound z) sound_judged b t

-- soundness is decided, for any sizes and words
pub sound_or : (n C D : ℕ) (w : List ℕ) → Sound n C D w ⊎ (Sound n C D w → ⊥)
sound_or n C D w =
    elim (sized_dec n C D w) [
      | no h ↦ inr (λ s. h s.sized)
      | yes z ↦ elim (judged_dec n C w D) [ yes g ↦ inl (judged_sound n C D w z g) | no h ↦ inr (λ s. h (sound_judged n C D w s)) ]
    ]
