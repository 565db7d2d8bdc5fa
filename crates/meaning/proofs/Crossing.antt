-- A sound table holds a right day; and a table whose words are threaded (sizes, length, a chain for each list, lengths that add
-- up to C, targets NONE along the free list) and that holds a right day is sound. Assumes only what its premises say.
use Prim.Native.Nat.{ℕ, zero, suc, ◌+◌, ◌≤◌, ◌<◌}
use mathlib.Core.List.{List, []}
use mathlib.Core.Logic.{⊎_elim}
use mathlib.Core.Path.{◌≡◌, refl, sym, ap, ◌∙◌, subst}
use native.Mathlib.Decide.{ℕ_discrete, dec_lt}
use native.Mathlib.Omega.{arith}
use lib.ListN.{length}
use Rattle.terms.specs.Run.{no_run}
use Rattle.terms.specs.Size.{InRoom, InLimit, store_words}
use Rattle.terms.specs.declared.run.Run.{Run}
use Rattle.meaning.specs.Table.{NONE, line_of, number_of, head_of, length_of, owner_of, target_of, next_of}
use Rattle.meaning.specs.Cells.{Weight, list, row_sum, sum, same}
use Rattle.meaning.specs.Soundness.{Named, Reaches, lengths, Along, Aims, Single, Sound}
use Rattle.meaning.specs.Day.{run_of, cells, cells_of, day_of}
use Rattle.meaning.proofs.Same.{same_cases, same_self}
use Rattle.meaning.proofs.Lists.{each_length, each_at, each_past}
use Rattle.meaning.proofs.Right.{outside, loop, shut, pair, Right}
use Rattle.meaning.proofs.Judged.{Has, Alone}
use Rattle.meaning.proofs.Times.{times}
use Rattle.meaning.proofs.Held.{held, along_at, along_all, parted}
use Rattle.meaning.proofs.Rules.{cell_has, sound_judged}
use Rattle.meaning.proofs.Sums.{row_le}
use Rattle.meaning.proofs.Walks.{standing, cells_length}
use Rattle.meaning.proofs.Pairs.{toward, rows_none, pair_rows, cell_part, cells_none, toward_cell, cell_toward, two_toward}

module _ (n C : ℕ) (w : List ℕ) where
  -- the rows and the runs of the day
  pub row_of : (v : ℕ) → v < n → list (day_of n C w).lists v ≡ cells_of n C w v
  row_of v p = each_at n (cells_of n C w) [] v p

  pub row_past : (v : ℕ) → n ≤ v → list (day_of n C w).lists v ≡ []
  row_past v p = each_past n (cells_of n C w) [] v p

  abbrev run_at : ℕ → Run
  run_at v = record { line = line_of n C w v; trip = number_of n C w v }

  pub run_of_lem : (v : ℕ) → v < n → run_of (day_of n C w) v ≡ run_at v
  run_of_lem v p = each_at n run_at no_run v p

  pub line_of_lem : (v : ℕ) → v < n → (run_of (day_of n C w) v).line ≡ line_of n C w v
  line_of_lem v p = ap (λ r. r.line) (run_of_lem v p)

  pub trip_of : (v : ℕ) → v < n → (run_of (day_of n C w) v).trip ≡ number_of n C w v
  trip_of v p = ap (λ r. r.trip) (run_of_lem v p)

  pub line_past : (v : ℕ) → n ≤ v → (run_of (day_of n C w) v).line ≡ 0
  line_past v p = ap (λ r. r.line) (each_past n run_at no_run v p)

  -- a weight that no cell of a place's list has sums to nothing, and the other way round
  sum_none : (f : Weight) → ((v j : ℕ) → v < n → 0 < times j (held n C w v) → f v (standing n C w j) ≡ 0) → sum f (day_of n C w).lists ≡ 0
  sum_none f h = rows_none f (day_of n C w).lists row
    where
      row : (v : ℕ) → v < length (day_of n C w).lists → row_sum (f v) (list (day_of n C w).lists v) ≡ 0
      row v p =
          let q : v < n = omega (arith, each_length n (cells_of n C w)) in
          rw (row_of v q) (cells_none n C w (f v) (length_of n C w v) (head_of n C w v) (λ j m. h v j q m))

  none_sum : (f : Weight) → sum f (day_of n C w).lists ≡ 0 → (v j : ℕ) → v < n → 0 < times j (held n C w v) → f v (standing n C w j) ≡ 0
  none_sum f e v j p q =
      omega (
        arith,
        cell_part n C w (f v) (length_of n C w v) (head_of n C w v) j q,
        row_le f (day_of n C w).lists v,
        ap (row_sum (f v)) (row_of v p),
      )

  -- a list that is alone goes to no place twice, and where it goes to t, t's does not come back
  toward_has : (v t k i : ℕ) → Reaches n C w v k i → 0 < toward t (cells n C w k i) → Has n C w t k i
  toward_has v t k i p h = let r = toward_cell n C w t k i h in subst (λ (z : ℕ). Has n C w z k i) r.2 (cell_has n C w v k i r.0 p r.1)

  alone_most : (v t k i : ℕ) → Reaches n C w v k i → Alone n C w v k i → toward t (cells n C w k i) ≤ 1
  unfolding Reaches Alone cells
  alone_most v t zero i p a = omega arith
  alone_most v t (suc k) i p a =
      ⊎_elim (λ e. go (toward t (cells n C w k (next_of n C w i))) refl e.0 e.1) (λ e. omega (arith, alone_most v t k (next_of n C w i) p.2 a.1))
      (same_cases t (target_of n C w i))
    where
      go : (m : ℕ) → toward t (cells n C w k (next_of n C w i)) ≡ m → t ≡ target_of n C w i → same t (target_of n C w i) ≡ 1
          → same t (target_of n C w i) + toward t (cells n C w k (next_of n C w i)) ≤ 1
      go zero f e g = omega arith
      go (suc m) f e g =
          absurd
          (a.0.later (subst (λ (z : ℕ). Has n C w z k (next_of n C w i)) e (toward_has v t k (next_of n C w i) p.2 (omega arith))))

  alone_apart : (v t k i : ℕ) → Alone n C w v k i → 0 < toward t (cells n C w k i) → Has n C w v (length_of n C w t) (head_of n C w t) → ⊥
  unfolding Alone cells
  alone_apart v t zero i a h g = absurd (omega arith)
  alone_apart v t (suc k) i a h g =
      ⊎_elim
      (λ e. a.0.back (subst (λ (z : ℕ). Has n C w v (length_of n C w z) (head_of n C w z)) e.0 g))
      (λ e. alone_apart v t k (next_of n C w i) a.1 (omega arith) g)
      (same_cases t (target_of n C w i))

module _ (n C D : ℕ) (w : List ℕ) (s : Sound n C D w) where
  cell_aims : (v j : ℕ) → v < n → 0 < times j (held n C w v) → Aims n C w v j
  cell_aims v j p q = along_at n C w (Aims n C w v) (length_of n C w v) (head_of n C w v) (s.aimed.placed v p) j q

  list_alone : (v : ℕ) → v < n → Alone n C w v (length_of n C w v) (head_of n C w v)
  list_alone v p = ((sound_judged n C D w s).places v p).alone

  right_apart : (u v : ℕ) → 0 < (run_of (day_of n C w) u).line → run_of (day_of n C w) u ≡ run_of (day_of n C w) v → u ≡ v
  right_apart u v o e = elim (ℕ_discrete u v) [ yes z ↦ z | no d ↦ absurd (differ d) ]
    where
      lines : (run_of (day_of n C w) u).line ≡ (run_of (day_of n C w) v).line
      lines = ap (λ r. r.line) e

      both : (u v : ℕ) → u < v → v < n → 0 < line_of n C w v → run_of (day_of n C w) u ≡ run_of (day_of n C w) v → ⊥
      both u v h p o e =
          s.named.apart u v h p (λ z. omega arith)
          (sym (line_of_lem n C w u (omega arith)) ∙ ap (λ r. r.line) e ∙ line_of_lem n C w v p)
          (sym (trip_of n C w u (omega arith)) ∙ ap (λ r. r.trip) e ∙ trip_of n C w v p)

      differ : (u ≡ v → ⊥) → ⊥
      differ d =
          elim (dec_lt u n) [
            | no p ↦ omega (arith, line_past n C w u (omega arith))
            | yes p ↦ elim (dec_lt v n) [
              | no q ↦ omega (arith, lines, line_past n C w v (omega arith))
              | yes q ↦ elim (dec_lt u v) [
                | yes r ↦ both u v r q (omega (arith, lines, line_of_lem n C w v q)) e
                | no r ↦ both v u (omega arith) p (omega (arith, line_of_lem n C w u p)) (sym e)
              ]
            ]
          ]

  right_short : (v : ℕ) → length (list (day_of n C w).lists v) ≤ D
  right_short v =
      elim (dec_lt v n) [
        | yes p ↦ rw (row_of n C w v p) (omega (arith, cells_length n C w (length_of n C w v) (head_of n C w v), s.chained.short v p))
        | no p ↦ rw (row_past n C w v (omega arith)) (omega arith)
      ]

  right_once : (p q : ℕ) → sum (pair p q) (day_of n C w).lists ≤ 1
  right_once p q = rw (pair_rows p q (day_of n C w).lists) (go (toward q (list (day_of n C w).lists p)) refl)
    where
      most : (v t : ℕ) → toward t (list (day_of n C w).lists v) ≤ 1
      most v t =
          elim (dec_lt v n) [
            | yes p ↦
                rw (row_of n C w v p)
                (alone_most n C w v t (length_of n C w v) (head_of n C w v) (s.chained.reaches v (omega arith)) (list_alone v p))
            | no p ↦ rw (row_past n C w v (omega arith)) (omega arith)
          ]

      -- p's list goes to q, so q's does not come back
      none : p < n → 0 < toward q (cells_of n C w p) → toward p (list (day_of n C w).lists q) ≡ 0
      none h m =
          let r = toward_cell n C w q (length_of n C w p) (head_of n C w p) m in
          let a : Aims n C w p r.0 = cell_aims p r.0 h r.1 in
          let l : q < n = omega (arith, r.2) in
          rw (row_of n C w q l) (zeroed (toward p (cells_of n C w q)) refl l)
        where
          zeroed : (x : ℕ) → toward p (cells_of n C w q) ≡ x → q < n → toward p (cells_of n C w q) ≡ 0
          zeroed zero e l = e
          zeroed (suc x) e l =
              absurd
              (alone_apart n C w p q (length_of n C w p) (head_of n C w p) (list_alone p h) m
              (toward_has n C w q p (length_of n C w q) (head_of n C w q) (s.chained.reaches q (omega arith)) (omega arith)))

      go : (m : ℕ) → toward q (list (day_of n C w).lists p) ≡ m → toward q (list (day_of n C w).lists p) + toward p (list (day_of n C w).lists q) ≤ 1
      go zero e = omega (arith, most q p)
      go (suc m) e =
          elim (dec_lt p n) [
            | yes h ↦ omega (arith, most p q, none h (omega (arith, ap (toward q) (row_of n C w p h))))
            | no h ↦ absurd (omega (arith, ap (toward q) (row_past n C w p (omega arith))))
          ]

  pub sound_right : Right n D (day_of n C w)
  sound_right = record {
    places = each_length n (run_at n C w);
    rows = each_length n (cells_of n C w);
    small = λ v p. omega (arith, line_of_lem n C w v p, s.named.small v p);
    freed = λ v p e. trip_of n C w v p ∙ s.named.freed v p (sym (line_of_lem n C w v p) ∙ e);
    apart = right_apart;
    short = right_short;
    inside = sum_none n C w (outside n) (λ v j p q. let a = cell_aims v j p q in omega arith);
    unlooped =
        sum_none n C w loop (λ v j p q. let a = cell_aims v j p q in
        ⊎_elim (λ e. absurd (a.other (sym e.0))) (λ e. e.1) (same_cases v (target_of n C w j)));
    ended =
        sum_none n C w (shut (day_of n C w)) (λ v j p q.
        let a = cell_aims v j p q in
        let x = line_of_lem n C w v p in
        let y = line_of_lem n C w (target_of n C w j) a.place in
        let f = a.owner_open in
        let g = a.target_open in
        omega arith);
    once = λ p q d. right_once p q;
  }

module _ (n C D : ℕ) (w : List ℕ) (limit : InLimit D) (room : InRoom n C) (long : length w ≡ store_words n C)
    (reaches : (v : ℕ) → v ≤ n → Reaches n C w v (length_of n C w v) (head_of n C w v)) (whole : lengths n C w (n + 1) ≡ C)
    (freed : Along n C w (λ i. target_of n C w i ≡ NONE) (length_of n C w n) (head_of n C w n)) (r : Right n D (day_of n C w)) where
  right_aims : (v j : ℕ) → v < n → 0 < times j (held n C w v) → Aims n C w v j
  right_aims v j p q =
      let a : outside n v (standing n C w j) ≡ 0 = none_sum n C w (outside n) r.inside v j p q in
      let b : loop v (standing n C w j) ≡ 0 = none_sum n C w loop r.unlooped v j p q in
      let c : shut (day_of n C w) v (standing n C w j) ≡ 0 = none_sum n C w (shut (day_of n C w)) r.ended v j p q in
      let t : target_of n C w j < n = omega arith in
      record {
        place = t;
        other = λ e. omega (arith, ap (λ (z : ℕ). same v z) e, same_self v);
        target_open = λ e. omega (arith, line_of_lem n C w (target_of n C w j) t);
        owner_open = λ e. omega (arith, line_of_lem n C w v p);
      }

  right_named : Named n C w
  right_named = record {
    small = λ v p. omega (arith, line_of_lem n C w v p, r.small v p);
    freed = λ v p e. sym (trip_of n C w v p) ∙ r.freed v p (line_of_lem n C w v p ∙ e);
    apart = λ u v h p o e f.
        let q : u < n = omega arith in
        let g : run_at n C w u ≡ run_at n C w v = λ i. record { line = e i; trip = f i } in
        let z : u ≡ v = r.apart u v (omega (arith, line_of_lem n C w u q)) (run_of_lem n C w u q ∙ g ∙ sym (run_of_lem n C w v p)) in
        omega arith;
  }

  right_single : Single n C w
  right_single = record { once = λ i j h p o u e. ⊎_elim (λ f. twice i j h p o f.0 f.1) (λ f. turned i j h p o u f.0 f.1) e }
    where
      at : (i : ℕ) → i < C → 0 < times i (held n C w (owner_of n C w i))
      at i p = omega (arith, (parted n C w (omega arith) reaches whole i p).1)

      -- two links between p and q are one too many
      many : (p q : ℕ) → p < n → q < n → (p ≡ q → ⊥) → 2 ≤ toward q (cells_of n C w p) + toward p (cells_of n C w q) → ⊥
      many p q h g d m =
          omega (arith, r.once p q d, pair_rows p q (day_of n C w).lists, ap (toward q) (row_of n C w p h), ap (toward p) (row_of n C w q g))

      twice : (i j : ℕ) → i < j → j < C → owner_of n C w i < n → owner_of n C w i ≡ owner_of n C w j → target_of n C w i ≡ target_of n C w j → ⊥
      twice i j h p o e f =
          let v = owner_of n C w i in
          let t = target_of n C w i in
          let a = at i (omega arith) in
          let b : 0 < times j (held n C w v) = subst (λ (z : ℕ). 0 < times j (held n C w z)) (sym e) (at j p) in
          let g : Aims n C w v i = right_aims v i o a in
          many v t o g.place (λ z. g.other (sym z))
          (omega (arith, two_toward n C w t (length_of n C w v) (head_of n C w v) i j a b (λ z. omega arith) refl (sym f)))

      turned : (i j : ℕ) → i < j → j < C → owner_of n C w i < n → owner_of n C w j < n → owner_of n C w i ≡ target_of n C w j
          → target_of n C w i ≡ owner_of n C w j → ⊥
      turned i j h p o u e f =
          let v = owner_of n C w i in
          let t = owner_of n C w j in
          let a = at i (omega arith) in
          let b = at j p in
          let g : Aims n C w v i = right_aims v i o a in
          many v t o u (λ z. g.other (f ∙ sym z))
          (omega (arith, cell_toward n C w t (length_of n C w v) (head_of n C w v) i a f, cell_toward n C w v (length_of n C w t) (head_of n C w t) j b (sym e)))

  pub right_sound : Sound n C D w
  right_sound = record {
    sized = record { room = room; limit = limit; long = long };
    named = right_named;
    chained = record {
      reaches = reaches;
      whole = whole;
      short = λ v p. omega (arith, r.short v, ap length (row_of n C w v p), cells_length n C w (length_of n C w v) (head_of n C w v));
    };
    aimed = record {
      placed = λ v p. along_all n C w (Aims n C w v) (length_of n C w v) (head_of n C w v) (λ j q. right_aims v j p q);
      freed = freed;
    };
    single = right_single;
  }
