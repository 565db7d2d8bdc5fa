-- The sizes and the judge's finite test are each decided, for any table. Assumes nothing.
use Prim.Native.Nat.{ℕ, zero, suc, ◌+◌, ◌≤◌, ◌<◌}
use mathlib.Core.List.{List}
use mathlib.Core.Logic.Dec
use mathlib.Core.Logic.{◌⊎◌, inl, inr}
use mathlib.Core.Path.{subst, sym}
use native.Mathlib.Decide.{ℕ_discrete, dec_le, dec_lt, map_dec}
use native.Mathlib.Omega.{arith}
use lib.ListN.{length}
use Rattle.terms.specs.Run.{line_most}
use Rattle.terms.specs.Size.{places_most, cells_most, limit_most, store_words}
use Rattle.meaning.specs.Table.{NONE, line_of, number_of, head_of, length_of, owner_of, target_of, next_of}
use Rattle.meaning.specs.Soundness.{Aims, lengths, Sized}
use Rattle.meaning.proofs.Judged.{Line, Differ, Fresh, CellOk, Walks, Has, Lone, Alone, PlaceOk, Judged}

if_dec : {P Q : Type 0} → Dec P → Dec Q → Dec (P → Q)
if_dec p (yes b) = yes (λ a. b)
if_dec (yes a) (no h) = no (λ f. h (f a))
if_dec (no h) (no g) = yes (λ a. absurd (h a))

or_dec : {P Q : Type 0} → Dec P → Dec Q → Dec (P ⊎ Q)
or_dec (yes a) q = yes (inl a)
or_dec (no h) (yes b) = yes (inr b)
or_dec (no h) (no g) = no (λ s. elim s [ inl a ↦ h a | inr b ↦ g b ])

below_dec : (P : ℕ → Type 0) → ((v : ℕ) → Dec (P v)) → (m : ℕ) → Dec ((v : ℕ) → v < m → P v)
below_dec P d zero = yes (λ v h. absurd (omega arith))
below_dec P d (suc m) = go (d m) (below_dec P d m)
  where
    last : P m → ((v : ℕ) → v < m → P v) → (v : ℕ) → v < suc m → P v
    last a f v h = elim (ℕ_discrete v m) [ yes e ↦ subst (λ (z : ℕ). P z) (sym e) a | no e ↦ f v (omega arith) ]

    go : Dec (P m) → Dec ((v : ℕ) → v < m → P v) → Dec ((v : ℕ) → v < suc m → P v)
    go (no h) q = no (λ f. h (f m (omega arith)))
    go (yes a) (no h) = no (λ f. h (λ v p. f v (omega arith)))
    go (yes a) (yes f) = yes (last a f)

pub sized_dec : (n C D : ℕ) (w : List ℕ) → Dec (Sized n C D w)
sized_dec n C D w =
    map_dec
    (λ p. record {
      room = record { places_least = p.0.0; places_at_most = p.0.1.0; cells_least = p.0.1.1.0; cells_at_most = p.0.1.1.1 };
      limit = record { least = p.1.0.0; most = p.1.0.1 };
      long = p.1.1;
    })
    (λ s. ((s.room.places_least, (s.room.places_at_most, (s.room.cells_least, s.room.cells_at_most))), ((s.limit.least, s.limit.most), s.long)))
    (Dec.and (Dec.and (dec_le 1 n) (Dec.and (dec_le n places_most) (Dec.and (dec_le 1 C) (dec_le C cells_most))))
    (Dec.and (Dec.and (dec_le 2 D) (dec_le D limit_most)) (ℕ_discrete (length w) (store_words n C))))

module _ (n C : ℕ) (w : List ℕ) where
  line_dec : (v : ℕ) → Dec (Line n C w v)
  line_dec v =
      map_dec (λ p. record { small = p.0; freed = p.1 }) (λ l. (l.small, l.freed))
      (Dec.and (dec_le (line_of n C w v) line_most) (if_dec (ℕ_discrete (line_of n C w v) 0) (ℕ_discrete (number_of n C w v) 0)))

  fresh_dec : (v : ℕ) → Dec (Fresh n C w v)
  fresh_dec v =
      below_dec (Differ n C w v)
      (λ u. if_dec (Dec.not (ℕ_discrete (line_of n C w v) 0))
      (if_dec (ℕ_discrete (line_of n C w u) (line_of n C w v)) (Dec.not (ℕ_discrete (number_of n C w u) (number_of n C w v))))) v

  aims_dec : (v i : ℕ) → Dec (Aims n C w v i)
  aims_dec v i =
      map_dec
      (λ p. record { place = p.0; other = p.1.0; target_open = p.1.1.0; owner_open = p.1.1.1 })
      (λ a. (a.place, (a.other, (a.target_open, a.owner_open))))
      (Dec.and (dec_lt (target_of n C w i) n) (Dec.and (Dec.not (ℕ_discrete (target_of n C w i) v))
      (Dec.and (Dec.not (ℕ_discrete (line_of n C w (target_of n C w i)) 0)) (Dec.not (ℕ_discrete (line_of n C w v) 0)))))

  cell_dec : (v i : ℕ) → Dec (CellOk n C w v i)
  cell_dec v i =
      map_dec (λ p. record { within = p.0; owned = p.1.0; aims = p.1.1 }) (λ a. (a.within, (a.owned, a.aims)))
      (Dec.and (dec_lt i C) (Dec.and (ℕ_discrete (owner_of n C w i) v)
      (Dec.and (if_dec (dec_lt v n) (aims_dec v i)) (if_dec (dec_le n v) (ℕ_discrete (target_of n C w i) NONE)))))

  walks_dec : (v k i : ℕ) → Dec (Walks n C w v k i)
  unfolding Walks
  walks_dec v zero i = ℕ_discrete i NONE
  walks_dec v (suc k) i = Dec.and (cell_dec v i) (walks_dec v k (next_of n C w i))

  has_dec : (t k i : ℕ) → Dec (Has n C w t k i)
  unfolding Has
  has_dec t zero i = no (λ h. h)
  has_dec t (suc k) i = Dec.and (dec_lt i C) (or_dec (ℕ_discrete (target_of n C w i) t) (has_dec t k (next_of n C w i)))

  lone_dec : (v k i : ℕ) → Dec (Lone n C w v k i)
  lone_dec v k i =
      map_dec (λ p. record { later = p.0; back = p.1 }) (λ a. (a.later, a.back))
      (Dec.and (Dec.not (has_dec (target_of n C w i) k (next_of n C w i)))
      (Dec.not (has_dec v (length_of n C w (target_of n C w i)) (head_of n C w (target_of n C w i)))))

  alone_dec : (v k i : ℕ) → Dec (Alone n C w v k i)
  unfolding Alone
  alone_dec v zero i = yes tt
  alone_dec v (suc k) i = Dec.and (lone_dec v k i) (alone_dec v k (next_of n C w i))

  place_dec : (v : ℕ) → Dec (PlaceOk n C w v)
  place_dec v =
      map_dec (λ p. record { line = p.0; fresh = p.1.0; walks = p.1.1.0; alone = p.1.1.1 }) (λ a. (a.line, (a.fresh, (a.walks, a.alone))))
      (Dec.and (line_dec v) (Dec.and (fresh_dec v)
      (Dec.and (walks_dec v (length_of n C w v) (head_of n C w v)) (alone_dec v (length_of n C w v) (head_of n C w v)))))

  pub judged_dec : (D : ℕ) → Dec (Judged n C w D)
  judged_dec D =
      map_dec
      (λ p. record { lengths = record { whole = p.0.0; short = p.0.1 }; free = p.1.0; places = p.1.1 })
      (λ g. ((g.lengths.whole, g.lengths.short), (g.free, g.places)))
      (Dec.and (Dec.and (ℕ_discrete (lengths n C w (n + 1)) C) (below_dec (λ v. length_of n C w v ≤ D) (λ v. dec_le (length_of n C w v) D) n))
      (Dec.and (walks_dec n (length_of n C w n) (head_of n C w n)) (below_dec (PlaceOk n C w) place_dec n)))
