-- Turning list after list: what is left to turn, and to walk of the list that is being turned, comes to the whole. Assumes nothing.
use Prim.Native.Nat.{ℕ, suc, ◌+◌, ◌-◌, ◌*◌, ◌≤◌, ◌<◌}
use mathlib.Core.List.{List, [], ◌∷◌, Memᴰ}
use mathlib.Core.Path.{◌≡◌, refl, sym, ap, subst, ◌∙◌}
use native.Mathlib.Omega.{arith}
use lib.ListN.{length}
use Rattle.std.specs.Prelude.{Ok, Err}
use Rattle.terms.specs.declared.refusal.Refusal.TheVariants.{TooDense}
use Rattle.terms.specs.Size.{cells_most}
use Rattle.meaning.specs.Cells.{Lists, list}
use Rattle.meaning.specs.Table.{word, written, length_of}
use Rattle.meaning.specs.Turning.{Work, turn, turning}
use Rattle.meaning.specs.Day.{cells, cells_of}
use Rattle.meaning.proofs.Effects.{day_list}
use Rattle.meaning.proofs.Handing.{turn_none}
use Rattle.meaning.proofs.Lists.{each_length}
use Rattle.meaning.proofs.Threaded.{list_length, length_most}
use Rattle.meaning.proofs.Turnings.{turning_rest}
use Rattle.meaning.proofs.Waiting.{Waits, bare_waits, turn_waits, waits_place, waits_fit}
use Rattle.meaning.proofs.Words.{written_length}
use Rattle.lists.specs.Turning.{stack_of, lists_of, Linked, Walking, Beside, Handed, Begins, Ends}
use Rattle.lists.proofs.Handling.{stack_length, stack_put, stack_take}

-- at the head of the outer loop
pub record Turns (n C D m a : ℕ) (s₀ s ws : List ℕ) (top turned r : ℕ) : Type 0 where
  pub linked : Linked n C D s
  pub room : length ws ≡ n
  pub waits : Waits D (lists_of n C s) (stack_of ws top)
  pub few : m ≤ C
  pub most : turned ≤ m
  pub small : r ≤ turned * cells_most
  pub same : turning D (m - turned) (lists_of n C s) (stack_of ws top) r ≡ turning D m (lists_of n C s₀) (a ∷ []) 0
  pub beside : Beside n C s₀ s

-- at the head of the walk over w's list; s₁, ws₁, top₁ are as it began
pub record Walks (n C D w : ℕ) (s₁ ws₁ : List ℕ) (top₁ : ℕ) (s ws : List ℕ) (top left : ℕ) : Type 0 where
  pub walking : Walking n C D w s ws top
  pub count : left ≡ length_of n C s w
  pub same : turn D w (lists_of n C s) (stack_of ws top) ≡ turn D w (lists_of n C s₁) (stack_of ws₁ top₁)
  pub beside : Beside n C s₁ s

beside_refl : (n C : ℕ) (s : List ℕ) → Beside n C s s
beside_refl n C s = record { runs = refl; free = refl }

beside_then : (n C : ℕ) (a b c : List ℕ) → Beside n C a b → Beside n C b c → Beside n C a c
beside_then n C a b c p q = record { runs = q.runs ∙ p.runs; free = q.free ∙ p.free }

-- ---- the walk
pub walks_start : (n C D w : ℕ) (s ws : List ℕ) (top left : ℕ) → Walking n C D w s ws top → left ≡ length_of n C s w → Walks n C D w s ws top s ws top left
walks_start n C D w s ws top left q e = record { walking = q; count = e; same = refl; beside = beside_refl n C s }

module _ (n C D w : ℕ) (s₁ ws₁ : List ℕ) (top₁ : ℕ) (s ws : List ℕ) (top left : ℕ) (q : Walks n C D w s₁ ws₁ top₁ s ws top left) where
  pub walks_hand : (left ≡ 0 → ⊥) → Walking n C D w s ws top × (0 < length_of n C s w)
  walks_hand h = (q.walking, omega (arith, q.count))

  pub walks_more : (s' ws' : List ℕ) (top' : ℕ) → Handed n C D w s ws top s' ws' top' → Walks n C D w s₁ ws₁ top₁ s' ws' top' (left - 1)
  walks_more s' ws' top' h = record {
    walking = h.walking;
    count = ap (λ (k : ℕ). k - 1) q.count ∙ sym h.fewer;
    same = h.same ∙ q.same;
    beside = beside_then n C s₁ s s' q.beside h.beside;
  }

  -- the list is empty, and what stands is the whole turn
  pub walks_end : left ≡ 0 → turn D w (lists_of n C s₁) (stack_of ws₁ top₁) ≡ record { lists = lists_of n C s; waiting = stack_of ws top }
  unfolding cells
  walks_end z =
      let k : length_of n C s w ≡ 0 = sym q.count ∙ z in
      let e : list (lists_of n C s) w ≡ [] = day_list n C s w q.walking.place ∙ rw k refl in
      sym q.same ∙ turn_none D w (lists_of n C s) (stack_of ws top) e

-- ---- the outer loop
turned_once : (D m : ℕ) (L : Lists) (w : ℕ) (st : List ℕ) (r : ℕ) (k : Work) → turn D w L st ≡ k
    → turning D (suc m) L (w ∷ st) r ≡ turning D m k.lists k.waiting (r + length (list L w))
unfolding turning
turned_once D m L w st r k e = ap (λ (x : Work). turning D m x.lists x.waiting (r + length (list L w))) e

pub turns_start : (n C D m a : ℕ) (s ws ws' : List ℕ) → Begins n C D m a s ws → ws' ≡ written ws 0 a → Turns n C D m a s s ws' 1 0 0
unfolding stack_of
turns_start n C D m a s ws ws' b e =
    let z : 0 < length ws = omega (arith, b.room, b.place) in
    let t : stack_of ws' 1 ≡ a ∷ [] = rw e (stack_put ws 0 a z) in
    let o : m - 0 ≡ m = omega arith in
    record {
      linked = b.linked;
      room = ap length e ∙ (written_length ws 0 a ∙ b.room);
      waits = subst (λ (st : List ℕ). Waits D (lists_of n C s) st) (sym t) b.waits;
      few = b.most;
      most = omega arith;
      small = omega arith;
      same = rw (o, t);
      beside = beside_refl n C s;
    }

module _ (n C D m a : ℕ) (s₀ s ws : List ℕ) (top turned r : ℕ) (q : Turns n C D m a s₀ s ws top turned r) where
  rows : length (lists_of n C s) ≡ n
  rows = each_length n (cells_of n C s)

  -- no more places wait than the table has words
  pub turns_fit : top ≤ n
  turns_fit = rw (← stack_length ws top) (waits_fit D n (lists_of n C s) (stack_of ws top) rows q.waits)

  module _ (more : top ≡ 0 → ⊥) where
    pub turns_word : top - 1 < length ws
    turns_word = omega (arith, turns_fit, q.room)

    waits_w : Waits D (lists_of n C s) (word ws (top - 1) ∷ stack_of ws (top - 1))
    waits_w = subst (λ (st : List ℕ). Waits D (lists_of n C s) st) (stack_take ws top more) q.waits

    module _ (w : ℕ) (ew : w ≡ word ws (top - 1)) where
      w_in : w < n
      w_in = rw (ew, ← rows) (waits_place D (lists_of n C s) (word ws (top - 1) ∷ stack_of ws (top - 1)) waits_w (word ws (top - 1)) (Memᴰ.head refl))

      pub turns_list : w ≤ n
      turns_list = omega (arith, w_in)

      pub turns_few : length_of n C s w ≤ C
      turns_few = length_most n C s q.linked.threaded w (omega (arith, w_in))

      pub turns_walk : Walking n C D w s ws (top - 1)
      turns_walk = record {
        linked = q.linked;
        room = q.room;
        place = w_in;
        waits = rw ew (bare_waits D (lists_of n C s) (word ws (top - 1)) (stack_of ws (top - 1)) waits_w);
      }

      module _ (fewer : turned ≡ m → ⊥) (l : ℕ) (el : l ≡ length_of n C s w) (s' ws' : List ℕ) (top' left : ℕ) (k : Walks n C D w s ws (top - 1) s' ws' top' left) (z : left ≡ 0) where
        turned_is : turn D w (lists_of n C s) (stack_of ws (top - 1)) ≡ record { lists = lists_of n C s'; waiting = stack_of ws' top' }
        turned_is = walks_end n C D w s ws (top - 1) s' ws' top' left k z

        row_l : length (list (lists_of n C s) w) ≡ l
        row_l = ap length (day_list n C s w w_in) ∙ (list_length n C s q.linked.threaded w (omega (arith, w_in)) ∙ sym el)

        step : turning D (m - turned) (lists_of n C s) (stack_of ws top) r ≡ turning D (m - (turned + 1)) (lists_of n C s') (stack_of ws' top') (r + l)
        step =
            let o : m - turned ≡ suc (m - (turned + 1)) = omega (arith, fewer, q.most) in
            rw (o, stack_take ws top more, ← ew)
            (turned_once D (m - (turned + 1)) (lists_of n C s) w (stack_of ws (top - 1)) r _ turned_is
            ∙ ap (λ (x : ℕ). turning D (m - (turned + 1)) (lists_of n C s') (stack_of ws' top') (r + x)) row_l)

        pub turns_next : Turns n C D m a s₀ s' ws' top' (turned + 1) (r + l)
        turns_next = record {
          linked = k.walking.linked;
          room = k.walking.room;
          waits =
              subst (λ (x : Work). Waits D x.lists x.waiting) turned_is
              (turn_waits D w n (lists_of n C s) (stack_of ws (top - 1)) rows q.linked.inside
              (subst (λ (z : ℕ). Waits D (lists_of n C s) (z ∷ stack_of ws (top - 1))) (sym ew) waits_w));
          few = q.few;
          most = omega (arith, fewer, q.most);
          small = omega (arith, turns_few, q.linked.threaded.room.cells_at_most, q.small);
          same = sym step ∙ q.same;
          beside = beside_then n C s₀ s s' q.beside k.beside;
        }

  pub ends_settled : top ≡ 0 → Ends (Ok r) n C D m a s₀ s
  unfolding stack_of
  ends_settled z =
      let e : stack_of ws top ≡ [] = rw z refl in
      (sym q.same ∙ rw e (turning_rest D (m - turned) (lists_of n C s) r), q.linked.threaded, q.beside)

  pub ends_dense : (top ≡ 0 → ⊥) → turned ≡ m → Ends (Err TooDense) n C D m a s₀ s
  unfolding turning
  ends_dense more z = let o : m - turned ≡ 0 = omega arith in (refl, sym q.same ∙ rw (o, stack_take ws top more))
