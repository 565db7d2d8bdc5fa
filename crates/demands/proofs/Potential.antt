-- The potential of source document 004: the links that disagree with a choice of directions. Each turn lowers it, by enough to
-- pay for its reversals, so turning settles. Assumes nothing.
use Prim.Native.Nat.{ℕ, ◌+◌, ◌-◌, ◌*◌, ◌≤◌, ◌<◌}
use mathlib.Core.List.{List, [], ◌∷◌, Memᴰ}
use mathlib.Core.Path.{◌≡◌, refl, ap, ◌∙◌}
use native.Mathlib.Nat.{mul-le-mul, mul-add, add-mul, mul_comm, mul_left_comm}
use native.Mathlib.Omega.{arith}
use lib.ListN.{length}
use Rattle.terms.specs.declared.run.Run.{Run}
use Rattle.meaning.specs.Cells.{Cell, Lists, list, row_sum, sum, links}
use Rattle.meaning.specs.Turning.{turn, turning}
use Rattle.meaning.specs.Day.{Day, run_of}
use Rattle.meaning.proofs.Right.{outside}
use Rattle.meaning.proofs.Sums.{row_sum-le, row_le, sum-le_in, turn_sum}
use Rattle.meaning.proofs.Waiting.{Waits, waits_first}
use Rattle.meaning.proofs.Turnings.{Keeps, Settles, Stands, stands_keeps, stands_start, turning_settles}
use Rattle.demands.specs.History.{Directions, unsure, outward, Directed}
use Rattle.demands.proofs.Choices.{by, by_even, unsure_swaps, outward_swaps, outward_self, has_sure}

-- s with other lists
abbrev pub holding : Day → Lists → Day
holding s ls = record { runs = s.runs; lists = ls; free = s.free }

-- the links of ls that stand where they don't go outward
unfoldable pub potential : Directions → Day → Lists → ℕ
potential C s ls = sum (by (λ x y. C y x) s) ls

-- the arithmetic of one turn: N is D + 1, e is D + 1 - 2d, L links of which g agree are turned, and the potential goes from p to q
products : (N e d L g p q : ℕ) → N ≡ e + 2 * d → N ≤ L → g ≤ d → q + L ≡ p + 2 * g → L * e + N * q ≤ N * p
products N e d L g p q f h₂ h₃ h =
    omega (
      arith,
      mul-le-mul h₂ h₃,
      mul_comm N L,
      mul_comm L d,
      mul_comm N g,
      mul_comm L e,
      ap (λ (x : ℕ). L * x) f,
      mul-add L e (2 * d),
      mul_left_comm L 2 d,
      ap (λ (x : ℕ). N * x) h,
      mul-add N q L,
      mul-add N p (2 * g),
      mul_left_comm N 2 g,
    )

step : (D d L g p q : ℕ) → 2 * d ≤ D → D < L → g ≤ d → q + L ≡ p + 2 * g → L * (D + 1 - 2 * d) + (D + 1) * q ≤ (D + 1) * p
step D d L g p q h₁ h₂ h₃ e = products (D + 1) (D + 1 - 2 * d) d L g p q (omega arith) (omega arith) h₃ e

-- the links of a list agree with the choice or disagree
halves : (C : Directions) (s : Day) (w : ℕ) (l : List Cell)
    → ((c : Cell) → Memᴰ c l → C (run_of s w) (run_of s c.target) + C (run_of s c.target) (run_of s w) ≡ 1)
    → row_sum (λ c. C (run_of s w) (run_of s c.target)) l + row_sum (λ c. C (run_of s c.target) (run_of s w)) l ≡ length l
halves C s w [] h = omega arith
halves C s w (c ∷ l) h = omega (arith, h c (Memᴰ.head refl), halves C s w l (λ k m. h k (Memᴰ.tail m)))

module _ (n D d : ℕ) (half : 2 * d ≤ D) (C : Directions) (s : Day) (ls₀ : Lists) (g : Directed d C (holding s ls₀)) where
  -- what is chosen for ls₀ is chosen for the lists at each step of turning
  sure : (ls : Lists) (st : List ℕ) (r : ℕ) → Stands n D ls₀ ls st r → sum (by (unsure C) s) ls ≡ 0
  sure ls st r i = i.evens (by (unsure C) s) (by_even (unsure C) s (unsure_swaps C)) ∙ g.each

  agree_few : (ls : Lists) (st : List ℕ) (r : ℕ) → Stands n D ls₀ ls st r → (w : ℕ) → row_sum (λ c. C (run_of s w) (run_of s c.target)) (list ls w) ≤ d
  agree_few ls st r i w =
      let p : Run = run_of s w in
      omega (
        arith,
        row_sum-le (λ c. C p (run_of s c.target)) (by (outward C p) s w) (list ls w) (λ c. outward_self C p (run_of s c.target)),
        row_le (by (outward C p) s) ls w,
        i.evens (by (outward C p) s) (by_even (outward C p) s (outward_swaps C p)),
        g.few p,
      )

  -- one turn of a list with a agreeing links
  turn_potential : (ls : Lists) (w : ℕ) (st : List ℕ) (r : ℕ) → Stands n D ls₀ ls (w ∷ st) r
      → (a : ℕ) × (a ≤ d) × (potential C s (turn D w ls st).lists + length (list ls w) ≡ potential C s ls + 2 * a)
  unfolding potential
  turn_potential ls w st r i = (
    row_sum (λ c. C (run_of s w) (run_of s c.target)) (list ls w),
    agree_few ls (w ∷ st) r i w,
    omega (
      arith,
      turn_sum (by (λ x y. C y x) s) D w n ls st i.rows i.inside,
      halves C s w (list ls w) (has_sure C s ls (sure ls (w ∷ st) r i) w),
    ),
  )

  -- each turn is paid for
  pub record Paid (B : ℕ) (ls : Lists) (st : List ℕ) (r : ℕ) : Type 0 where
    pub stands : Stands n D ls₀ ls st r
    pub paid : r * (D + 1 - 2 * d) + (D + 1) * potential C s ls ≤ B

  paid_keeps : (B : ℕ) → Keeps D (Paid B)
  paid_keeps B ls w st r i =
      let t : (a : ℕ) × (a ≤ d) × (potential C s (turn D w ls st).lists + length (list ls w) ≡ potential C s ls + 2 * a) = turn_potential ls w st r i.stands in
      record {
        stands = stands_keeps n D ls₀ ls w st r i.stands;
        paid = omega (
          arith,
          i.paid,
          add-mul r (length (list ls w)) (D + 1 - 2 * d),
          step D d (length (list ls w)) t.0 (potential C s ls) (potential C s (turn D w ls st).lists) half (waits_first D ls w st i.stands.waits) t.1 t.2,
        );
      }

  paid_less : (B : ℕ) (ls : Lists) (w : ℕ) (st : List ℕ) (r : ℕ) → Paid B ls (w ∷ st) r → potential C s (turn D w ls st).lists < potential C s ls
  paid_less B ls w st r i =
      let t : (a : ℕ) × (a ≤ d) × (potential C s (turn D w ls st).lists + length (list ls w) ≡ potential C s ls + 2 * a) = turn_potential ls w st r i.stands in
      omega (arith, waits_first D ls w st i.stands.waits, t.1, t.2)

  -- it is at most the number of links
  potential_links : potential C s ls₀ ≤ links ls₀
  unfolding potential
  potential_links = sum-le_in (by (λ x y. C y x) s) (λ v c. 1) ls₀ (λ v c m. omega (arith, has_sure C s ls₀ g.each v c m))

  -- so turning settles within as many turns as there are links, each paid for
  pub turning_paid : (st : List ℕ) → length ls₀ ≡ n → sum (outside n) ls₀ ≡ 0 → Waits D ls₀ st
      → Settles (Paid ((D + 1) * potential C s ls₀)) (turning D (links ls₀) ls₀ st 0)
  turning_paid st e h p =
      turning_settles D (Paid ((D + 1) * potential C s ls₀)) (paid_keeps _) (potential C s) (paid_less _) (links ls₀) ls₀ st 0 potential_links
      (record { stands = stands_start n D ls₀ st e h p; paid = omega arith })
