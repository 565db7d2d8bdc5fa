-- No link is refused as too dense if the links with it can be directed with at most half of D, rounded down, outward at each run.
-- Assumes nothing.
use Prim.Native.Nat.{ℕ, ◌+◌, ◌*◌, ◌/◌, ◌<◌, ◌≤◌}
use mathlib.Core.Bool.{true≢false}
use mathlib.Core.List.{List, [], ◌∷◌}
use Rattle.std.specs.Prelude.{Err}
use mathlib.Core.Path.{◌≡◌, sym, ap, ap₂, ◌∙◌}
use native.Mathlib.Omega.{arith}
use lib.ListN.{length}
use Rattle.terms.specs.declared.run.Run.{Run}
use Rattle.terms.specs.declared.refusal.Refusal.TheVariants.{TooDense}
use Rattle.meaning.specs.Cells.{Cell, Lists, sum}
use Rattle.meaning.specs.Turning.{Ending, settled, dense}
use Rattle.meaning.specs.Day.{Day, place_of}
use Rattle.meaning.specs.Calls.{link, tests, ended, do_link, call}
use Rattle.meaning.proofs.Right.{Right, pair}
use Rattle.meaning.proofs.Sums.{push_sum}
use Rattle.meaning.proofs.Turnings.{Settles}
use Rattle.meaning.proofs.Finding.{Both}
use Rattle.meaning.proofs.Kept.{joined, run, link_run, new_link, call_case}
use Rattle.demands.specs.History.{Directions, unsure, outward, Directed, DirectedWith}
use Rattle.demands.proofs.Choices.{by}
use Rattle.demands.proofs.Refusals.{dense_answer, dense_first, first_sparse, tests_sparse}
use Rattle.demands.proofs.Potential.{holding, potential, Paid}
use Rattle.demands.proofs.Pays.{link_settles}

-- a turning that settles is no refusal
settled_other : (s : Day) (fs : List ℕ) (o : Ending) (I : Lists → List ℕ → ℕ → Type 0) → Settles I o → (ended s fs o).answer ≡ Err TooDense → ⊥
settled_other s fs (settled ls r) I h f = let y : ◌≡◌ {A = ℕ} 0 1 = cc in omega arith
settled_other s fs dense I h f = h

pub never_dense_from : (n D : ℕ) (s : Day) → Right n D s → (p q : Run) (C : Directions) → DirectedWith p q (D / 2) C s
    → (call D s (link p q)).answer ≡ Err TooDense → ⊥
never_dense_from n D s ok p q C g =
    call_case (λ o. o.answer ≡ Err TooDense → ⊥) D s (link p q)
    (λ why e f. true≢false (sym (ap dense_answer f) ∙ sym (ap dense_first e) ∙ first_sparse (tests s (link p q)) (tests_sparse s (link p q))))
    (λ e. go (new_link n D s ok p q e) s.free)
  where
    go : Both n s p q × (sum (pair (place_of s p) (place_of s q)) s.lists ≡ 0) → (fs : List ℕ) → (do_link D s (place_of s p) (place_of s q) fs).answer ≡ Err TooDense → ⊥
    go t [] f = let y : ◌≡◌ {A = ℕ} 0 1 = cc in omega arith
    go t (i ∷ fs) f =
        let u : ℕ = place_of s p in
        let v : ℕ = place_of s q in
        let c : Cell = record { index = i; target = v } in
        let hu : u < length s.lists = omega (arith, ok.rows, t.0.place_p) in
        let g⁺ : Directed (D / 2) C (holding s (joined s u v i)) = record {
          each = omega (arith, g.each, push_sum (by (unsure C) s) s.lists u c hu, ap₂ (unsure C) t.0.run_p t.0.run_q);
          few = λ x. omega (arith, g.few x, push_sum (by (outward C x) s) s.lists u c hu, ap₂ (outward C x) t.0.run_p t.0.run_q);
        } in
        let half : 2 * (D / 2) ≤ D = omega arith in
        link_run (λ a s'. a ≡ Err TooDense → ⊥) D s u v i fs
        (settled_other s fs (run D s u v i) (Paid n D (D / 2) half C s (joined s u v i) g⁺ ((D + 1) * potential C s (joined s u v i)))
        (link_settles n D (D / 2) half s ok u v i t.0.place_p t.0.place_q C g⁺)) f
