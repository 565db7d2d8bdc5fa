-- `dayrun::read_full` meets its contract: each read goes on where the one before it ended. Assumes nothing.
use Rattle.std.proofs.Common.{◌≡◌, ℕ, ◌+◌, ◌-◌, ◌≤◌, List, ◌++◌, rules, length, take, sym, ap, ◌∙◌, subst, le_refl, drop_at, length-take-le}
use Rattle.std.proofs.lemmas.Slice.{take-put_mid_below}
use Rattle.std.specs.Io.KnownBytes.{Consumes}
use Rattle.std.proofs.KnownBytes.{Consumes-trans}
use borrow.Rule.Slice.PartMut.{put_mid, post_of}
use lib.Seq.{take-add, take-append-le}
use Rattle.dayrun.proofs.read_full.Goals as goal

-- what was taken of a part is what stands in the whole from that place
taken_on : (a k n : ℕ) (xs ys : List ℕ) → a ≤ length xs → n ≤ length ys → take a xs ++ take n ys ≡ take (a + n) (put_mid a k xs ys)
taken_on a k n xs ys within fits =
    let whole = put_mid a k xs ys in
    let front = take-put_mid_below a k xs ys a (le_refl _) within in
    let part = ap (take n) (drop_at (take a xs) (ys ++ post_of a k xs) a (length-take-le a xs within)) ∙ take-append-le n ys (post_of a k xs) fits in
    ap (λ l. l ++ take n ys) (sym front) ∙ ap (λ l. take a whole ++ l) (sym part) ∙ sym (take-add a n whole)

pub loop-done-preserved : goal.loop-done-preserved
loop-done-preserved g c =
    let within = c.loop-done.invariant.0 in
    let room = length c.loop-done.bytes - c.loop-done.done in
    (search rules, search rules, subst (Consumes _ _) (taken_on c.loop-done.done room c.in_ok-got.got c.loop-done.bytes c.read.new.buf within c.in_ok-got.ensures.bound.0) (Consumes-trans _ _ _ _ _ c.loop-done.invariant.2 c.in_ok-got.ensures.bytes.0))
