-- `stream::carry_all` meets its contract: what is left of the bytes comes to the whole. Assumes nothing.
use Rattle.stream.proofs.Streaming.{going_step, going_few, going_next, going_end, going_stop}
use mathlib.Core.Path.{ap, ◌∙◌}
use Rattle.std.specs.Prelude.{Some}
use native.Mathlib.Omega.{arith}
use lib.Seq.{take_all}
use lib.ListN.{length, drop, length-drop, length-take}
use Prim.Native.Nat.{ℕ, ◌-◌}
use Rattle.stream.proofs.carry_all.Goals as goal

pub step-sum-requires : goal.step-sum-requires
step-sum-requires c = going_step _ _ _ _ _ _ _ _ _ _ _ _ c.loop-why.invariant _ c.read.ensures _ (c.in-Some-Ok.is ∙ ap Some c.in-Some-Ok.field-0-is)

pub slice_bounds-rest-count : goal.slice_bounds-rest-count
slice_bounds-rest-count c =
    let f = (going_few _ _ _ _ _ _ _ _ _ _ _ _ c.loop-why.invariant _ c.read.ensures _ (c.in-Some-Ok.is ∙ ap Some c.in-Some-Ok.field-0-is)).1 in
    omega arith

pub slice_bounds-rest-start : goal.slice_bounds-rest-start
slice_bounds-rest-start c =
    let f = (going_few _ _ _ _ _ _ _ _ _ _ _ _ c.loop-why.invariant _ c.read.ensures _ (c.in-Some-Ok.is ∙ ap Some c.in-Some-Ok.field-0-is)).1 in
    omega arith

pub loop-why-smaller : goal.loop-why-smaller
loop-why-smaller c =
    let f = (going_few _ _ _ _ _ _ _ _ _ _ _ _ c.loop-why.invariant _ c.read.ensures _ (c.in-Some-Ok.is ∙ ap Some c.in-Some-Ok.field-0-is)).1 in
    omega (arith, length-take {A = ℕ}, length-drop 15 c.loop-why.rest.now)

pub loop-why-preserved : goal.loop-why-preserved
loop-why-preserved c = going_next _ _ _ _ _ _ _ _ _ _ _ _ c.loop-why.invariant _ c.read.ensures _ (c.in-Some-Ok.is ∙ ap Some c.in-Some-Ok.field-0-is) _ _ _ _ _ _ (take_all (length c.loop-why.rest.now - 15) (drop 15 c.loop-why.rest.now) (rw length-drop (omega arith))) c.step-sum.ensures

pub returns-in-None : goal.returns-in-None
returns-in-None c = going_end _ _ _ _ _ _ _ _ _ _ _ _ c.loop-why.invariant _ c.read.ensures c.in-None.is

pub returns-in-Some-Err : goal.returns-in-Some-Err
returns-in-Some-Err c = going_stop _ _ _ _ _ _ _ _ _ _ _ _ c.loop-why.invariant _ c.read.ensures _ (c.in-Some-Err.is ∙ ap Some c.in-Some-Err.field-0-is)
