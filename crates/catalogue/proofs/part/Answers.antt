-- The part lies inside its block, and is the board's message; empty at a refusal.
use native.Mathlib.Omega.{arith}
use Prim.Native.Nat.{◌+◌, ◌≤◌, max}
use lib.ListN.{length}
use Rattle.catalogue.proofs.Placed.{empty-part, corrected-part, standing-part, end-within}
use Rattle.catalogue.proofs.part.Goals as goal

pub returns-then-place-ne0 : goal.returns-then-place-ne0
returns-then-place-ne0 c = empty-part _ _ _ _ c.locate-place.ensures c.if-place-ne0.true

pub overflow_add-to : goal.overflow_add-to
overflow_add-to c =
    let a = c.args in
    let place = c.locate-place.result in
    let inside : place.offset + place.length ≤ max (length a.corrections.now) (length a.standing.now) =
    end-within _ _ _ _ c.locate-place.ensures c.if-place-ne0.false in
    omega (arith, inside, c.well_formed.1.0.0, c.well_formed.1.1.1.1.0.0)

pub returns-then-place : goal.returns-then-place
returns-then-place c = (corrected-part _ _ _ _ c.locate-place.ensures c.if-place-ne0.false c.if-place.true).1

pub returns : goal.returns
returns c = (standing-part _ _ _ _ c.locate-place.ensures c.if-place-ne0.false c.if-place.false).1

pub slice_bounds-result-end-then-place : goal.slice_bounds-result-end-then-place
slice_bounds-result-end-then-place c =
    omega (arith, (corrected-part _ _ _ _ c.locate-place.ensures c.if-place-ne0.false c.if-place.true).0)

pub slice_bounds-result-end-2 : goal.slice_bounds-result-end-2
slice_bounds-result-end-2 c =
    omega (arith, (standing-part _ _ _ _ c.locate-place.ensures c.if-place-ne0.false c.if-place.false).0)
