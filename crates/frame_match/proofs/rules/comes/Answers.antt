use Prim.Native.Nat.{◌≤◌, ◌<◌}
use native.Mathlib.Omega.{arith}
use mathlib.Core.Path.{◌≡◌, refl, sym, ◌∙◌}
use lib.ListN.{length}
use Rattle.frame_match.specs.Frames.{frame_at}
use Rattle.frame_match.specs.Rules.{rehearsed_row}
use Rattle.frame_match.proofs.Cutting.{frame-some}
use Rattle.frame_match.proofs.Coming.{comes-here, comes-later, comes-past}
use Rattle.frame_match.proofs.rules.comes.Goals as goal

pub loop-at-init : goal.loop-at-init
loop-at-init c = refl

pub returns-then-row-rows : goal.returns-then-row-rows
returns-then-row-rows c =
    let head = c.loop-at in
    let args = c.args in
    let less : head.at < length args.seen.now = omega arith in
    let is : c.first_of-row.result
    ≡ rehearsed_row args.book.now args.rows args.events.now (frame_at args.seen.now head.at) args.load =
    c.first_of-row.ensures ∙ rw c.frame_at.ensures in
    comes-here args.book.now args.rows args.events.now args.seen.now args.load head.at
    c.first_of-row.result less is c.if-row-rows.true ∙ sym head.invariant

pub loop-at-smaller : goal.loop-at-smaller
loop-at-smaller c =
    let head = c.loop-at in
    let args = c.args in
    let less : head.at < length args.seen.now = omega arith in
    omega (arith, c.end_of-at.ensures, frame-some args.seen.now head.at less)

pub loop-at-preserved : goal.loop-at-preserved
loop-at-preserved c =
    let head = c.loop-at in
    let args = c.args in
    let less : head.at < length args.seen.now = omega arith in
    let is : c.first_of-row.result
    ≡ rehearsed_row args.book.now args.rows args.events.now (frame_at args.seen.now head.at) args.load =
    c.first_of-row.ensures ∙ rw c.frame_at.ensures in
    head.invariant ∙ comes-later args.book.now args.rows args.events.now args.seen.now args.load
    head.at c.first_of-row.result less is c.if-row-rows.false ∙ rw (← c.end_of-at.ensures)

pub returns : goal.returns
returns c =
    let head = c.loop-at in
    let args = c.args in
    let past : length args.seen.now ≤ head.at = omega arith in
    comes-past args.book.now args.rows args.events.now args.seen.now args.load head.at past ∙ sym head.invariant
