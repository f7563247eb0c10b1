-- Rule 3, or those after it.
use Prim.Native.Nat.{◌+◌}
use mathlib.Core.Path.{◌≡◌, ◌∙◌}
use lib.ListN.{drop}
use Rattle.laws.proofs.Branches.{call-yes, call-no}
use Rattle.frame_match.specs.Frames.{cut, frame_at}
use Rattle.frame_match.specs.Rules.{rehearsed_row}
use Rattle.frame_match.proofs.Choosing.{ahead-later, ahead-kept, ahead_none}
use Rattle.frame_match.proofs.rules.ahead.Goals as goal

pub returns-then-load-rows : goal.returns-then-load-rows
returns-then-load-rows c =
    let args = c.args in
    let is : c.first_of-load.result
    ≡ rehearsed_row args.book.now args.rows args.events.now (frame_at args.seen.now args.from) (args.next + 1) =
    c.first_of-load.ensures ∙ rw c.frame_at-frame.ensures in
    c.unlike.ensures ∙ ahead_none args.book.now args.rows args.events.now
    (cut (drop args.from args.seen.now)) args.next
    c.requires _ is c.if-load-rows.true

pub returns-then-is_passed : goal.returns-then-is_passed
returns-then-is_passed c =
    let args = c.args in
    let is : c.first_of-load.result
    ≡ rehearsed_row args.book.now args.rows args.events.now (frame_at args.seen.now args.from) (args.next + 1) =
    c.first_of-load.ensures ∙ rw c.frame_at-frame.ensures in
    ahead-later args.book.now args.rows args.events.now (cut (drop args.from args.seen.now))
    args.next c.requires _ is
    c.if-load-rows.false (call-yes _ _ c.is_passed.ensures c.if-is_passed.true)

pub returns : goal.returns
returns c =
    let args = c.args in
    let is : c.first_of-load.result
    ≡ rehearsed_row args.book.now args.rows args.events.now (frame_at args.seen.now args.from) (args.next + 1) =
    c.first_of-load.ensures ∙ rw c.frame_at-frame.ensures in
    c.unlike-2.ensures
    ∙ ahead-kept args.book.now args.rows args.events.now (cut (drop args.from args.seen.now))
    args.next c.requires _ is
    c.if-load-rows.false
    (call-no _ _ c.is_passed.ensures c.if-is_passed.false)
