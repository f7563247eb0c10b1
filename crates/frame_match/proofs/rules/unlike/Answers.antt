-- The frames after this one begin where it ends.
use Prim.Native.Nat.{◌+◌}
use mathlib.Core.Path.{◌≡◌, ◌∙◌}
use mathlib.Core.Bool.{true, false}
use lib.ListN.{drop}
use Rattle.laws.proofs.Branches.{call-yes, call-no}
use Rattle.frame_match.specs.Book.{is_message}
use Rattle.frame_match.specs.Rows.{first_row, boards_end}
use Rattle.frame_match.specs.Frames.{cut, frame_at, later_than}
use Rattle.frame_match.specs.Rules.{comes}
use Rattle.frame_match.proofs.Cutting.{frame-later}
use Rattle.frame_match.proofs.Choosing.{unlike-message, unlike-before, unlike-differs}
use Rattle.frame_match.proofs.rules.unlike.Goals as goal

pub returns-then-sender-end : goal.returns-then-sender-end
returns-then-sender-end c =
    let args = c.args in
    let is : c.sender.result
    ≡ first_row (is_message args.book.now args.events.now (frame_at args.seen.now args.from)) (args.next + 1)
    (boards_end args.book.now args.rows args.next) =
    c.sender.ensures ∙ rw (c.frame_at.ensures, c.boards_end-end.ensures) in
    unlike-message args.book.now args.rows args.events.now (cut (drop args.from args.seen.now))
    args.next c.requires _ is
    (rw (← c.boards_end-end.ensures) c.if-sender-end.true)

pub returns-then-comes : goal.returns-then-comes
returns-then-comes c =
    let args = c.args in
    let is : c.sender.result
    ≡ first_row (is_message args.book.now args.events.now (frame_at args.seen.now args.from)) (args.next + 1)
    (boards_end args.book.now args.rows args.next) =
    c.sender.ensures ∙ rw
    (c.frame_at.ensures, c.boards_end-end.ensures) in
    let later : comes args.book.now args.rows args.events.now args.next
    (later_than (cut (drop args.from args.seen.now))) ≡ true =
    rw (← frame-later args.seen.now args.from, ← c.end_of.ensures)
    (call-yes _ _ c.comes.ensures c.if-comes.true) in
    unlike-before args.book.now args.rows args.events.now (cut (drop args.from args.seen.now))
    args.next c.requires _ is
    (rw (← c.boards_end-end.ensures) c.if-sender-end.false) later

pub returns : goal.returns
returns c =
    let args = c.args in
    let is : c.sender.result
    ≡ first_row (is_message args.book.now args.events.now (frame_at args.seen.now args.from)) (args.next + 1)
    (boards_end args.book.now args.rows args.next) =
    c.sender.ensures ∙ rw
    (c.frame_at.ensures, c.boards_end-end.ensures) in
    let later : comes args.book.now args.rows args.events.now args.next
    (later_than (cut (drop args.from args.seen.now))) ≡ false =
    rw (← frame-later args.seen.now args.from, ← c.end_of.ensures)
    (call-no _ _ c.comes.ensures c.if-comes.false) in
    unlike-differs args.book.now args.rows args.events.now (cut (drop args.from args.seen.now))
    args.next c.requires _ is
    (rw (← c.boards_end-end.ensures) c.if-sender-end.false) later
