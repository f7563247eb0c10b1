-- The rules in their order.
use mathlib.Core.Path.{◌≡◌, ◌∙◌}
use mathlib.Core.Bool.{true, false}
use lib.ListN.{drop}
use Rattle.laws.proofs.Branches.{call-yes, call-no}
use Rattle.frame_match.specs.Book.{is_rehearsed_as}
use Rattle.frame_match.specs.Frames.{cut, frame_at}
use Rattle.frame_match.specs.Rules.{waiting_row}
use Rattle.frame_match.proofs.Choosing.{found-waiting, found_none, found-next, found-ahead}
use Rattle.frame_match.proofs.rules.find.Goals as goal

pub returns-then-row-rows : goal.returns-then-row-rows
returns-then-row-rows c =
    let args = c.args in
    let is : c.first_of-row.result ≡ waiting_row args.book.now args.rows args.events.now (frame_at args.seen.now args.from) =
    c.first_of-row.ensures ∙ rw c.frame_at-frame.ensures in
    found-waiting args.book.now args.rows args.events.now (cut (drop args.from args.seen.now)) args.next _ is c.if-row-rows.true

pub returns-then-next-rows : goal.returns-then-next-rows
returns-then-next-rows c =
    let args = c.args in
    let is : c.first_of-row.result ≡ waiting_row args.book.now args.rows args.events.now (frame_at args.seen.now args.from) =
    c.first_of-row.ensures ∙ rw c.frame_at-frame.ensures in
    found_none args.book.now args.rows args.events.now (cut (drop args.from args.seen.now))
    args.next (rw (← is) c.if-row-rows.false) c.if-next-rows.true

pub returns-then-is_sought : goal.returns-then-is_sought
returns-then-is_sought c =
    let args = c.args in
    let is : c.first_of-row.result ≡ waiting_row args.book.now args.rows
    args.events.now (frame_at args.seen.now args.from) =
    c.first_of-row.ensures ∙ rw c.frame_at-frame.ensures in
    let next : is_rehearsed_as args.book.now args.events.now (frame_at args.seen.now args.from) args.next ≡ true =
    rw (← c.frame_at-frame.ensures) (call-yes _ _ c.is_sought.ensures c.if-is_sought.true) in
    found-next args.book.now args.rows args.events.now (cut (drop args.from args.seen.now))
    args.next c.if-next-rows.false (rw (← is) c.if-row-rows.false) next

pub returns : goal.returns
returns c =
    let args = c.args in
    let is : c.first_of-row.result ≡ waiting_row args.book.now args.rows
    args.events.now (frame_at args.seen.now args.from) =
    c.first_of-row.ensures ∙ rw c.frame_at-frame.ensures in
    let next : is_rehearsed_as args.book.now args.events.now (frame_at args.seen.now args.from) args.next ≡ false =
    rw (← c.frame_at-frame.ensures)
    (call-no _ _ c.is_sought.ensures c.if-is_sought.false) in
    c.ahead.ensures ∙ found-ahead args.book.now args.rows args.events.now
    (cut (drop args.from args.seen.now)) args.next c.if-next-rows.false
    (rw (← is) c.if-row-rows.false) next
