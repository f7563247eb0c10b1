-- `encode` tests in 01's order, and then writes.
use lib.ListN.{length}
use Rattle.encode.proofs.Encodes.{enough-room, whole-count, drawing-fits, replies}
use Rattle.std.proofs.Common.{ap, not, ◌∙◌}
use Rattle.encode.proofs.encode.Goals as goal

pub returns-then-not-complete-clause-answer : goal.returns-then-not-complete-clause-answer
returns-then-not-complete-clause-answer c = c.refused.ensures ∙ search replies

pub returns-then-gap-clause-answer : goal.returns-then-gap-clause-answer
returns-then-gap-clause-answer c = c.refused-then-gap.ensures ∙ search replies

pub returns-then-count-gt-MAX_SAMPLES-clause-answer : goal.returns-then-count-gt-MAX_SAMPLES-clause-answer
returns-then-count-gt-MAX_SAMPLES-clause-answer c = c.refused-then-count-gt-MAX_SAMPLES.ensures ∙ search replies

pub returns-then-last-gt-MAX_STAMP-clause-answer : goal.returns-then-last-gt-MAX_STAMP-clause-answer
returns-then-last-gt-MAX_STAMP-clause-answer c = c.refused-then-last-gt-MAX_STAMP.ensures ∙ search replies

pub returns-then-stamps-count-clause-answer : goal.returns-then-stamps-count-clause-answer
returns-then-stamps-count-clause-answer c = c.refused-then-stamps-count.ensures ∙ search replies

pub write_levels-requires : goal.write_levels-requires
write_levels-requires c =
    let args = c.args in
    let events = args.events.now in
    let count = c.count_samples-count.result in
    let whole = whole-count events count c.count_samples-count.ensures c.if-count-gt-MAX_SAMPLES.false in
    let all = (ap not c.if-not-complete.false) in
    let drawn = drawing-fits events c.complete.result count c.complete.ensures all whole in
    let room = enough-room (length args.stamps.now) (length args.levels.now) count c.if-stamps-count.false in
    rw drawn room.1

pub returns-clause-answer : goal.returns-clause-answer
returns-clause-answer c = search replies
