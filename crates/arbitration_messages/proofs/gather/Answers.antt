-- Refusals 12 and 13 in their order, then the messages.
use mathlib.Core.Path.{◌≡◌, ◌∙◌}
use native.Mathlib.Omega.{arith}
use lib.ListN.{length}
use Rattle.arbitration_messages.proofs.Sound.{sound-full}
use Rattle.arbitration_messages.proofs.Gathering as laws
use borrow.Author.Rules.{rules}
use Rattle.arbitration_messages.proofs.gather.Goals as goal

pub returns-then-count : goal.returns-then-count
returns-then-count c =
    let a = c.args in
    c.refused.ensures ∙ laws.gathered-12 a.bytes.now a.parts.now a.counts.now c.if-count.true

pub lengths_of-lengths-requires : goal.lengths_of-lengths-requires
lengths_of-lengths-requires c =
    let a = c.args in
    laws.few-counts a.bytes.now a.parts.now a.counts.now c.if-count.false

pub first_bad-bad-requires : goal.first_bad-bad-requires
first_bad-bad-requires c =
    let a = c.args in
    let few = laws.few-counts a.bytes.now a.parts.now a.counts.now c.if-count.false in
    let size : length c.lengths_of-lengths.result ≡ 16 = search rules in
    omega (arith, few)

pub total-requires : goal.total-requires
total-requires c =
    let a = c.args in
    laws.few-counts a.bytes.now a.parts.now a.counts.now c.if-count.false

pub returns-then-bad-count : goal.returns-then-bad-count
returns-then-bad-count c =
    let a = c.args in
    c.refused-then-bad-count.ensures
    ∙ laws.refused-13 a.bytes.now a.parts.now a.counts.now c.if-count.false _ _ _
    c.lengths_of-lengths.ensures c.first_bad-bad.ensures c.total.ensures _ c.total-size.ensures
    c.if-bad-count.true

pub part_marks-restarts-requires : goal.part_marks-restarts-requires
part_marks-restarts-requires c =
    let a = c.args in
    let passes =
    laws.shape-passes a.bytes.now a.parts.now a.counts.now c.if-count.false _ _ _
    c.lengths_of-lengths.ensures c.first_bad-bad.ensures c.total.ensures _ c.total-size.ensures
    c.if-bad-count.false in (
      sound-full
          (laws.all_sound a.bytes.now a.parts.now a.counts.now c.if-count.false _ _ _
          c.lengths_of-lengths.ensures c.first_bad-bad.ensures c.total.ensures passes),
      laws.parts_within a.bytes.now a.parts.now a.counts.now c.if-count.false _ _ _
          c.lengths_of-lengths.ensures c.first_bad-bad.ensures c.total.ensures passes,
    )

pub message_marks-marks-requires : goal.message_marks-marks-requires
message_marks-marks-requires c =
    let a = c.args in
    let passes =
    laws.shape-passes a.bytes.now a.parts.now a.counts.now c.if-count.false _ _ _
    c.lengths_of-lengths.ensures c.first_bad-bad.ensures c.total.ensures _ c.total-size.ensures
    c.if-bad-count.false in (
      laws.few-counts a.bytes.now a.parts.now a.counts.now c.if-count.false,
      laws.lengths_short a.bytes.now a.parts.now a.counts.now c.if-count.false _ _ _
          c.lengths_of-lengths.ensures c.first_bad-bad.ensures c.total.ensures passes,
    )

pub joined-sent-requires : goal.joined-sent-requires
joined-sent-requires c =
    let a = c.args in
    let passes =
    laws.shape-passes a.bytes.now a.parts.now a.counts.now c.if-count.false _ _ _
    c.lengths_of-lengths.ensures c.first_bad-bad.ensures c.total.ensures _ c.total-size.ensures
    c.if-bad-count.false in (
      laws.bytes-within a.bytes.now a.parts.now a.counts.now c.if-count.false _ _ _
          c.lengths_of-lengths.ensures c.first_bad-bad.ensures c.total.ensures _ c.total-size.ensures
          c.if-bad-count.false,
      laws.marks-within a.bytes.now a.parts.now a.counts.now c.if-count.false _ _ _
          c.lengths_of-lengths.ensures c.first_bad-bad.ensures c.total.ensures passes _ _
          c.part_marks-restarts.ensures c.message_marks-marks.ensures,
    )

pub returns : goal.returns
returns c =
    let a = c.args in
    laws.gathered-all a.bytes.now a.parts.now a.counts.now c.if-count.false _ _ _
    c.lengths_of-lengths.ensures c.first_bad-bad.ensures c.total.ensures _ c.total-size.ensures
    c.if-bad-count.false _ _ _ c.part_marks-restarts.ensures
    c.message_marks-marks.ensures c.joined-sent.ensures
