-- A refusal, or the rounds.
use Rattle.std.proofs.Common.{refl, sym, ap, ◌∙◌}
use native.Mathlib.Omega.{arith}
use lib.Seq.{length-take-le}
use Rattle.laws.specs.declared.Refusal.{Refusal}
use Rattle.laws.specs.Refusals.{none}
use Rattle.arbitration_rules.specs.Reply.{asked}
use Rattle.arbitration_messages.proofs.Whole.{count-within, lengths-whole}
use Rattle.arbitration.proofs.Given.{bytes_below}
use Rattle.night.proofs.Refused.{stops, runs}
use Rattle.night.proofs.Rehearsed.{any-room, refused-so, ran-so}
use Rattle.night.proofs.rehearse.Goals as goal

pub returns-in-Err : goal.returns-in-Err
returns-in-Err c =
    let a = c.args in
    let request = asked a.bytes.now a.parts.now a.counts.now a.acks.now in
    let found = stops request a.rounds_room a.table_room _ (sym c.admitted.ensures ∙ c.in-Err.is) in
    refused-so request a.rounds_room a.table_room _ found.0 a.modules found.1

pub slice_bounds-lengths-end : goal.slice_bounds-lengths-end
slice_bounds-lengths-end c =
    let a = c.args in
    let request = asked a.bytes.now a.parts.now a.counts.now a.acks.now in
    let ready = runs request a.rounds_room a.table_room _ (sym c.admitted.ensures ∙ c.in-Ok.is) in
    count-within request _ ready.1

pub slice_bounds-all_rounds-end : goal.slice_bounds-all_rounds-end
slice_bounds-all_rounds-end c =
    let a = c.args in
    let request = asked a.bytes.now a.parts.now a.counts.now a.acks.now in
    let ready = runs request a.rounds_room a.table_room _ (sym c.admitted.ensures ∙ c.in-Ok.is) in
    sym (length-take-le _ _ (count-within request _ ready.1))

pub all_rounds-ended-requires : goal.all_rounds-ended-requires
all_rounds-ended-requires c =
    let a = c.args in
    let request = asked a.bytes.now a.parts.now a.counts.now a.acks.now in
    let ready = runs request a.rounds_room a.table_room _ (sym c.admitted.ensures ∙ c.in-Ok.is) in
    let passes = ap (λ (one : Refusal). one.number) (sym ready.0) in
    (any-room request a.rounds_room a.table_room passes, lengths-whole request _ ready.1)

pub returns : goal.returns
returns c =
    let a = c.args in
    let request = asked a.bytes.now a.parts.now a.counts.now a.acks.now in
    let small = bytes_below a.bytes.now (λ i. omega (arith, c.type_inv.bytes i)) in
    let ready = runs request a.rounds_room a.table_room _ (sym c.admitted.ensures ∙ c.in-Ok.is) in
    ran-so request a.rounds_room a.table_room none ready.0 a.modules small refl c.all_rounds-ended.result
    c.all_rounds-ended.ensures
