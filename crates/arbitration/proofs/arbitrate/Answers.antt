-- What was prepared is run, and what the run reaches is answered.
use Rattle.std.proofs.Common.{Ok, Err, sym, length, ◌∙◌}
use native.Mathlib.Omega.{arith}
use Rattle.arbitration_rules.specs.Reply.{asked}
use Rattle.arbitration_rules.proofs.Pieces.{Bytes}
use Rattle.arbitration_turns.specs.Turns.{Turn}
use Rattle.arbitration.specs.Shown.{Lent}
use Rattle.arbitration.proofs.Given.{bytes_below, unrefused-gives}
use Rattle.arbitration.proofs.Preparing.{runs}
use Rattle.arbitration.proofs.Contract.{after-run, after-refusal, promised}
use Rattle.arbitration.proofs.arbitrate.Goals as goal

pub returns-in-Err : goal.returns-in-Err
returns-in-Err c =
    let a = c.args in
    let request = asked a.bytes.now a.parts.now a.counts.now a.acks.now in
    let small : Bytes request.bytes = bytes_below a.bytes.now (λ i. omega (arith, c.type_inv.bytes i)) in
    let entry : Lent = record { table = a.table.now; carried = a.carried.now; levels = a.levels.now } in
    promised request entry small (Err _) (sym c.in-Err.is ∙ c.prepare-prepared.ensures) entry c.refused.result
    (after-refusal _ c.refused.result c.refused.ensures)

pub run-ended-requires : goal.run-ended-requires
run-ended-requires c =
    let a = c.args in
    let request = asked a.bytes.now a.parts.now a.counts.now a.acks.now in
    let small : Bytes request.bytes = bytes_below a.bytes.now (λ i. omega (arith, c.type_inv.bytes i)) in
    let ready =
    runs request (length a.table.now) (length a.carried.now) (length a.levels.now) _
    (sym c.prepare-prepared.ensures ∙ c.in-Ok.is) in
    let all =
    unrefused-gives request (length a.table.now) (length a.carried.now) (length a.levels.now) small ready.0 in
    (all.masters, all.enough)

pub returns : goal.returns
returns c =
    let a = c.args in
    let request = asked a.bytes.now a.parts.now a.counts.now a.acks.now in
    let small : Bytes request.bytes = bytes_below a.bytes.now (λ i. omega (arith, c.type_inv.bytes i)) in
    let entry : Lent = record { table = a.table.now; carried = a.carried.now; levels = a.levels.now } in
    let final : Turn =
    record {
      sequencer = c.run-ended.result;
      table = c.run-ended.new.table;
      carried = c.run-ended.new.carried;
      levels = c.run-ended.new.levels;
    } in
    promised request entry small (Ok _) (sym c.in-Ok.is ∙ c.prepare-prepared.ensures)
    (record { table = final.table; carried = final.carried; levels = final.levels }) c.answered.result
    (after-run _ final c.run-ended.ensures c.answered.result c.answered.ensures)
