-- Each return is one of the cases of NightContract.antt.
use native.Mathlib.Omega.{arith}
use lib.ListN.{length}
use Rattle.arbitration_rules.specs.Reply.{asked}
use Rattle.arbitration_rules.proofs.Pieces.{Bytes}
use Rattle.arbitration.proofs.Given.{bytes_below}
use Rattle.night.specs.Rehearsal.{Rehearses}
use Rattle.export.specs.Night.{Lent, powered_up}
use Rattle.export.proofs.NightContract.{place-small, refused-so, put-few, put-room, count_small, ran-so}
use Rattle.export.proofs.night_calls.kan_night.Goals as goal

pub night_answer-requires : goal.night_answer-requires
night_answer-requires c =
    let lent_at : Lent =
    let a = c.args in
    record {
      request = asked a.bytes.now a.parts.now a.counts.now a.acks.now;
      rounds = a.rounds.now;
      modules = a.modules.now;
    } in
    let promise : Rehearses (lent_at).request (length (lent_at).rounds) (length (lent_at).modules) powered_up
    c.rehearse-done.result =
    rw c.power_up-table.ensures at c.rehearse-done.ensures in
    (place-small (lent_at) c.rehearse-done.result (promise), omega arith)

pub returns-then-found-ne0 : goal.returns-then-found-ne0
returns-then-found-ne0 c =
    let lent_at : Lent =
    let a = c.args in
    record {
      request = asked a.bytes.now a.parts.now a.counts.now a.acks.now;
      rounds = a.rounds.now;
      modules = a.modules.now;
    } in
    let promise : Rehearses (lent_at).request (length (lent_at).rounds) (length (lent_at).modules) powered_up
    c.rehearse-done.result =
    rw c.power_up-table.ensures at c.rehearse-done.ensures in
    refused-so (lent_at) c.rehearse-done.result (promise) c.night_answer.result c.if-found-ne0.true
    c.night_answer.ensures

pub put_rounds-requires : goal.put_rounds-requires
put_rounds-requires c =
    let lent_at : Lent =
    let a = c.args in
    record {
      request = asked a.bytes.now a.parts.now a.counts.now a.acks.now;
      rounds = a.rounds.now;
      modules = a.modules.now;
    } in
    let small : Bytes (lent_at).request.bytes =
    bytes_below (lent_at).request.bytes (λ i. omega (arith, c.shared_slice_known-1.given i)) in
    let promise : Rehearses (lent_at).request (length (lent_at).rounds) (length (lent_at).modules) powered_up
    c.rehearse-done.result =
    rw c.power_up-table.ensures at c.rehearse-done.ensures in (
      put-few (lent_at) c.rehearse-done.result (promise) (small) c.if-found-ne0.false,
      (put-room (lent_at) c.rehearse-done.result (promise) (small) c.if-found-ne0.false).0,
    )

pub put_modules-requires : goal.put_modules-requires
put_modules-requires c =
    let lent_at : Lent =
    let a = c.args in
    record {
      request = asked a.bytes.now a.parts.now a.counts.now a.acks.now;
      rounds = a.rounds.now;
      modules = a.modules.now;
    } in
    let small : Bytes (lent_at).request.bytes =
    bytes_below (lent_at).request.bytes (λ i. omega (arith, c.shared_slice_known-1.given i)) in
    let promise : Rehearses (lent_at).request (length (lent_at).rounds) (length (lent_at).modules) powered_up
    c.rehearse-done.result =
    rw c.power_up-table.ensures at c.rehearse-done.ensures in (
      put-few (lent_at) c.rehearse-done.result (promise) (small) c.if-found-ne0.false,
      (put-room (lent_at) c.rehearse-done.result (promise) (small) c.if-found-ne0.false).1,
    )

pub night_answer-requires-2 : goal.night_answer-requires-2
night_answer-requires-2 c =
    let lent_at : Lent =
    let a = c.args in
    record {
      request = asked a.bytes.now a.parts.now a.counts.now a.acks.now;
      rounds = a.rounds.now;
      modules = a.modules.now;
    } in
    let small : Bytes (lent_at).request.bytes =
    bytes_below (lent_at).request.bytes (λ i. omega (arith, c.shared_slice_known-1.given i)) in
    let promise : Rehearses (lent_at).request (length (lent_at).rounds) (length (lent_at).modules) powered_up
    c.rehearse-done.result =
    rw c.power_up-table.ensures at c.rehearse-done.ensures in (
      place-small (lent_at) c.rehearse-done.result (promise),
      count_small (lent_at) c.rehearse-done.result (promise) (small) c.if-found-ne0.false,
    )

pub returns : goal.returns
returns c =
    let lent_at : Lent =
    let a = c.args in
    record {
      request = asked a.bytes.now a.parts.now a.counts.now a.acks.now;
      rounds = a.rounds.now;
      modules = a.modules.now;
    } in
    let small : Bytes (lent_at).request.bytes =
    bytes_below (lent_at).request.bytes (λ i. omega (arith, c.shared_slice_known-1.given i)) in
    let promise : Rehearses (lent_at).request (length (lent_at).rounds) (length (lent_at).modules) powered_up
    c.rehearse-done.result =
    rw c.power_up-table.ensures at c.rehearse-done.ensures in
    ran-so (lent_at) c.rehearse-done.result (promise) (small) c.if-found-ne0.false c.night_answer-2.result _ _
    c.night_answer-2.ensures c.put_rounds.ensures c.put_modules.ensures
