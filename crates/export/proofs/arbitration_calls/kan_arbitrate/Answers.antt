-- Each return is one of the cases of Contract.antt.
use Prim.Native.Nat.{◌≤◌}
use native.Mathlib.Omega.{arith}
use mathlib.Core.Path.{◌≡◌, refl, sym, ◌∙◌}
use mathlib.Core.Bool.{false, true, ◌||◌, or-true}
use lib.Dec.{ltb}
use lib.ListN.{length, replicate}
use borrow.Author.Tests.{ltb-false}
use Rattle.laws.proofs.Bools.{neither}
use Rattle.arbitration_rules.specs.Reply.{asked}
use Rattle.arbitration_rules.proofs.Pieces.{Bytes}
use Rattle.arbitration.proofs.Given.{bytes_below, settled-some, settled-none}
use Rattle.usi.specs.Module.{power_up}
use Rattle.arbitration_rules.specs.Limits.{max_masters}
use Rattle.arbitration.specs.Shown.{Arbitrates}
use Rattle.export.specs.Arbitration.{Lent}
use Rattle.export.proofs.Contract.{short, short_table, found-placed, refused-before, refused-short}
use Rattle.export.proofs.Contract.{library_reply, refused-place, masters-few, answered-small, refused-by-library}
use Rattle.export.proofs.Contract.{answered-by-library}
use Rattle.export.proofs.arbitration_calls.kan_arbitrate.Goals as goal

pub refused-requires : goal.refused-requires
refused-requires c =
    let lent_at : Lent =
    let a = c.args in
    record {
      request = asked a.bytes.now a.parts.now a.counts.now a.acks.now;
      carried = a.carried.now;
      levels = a.levels.now;
      modules = a.modules.now;
      seats = a.seats.now;
    } in
    let stopped = settled-some lent_at.request _ (sym c.settle.ensures ∙ c.in-Err.is) in
    rw (← stopped.0) (found-placed lent_at)

pub returns-in-Err : goal.returns-in-Err
returns-in-Err c =
    let lent_at : Lent =
    let a = c.args in
    record {
      request = asked a.bytes.now a.parts.now a.counts.now a.acks.now;
      carried = a.carried.now;
      levels = a.levels.now;
      modules = a.modules.now;
      seats = a.seats.now;
    } in
    let stopped = settled-some lent_at.request _ (sym c.settle.ensures ∙ c.in-Err.is) in
    refused-before lent_at c.refused.result (rw stopped.0 stopped.1) (rw stopped.0 c.refused.ensures)

pub returns-then-modules-masters : goal.returns-then-modules-masters
returns-then-modules-masters c =
    let lent_at : Lent =
    let a = c.args in
    record {
      request = asked a.bytes.now a.parts.now a.counts.now a.acks.now;
      carried = a.carried.now;
      levels = a.levels.now;
      modules = a.modules.now;
      seats = a.seats.now;
    } in
    let passes = (settled-none lent_at.request _ (sym c.settle.ensures ∙ c.in_default.is)).0 in
    let tables : short_table lent_at ≡ true = c.if-modules-masters.true in
    let tight : short lent_at || short_table lent_at ≡ true = rw tables (or-true (short lent_at)) in
    refused-short lent_at 8 passes tight refl

pub refused-requires-then-found-ne0 : goal.refused-requires-then-found-ne0
refused-requires-then-found-ne0 c =
    let lent_at : Lent =
    let a = c.args in
    record {
      request = asked a.bytes.now a.parts.now a.counts.now a.acks.now;
      carried = a.carried.now;
      levels = a.levels.now;
      modules = a.modules.now;
      seats = a.seats.now;
    } in
    let small : Bytes (lent_at).request.bytes =
    bytes_below (lent_at).request.bytes (λ i. omega (arith, c.shared_slice_known-1.given i)) in
    let lent_again : Lent =
    lent_at in
    let roomy : short_table (lent_again) ≡ false =
    c.if-modules-masters.false in
    let small_again : Bytes (lent_again).request.bytes =
    small in
    let promise : Arbitrates (lent_again).request
    (record {
      table = replicate max_masters (power_up 0 0);
      carried = (lent_again).carried;
      levels = (lent_again).levels;
    })
    (record {
      table = c.rehearse-done.result.modules;
      carried = c.rehearse-done.new.carried;
      levels = c.rehearse-done.new.levels;
    })
    c.rehearse-done.result.reply =
    rw c.power_up-table.ensures at c.rehearse-done.ensures in
    let replied : c.rehearse-done.result.reply ≡ library_reply (lent_again) (small_again) (roomy) =
    (promise).replies in
    refused-place (lent_again) (small_again) (roomy) c.rehearse-done.result.reply (replied) c.if-found-ne0.true

pub returns-then-found-ne0 : goal.returns-then-found-ne0
returns-then-found-ne0 c =
    let lent_at : Lent =
    let a = c.args in
    record {
      request = asked a.bytes.now a.parts.now a.counts.now a.acks.now;
      carried = a.carried.now;
      levels = a.levels.now;
      modules = a.modules.now;
      seats = a.seats.now;
    } in
    let small : Bytes (lent_at).request.bytes =
    bytes_below (lent_at).request.bytes (λ i. omega (arith, c.shared_slice_known-1.given i)) in
    let lent_again : Lent =
    lent_at in
    let roomy : short_table (lent_again) ≡ false =
    c.if-modules-masters.false in
    let small_again : Bytes (lent_again).request.bytes =
    small in
    let promise : Arbitrates (lent_again).request
    (record {
      table = replicate max_masters (power_up 0 0);
      carried = (lent_again).carried;
      levels = (lent_again).levels;
    })
    (record {
      table = c.rehearse-done.result.modules;
      carried = c.rehearse-done.new.carried;
      levels = c.rehearse-done.new.levels;
    })
    c.rehearse-done.result.reply =
    rw c.power_up-table.ensures at c.rehearse-done.ensures in
    let replied : c.rehearse-done.result.reply ≡ library_reply (lent_again) (small_again) (roomy) =
    (promise).replies in
    let done = promise in
    refused-by-library (lent_again) (small_again) (roomy) c.rehearse-done.result.reply
    c.refused-then-found-ne0.result _ _ (replied) c.if-found-ne0.true c.refused-then-found-ne0.ensures done.carried
    done.recorded

pub put_modules-requires : goal.put_modules-requires
put_modules-requires c =
    let lent_at : Lent =
    let a = c.args in
    record {
      request = asked a.bytes.now a.parts.now a.counts.now a.acks.now;
      carried = a.carried.now;
      levels = a.levels.now;
      modules = a.modules.now;
      seats = a.seats.now;
    } in
    let small : Bytes (lent_at).request.bytes =
    bytes_below (lent_at).request.bytes (λ i. omega (arith, c.shared_slice_known-1.given i)) in
    let lent_again : Lent =
    lent_at in
    let roomy : short_table (lent_again) ≡ false =
    c.if-modules-masters.false in
    let small_again : Bytes (lent_again).request.bytes =
    small in
    let promise : Arbitrates (lent_again).request
    (record {
      table = replicate max_masters (power_up 0 0);
      carried = (lent_again).carried;
      levels = (lent_again).levels;
    })
    (record {
      table = c.rehearse-done.result.modules;
      carried = c.rehearse-done.new.carried;
      levels = c.rehearse-done.new.levels;
    })
    c.rehearse-done.result.reply =
    rw c.power_up-table.ensures at c.rehearse-done.ensures in
    let replied : c.rehearse-done.result.reply ≡ library_reply (lent_again) (small_again) (roomy) =
    (promise).replies in
    let long-enough : (length (lent_again).request.counts ≤ length (lent_again).modules)
    × (length (lent_again).request.counts ≤ length (lent_again).seats) =
    let lent = lent_again in
    let masters = length lent.request.counts in
    let two = neither (ltb (length lent.modules) masters) (ltb (length lent.seats) masters) (roomy) in
    (ltb-false (length lent.modules) masters two.0, ltb-false (length lent.seats) masters two.1) in (
      masters-few (lent_again) (small_again) (roomy) c.rehearse-done.result.reply (replied) c.if-found-ne0.false,
      (long-enough).0,
    )

pub put_seats-requires : goal.put_seats-requires
put_seats-requires c =
    let lent_at : Lent =
    let a = c.args in
    record {
      request = asked a.bytes.now a.parts.now a.counts.now a.acks.now;
      carried = a.carried.now;
      levels = a.levels.now;
      modules = a.modules.now;
      seats = a.seats.now;
    } in
    let small : Bytes (lent_at).request.bytes =
    bytes_below (lent_at).request.bytes (λ i. omega (arith, c.shared_slice_known-1.given i)) in
    let lent_again : Lent =
    lent_at in
    let roomy : short_table (lent_again) ≡ false =
    c.if-modules-masters.false in
    let small_again : Bytes (lent_again).request.bytes =
    small in
    let promise : Arbitrates (lent_again).request
    (record {
      table = replicate max_masters (power_up 0 0);
      carried = (lent_again).carried;
      levels = (lent_again).levels;
    })
    (record {
      table = c.rehearse-done.result.modules;
      carried = c.rehearse-done.new.carried;
      levels = c.rehearse-done.new.levels;
    })
    c.rehearse-done.result.reply =
    rw c.power_up-table.ensures at c.rehearse-done.ensures in
    let replied : c.rehearse-done.result.reply ≡ library_reply (lent_again) (small_again) (roomy) =
    (promise).replies in
    let long-enough : (length (lent_again).request.counts ≤ length (lent_again).modules)
    × (length (lent_again).request.counts ≤ length (lent_again).seats) =
    let lent = lent_again in
    let masters = length lent.request.counts in
    let two = neither (ltb (length lent.modules) masters) (ltb (length lent.seats) masters) (roomy) in
    (ltb-false (length lent.modules) masters two.0, ltb-false (length lent.seats) masters two.1) in (
      masters-few (lent_again) (small_again) (roomy) c.rehearse-done.result.reply (replied) c.if-found-ne0.false,
      (long-enough).1,
    )

pub reply-requires : goal.reply-requires
reply-requires c =
    let lent_at : Lent =
    let a = c.args in
    record {
      request = asked a.bytes.now a.parts.now a.counts.now a.acks.now;
      carried = a.carried.now;
      levels = a.levels.now;
      modules = a.modules.now;
      seats = a.seats.now;
    } in
    let small : Bytes (lent_at).request.bytes =
    bytes_below (lent_at).request.bytes (λ i. omega (arith, c.shared_slice_known-1.given i)) in
    let lent_again : Lent =
    lent_at in
    let roomy : short_table (lent_again) ≡ false =
    c.if-modules-masters.false in
    let small_again : Bytes (lent_again).request.bytes =
    small in
    let promise : Arbitrates (lent_again).request
    (record {
      table = replicate max_masters (power_up 0 0);
      carried = (lent_again).carried;
      levels = (lent_again).levels;
    })
    (record {
      table = c.rehearse-done.result.modules;
      carried = c.rehearse-done.new.carried;
      levels = c.rehearse-done.new.levels;
    })
    c.rehearse-done.result.reply =
    rw c.power_up-table.ensures at c.rehearse-done.ensures in
    let replied : c.rehearse-done.result.reply ≡ library_reply (lent_again) (small_again) (roomy) =
    (promise).replies in
    answered-small (lent_again) (small_again) (roomy) c.rehearse-done.result.reply (replied) c.if-found-ne0.false

pub returns : goal.returns
returns c =
    let lent_at : Lent =
    let a = c.args in
    record {
      request = asked a.bytes.now a.parts.now a.counts.now a.acks.now;
      carried = a.carried.now;
      levels = a.levels.now;
      modules = a.modules.now;
      seats = a.seats.now;
    } in
    let small : Bytes (lent_at).request.bytes =
    bytes_below (lent_at).request.bytes (λ i. omega (arith, c.shared_slice_known-1.given i)) in
    let lent_again : Lent =
    lent_at in
    let roomy : short_table (lent_again) ≡ false =
    c.if-modules-masters.false in
    let small_again : Bytes (lent_again).request.bytes =
    small in
    let promise : Arbitrates (lent_again).request
    (record {
      table = replicate max_masters (power_up 0 0);
      carried = (lent_again).carried;
      levels = (lent_again).levels;
    })
    (record {
      table = c.rehearse-done.result.modules;
      carried = c.rehearse-done.new.carried;
      levels = c.rehearse-done.new.levels;
    })
    c.rehearse-done.result.reply =
    rw c.power_up-table.ensures at c.rehearse-done.ensures in
    let replied : c.rehearse-done.result.reply ≡ library_reply (lent_again) (small_again) (roomy) =
    (promise).replies in
    let done = promise in
    answered-by-library (lent_again) (small_again) (roomy) c.rehearse-done.result.reply c.reply.result
    c.rehearse-done.result.modules _ _ _ _ (replied) c.if-found-ne0.false c.reply.ensures done.stepped
    done.carried done.recorded c.put_modules.ensures c.put_seats.ensures done.follows
