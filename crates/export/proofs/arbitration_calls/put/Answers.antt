use mathlib.Core.Path.{◌≡◌, sym, ap, ◌∙◌}
use mathlib.Core.List.{map}
use Prim.Native.Nat.{◌≤◌, ◌<◌}
use native.Mathlib.Omega.{arith}
use lib.ListN.{length, get_or, length-map, get_or-map}
use Rattle.export.proofs.WrittenTable.{written_none, written-more, written-done}
use Rattle.export.proofs.arbitration_calls.put.Goals as goal

pub loop-i-init : goal.loop-i-init
loop-i-init g c = λ numbered made. written_none _ _

pub loop-i-preserved : goal.loop-i-preserved
loop-i-preserved g c = λ numbered made.
    let entries = c.args.entries.now in
    let room : length (map numbered entries) ≤ length c.args.table.now = rw length-map c.requires.room in
    let more : c.loop-i.i < length (map numbered entries) = rw length-map c.loop-i-test.true in
    let entry = c.index-entries-i.result in
    written-more _ _ _ _ room (c.loop-i.invariant numbered made) c.number.result (numbered entry) more
    (made.numbers _ _ c.number.ensures ∙ ap numbered c.index-entries-i.is ∙ sym (get_or-map numbered entries c.loop-i.i entry))

pub returns : goal.returns
returns g c = λ numbered made.
    let entries = c.args.entries.now in
    let room : length (map numbered entries) ≤ length c.args.table.now = rw length-map c.requires.room in
    let all : length (map numbered entries) ≤ c.loop-i.i = rw length-map (omega arith) in
    written-done _ _ _ _ room (c.loop-i.invariant numbered made) all
