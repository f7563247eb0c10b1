-- What every turn keeps: a place for each master, the lines that the modules pull, and the rest of table and buffers.
use Prim.Native.Nat.{ℕ, zero, suc, ◌+◌, ◌-◌, ◌<◌, ◌≤◌}
use mathlib.Core.Path.{◌≡◌, refl, sym, ap, ◌∙◌}
use mathlib.Core.Bool.{Bool, true, false, cond, not, ◌&&◌, ◌||◌}
use mathlib.Core.List.{List, [], ◌∷◌, map}
use native.Mathlib.Omega.{arith}
use borrow.Author.Tests.{ltb-true, ltb-false}
use lib.Dec.{eqb, ltb}
use lib.ListN.{length, set, take, drop, replicate, length-set, length-take, length-map, length-append}
use lib.ListN.{length-replicate}
use lib.Seq.{drop-drop, drop-set-lt, set_out}
use Rattle.laws.proofs.Lists.{zip_with-length}
use Rattle.usi.specs.declared.Usi.{Usi}
use Rattle.arbitration_rules.specs.Limits.{max_masters}
use Rattle.arbitration_pass.specs.declared.instants.Operation.{Operation}
use Rattle.arbitration_pass.specs.declared.instants.Effect.{Effect}
use Rattle.arbitration_pass.specs.declared.instants.Effect.TheVariants.{Nothing, Begin, Release, Acknowledge, Record}
use Rattle.arbitration_pass.specs.declared.instants.Effect.TheVariants.{Bit, Settle}
use Rattle.arbitration_members.specs.declared.members.Members.{Members}
use Rattle.arbitration_pass.specs.declared.pass.Pass.{Pass}
use Rattle.arbitration_run.specs.declared.wire.Wire.{Wire}
use Rattle.arbitration_members.specs.Members as members
use Rattle.arbitration_pass.specs.Pass.{passed_from, passed, seen, lost_by}
use Rattle.arbitration_run.specs.Wire as wires
use Rattle.arbitration_run.specs.Sequence.{sent_after, carried_by}
use Rattle.arbitration_turns.proofs.Pieces.{Sized}
use Rattle.arbitration_turns.proofs.Turned.{Fresh}
use Rattle.arbitration_turns.proofs.Counted.{Counted, counted-after}

-- a buffer of which so much is written, the rest as it was
pub record Written (buffer buffer₀ : List ℕ) (count : ℕ) : Type 0 where
  pub long : length buffer ≡ length buffer₀
  pub within : count ≤ length buffer
  pub rest : drop count buffer ≡ drop count buffer₀

pub written_none : (buffer : List ℕ) → Written buffer buffer 0
written_none buffer = record { long = refl; within = omega arith; rest = refl }

written-more : (buffer buffer₀ : List ℕ) (count value : ℕ) → Written buffer buffer₀ count → count < length buffer
    → Written (set buffer count value) buffer₀ (count + 1)
written-more buffer buffer₀ count value so room =
    let same = length-set buffer count value in
    record {
      long = same ∙ so.long;
      within = omega (arith, same, room);
      rest =
          drop-set-lt (count + 1) buffer count value (omega arith)
          ∙ sym (shift buffer)
          ∙ ap (drop 1) so.rest
          ∙ shift buffer₀;
    }
  where
    shift : (list : List ℕ) → drop 1 (drop count list) ≡ drop (count + 1) list
    shift list = drop-drop 1 count list

-- a table of which the first modules are stepped
module _ (pass : Pass) where
  length_from : (i count : ℕ) (table : List Usi) → length (passed_from pass i count table) ≡ length table
  length_from i zero table = refl
  length_from i (suc count) [] = refl
  length_from i (suc count) (usi ∷ table) = ap suc (length_from (suc i) count table)

  drop-from : (i count : ℕ) (table : List Usi) → drop count (passed_from pass i count table) ≡ drop count table
  drop-from i zero table = refl
  drop-from i (suc count) [] = refl
  drop-from i (suc count) (usi ∷ table) = drop-from (suc i) count table

  pub length-passed : (count : ℕ) (table : List Usi) → length (passed count pass table) ≡ length table
  unfolding passed
  length-passed count table = length_from 0 count table

  pub drop-passed : (count : ℕ) (table : List Usi) → drop count (passed count pass table) ≡ drop count table
  unfolding passed
  drop-passed count table = drop-from 0 count table

-- what an effect does to what the masters know
length-al : (count : ℕ) (table : List Usi) → count ≤ max_masters → count ≤ length table
    → length (seen count table).al ≡ max_masters
unfolding seen
length-al count table few enough =
    omega (
      arith,
      length-append (map lost_by (take count table)) (replicate (max_masters - count) false),
      length-map (take count table) lost_by,
      length-take count table,
      length-replicate {A = Bool} (max_masters - count) false,
      few,
      enough,
    )

sized-after : (effect : Effect) (al : List Bool) (index : ℕ) (stood : Members) → length al ≡ max_masters → Sized stood
    → Sized (members.affected effect al index stood)
unfolding members.judged members.settled
sized-after Nothing al index stood size sized = sized
sized-after Begin al index stood size sized = sized
sized-after Release al index stood size sized = sized
sized-after Acknowledge al index stood size sized = sized
sized-after Record al index stood size sized = sized
sized-after (Bit bit) al index stood size sized =
    let losing = zip_with-length (λ still set. still && set) stood.contending al in
    record {
      of-contending =
          omega (
            arith,
            zip_with-length (λ still set. still && not set) stood.contending al,
            sized.of-contending,
            size,
          );
      of-lost =
          omega (
            arith,
            zip_with-length (λ before loses. before || loses) stood.lost (members.losing stood.contending al),
            losing,
            sized.of-contending,
            sized.of-lost,
            size,
          );
      of-positions =
          omega (
            arith,
            zip_with-length (members.lost_at (members.position_of index bit)) stood.positions
                (members.losing stood.contending al),
            losing,
            sized.of-contending,
            sized.of-positions,
            size,
          );
      of-bytes = sized.of-bytes;
    }
sized-after Settle al index stood size sized =
    record {
      of-contending = sized.of-contending;
      of-lost = length-replicate {A = Bool} max_masters false;
      of-positions = sized.of-positions;
      of-bytes = sized.of-bytes;
    }

pub bytes-stay : (effect : Effect) (al : List Bool) (index : ℕ) (stood : Members)
    → (members.affected effect al index stood).bytes ≡ stood.bytes
unfolding members.judged members.settled
bytes-stay Nothing al index stood = refl
bytes-stay Begin al index stood = refl
bytes-stay Release al index stood = refl
bytes-stay Acknowledge al index stood = refl
bytes-stay Record al index stood = refl
bytes-stay (Bit bit) al index stood = refl
bytes-stay Settle al index stood = refl

-- what an effect does to the wire
fresh-after : (effect : Effect) (room : ℕ) (acknowledge : Bool) (count : ℕ) (table : List Usi) (wire : Wire)
    → Fresh count table wire → Fresh count table (wires.affected room effect acknowledge wire)
fresh-after Nothing room acknowledge count table wire fresh = fresh
fresh-after Begin room acknowledge count table wire fresh =
    record { of-scl = fresh.of-scl; of-sda = fresh.of-sda }
fresh-after Release room acknowledge count table wire fresh =
    record { of-scl = fresh.of-scl; of-sda = fresh.of-sda }
fresh-after Acknowledge room acknowledge count table wire fresh =
    record { of-scl = fresh.of-scl; of-sda = fresh.of-sda }
fresh-after Record room acknowledge count table wire fresh =
    record { of-scl = fresh.of-scl; of-sda = fresh.of-sda }
fresh-after (Bit bit) room acknowledge count table wire fresh =
    record { of-scl = fresh.of-scl; of-sda = fresh.of-sda }
fresh-after Settle room acknowledge count table wire fresh = fresh

saw-fresh : (operation : Operation) (count : ℕ) (table : List Usi) (wire : Wire)
    → Fresh count table (wires.saw operation (seen count table) wire)
unfolding seen
saw-fresh operation count table wire = record { of-scl = refl; of-sda = refl }

-- and to the buffers
stored-level : (levels levels₀ : List ℕ) (wire : Wire) → Written levels levels₀ wire.recorded
    → Written (wires.stored wire levels) levels₀
    (cond (ltb wire.recorded (length levels)) (wire.recorded + 1) wire.recorded)
stored-level levels levels₀ wire so = go (ltb wire.recorded (length levels)) refl
  where
    go : (room : Bool) → ltb wire.recorded (length levels) ≡ room
        → Written (set levels wire.recorded wire.level) levels₀
        (cond room (wire.recorded + 1) wire.recorded)
    go true is = written-more levels levels₀ wire.recorded wire.level so
        (ltb-true wire.recorded (length levels) is)
    go false is = rw (set_out levels wire.recorded wire.level (ltb-false wire.recorded (length levels) is))
        so

levels-after : (effect : Effect) (acknowledge : Bool) (levels levels₀ : List ℕ) (wire : Wire)
    → Written levels levels₀ wire.recorded
    → Written (wires.recorded_in effect wire levels) levels₀
    (wires.affected (length levels) effect acknowledge wire).recorded
levels-after Nothing acknowledge levels levels₀ wire so = so
levels-after Begin acknowledge levels levels₀ wire so = so
levels-after Release acknowledge levels levels₀ wire so = so
levels-after Acknowledge acknowledge levels levels₀ wire so = so
levels-after Record acknowledge levels levels₀ wire so = stored-level levels levels₀ wire so
levels-after (Bit bit) acknowledge levels levels₀ wire so = stored-level levels levels₀ wire so
levels-after Settle acknowledge levels levels₀ wire so = so

carried-after : (effect : Effect) (byte sent : ℕ) (carried carried₀ : List ℕ) → Written carried carried₀ sent
    → Written (carried_by effect sent byte carried) carried₀ (sent_after effect (length carried) sent)
carried-after Nothing byte sent carried carried₀ so = so
carried-after Begin byte sent carried carried₀ so = so
carried-after Release byte sent carried carried₀ so = so
carried-after Acknowledge byte sent carried carried₀ so = so
carried-after Record byte sent carried carried₀ so = so
carried-after (Bit bit) byte sent carried carried₀ so = go (eqb bit 7) (ltb sent (length carried)) refl
  where
    go : (last room : Bool) → ltb sent (length carried) ≡ room
        → Written (cond last (set carried sent byte) carried) carried₀ (cond (last && room) (sent + 1) sent)
    go true true is = written-more carried carried₀ sent byte so (ltb-true sent (length carried) is)
    go true false is = rw (set_out carried sent byte (ltb-false sent (length carried) is)) so
    go false room is = so
carried-after Settle byte sent carried carried₀ so = so

-- all that does not depend on where in the run a turn is
pub record Kept (count : ℕ) (table₀ : List Usi) (sizes₀ carried₀ levels₀ : List ℕ) (stood : Members) (wire : Wire)
    (sent : ℕ) (table : List Usi) (carried levels : List ℕ) : Type 0 where
  pub sized : Sized stood
  pub counted : Counted count sizes₀ stood
  pub fresh : Fresh count table wire
  pub long : length table ≡ length table₀
  pub rest : drop count table ≡ drop count table₀
  pub of-carried : Written carried carried₀ sent
  pub of-levels : Written levels levels₀ wire.recorded

module _ (count : ℕ) (table₀ : List Usi) (few : count ≤ max_masters) (enough : count ≤ length table₀)
    (sizes₀ carried₀ levels₀ : List ℕ) where
  pub kept-turned : (pass : Pass) (effect : Effect) (operation : Operation) (index : ℕ) (acknowledge : Bool)
      (stood : Members) (wire : Wire) (sent : ℕ) (table : List Usi) (carried levels : List ℕ) (byte : ℕ)
      → length table ≡ length table₀ → drop count table ≡ drop count table₀
      → Sized stood → Counted count sizes₀ stood → Written carried carried₀ sent
      → Written levels levels₀ wire.recorded
      → let after = passed count pass table in
      let saw = wires.saw operation (seen count after) wire in
      Kept count table₀ sizes₀ carried₀ levels₀ (members.affected effect (seen count after).al index stood)
      (wires.affected (length levels) effect acknowledge saw) (sent_after effect (length carried) sent) after
      (carried_by effect sent byte carried) (wires.recorded_in effect saw levels)
  kept-turned pass effect operation index acknowledge stood wire sent table carried levels byte long rest sized counted
      c l =
      let after = passed count pass table in
      let size = length-passed pass count table in
      let saw = wires.saw operation (seen count after) wire in
      record {
        sized =
            sized-after effect (seen count after).al index stood
            (length-al count after few (omega (arith, size, long, enough))) sized;
        counted = counted-after count sizes₀ effect (seen count after).al index stood counted;
        fresh =
            fresh-after effect (length levels) acknowledge count after saw (saw-fresh operation count after wire);
        long = size ∙ long;
        rest = drop-passed pass count table ∙ rest;
        of-carried = carried-after effect byte sent carried carried₀ c;
        of-levels = levels-after effect acknowledge levels levels₀ saw l;
      }
