-- A byte loaded, and masters that let go: the pass and what follows are the script that they spell.
use Prim.Native.Nat.{ℕ, ◌-◌, ◌≤◌}
use mathlib.Core.Path.{◌≡◌, refl, sym, ap, ◌∙◌}
use mathlib.Core.Bool.{Bool, true, false}
use mathlib.Core.List.{List, [], ◌∷◌, ◌++◌, map, zip_with}
use native.Mathlib.Omega.{arith}
use lib.ListN.{length, take, replicate, length-take, length-map}
use lib.Seq.{take_all}
use Rattle.laws.proofs.Lists.{map-map, map-alike, everyone, map-zip_with, zip_with-alike, zip_with-front, zip_with-by}
use Rattle.usi_registers.specs.Registers.{USICTL0, USICNT, USISRL}
use Rattle.usi.specs.declared.Usi.{Usi}
use Rattle.arbitration_rules.specs.Limits.{max_masters}
use Rattle.arbitration_rules.specs.Masters.{Master, still_in, beaten, Write, applied, settled}
use Rattle.arbitration_rules.specs.Outcome.{byte_at}
use Rattle.arbitration_rules.specs.Run.{Bus, with_masters, perform, performed, writes, loads, settles}
use Rattle.arbitration_rules.specs.Run as run
use Rattle.arbitration_rules.proofs.Phases.{perform-append}
use Rattle.arbitration_pass.specs.declared.instants.Operation.{Operation}
use Rattle.arbitration_pass.specs.declared.instants.Operation.TheVariants.{Load, LetGo}
use Rattle.arbitration_members.specs.declared.members.Members.{Members}
use Rattle.arbitration_pass.specs.declared.pass.Pass.{Pass}
use Rattle.arbitration_run.specs.declared.wire.Wire.{Wire}
use Rattle.arbitration_members.specs.Members as members
use Rattle.arbitration_pass.specs.Pass.{registers, passed, seen}
use Rattle.arbitration_run.specs.Wire as wires
use Rattle.arbitration_turns.proofs.View.{join, masters_from}
use Rattle.arbitration_turns.proofs.Scripts.{of_tick}
use Rattle.arbitration_turns.proofs.Treatment.{written_by, ticked_by, writes-first, writes_are, ticks-are}
use Rattle.arbitration_turns.proofs.Treatment.{passing, treats-load, treats-let-go}
use Rattle.arbitration_turns.proofs.Pieces.{bus_at, Sized, as_many, view-settled, pass-view, pass_alone}
use Rattle.arbitration_turns.proofs.Turned.{same-bus}
use Rattle.arbitration_turns.proofs.Columns.{column}

module _ (messages : List (List ℕ)) (count : ℕ) (few : count ≤ max_masters) (stood : Members) (sized : Sized stood)
    (wire : Wire) (table : List Usi) (ticks : Bool) (sent : ℕ) (carried levels : List ℕ) where
  abbrev masters : List Master
  masters = masters_from (take count table) stood.contending stood.lost stood.positions

  abbrev before : Bus
  before = bus_at count table stood wire sent carried levels

  abbrev pass : Operation → Pass
  pass operation =
      passing ticks (wires.shown wire) stood.contending stood.lost stood.bytes operation

  abbrev after : Operation → List Usi
  after operation = passed count (pass operation) table

  few-masters : length masters ≤ count
  few-masters =
      let size = length-take count table in
      let many =
      as_many (take count table) stood.contending stood.lost stood.positions
      (omega (arith, size, sized.of-contending)) (omega (arith, size, sized.of-lost))
      (omega (arith, size, sized.of-positions)) in
      omega (arith, many, size)

  -- the byte at an index of each message
  module _ (index : ℕ) (many : length messages ≡ count) (loaded : stood.bytes ≡ column (byte_at index) 0 messages)
    where
      abbrev byte : List ℕ → ℕ
      byte = byte_at index

      abbrev ready : List (ℕ × ℕ)
      ready = (USICTL0, 0xca) ∷ (USICNT, 0x08) ∷ []

      abbrev loading : Master → ℕ → Master
      loading master value = ticked_by ticks (written_by still_in (registers Load value) master)

      by-messages : zip_with loading masters stood.bytes ≡ zip_with (λ m message. loading m (byte message)) masters
          messages
      by-messages =
          let whole : take max_masters messages ≡ messages = take_all max_masters messages (omega arith) in
          ap (zip_with loading masters) loaded
          ∙ zip_with-front loading masters (map byte (take max_masters messages))
          (replicate (max_masters - length messages) 0)
          (omega (arith, few-masters, length-map (take max_masters messages) byte, ap (length {A = List ℕ}) whole))
          ∙ ap (λ (list : List (List ℕ)). zip_with loading masters (map byte list)) whole
          ∙ zip_with-by loading byte masters messages

      one-load : (m : Master) (message : List ℕ) → loading m (byte message)
          ≡ ticked_by ticks (written_by still_in ready (applied still_in (Write USISRL (byte message)) m))
      one-load m message =
          ap (ticked_by ticks)
          (sym (writes-first still_in (USISRL, byte message) ready m.usi m.contending m.lost m.position))

      pub turned-load : bus_at count (after Load) stood (wires.begun (wires.saw Load (seen count (after Load)) wire))
          sent
          carried levels
          ≡ perform messages (loads index ∷ writes still_in ready ++ [] ++ of_tick ticks) before
      unfolding performed
      turned-load =
          let first = zip_with (λ m message. applied still_in (Write USISRL (byte message)) m) masters messages in
          let loads-them = run.performed messages (loads index) before in
          same-bus
          (pass-view count few stood.positions sized.of-positions (pass Load) loading
          (treats-load ticks (wires.shown wire) stood.contending stood.lost stood.bytes) table
          sized.of-contending sized.of-lost sized.of-bytes
          ∙ by-messages
          ∙ zip_with-alike (λ m message. loading m (byte message))
          (λ m message. ticked_by ticks (written_by still_in ready (applied still_in (Write USISRL (byte message)) m)))
          one-load masters messages
          ∙ sym
          (map-map (ticked_by ticks) (written_by still_in ready) first
          ∙ map-zip_with (λ m. ticked_by ticks (written_by still_in ready m))
          (λ m message. applied still_in (Write USISRL (byte message)) m) masters messages))
          refl refl refl refl refl
          ∙ sym
          (perform-append messages (loads index ∷ writes still_in ready ++ []) (of_tick ticks) before
          ∙ ticks-are messages ticks (perform messages (loads index ∷ writes still_in ready ++ []) before)
          ∙ ap (λ (bus : Bus). with_masters (map (ticked_by ticks) bus.masters) bus)
          (writes_are messages still_in ready loads-them))

  -- who lost lets go of both lines
  abbrev yields : List (ℕ × ℕ)
  yields = (USICTL0, 0xc0) ∷ (USICNT, 0x80) ∷ []

  abbrev rests : List (ℕ × ℕ)
  rests = registers LetGo 0

  let-go-settled : (usi : Usi) (contending lost : Bool) (position : ℕ)
      → settled (ticked_by ticks
      (written_by still_in rests (written_by beaten yields (join usi contending lost position))))
      ≡ ticked_by ticks (written_by still_in rests
      (settled (written_by beaten yields (join usi contending lost position))))
  let-go-settled usi true true position = refl
  let-go-settled usi true false position = refl
  let-go-settled usi false true position = refl
  let-go-settled usi false false position = refl

  pub turned-let-go : bus_at count (after LetGo) (members.settled stood)
      (wires.saw LetGo (seen count (after LetGo)) wire)
      sent carried levels
      ≡ perform messages (writes beaten yields ++ settles ∷ writes still_in rests ++ [] ++ of_tick ticks) before
  unfolding performed members.settled
  turned-let-go =
      let gone = map (written_by beaten yields) masters in
      let script = writes beaten yields ++ settles ∷ writes still_in rests ++ [] in
      same-bus
      (view-settled (take count (after LetGo)) stood.contending stood.lost stood.positions max_masters
      sized.of-lost
      ∙ ap (map settled)
      (pass_alone count few stood.positions sized.of-positions (pass LetGo)
      (λ (m : Master). ticked_by ticks (written_by still_in rests (written_by beaten yields m)))
      (treats-let-go ticks (wires.shown wire) stood.contending stood.lost stood.bytes) table
      sized.of-contending sized.of-lost sized.of-bytes)
      ∙ map-map settled (λ (m : Master). ticked_by ticks (written_by still_in rests (written_by beaten yields m))) masters
      ∙ map-alike
      (everyone (λ (m : Master). let-go-settled m.usi m.contending m.lost m.position) masters)
      ∙ sym
      (map-map (ticked_by ticks) (written_by still_in rests) (map settled gone)
      ∙ map-map (λ (m : Master). ticked_by ticks (written_by still_in rests m)) settled gone
      ∙ map-map (λ (m : Master). ticked_by ticks (written_by still_in rests (settled m))) (written_by beaten yields)
      masters))
      refl refl refl refl refl
      ∙ sym
      (perform-append messages script (of_tick ticks) before
      ∙ ticks-are messages ticks (perform messages script before)
      ∙ ap (λ (bus : Bus). with_masters (map (ticked_by ticks) bus.masters) bus)
      (perform-append messages (writes beaten yields) (settles ∷ writes still_in rests ++ []) before
      ∙ ap (perform messages (settles ∷ writes still_in rests ++ [])) (writes_are messages beaten yields before)
      ∙ writes_are messages still_in rests (with_masters (map settled gone) before)))
