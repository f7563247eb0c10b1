-- An instant's pass and effect, together, are the script that it spells.
use Prim.Native.Nat.{ℕ, ◌+◌, ◌-◌, ◌*◌, ◌<◌, ◌≤◌}
use mathlib.Core.Path.{◌≡◌, refl, sym, ap, ◌∙◌}
use mathlib.Core.Bool.{Bool, true, false, cond, ◌&&◌}
use mathlib.Core.List.{List, [], ◌∷◌, ◌++◌, map, append-nil}
use native.Mathlib.Numerals.{add-one}
use native.Mathlib.Omega.{arith}
use borrow.Author.Tests.{lt-ltb}
use mir.Val.{bool_byte}
use lib.Dec.{eqb, ltb}
use lib.ListN.{length, set, take, replicate, length-take}
use lib.Seq.{take-suc-set}
use Rattle.laws.specs.Search.{any}
use Rattle.laws.proofs.Lists.{map-map, map-alike, everyone}
use Rattle.bits.specs.Positions.{shift_in, on}
use Rattle.levels.specs.Levels.{sda}
use Rattle.usi_registers.specs.Registers.{USICTL1, USICNT, USIAL}
use Rattle.usi.specs.declared.Usi.{Usi}
use Rattle.usi.specs.Module.{pulls_scl, pulls_sda}
use Rattle.usi.specs.Step.{module_of, tick}
use Rattle.usi.proofs.Clearing.{tick-flags}
use Rattle.arbitration_rules.specs.Limits.{max_masters, max_length}
use Rattle.arbitration_rules.specs.Masters.{Master, still_in, losers, applied, judged}
use Rattle.arbitration_rules.specs.Run.{Bus, with_masters, perform, performed}
use Rattle.arbitration_rules.specs.Run as run
use Rattle.arbitration_rules.specs.Run.{samples, records, pulls, judges, takes, carries}
use Rattle.arbitration_rules.proofs.Phases.{perform-append}
use Rattle.arbitration_pass.specs.declared.instants.Operation.{Operation}
use Rattle.arbitration_pass.specs.declared.instants.Operation.TheVariants.{Sample, Heed}
use Rattle.arbitration_members.specs.declared.members.Members.{Members}
use Rattle.arbitration_pass.specs.declared.pass.Pass.{Pass}
use Rattle.arbitration_run.specs.declared.wire.Wire.{Wire}
use Rattle.arbitration_pass.specs.Instants as instants
use Rattle.arbitration_members.specs.Members as members
use Rattle.arbitration_pass.specs.Pass.{registers, passed, seen}
use Rattle.arbitration_run.specs.Wire as wires
use Rattle.arbitration_turns.proofs.View.{join, masters_from, Treats}
use Rattle.arbitration_turns.proofs.Scripts.{of_operation, of_tick, further, further-is}
use Rattle.arbitration_turns.proofs.Treatment.{written_by, ticked_by, sampled_by, writes_are, ticks-are, passing}
use Rattle.arbitration_turns.proofs.Treatment.{treats-sample, Plain, treats-plain, treats-heed}
use Rattle.arbitration_turns.proofs.Pieces.{bus_at, Sized, any-module, view-judged, pass_alone}

-- the wire shows what the modules pull
pub record Fresh (count : ℕ) (table : List Usi) (wire : Wire) : Type 0 where
  pub of-scl : wire.scl ≡ any pulls_scl (take count table)
  pub of-sda : wire.sda ≡ any pulls_sda (take count table)

-- one more stored
one-more : (list : List ℕ) (i value : ℕ) → i < length list
    → take (i + 1) (set list i value) ≡ take i list ++ value ∷ []
one-more list i value less = rw add-one (take-suc-set list i value less)

-- buses with the same masters, and so on
pub same-bus : {one other : Bus} → one.masters ≡ other.masters → one.pull ≡ other.pull → one.level ≡ other.level
    → one.byte ≡ other.byte → one.levels ≡ other.levels → one.carried ≡ other.carried → one ≡ other
same-bus {one} {other} m p l b ls c =
    ap (λ (x : List Master). make x one.pull one.level one.byte one.levels one.carried) m
    ∙ ap (λ (x : Bool). make other.masters x one.level one.byte one.levels one.carried) p
    ∙ ap (λ (x : ℕ). make other.masters other.pull x one.byte one.levels one.carried) l
    ∙ ap (λ (x : ℕ). make other.masters other.pull other.level x one.levels one.carried) b
    ∙ ap (λ (x : List ℕ). make other.masters other.pull other.level other.byte x one.carried) ls
    ∙ ap (λ (x : List ℕ). make other.masters other.pull other.level other.byte other.levels x) c
  where
    make : List Master → Bool → ℕ → ℕ → List ℕ → List ℕ → Bus
    make masters pull level byte levels carried =
        record {
          masters = masters;
          pull = pull;
          level = level;
          byte = byte;
          levels = levels;
          carried = carried;
        }

judged-ticked : (position : ℕ) (ticks : Bool) (usi : Usi) (contending lost : Bool) (before : ℕ)
    → judged position (ticked_by ticks (join usi contending lost before))
    ≡ ticked_by ticks (judged position (join usi contending lost before))
unfolding judged
judged-ticked position true usi contending lost before =
    rw (tick-flags usi) (go (contending && on usi.usictl1 USIAL))
  where
    go : (loses : Bool)
        → cond loses (join (module_of (tick usi)) false true position)
        (join (module_of (tick usi)) contending lost before)
        ≡ ticked_by true (cond loses (join usi false true position) (join usi contending lost before))
    go true = refl
    go false = refl
judged-ticked position false usi contending lost before = refl

module _ (messages : List (List ℕ)) (count : ℕ) (few : count ≤ max_masters) (stood : Members) (sized : Sized stood)
    (wire : Wire) (table : List Usi) (fresh : Fresh count table wire) (ticks : Bool) (sent : ℕ)
    (carried levels : List ℕ) where
  abbrev masters : List Master
  masters = masters_from (take count table) stood.contending stood.lost stood.positions

  abbrev before : Bus
  before = bus_at count table stood wire sent carried levels

  abbrev pass : Operation → Pass
  pass operation =
      passing ticks (wires.shown wire) stood.contending stood.lost stood.bytes operation

  abbrev after : Operation → List Usi
  after operation = passed count (pass operation) table

  -- what is sampled is the level of the wire
  level-is : wires.shown wire ≡ run.wire wire.pull masters
  unfolding run.wire
  level-is =
      let size = length-take count table in
      let c : length (take count table) ≤ length stood.contending = omega (arith, size, sized.of-contending) in
      let l : length (take count table) ≤ length stood.lost = omega (arith, size, sized.of-lost) in
      let p : length (take count table) ≤ length stood.positions = omega (arith, size, sized.of-positions) in
      rw (
        any-module pulls_scl (take count table) stood.contending stood.lost stood.positions c l p,
        any-module pulls_sda (take count table) stood.contending stood.lost stood.positions c l p,
        ← fresh.of-scl,
        ← fresh.of-sda,
      )

  -- registers written, by a script that does to each master what the pass does
  turned-writes : (operation : Operation) (wrote : Master → Master)
      → Treats (pass operation) (λ master byte. ticked_by ticks (wrote master)) → instants.samples operation ≡ false
      → (script : List run.Instant) → perform messages script before ≡ with_masters (map wrote masters) before
      → bus_at count (after operation) stood
      (wires.saw operation (seen count (after operation)) wire) sent carried levels
      ≡ perform messages (script ++ [] ++ of_tick ticks) before
  turned-writes operation wrote treats no-sample script does =
      let treated =
      pass_alone count few stood.positions sized.of-positions (pass operation)
      (λ (m : Master). ticked_by ticks (wrote m)) treats table sized.of-contending sized.of-lost
      sized.of-bytes in
      same-bus
      (treated ∙ sym (map-map (ticked_by ticks) wrote masters))
      refl (ap (λ (b : Bool). cond b (wires.shown wire) wire.level) no-sample) refl refl refl
      ∙ sym
      (perform-append messages (script ++ []) (of_tick ticks) before
      ∙ ticks-are messages ticks (perform messages (script ++ []) before)
      ∙ ap (λ (bus : Bus). with_masters (map (ticked_by ticks) bus.masters) bus)
      (ap (λ (whole : List run.Instant). perform messages whole before) (append-nil script) ∙ does))

  -- the same for all still in
  pub turned_plain : (operation : Operation)
      → Plain ticks (wires.shown wire) stood.contending stood.lost stood.bytes operation
      → (index : ℕ) → of_operation operation index ≡ run.writes still_in (registers operation 0)
      → bus_at count (after operation) stood
      (wires.saw operation (seen count (after operation)) wire) sent carried levels
      ≡ perform messages (of_operation operation index ++ [] ++ of_tick ticks) before
  turned_plain operation plain index spells =
      turned-writes operation (written_by still_in (registers operation 0))
      (treats-plain ticks (wires.shown wire) stood.contending stood.lost stood.bytes operation plain)
      plain.no-sample (of_operation operation index)
      (ap (λ (script : List run.Instant). perform messages script before) spells
      ∙ writes_are messages still_in (registers operation 0) before)

  -- at a repeated START, and by who lost
  pub turned-heed : (index : ℕ)
      → bus_at count (after Heed) stood (wires.saw Heed (seen count (after Heed)) wire) sent carried levels
      ≡ perform messages (of_operation Heed index ++ [] ++ of_tick ticks) before
  turned-heed index =
      let cleared = written_by still_in (registers Heed 0) in
      let losing : List (ℕ × ℕ) = (USICTL1, 0x49) ∷ (USICNT, 0x80) ∷ [] in
      turned-writes Heed (λ (m : Master). written_by losers losing (cleared m))
      (treats-heed ticks (wires.shown wire) stood.contending stood.lost stood.bytes) refl
      (of_operation Heed index)
      (perform-append messages (run.writes still_in (registers Heed 0)) (run.writes losers losing) before
      ∙ ap (perform messages (run.writes losers losing)) (writes_are messages still_in (registers Heed 0) before)
      ∙ writes_are messages losers losing (with_masters (map cleared masters) before)
      ∙ ap (λ (ms : List Master). with_masters ms before) (map-map (written_by losers losing) cleared masters))

  -- a sample, and what follows it
  sampled-masters : masters_from (take count (after Sample)) stood.contending stood.lost stood.positions
      ≡ map (ticked_by ticks) (map (sampled_by (wires.shown wire)) masters)
  sampled-masters =
      pass_alone count few stood.positions sized.of-positions (pass Sample)
      (λ (m : Master). ticked_by ticks (sampled_by (wires.shown wire) m))
      (treats-sample ticks (wires.shown wire) stood.contending stood.lost stood.bytes) table
      sized.of-contending sized.of-lost sized.of-bytes
      ∙ sym (map-map (ticked_by ticks) (sampled_by (wires.shown wire)) masters)

  after-sample : (script : List run.Instant)
      → perform messages (samples ∷ script ++ of_tick ticks) before
      ≡ with_masters (map (ticked_by ticks) (perform messages script
      (run.sampled_at (wires.shown wire) before)).masters)
      (perform messages script (run.sampled_at (wires.shown wire) before))
  unfolding performed
  after-sample script =
      perform-append messages (samples ∷ script) (of_tick ticks) before
      ∙ ticks-are messages ticks (perform messages (samples ∷ script) before)
      ∙ ap (λ (level : ℕ).
      let bus = perform messages script (run.sampled_at level before) in
      with_masters (map (ticked_by ticks) bus.masters) bus)
      (sym level-is)

  -- the level now sampled
  abbrev level : ℕ
  level = wires.shown wire

  abbrev saw : Wire
  saw = wires.saw Sample (seen count (after Sample)) wire

  pub turned-release : (index acknowledge : ℕ)
      → bus_at count (after Sample) stood (wires.pulling false saw) sent carried levels
      ≡ perform messages (samples ∷ pulls false ∷ [] ++ of_tick ticks) before
  unfolding performed applied
  turned-release index acknowledge =
      same-bus sampled-masters refl refl refl refl refl ∙ sym (after-sample (pulls false ∷ []))

  pub turned-acknowledge : (index acknowledge : ℕ)
      → bus_at count (after Sample) stood (wires.pulling (eqb acknowledge 0) saw) sent carried levels
      ≡ perform messages (samples ∷ pulls (eqb acknowledge 0) ∷ [] ++ of_tick ticks) before
  unfolding performed applied
  turned-acknowledge index acknowledge =
      same-bus sampled-masters refl refl refl refl refl ∙ sym (after-sample (pulls (eqb acknowledge 0) ∷ []))

  -- a level stored
  module _ (room : wire.recorded < length levels) where
    stored : take (cond (ltb wire.recorded (length levels)) (wire.recorded + 1) wire.recorded)
        (set levels wire.recorded level)
        ≡ take wire.recorded levels ++ level ∷ []
    stored = rw (lt-ltb wire.recorded (length levels) room) (one-more levels wire.recorded level room)

    pub turned-record : (index acknowledge : ℕ)
        → bus_at count (after Sample) stood (wires.noted (length levels) saw) sent carried (wires.stored saw levels)
        ≡ perform messages (samples ∷ records ∷ [] ++ of_tick ticks) before
    unfolding performed applied
    turned-record index acknowledge =
        same-bus sampled-masters refl refl refl stored refl ∙ sym (after-sample (records ∷ []))

    -- a bit judged and taken, with the last one the byte
    module _ (index bit : ℕ) (early : index < max_length) (small : wire.byte < 128) where
      place : members.position_of index bit ≡ further (9 * index) bit
      place = rw (lt-ltb index max_length early) (sym (further-is (9 * index) bit))

      lost-now : (m : Master) → judged (members.position_of index bit) (ticked_by ticks m)
          ≡ ticked_by ticks (judged (further (9 * index) bit) m)
      lost-now m =
          rw place (judged-ticked (further (9 * index) bit) ticks m.usi m.contending m.lost m.position)

      judged-masters : masters_from (take count (after Sample))
          (members.judged (members.position_of index bit) (seen count (after Sample)).al stood).contending
          (members.judged (members.position_of index bit) (seen count (after Sample)).al stood).lost
          (members.judged (members.position_of index bit) (seen count (after Sample)).al stood).positions
          ≡ map (ticked_by ticks) (map (judged (further (9 * index) bit)) (map (sampled_by level) masters))
      unfolding seen members.judged
      judged-masters =
          view-judged (members.position_of index bit) (take count (after Sample)) stood.contending stood.lost
          (replicate (max_masters - count) false) stood.positions
          ∙ ap (map (judged (members.position_of index bit))) sampled-masters
          ∙ map-map (judged (members.position_of index bit)) (ticked_by ticks) (map (sampled_by level) masters)
          ∙ map-alike (everyone lost-now (map (sampled_by level) masters))
          ∙ sym (map-map (ticked_by ticks) (judged (further (9 * index) bit)) (map (sampled_by level) masters))

      byte-is : shift_in wire.byte (sda level) ≡ 2 * wire.byte + bool_byte (sda level)
      byte-is = omega (arith, small)

      abbrev judged_now : Members
      judged_now = members.judged (members.position_of index bit) (seen count (after Sample)).al stood

      abbrev took_bit : Wire
      took_bit = wires.taken (wires.noted (length levels) saw)

      pub turned_bit : eqb bit 7 ≡ false
          → bus_at count (after Sample) judged_now took_bit sent carried (wires.stored saw levels)
          ≡ perform messages
          (samples ∷ records ∷ judges (further (9 * index) bit) ∷ takes ∷ [] ++ of_tick ticks) before
      unfolding performed applied
      turned_bit more =
          same-bus judged-masters refl refl byte-is stored refl
          ∙ sym (after-sample (records ∷ judges (further (9 * index) bit) ∷ takes ∷ []))

      pub turned-last : sent < length carried
          → bus_at count (after Sample) judged_now took_bit (sent + 1)
          (set carried sent (shift_in wire.byte (sda level))) (wires.stored saw levels)
          ≡ perform messages
          (samples ∷ records ∷ judges (further (9 * index) bit) ∷ takes ∷ carries ∷ [] ++ of_tick ticks) before
      unfolding performed applied
      turned-last space =
          same-bus judged-masters refl refl byte-is stored
          (one-more carried sent (shift_in wire.byte (sda level)) space
          ∙ ap (λ (byte : ℕ). take sent carried ++ byte ∷ []) byte-is)
          ∙ sym (after-sample (records ∷ judges (further (9 * index) bit) ∷ takes ∷ carries ∷ []))
