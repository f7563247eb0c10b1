-- The instants that occur, and for each of them: pass and effect together are the script that it spells.
use Prim.Native.Nat.{ℕ, ◌-◌, ◌/◌, ◌%◌, ◌<◌, ◌≤◌}
use mathlib.Core.Path.{◌≡◌, refl}
use mathlib.Core.Bool.{Bool, true, false, cond}
use mathlib.Core.List.{List}
use lib.Dec.{eqb, ltb}
use borrow.Author.Tests.{lt-ltb}
use lib.ListN.{length}
use Rattle.usi.specs.declared.Usi.{Usi}
use Rattle.arbitration_rules.specs.Limits.{max_masters, max_length}
use Rattle.arbitration_rules.specs.Masters.{still_in}
use Rattle.arbitration_rules.specs.Outcome.{byte_at}
use Rattle.arbitration_rules.specs.Run.{Bus, perform, writes}
use Rattle.arbitration_pass.specs.declared.instants.Operation.{Operation}
use Rattle.arbitration_pass.specs.declared.instants.Operation.TheVariants.{Pull, Clear, Load, LetGo, Lower, Raise, Enter, Sample, Heed}
use Rattle.arbitration_pass.specs.declared.instants.Operation.TheVariants.{Rest, Rise, Heed}
use Rattle.arbitration_pass.specs.declared.instants.Effect.{Effect}
use Rattle.arbitration_pass.specs.declared.instants.Effect.TheVariants.{Nothing, Begin, Release, Acknowledge, Record}
use Rattle.arbitration_pass.specs.declared.instants.Effect.TheVariants.{Bit, Settle}
use Rattle.arbitration_pass.specs.declared.instants.Instant.{Instant}
use Rattle.arbitration_pass.specs.declared.instants.Part.{Part}
use Rattle.arbitration_pass.specs.declared.instants.Part.TheVariants.{Entry, Opening, Restart, Byte, Closing}
use Rattle.arbitration_members.specs.declared.members.Members.{Members}
use Rattle.arbitration_run.specs.declared.wire.Wire.{Wire}
use Rattle.arbitration_pass.specs.Instants.{write, sample, turn, condition, instant}
use Rattle.arbitration_members.specs.Members as members
use Rattle.arbitration_pass.specs.Pass.{registers, passed, seen}
use Rattle.arbitration_run.specs.Wire as wires
use Rattle.arbitration_run.specs.Sequence.{sent_after, carried_by}
use Rattle.arbitration_turns.proofs.Scripts.{of_operation, spelled}
use Rattle.arbitration_turns.proofs.Treatment.{passing, Plain}
use Rattle.arbitration_turns.proofs.Pieces.{bus_at, Sized}
use Rattle.arbitration_turns.proofs.Turned.{Fresh, turned_plain, turned-release, turned-acknowledge}
use Rattle.arbitration_turns.proofs.Turned.{turned-heed, turned-record, turned_bit, turned-last}
use Rattle.arbitration_turns.proofs.Columns.{column}
use Rattle.arbitration_turns.proofs.Writing.{turned-load, turned-let-go}

-- operations that only write registers
pub data Writes : Operation → Type 0 where
  pull : Writes Pull
  clear : Writes Clear
  lower : Writes Lower
  raise : Writes Raise
  rest : Writes Rest
  rise : Writes Rise

spells : (operation : Operation) → Writes operation → (index : ℕ)
    → of_operation operation index ≡ writes still_in (registers operation 0)
spells Pull pull index = refl
spells Clear clear index = refl
spells Lower lower index = refl
spells Raise raise index = refl
spells Rest rest index = refl
spells Rise rise index = refl
spells Enter never index = elim never [ ]
spells Sample never index = elim never [ ]
spells Load never index = elim never [ ]
spells LetGo never index = elim never [ ]
spells Heed never index = elim never [ ]

plain : (ticks : Bool) (level : ℕ) (contending lost : List Bool) (bytes : List ℕ) (operation : Operation)
    → Writes operation → Plain ticks level contending lost bytes operation
plain ticks level contending lost bytes Pull pull =
    record { no-sample = refl; no-yield = refl; no-heed = refl; not-fresh = λ usi. refl; alike = λ byte. refl }
plain ticks level contending lost bytes Clear clear =
    record { no-sample = refl; no-yield = refl; no-heed = refl; not-fresh = λ usi. refl; alike = λ byte. refl }
plain ticks level contending lost bytes Lower lower =
    record { no-sample = refl; no-yield = refl; no-heed = refl; not-fresh = λ usi. refl; alike = λ byte. refl }
plain ticks level contending lost bytes Raise raise =
    record { no-sample = refl; no-yield = refl; no-heed = refl; not-fresh = λ usi. refl; alike = λ byte. refl }
plain ticks level contending lost bytes Rest rest =
    record { no-sample = refl; no-yield = refl; no-heed = refl; not-fresh = λ usi. refl; alike = λ byte. refl }
plain ticks level contending lost bytes Rise rise =
    record { no-sample = refl; no-yield = refl; no-heed = refl; not-fresh = λ usi. refl; alike = λ byte. refl }
plain ticks level contending lost bytes Enter never = elim never [ ]
plain ticks level contending lost bytes Sample never = elim never [ ]
plain ticks level contending lost bytes Load never = elim never [ ]
plain ticks level contending lost bytes LetGo never = elim never [ ]
plain ticks level contending lost bytes Heed never = elim never [ ]

-- the instants past set-up
pub data Allowed : Instant → Type 0 where
  writing : (operation : Operation) (ticks : Bool) → Writes operation → Allowed (write operation ticks)
  releasing : (ticks : Bool) → Allowed (sample Release ticks)
  acknowledging : (ticks : Bool) → Allowed (sample Acknowledge ticks)
  recording : (ticks : Bool) → Allowed (sample Record ticks)
  taking : (bit : ℕ) (ticks : Bool) → Allowed (sample (Bit bit) ticks)
  loading : (ticks : Bool) → Allowed (record { operation = Load; ticks = ticks; effect = Begin })
  heeding : (ticks : Bool) → Allowed (write Heed ticks)
  letting_go : (ticks : Bool) → Allowed (record { operation = LetGo; ticks = ticks; effect = Settle })

-- any part but set-up
abbrev pub Inside : Part → Type 0
Inside Entry = ⊥
Inside Opening = Unit {0}
Inside Restart = Unit {0}
Inside Byte = Unit {0}
Inside Closing = Unit {0}

either : (test : Bool) (one other : Instant) → Allowed one → Allowed other → Allowed (cond test one other)
either true one other first second = first
either false one other first second = second

turn-allowed : (at : ℕ) (between end : Effect) (ticks : Bool) → Allowed (sample between false)
    → Allowed (sample end ticks) → Allowed (turn at between end ticks)
turn-allowed at between end ticks first second =
    either (eqb at 0) (sample between false) (cond (eqb at 1) (sample Record true) (sample end ticks)) first
    (either (eqb at 1) (sample Record true) (sample end ticks) (recording true) second)

condition-allowed : (set change past : Operation) → Allowed (write set true) → Allowed (write change false)
    → Allowed (write past false) → (at : ℕ) → Allowed (condition set change past at)
condition-allowed set change past first second third at =
    let low = turn (at - 1) Release Record false in
    let last = cond (eqb at 5) (sample Record false) (write past false) in
    either (eqb at 0) (write set true) (cond (ltb at 4) low (cond (eqb at 4) (write change false) last)) first
    (either (ltb at 4) low (cond (eqb at 4) (write change false) last)
    (turn-allowed (at - 1) Release Record false (releasing false) (recording false))
    (either (eqb at 4) (write change false) last second
    (either (eqb at 5) (sample Record false) (write past false) (recording false) third)))

pub allowed : (part : Part) → Inside part → (at : ℕ) → Allowed (instant part at)
allowed Entry inside at = absurd inside
allowed Opening inside at =
    either (eqb at 1) (write Pull false) (cond (eqb at 3) (write Clear false) (sample Record false))
    (writing Pull false pull)
    (either (eqb at 3) (write Clear false) (sample Record false) (writing Clear false clear) (recording false))
allowed Restart inside at =
    condition-allowed Rise Pull Heed (writing Rise true rise) (writing Pull false pull) (heeding false) at
allowed Byte inside at =
    let load : Instant = record { operation = Load; ticks = true; effect = Begin } in
    let yields : Instant = record { operation = LetGo; ticks = true; effect = Settle } in
    let bits = turn ((at - 1) % 3) Release (Bit ((at - 1) / 3)) (ltb ((at - 1) / 3) 7) in
    let acknowledge = turn (at - 26) Acknowledge Record false in
    either (eqb at 0) load (cond (ltb at 25) bits (cond (eqb at 25) yields acknowledge)) (loading true)
    (either (ltb at 25) bits (cond (eqb at 25) yields acknowledge)
    (turn-allowed ((at - 1) % 3) Release (Bit ((at - 1) / 3)) (ltb ((at - 1) / 3) 7) (releasing false)
    (taking ((at - 1) / 3) (ltb ((at - 1) / 3) 7)))
    (either (eqb at 25) yields acknowledge (letting_go true)
    (turn-allowed (at - 26) Acknowledge Record false (acknowledging false) (recording false))))
allowed Closing inside at =
    condition-allowed Lower Raise Rest (writing Lower true lower) (writing Raise false raise) (writing Rest false rest)
    at

module _ (messages : List (List ℕ)) (count : ℕ) (few : count ≤ max_masters) (many : length messages ≡ count)
    (stood : Members) (sized : Sized stood) (wire : Wire) (table : List Usi) (fresh : Fresh count table wire)
    (index sent : ℕ) (carried levels : List ℕ) where
  -- what an instant's effect asks for
  abbrev pub Ready : Effect → Type 0
  Ready Nothing = Unit {0}
  Ready Begin = stood.bytes ≡ column (byte_at index) 0 messages
  Ready Release = Unit {0}
  Ready Acknowledge = Unit {0}
  Ready Record = wire.recorded < length levels
  Ready (Bit bit) =
      (wire.recorded < length levels) × (index < max_length) × (wire.byte < 128)
      × (eqb bit 7 ≡ true → sent < length carried)
  Ready Settle = Unit {0}

  module _ (acknowledge : ℕ) where
    abbrev after : Instant → List Usi
    after i =
        passed count
        (passing i.ticks (wires.shown wire) stood.contending stood.lost stood.bytes i.operation) table

    abbrev saw : Instant → Wire
    saw i = wires.saw i.operation (seen count (after i)) wire

    abbrev before : Bus
    before = bus_at count table stood wire sent carried levels

    -- the bus after an instant
    abbrev pub turned_bus : Instant → Bus
    turned_bus i =
        bus_at count (after i) (members.affected i.effect (seen count (after i)).al index stood)
        (wires.affected (length levels) i.effect (eqb acknowledge 0) (saw i))
        (sent_after i.effect (length carried) sent)
        (carried_by i.effect sent (wires.affected 0 i.effect (eqb acknowledge 0) (saw i)).byte carried)
        (wires.recorded_in i.effect (saw i) levels)

    pub turned-is : (i : Instant) → Allowed i → Ready i.effect
        → turned_bus i ≡ perform messages (spelled i index acknowledge) before
    turned-is i (writing operation ticks so) ready =
        turned_plain messages count few stood sized wire table fresh ticks sent carried levels operation
        (plain ticks (wires.shown wire) stood.contending stood.lost stood.bytes operation so) index
        (spells operation so index)
    turned-is i (heeding ticks) ready =
        turned-heed messages count few stood sized wire table fresh ticks sent carried levels index
    turned-is i (releasing ticks) ready =
        turned-release messages count few stood sized wire table fresh ticks sent carried levels index acknowledge
    turned-is i (acknowledging ticks) ready =
        turned-acknowledge messages count few stood sized wire table fresh ticks sent carried levels index acknowledge
    turned-is i (recording ticks) ready =
        turned-record messages count few stood sized wire table fresh ticks sent carried levels ready index
        acknowledge
    turned-is i (taking bit ticks) ready = go (eqb bit 7) refl
      where
        go : (last : Bool) → eqb bit 7 ≡ last
            → turned_bus (sample (Bit bit) ticks)
            ≡ perform messages (spelled (sample (Bit bit) ticks) index acknowledge) before
        go true is =
            rw (is, lt-ltb sent (length carried) (ready.3 is))
            (turned-last messages count few stood sized wire table fresh ticks sent carried levels ready.0 index
            bit
            ready.1 ready.2 (ready.3 is))
        go false is =
            rw is
            (turned_bit messages count few stood sized wire table fresh ticks sent carried levels ready.0 index bit
            ready.1 ready.2 is)
    turned-is i (loading ticks) ready =
        turned-load messages count few stood sized wire table ticks sent carried levels index many ready
    turned-is i (letting_go ticks) ready =
        turned-let-go messages count few stood sized wire table ticks sent carried levels
