-- The flags of USICTL1 that the writes of each master clear over a run (02: Ask 12).
use Rattle.std.specs.Prelude.{ℕ, cond}
use mathlib.Core.List.{List, [], ◌∷◌, map, zip_with}
use Rattle.std.specs.Int.Bits.{bit_or}
use Rattle.usi_registers.specs.Registers.{USISRL}
use Rattle.usi_registers.specs.Rules.{cleared}
use Rattle.usi.specs.Step.{module_of}
use Rattle.arbitration_rules.specs.Masters.{Master, Who, still_in, meant, Operation, Tick, Sample, Write, stepped}
use Rattle.arbitration_rules.specs.Outcome.{byte_at}
use Rattle.arbitration_rules.specs.Run.{Bus, Instant, does, loads, samples, records, pulls, judges, takes}
use Rattle.arbitration_rules.specs.Run.{carries, settles, performed, powered, script}

-- what one write of a master clears; it clears nothing where it does not write
unfoldable pub cleared_at : Who → Operation → Master → ℕ
cleared_at who Tick master = 0
cleared_at who (Sample level) master = 0
cleared_at who (Write address value) master =
    cond (meant who master)
    (cleared master.usi.usictl1 (module_of (stepped (Write address value) master.usi)).usictl1) 0

-- what each master's write clears at one instant
unfoldable pub cleared_in : List (List ℕ) → Instant → Bus → List ℕ
cleared_in messages (does who operation) bus = map (cleared_at who operation) bus.masters
cleared_in messages (loads index) bus =
    zip_with (λ master message. cleared_at still_in (Write USISRL (byte_at index message)) master) bus.masters messages
cleared_in messages samples bus = map (λ master. 0) bus.masters
cleared_in messages records bus = map (λ master. 0) bus.masters
cleared_in messages (pulls pull) bus = map (λ master. 0) bus.masters
cleared_in messages (judges position) bus = map (λ master. 0) bus.masters
cleared_in messages takes bus = map (λ master. 0) bus.masters
cleared_in messages carries bus = map (λ master. 0) bus.masters
cleared_in messages settles bus = map (λ master. 0) bus.masters

-- and over a script, joined
abbrev pub cleared_over : List (List ℕ) → List Instant → Bus → List ℕ
cleared_over messages [] bus = map (λ master. 0) bus.masters
cleared_over messages (instant ∷ instants) bus =
    zip_with bit_or (cleared_in messages instant bus)
    (cleared_over messages instants (performed messages instant bus))

-- over steps 1 to 4, of each master
unfoldable pub cleared_by : List (List ℕ) → List ℕ → List ℕ
cleared_by messages acknowledges = cleared_over messages (script messages acknowledges) (powered messages)
