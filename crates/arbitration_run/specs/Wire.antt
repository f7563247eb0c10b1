-- The wire: who pulls it, and what follows from an instant.
use Rattle.std.specs.Prelude.{ℕ, ◌+◌, Bool, cond, false, not, ◌||◌, List, ltb, set}
use Rattle.bits.specs.Positions.{shift_in}
use Rattle.levels.specs.Levels.{level_of, sda}
use Rattle.arbitration_pass.specs.declared.instants.Operation.{Operation}
use Rattle.arbitration_pass.specs.declared.instants.Effect.{Effect}
use Rattle.arbitration_pass.specs.declared.instants.Effect.TheVariants.{Nothing, Begin, Release, Acknowledge}
use Rattle.arbitration_pass.specs.declared.instants.Effect.TheVariants.{Record, Bit, Settle}
use Rattle.arbitration_pass.specs.declared.pass.Seen.{Seen}
use Rattle.arbitration_run.specs.declared.wire.Wire.{Wire}
use Rattle.arbitration_pass.specs.Instants.{samples}

abbrev pub shown : Wire → ℕ
shown wire = level_of (not wire.scl) (not (wire.pull || wire.sda))

-- a sample was of the level shown before it
abbrev pub sampled : Operation → Wire → ℕ
sampled operation wire = cond (samples operation) (shown wire) wire.level

abbrev pub saw : Operation → Seen → Wire → Wire
saw operation seen wire =
    record {
      scl = seen.scl;
      sda = seen.sda;
      pull = wire.pull;
      level = sampled operation wire;
      byte = wire.byte;
      recorded = wire.recorded;
    }

abbrev pub pulling : Bool → Wire → Wire
pulling pull wire =
    record {
      scl = wire.scl;
      sda = wire.sda;
      pull = pull;
      level = wire.level;
      byte = wire.byte;
      recorded = wire.recorded;
    }

abbrev pub holding : ℕ → Wire → Wire
holding byte wire =
    record {
      scl = wire.scl;
      sda = wire.sda;
      pull = wire.pull;
      level = wire.level;
      byte = byte;
      recorded = wire.recorded;
    }

abbrev pub begun : Wire → Wire
begun wire = holding 0 wire

abbrev pub taken : Wire → Wire
taken wire = holding (shift_in wire.byte (sda wire.level)) wire

-- one level more is recorded, where there is room
abbrev pub noted : ℕ → Wire → Wire
noted room wire =
    record {
      scl = wire.scl;
      sda = wire.sda;
      pull = wire.pull;
      level = wire.level;
      byte = wire.byte;
      recorded = cond (ltb wire.recorded room) (wire.recorded + 1) wire.recorded;
    }

abbrev pub stored : Wire → List ℕ → List ℕ
stored wire levels = set levels wire.recorded wire.level

abbrev pub affected : ℕ → Effect → Bool → Wire → Wire
affected room Nothing acknowledge wire = wire
affected room Begin acknowledge wire = begun wire
affected room Release acknowledge wire = pulling false wire
affected room Acknowledge acknowledge wire = pulling acknowledge wire
affected room Record acknowledge wire = noted room wire
affected room (Bit bit) acknowledge wire = taken (noted room wire)
affected room Settle acknowledge wire = wire

abbrev pub recorded_in : Effect → Wire → List ℕ → List ℕ
recorded_in Nothing wire levels = levels
recorded_in Begin wire levels = levels
recorded_in Release wire levels = levels
recorded_in Acknowledge wire levels = levels
recorded_in Record wire levels = stored wire levels
recorded_in (Bit bit) wire levels = stored wire levels
recorded_in Settle wire levels = levels
