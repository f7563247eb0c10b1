-- One master at one instant: what each operation does to it. Every step is the module's own write, sample or tick.
use Rattle.std.specs.Prelude.{ℕ, Bool, cond, true, false, not, ◌&&◌, Result}
use Rattle.bits.specs.Positions.{on}
use Rattle.usi_registers.specs.Registers.{USIAL}
use Rattle.usi.specs.declared.Usi.{Usi}
use Rattle.usi.specs.declared.Refused.{Refused}
use Rattle.usi.specs.Module.{power_up}
use Rattle.usi.specs.Step.{refusal, module_of, write_byte, sample, tick}

-- Its module; whether it is still in; whether it lost in the byte now on the bus; where it lost (01: its place).
pub record Master : Type 0 where
  pub usi : Usi
  pub contending : Bool
  pub lost : Bool
  pub position : ℕ

abbrev pub with_usi : Usi → Master → Master
with_usi usi master =
    record { usi = usi; contending = master.contending; lost = master.lost; position = master.position }

-- All modules start from power-up with USISRL and USISRH 0; every master with a message is in.
abbrev pub entering : Master
entering = record { usi = power_up 0 0; contending = true; lost = false; position = 0 }

-- Who does something: everybody, who is still in, who lost in the byte now on the bus, everyone who has lost so far.
pub data Who : Type 0 where
  everybody still_in beaten losers : Who

abbrev pub meant : Who → Master → Bool
meant everybody master = true
meant still_in master = master.contending
meant beaten master = master.lost
meant losers master = not master.contending

-- One step of a module: a tick, a sample of a level, a register written (address and value).
pub data Operation : Type 0 where
  Tick : Operation
  Sample : ℕ → Operation
  Write : ℕ → ℕ → Operation

abbrev pub stepped : Operation → Usi → Result Usi Refused
stepped Tick usi = tick usi
stepped (Sample level) usi = sample usi level
stepped (Write address value) usi = write_byte usi address value

-- Those meant make the step, each with the module that it hands back (where it is refused, the module as it was: no
-- step of a run is, proofs/Unrefused.antt).
unfoldable pub applied : Who → Operation → Master → Master
applied who operation master =
    cond (meant who master) (with_usi (module_of (stepped operation master.usi)) master) master

-- the number of its refusal, 0 where there is none or it is not meant
unfoldable pub refused_at : Who → Operation → Master → ℕ
refused_at who operation master = cond (meant who master) (refusal (stepped operation master.usi)) 0

-- A master is in until the bit turn that sets its AL; that turn is its position (01: place).
unfoldable pub judged : ℕ → Master → Master
judged position master =
    cond (master.contending && on master.usi.usictl1 USIAL)
    (record { usi = master.usi; contending = false; lost = true; position = position })
    master

-- The byte in which it lost is over.
abbrev pub settled : Master → Master
settled master =
    record { usi = master.usi; contending = master.contending; lost = false; position = master.position }
