-- The masters at the end of a run, whole, from messages and acknowledges alone: 01's P8 gives the registers.
use Rattle.std.specs.Prelude.{ℕ, ◌/◌, Bool, true, false, List}
use Rattle.std.proofs.Math.Option.{Option, none, some}
use Rattle.usi.specs.declared.Usi.{Usi}
use Rattle.bits.specs.Positions.{is_set}
use Rattle.arbitration_rules.specs.Masters.{Master}
use Rattle.arbitration_rules.specs.Outcome.{byte_at, fate, loss_from}

-- a module that has seen the STOP: SCL and SDA high, the clock phase high, nothing stretched
abbrev pub after_stop : (usictl0 usictl1 usicnt usisrl : ℕ) (latch enable : Bool) → Usi
after_stop usictl0 usictl1 usicnt usisrl latch enable =
    record {
      usictl0 = usictl0;
      usictl1 = usictl1;
      usickctl = 0x22;
      usicnt = usicnt;
      usisrl = usisrl;
      usisrh = 0x00;
      latch = latch;
      enable = enable;
      phase = true;
      seen = true;
      scl = true;
      sda = true;
      stretch = false;
    }

-- who is still in ends with C8 45 22 00 and FF; who lost ends with C0 4D 22 80 and the carried byte in which it
-- lost, its latch being the last bit of its own byte there
abbrev pub final_usi : List ℕ → List ℕ → Option ℕ → Usi
final_usi carried message none = after_stop 0xc8 0x45 0x00 0xff true true
final_usi carried message (some position) =
    after_stop 0xc0 0x4d 0x80 (byte_at (position / 9) carried) (is_set 0 (byte_at (position / 9) message)) false

-- with what Outcome.antt says of it
abbrev pub final_as : List ℕ → List ℕ → Option ℕ → Master
final_as carried message loss =
    record {
      usi = final_usi carried message loss;
      contending = (fate loss).contending;
      lost = false;
      position = (fate loss).position;
    }

abbrev pub final_master : List ℕ → List ℕ → Master
final_master carried message = final_as carried message (loss_from 0 carried message)
