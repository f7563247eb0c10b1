-- Document 01's worked numbers P1 to P12, each of the reply; messages have one part each.
use mathlib.Core.Path.{◌≡◌, refl}
use mathlib.Core.Bool.{Bool, true, false}
use mathlib.Core.List.{List, [], ◌∷◌, ◌++◌}
use Prim.Native.Nat.{ℕ}
use lib.ListN.{replicate}
use Rattle.laws.specs.Refusals.{none, refused_at}
use Rattle.usi_registers.specs.Registers.{USICTL0, USICTL1, USICKCTL, USICNT, USISRL}
use Rattle.usi.specs.declared.Usi.{Usi}
use Rattle.usi.specs.Module.{power_up, pulls_scl, pulls_sda}
use Rattle.usi.specs.Step.{module_of}
use Rattle.usi.specs.Step as step
use Rattle.std.specs.Prelude.{Ok}
use Rattle.encode.specs.EncodeReply as encode
use Rattle.decode.specs.DecodeReply as decode
use Rattle.arbitration_rules.specs.declared.Arbitrated.{Arbitrated}
use Rattle.arbitration_rules.specs.declared.Seat.{Seat}
use Rattle.arbitration_rules.specs.Reply as reply
use Rattle.arbitration_rules.specs.Reply.{Request}
use Rattle.arbitration_rules.proofs.Single.{single}
use Rattle.worked_numbers.proofs.Computed.{read, write, write_word, sample, encoded, drawn, decoded, read-into}
use Rattle.worked_numbers.proofs.Computed.{arbitrated, table_after, carried_after, levels_after}

abbrev written : ℕ → ℕ → Usi → Usi
written address value u = module_of (step.write_byte u address value)

abbrev sampled : ℕ → Usi → Usi
sampled level u = module_of (step.sample u level)

-- fitted with 22h, 41h and a value of USICTL0
abbrev fitted : ℕ → ℕ → ℕ → Usi
fitted usictl0 low high = written USICTL0 usictl0 (written USICTL1 0x41 (written USICKCTL 0x22 (power_up low high)))

-- P1: power-up, write 08h to 07Bh: USICTL1 reads 00h
pub P1 : (low high : ℕ) → step.read_byte (written 0x07b 0x08 (power_up low high)) 0x079 ≡ Ok 0x00
unfolding read write
P1 low high = refl

-- P2: 28h instead: 01h stays
pub P2 : (low high : ℕ) → step.read_byte (written 0x07b 0x28 (power_up low high)) 0x079 ≡ Ok 0x01
unfolding read write
P2 low high = refl

-- P3: then 00h: 01h
pub P3 : (low high : ℕ) → step.read_byte (written 0x07b 0x00 (written 0x07b 0x28 (power_up low high))) 0x079
    ≡ Ok 0x01
unfolding read write
P3 low high = refl

-- what these writes clear (02: Ask 12): P1 clears IFG, P2 and P3 nothing; a refused write clears nothing
pub writes-clear : (low high : ℕ)
    → (step.cleared_by (step.written (power_up low high) 0x07b 0x08) ≡ 0x01)
    × (step.cleared_by (step.written (power_up low high) 0x07b 0x28) ≡ 0)
    × (step.cleared_by (step.written (power_up low high) 0x07b 0x00) ≡ 0)
    × (step.cleared_by (step.written (power_up low high) 0x079 0x40) ≡ 0x01)
    × (step.cleared_by (step.written (power_up low high) 0x07e 0x00) ≡ 0)
    × (step.cleared_by (step.written_word (power_up low high) 0x078 0x4001) ≡ 0x01)
    × (step.cleared_by (step.written_word (power_up low high) 0x079 0x4001) ≡ 0)
unfolding write write_word
writes-clear low high = (refl, refl, refl, refl, refl, refl, refl)

-- AL, STP, STTIFG and IFG in their places, and no other bit
pub four-flags : (low high : ℕ)
    → step.cleared_by (step.written (written 0x079 0xff (power_up low high)) 0x079 0x00) ≡ 0x0f
unfolding write
four-flags low high = refl

-- P4: fitted with 22h, 41h, C8h, USISRL=0: CEh pulls SDA low
pub P4 : (low high : ℕ) → pulls_sda (written USICTL0 0xce (written USISRL 0x00 (fitted 0xc8 low high))) ≡ true
unfolding write
P4 low high = refl

-- P5: CAh after it keeps it low
pub P5 : (low high : ℕ)
    → pulls_sda (written USICTL0 0xca (written USICTL0 0xce (written USISRL 0x00 (fitted 0xc8 low high)))) ≡ true
unfolding write
P5 low high = refl

-- P6: slave after START and then an SCL fall: SCL held. With SCLREL written after the START: not held
pub P6-held : (low high : ℕ) → pulls_scl (sampled 0 (sampled 1 (sampled 3 (fitted 0xc0 low high)))) ≡ true
unfolding write sample
P6-held low high = refl

pub P6-released : (low high : ℕ)
    → pulls_scl (sampled 0 (written USICNT 0x80 (sampled 1 (sampled 3 (fitted 0xc0 low high))))) ≡ false
unfolding write sample
P6-released low high = refl

-- P6 once more with USICNT=88h written before the START: neither CNT=0 nor IFG=1 holds SCL then, but STTIFG, with
-- SCLREL cleared
pub P6-counting-held : (low high : ℕ)
    → pulls_scl (sampled 0 (sampled 1 (sampled 3 (written USICNT 0x88 (fitted 0xc0 low high))))) ≡ true
unfolding write sample
P6-counting-held low high = refl

pub P6-counting-released : (low high : ℕ)
    → pulls_scl
    (sampled 0 (written USICNT 0x88 (sampled 1 (sampled 3 (written USICNT 0x88 (fitted 0xc0 low high)))))) ≡ false
unfolding write sample
P6-counting-released low high = refl

-- P7: the list 512, A0h, 514 draws 23 levels, whole; and they are read back
abbrev seventh : List ℕ
seventh = 512 ∷ 0xa0 ∷ 514 ∷ []

abbrev seventh_levels : List ℕ
seventh_levels =
    3 ∷ 1 ∷ 2 ∷ 3 ∷ 0 ∷ 1 ∷ 2 ∷ 3 ∷ 0 ∷ 1 ∷ 0 ∷ 1 ∷ 0 ∷ 1 ∷ 0 ∷ 1 ∷ 0 ∷ 1 ∷ 0 ∷ 1 ∷ 0 ∷ 1 ∷ 3 ∷ []

abbrev seventh_stamps : List ℕ
seventh_stamps =
    0 ∷ 1 ∷ 2 ∷ 3 ∷ 4 ∷ 5 ∷ 6 ∷ 7 ∷ 8 ∷ 9 ∷ 10 ∷ 11 ∷ 12 ∷ 13 ∷ 14 ∷ 15 ∷ 16 ∷ 17 ∷ 18 ∷ 19 ∷ 20 ∷ 21 ∷ 22 ∷ []

pub P7-count : encode.encoded seventh 0 1 23 23 ≡ Ok 23
unfolding encoded
P7-count = refl

pub P7-levels : encode.levels_after (encode.encoded seventh 0 1 23 24) seventh (replicate 24 7)
    ≡ seventh_levels ++ 7 ∷ []
unfolding encoded drawn
P7-levels = refl

pub P7-stamps : encode.stamps_after (encode.encoded seventh 0 1 24 23) 0 1 (replicate 24 7) ≡ seventh_stamps ++ 7 ∷ []
unfolding encoded
P7-stamps = refl

pub P7-back : decode.decoded seventh_stamps seventh_levels 3 ≡ Ok (decode.read_as 3 false 0 0)
unfolding decoded
P7-back = refl

pub P7-events : decode.events_after (decode.decoded seventh_stamps seventh_levels 4) seventh_levels (replicate 4 7)
    ≡ seventh ++ 7 ∷ []
unfolding decoded read-into
P7-events = refl

-- a module at the end of a run: SCL and SDA high, the clock phase high, nothing stretched
abbrev pub ended : (usictl0 usictl1 usicnt usisrl : ℕ) (latch enable : Bool) → Usi
ended usictl0 usictl1 usicnt usisrl latch enable =
    record {
      usictl0 = usictl0;
      usictl1 = usictl1;
      usickctl = 0x22;
      usicnt = usicnt;
      usisrl = usisrl;
      usisrh = 0x00;
      latch = latch;
      enable = enable;
      phase = true;
      seen = true;
      scl = true;
      sda = true;
      stretch = false;
    }

-- it ends with C8 45 22 00 and FF where it is still in
abbrev pub winner : Usi
winner = ended 0xc8 0x45 0x00 0xff true true

abbrev pub in-seat : Seat
in-seat = record { contending = true; position = 0; cleared = 0x03 }

abbrev pub lost-at : ℕ → Seat
lost-at position = record { contending = false; position = position; cleared = 0x03 }

abbrev pub no-seat : Seat
no-seat = record { contending = false; position = 0; cleared = 0 }

-- a reply with so many carried bytes, and a refused one: all else is 0
abbrev pub answer : ℕ → List Seat → Arbitrated
answer count seats = record { refusal = none; count = count; seats = seats }

abbrev pub stopped : ℕ → ℕ → Arbitrated
stopped number place = record { refusal = refused_at number place; count = 0; seats = replicate 16 no-seat }

-- P8: messages 90 12 and 90 0F, acknowledges 0 0: carried 90 0F; the first master lost at position 12. It ends with
-- C0 4D 22 80 and USISRL 0F; the other with C8 45 22 00 and FF
abbrev eighth : List ℕ → Request
eighth acknowledges = single (0x90 ∷ 0x12 ∷ 0x90 ∷ 0x0f ∷ []) (2 ∷ 2 ∷ []) acknowledges

pub P8 : reply.arbitrated (eighth (0 ∷ 0 ∷ [])) 2 2 41
    ≡ answer 2 (lost-at 12 ∷ in-seat ∷ replicate 14 no-seat)
unfolding arbitrated
P8 = refl

-- whatever the table held, and what is past the two stays
pub P8-table : (a b c : Usi) → reply.table_after (eighth (0 ∷ 0 ∷ [])) none (a ∷ b ∷ c ∷ [])
    ≡ ended 0xc0 0x4d 0x80 0x0f false false ∷ winner ∷ c ∷ []
unfolding table_after
P8-table a b c = refl

pub P8-carried : reply.carried_after (eighth (0 ∷ 0 ∷ [])) none (7 ∷ 7 ∷ 7 ∷ []) ≡ 0x90 ∷ 0x0f ∷ 7 ∷ []
unfolding carried_after
P8-carried = refl

pub P8-levels : reply.levels_after (eighth (0 ∷ 0 ∷ [])) none (replicate 42 7)
    ≡ 3 ∷ 1 ∷ 2 ∷ 3 ∷ 0 ∷ 1 ∷ 0 ∷ 1 ∷ 2 ∷ 3 ∷ 0 ∷ 1 ∷ 0 ∷ 1 ∷ 0 ∷ 1 ∷ 0 ∷ 1 ∷ 0 ∷ 1
    ∷ 0 ∷ 1 ∷ 0 ∷ 1 ∷ 0 ∷ 1 ∷ 0 ∷ 1 ∷ 2 ∷ 3 ∷ 2 ∷ 3 ∷ 2 ∷ 3 ∷ 2 ∷ 3 ∷ 0 ∷ 1 ∷ 0 ∷ 1 ∷ 3 ∷ 7 ∷ []
unfolding levels_after
P8-levels = refl

-- P9: the same messages, acknowledges 1 0: carried 90, none lost
pub P9 : reply.arbitrated (eighth (1 ∷ 0 ∷ [])) 2 1 23
    ≡ answer 1 (in-seat ∷ in-seat ∷ replicate 14 no-seat)
unfolding arbitrated
P9 = refl

pub P9-table : (a b c : Usi) → reply.table_after (eighth (1 ∷ 0 ∷ [])) none (a ∷ b ∷ c ∷ [])
    ≡ winner ∷ winner ∷ c ∷ []
unfolding table_after
P9-table a b c = refl

pub P9-carried : reply.carried_after (eighth (1 ∷ 0 ∷ [])) none (7 ∷ 7 ∷ []) ≡ 0x90 ∷ 7 ∷ []
unfolding carried_after
P9-carried = refl

pub P9-levels : reply.levels_after (eighth (1 ∷ 0 ∷ [])) none (replicate 24 7)
    ≡ 3 ∷ 1 ∷ 2 ∷ 3 ∷ 0 ∷ 1 ∷ 0 ∷ 1 ∷ 2 ∷ 3 ∷ 0 ∷ 1 ∷ 0 ∷ 1 ∷ 0 ∷ 1 ∷ 0 ∷ 1 ∷ 2 ∷ 3 ∷ 0 ∷ 1 ∷ 3 ∷ 7 ∷ []
unfolding levels_after
P9-levels = refl

-- P10: messages 90 and 90 00, acknowledges 0 0: refusal 16, whatever table and buffers are, and they stay
abbrev tenth : List ℕ → Request
tenth acknowledges = single (0x90 ∷ 0x90 ∷ 0x00 ∷ []) (1 ∷ 2 ∷ []) acknowledges

pub P10 : (table_room carried_room level_room : ℕ)
    → reply.arbitrated (tenth (0 ∷ 0 ∷ [])) table_room carried_room level_room ≡ stopped 16 0
unfolding arbitrated
P10 table_room carried_room level_room = refl

pub P10-table : (table : List Usi)
    → reply.table_after (tenth (0 ∷ 0 ∷ [])) (refused_at 16 0) table ≡ table
unfolding table_after
P10-table table = refl

pub P10-carried : (buffer : List ℕ)
    → reply.carried_after (tenth (0 ∷ 0 ∷ [])) (refused_at 16 0) buffer ≡ buffer
unfolding carried_after
P10-carried buffer = refl

pub P10-levels : (buffer : List ℕ)
    → reply.levels_after (tenth (0 ∷ 0 ∷ [])) (refused_at 16 0) buffer ≡ buffer
unfolding levels_after
P10-levels buffer = refl

-- P11: acknowledges 1 0: carried 90
pub P11 : reply.arbitrated (tenth (1 ∷ 0 ∷ [])) 2 1 23
    ≡ answer 1 (in-seat ∷ in-seat ∷ replicate 14 no-seat)
unfolding arbitrated
P11 = refl

pub P11-table : (a b : Usi) → reply.table_after (tenth (1 ∷ 0 ∷ [])) none (a ∷ b ∷ [])
    ≡ winner ∷ winner ∷ []
unfolding table_after
P11-table a b = refl

pub P11-carried : reply.carried_after (tenth (1 ∷ 0 ∷ [])) none (7 ∷ 7 ∷ []) ≡ 0x90 ∷ 7 ∷ []
unfolding carried_after
P11-carried = refl

pub P11-levels : reply.levels_after (tenth (1 ∷ 0 ∷ [])) none (replicate 24 7)
    ≡ 3 ∷ 1 ∷ 2 ∷ 3 ∷ 0 ∷ 1 ∷ 0 ∷ 1 ∷ 2 ∷ 3 ∷ 0 ∷ 1 ∷ 0 ∷ 1 ∷ 0 ∷ 1 ∷ 0 ∷ 1 ∷ 2 ∷ 3 ∷ 0 ∷ 1 ∷ 3 ∷ 7 ∷ []
unfolding levels_after
P11-levels = refl

-- P12: messages 90, 90 00, 50, acknowledges 0 0: carried 50, two lost at position 0
abbrev twelfth : Request
twelfth = single (0x90 ∷ 0x90 ∷ 0x00 ∷ 0x50 ∷ []) (1 ∷ 2 ∷ 1 ∷ []) (0 ∷ 0 ∷ [])

pub P12 : reply.arbitrated twelfth 3 1 23
    ≡ answer 1 (lost-at 0 ∷ lost-at 0 ∷ in-seat ∷ replicate 13 no-seat)
unfolding arbitrated
P12 = refl

pub P12-table : (a b c : Usi) → reply.table_after twelfth none (a ∷ b ∷ c ∷ [])
    ≡ ended 0xc0 0x4d 0x80 0x50 false false ∷ ended 0xc0 0x4d 0x80 0x50 false false ∷ winner ∷ []
unfolding table_after
P12-table a b c = refl

pub P12-carried : reply.carried_after twelfth none (7 ∷ 7 ∷ []) ≡ 0x50 ∷ 7 ∷ []
unfolding carried_after
P12-carried = refl

pub P12-levels : reply.levels_after twelfth none (replicate 24 7)
    ≡ 3 ∷ 1 ∷ 0 ∷ 1 ∷ 2 ∷ 3 ∷ 0 ∷ 1 ∷ 2 ∷ 3 ∷ 0 ∷ 1 ∷ 0 ∷ 1 ∷ 0 ∷ 1 ∷ 0 ∷ 1 ∷ 0 ∷ 1 ∷ 0 ∷ 1 ∷ 3 ∷ 7 ∷ []
unfolding levels_after
P12-levels = refl
