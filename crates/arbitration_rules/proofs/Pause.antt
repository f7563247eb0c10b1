-- Between two bytes: masters still in wait with SCL high, all alike; who is out has released both lines. What they
-- write there, and the turn of the acknowledge.
use Prim.Native.Nat.{ℕ, ◌<◌}
use native.Mathlib.Omega.{arith}
use mathlib.Core.Path.{◌≡◌, refl, ap, sym, ◌∙◌}
use mathlib.Core.Bool.{Bool, true, false, not}
use mathlib.Core.List.{List, [], ◌∷◌, append-nil}
use Rattle.usi_registers.specs.Registers.{USICTL0, USICNT, USISRL}
use Rattle.usi_i2c.specs.Rules as rules
use Rattle.usi_registers.specs.Rules.{count_flags}
use Rattle.usi.specs.declared.Usi.{Usi}
use Rattle.usi.specs.Step.{followed, settled, write_byte}
use Rattle.encode.specs.Encode.{byte_bits}
use Rattle.arbitration_rules.specs.Masters.{Master, with_usi, applied}
use Rattle.arbitration_rules.proofs.Phases.{written, withdrawn}
use Rattle.levels.specs.Levels.{level_of}
use Rattle.arbitration_rules.proofs.Bits.{number, number-bits}
use Rattle.arbitration_rules.proofs.Turn.{between, Turns}
use Rattle.arbitration_rules.proofs.Registers.{driving, released, listening, listening-turn, released-turn}
use Rattle.arbitration_rules.proofs.Roles.{Role, drives, lost, gone, contends, master_of, Sending}
use Rattle.arbitration_rules.proofs.Standing.{Standing, stays, out, standing_of, enters_as}

-- after a START, with the byte last taken, or after a byte and its ninth bit
pub data Pause : Type 0 where
  after_start : (taken : ℕ) → Pause
  after_byte : (byte : ℕ) (ninth : Bool) → Pause

-- the SDA last seen, and the latch and enable of those still in
abbrev pub sda_at : Pause → Bool
sda_at (after_start taken) = false
sda_at (after_byte byte ninth) = ninth

abbrev pub latch_at : Pause → Bool
latch_at (after_start taken) = false
latch_at (after_byte byte ninth) = rules.first_bit byte

abbrev pub enable_at : Pause → Bool
enable_at (after_start taken) = true
enable_at (after_byte byte ninth) = false

abbrev pub waiting : Pause → Usi
waiting (after_start taken) = between 0xca 0x41 0 0 false true false
waiting (after_byte byte ninth) = listening 0 (rules.shifted byte ninth) (rules.first_bit byte) false ninth

abbrev pub usi_at : Pause → Standing → Usi
usi_at pause stays = waiting pause
usi_at pause (out register latch position) = released register latch (sda_at pause)

abbrev pub is_in : Standing → Bool
is_in stays = true
is_in (out register latch position) = false

abbrev pub position_of : Standing → ℕ
position_of stays = 0
position_of (out register latch position) = position

-- the acknowledge's pull, the level last sampled, and the byte last taken
abbrev pub pull_at : Pause → Bool
pull_at (after_start taken) = false
pull_at (after_byte byte ninth) = not ninth

abbrev pub level_at : Pause → ℕ
level_at (after_start taken) = level_of true false
level_at (after_byte byte ninth) = level_of true ninth

abbrev pub taken_at : Pause → ℕ
taken_at (after_start taken) = taken
taken_at (after_byte byte ninth) = byte

-- a master as it stands, with its module
abbrev pub standing_as : (Standing → Usi) → Standing → Master
standing_as usi standing =
    record { usi = usi standing; contending = is_in standing; lost = false; position = position_of standing }

abbrev pub master_at : Pause → Standing → Master
master_at pause standing = standing_as (usi_at pause) standing

-- a byte is loaded: who is in drives its bits
pub loads : (pause : Pause) (own : ℕ) (standing : Standing) → own < 256
    → written USICNT 0x08 (written USICTL0 0xca (written USISRL own (master_at pause standing)))
    ≡ master_of 8 [] (sda_at pause) (enters_as (latch_at pause) (enable_at pause) own standing)
unfolding applied write_byte settled followed count_flags
loads (after_start taken) own stays small =
    ap
    (λ r. record { usi = driving 8 r false true false; contending = true; lost = false; position = 0 })
    (sym (ap number (append-nil (byte_bits own)) ∙ number-bits own small))
loads (after_byte byte ninth) own stays small =
    ap
    (λ r. record {
      usi = driving 8 r (rules.first_bit byte) false ninth;
      contending = true;
      lost = false;
      position = 0;
    })
    (sym (ap number (append-nil (byte_bits own)) ∙ number-bits own small))
loads (after_start taken) own (out register latch position) small = refl
loads (after_byte byte ninth) own (out register latch position) small = refl

-- after the eight turns: who lost releases both lines, the rest listen for the acknowledge
abbrev usi_to_hear : ℕ → Bool → Role → Usi
usi_to_hear byte sda (drives rest latch enable) = listening 1 byte latch enable sda
usi_to_hear byte sda (lost rest latch position) = released byte latch sda
usi_to_hear byte sda (gone register latch position) = released register latch sda

abbrev pub listener : ℕ → Bool → Role → Master
listener byte sda role =
    record {
      usi = usi_to_hear byte sda role;
      contending = contends role;
      lost = false;
      position = position_of (standing_of byte role);
    }

pub listens : (taken : List Bool) (sda : Bool) (role : Role) → Sending 0 role
    → written USICNT 0x01 (written USICTL0 0xc8 (withdrawn (master_of 0 taken sda role)))
    ≡ listener (number taken) sda role
unfolding applied write_byte settled followed count_flags
listens taken sda (drives [] latch enable) sent = refl
listens taken sda (drives (bit ∷ rest) latch enable) sent = absurd (omega arith)
listens taken sda (lost [] latch position) sent = refl
listens taken sda (lost (bit ∷ rest) latch position) sent = absurd (omega arith)
listens taken sda (gone register latch position) sent = refl

-- the turn of the acknowledge: nobody drives
pub hears : (byte : ℕ) (sda ninth : Bool) (role : Role)
    → Turns (listener byte sda role).usi (contends role) false ninth
    (usi_at (after_byte byte ninth) (standing_of byte role))
hears byte sda ninth (drives rest latch enable) = listening-turn byte latch enable sda ninth
hears byte sda ninth (lost rest latch position) = released-turn byte latch sda ninth
hears byte sda ninth (gone register latch position) = released-turn register latch sda ninth

pub heard : (byte : ℕ) (sda ninth : Bool) (role : Role)
    → with_usi (usi_at (after_byte byte ninth) (standing_of byte role)) (listener byte sda role)
    ≡ master_at (after_byte byte ninth) (standing_of byte role)
heard byte sda ninth (drives rest latch enable) = refl
heard byte sda ninth (lost rest latch position) = refl
heard byte sda ninth (gone register latch position) = refl
