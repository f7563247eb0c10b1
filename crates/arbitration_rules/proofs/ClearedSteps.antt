-- What each step of a run clears, of one master and of all: STTIFG after a START, IFG with each count above 0.
use Prim.Native.Nat.{ℕ, suc, ◌*◌, ◌≤◌, ◌<◌}
use mathlib.Core.Path.{◌≡◌, refl, ap, ap₂, ◌∙◌}
use mathlib.Core.Bool.{Bool, cond, true, false, not, ◌||◌}
use mathlib.Core.List.{List, [], ◌∷◌, ◌++◌, map, zip_with, map-map}
use mir.Val.{bool_byte}
use lib.Bits.{bit_or, or_zero_r}
use lib.Dec.{eqb}
use Rattle.laws.specs.Everyone.{Everyone, nobody, also, Someone}
use Rattle.laws.proofs.Lists.{everyone, map-alike, any_none, zip_with-map}
use Rattle.encode.specs.Encode.{byte_bits, draw_bits}
use Rattle.usi_registers.specs.Registers.{USICTL0, USICNT, USISRL}
use Rattle.usi_registers.specs.Rules.{count_flags}
use Rattle.usi_i2c.specs.Rules.{condition_flags, condition_count}
use Rattle.usi.specs.declared.Usi.{Usi}
use Rattle.usi.specs.Step.{followed, settled, write_byte, edged, fallen, risen, sample}
use Rattle.arbitration_rules.specs.Masters as masters
use Rattle.arbitration_rules.specs.Masters.{Master, still_in, beaten, losers, Write, applied}
use Rattle.arbitration_rules.specs.Outcome.{byte_at}
use Rattle.arbitration_rules.specs.Run.{Bus, loads, samples, records, carries, settles, performed, writes}
use Rattle.arbitration_rules.specs.Run.{powered, set_up, start, bit_turn, data_turns, byte_turn, stop, restart}
use Rattle.arbitration_rules.specs.Cleared.{cleared_at, cleared_in, cleared_over}
use Rattle.arbitration_rules.proofs.Phases as phases
use Rattle.arbitration_rules.proofs.Phases.{written, withdrawn}
use Rattle.arbitration_rules.proofs.Turn as turn
use Rattle.arbitration_rules.proofs.Wire.{bus_of, record-all, writes-all}
use Rattle.arbitration_rules.proofs.Roles.{Role, drives, lost, gone, contends, master_of}
use Rattle.arbitration_rules.proofs.Byte.{Line, turns_of, line_after, in_byte}
use Rattle.arbitration_rules.proofs.Standing.{Standing, stays, out, enters_as}
use Rattle.arbitration_rules.proofs.Pause.{Pause, after_start, after_byte, latch_at, enable_at, is_in}
use Rattle.arbitration_rules.proofs.Pause.{standing_as, master_at}
use Rattle.arbitration_rules.proofs.Round.{three-maps, waits, enters, line_at, opened-is, carried-byte}
use Rattle.arbitration_rules.proofs.Ends as ends
use Rattle.arbitration_rules.proofs.Ends.{prepare, pull_low, clear_start, send_low, let_rise, finish}
use Rattle.arbitration_rules.proofs.Ends.{ready, seen, pulling, caught, alike, last_bit, low_bit, lets_rise}
use Rattle.arbitration_rules.proofs.Restart as again
use Rattle.arbitration_rules.proofs.Restart.{send_high, clear_seen, to_send, high_bit, pulls_low, sees_start, cleared}
use Rattle.arbitration_rules.proofs.Clearing.{Clears, then, bit-turn-quiet, data-turns-quiet, clears_of}
use Rattle.arbitration_rules.proofs.Clearing.{writes-clear, quietly, writing, zip-maps}

-- step 1: the START's flag is cleared, of everybody
module _ {P : List ℕ → Type 0} (messages : List (List ℕ)) (one : Someone P messages) where
  abbrev same : Usi → ℕ → List ℕ → Bus
  same usi level levels = bus_of (map (alike usi) messages) false level 0 levels []

  set-up : Clears messages set_up (powered messages) (same ready 0 []) (λ message. 0)
  unfolding performed cleared_at applied write_byte settled followed count_flags
  set-up =
      writing messages still_in prepare (λ message. masters.entering) refl
      (writes-all prepare (λ message. masters.entering) messages false 0 0 [] []) (λ message. refl)

  idle : Clears messages (samples ∷ records ∷ []) (same ready 0 []) (same seen 3 (3 ∷ [])) (λ message. 0)
  unfolding performed phases.recorded phases.sampled
  idle = quietly messages (also tt (also tt nobody)) (alike ready) refl (ends.first-sample messages one)

  pulls-low : Clears messages (writes still_in pull_low) (same seen 3 (3 ∷ [])) (same pulling 3 (3 ∷ []))
      (λ message. 0)
  unfolding performed cleared_at applied write_byte settled followed
  pulls-low = writing messages still_in pull_low (alike seen) refl (ends.pulls-low messages one) (λ message. refl)

  caught-start : Clears messages (samples ∷ records ∷ []) (same pulling 3 (3 ∷ [])) (same caught 1 (3 ∷ 1 ∷ []))
      (λ message. 0)
  unfolding performed phases.recorded phases.sampled
  caught-start = quietly messages (also tt (also tt nobody)) (alike pulling) refl (ends.start-sample messages one)

  clears-start : Clears messages (writes still_in clear_start) (same caught 1 (3 ∷ 1 ∷ []))
      (bus_of (waits (after_start 0) (λ message. stays) messages) false 1 0 (3 ∷ 1 ∷ []) []) (λ message. 0x02)
  unfolding performed cleared_at applied write_byte settled followed
  clears-start =
      writing messages still_in clear_start (alike caught) refl (ends.clears-start messages one) (λ message. refl)

  pub started : Clears messages (set_up ++ start) (powered messages)
      (bus_of (waits (after_start 0) (λ message. stays) messages) false 1 0 (3 ∷ 1 ∷ []) []) (λ message. 0x02)
  started =
      then messages set-up
      (then messages (then messages (then messages idle pulls-low (λ message. refl)) caught-start (λ message. refl))
      clears-start (λ message. refl))
      (λ message. refl)

-- joins of IFG
pub joined : (a b : Bool) → bit_or (bool_byte a) (bool_byte b) ≡ bool_byte (a || b)
joined true true = refl
joined true false = refl
joined false true = refl
joined false false = refl

-- the writes of step 2, as 01 lists them
abbrev open_byte : List (ℕ × ℕ)
open_byte = (USICTL0, 0xca) ∷ (USICNT, 0x08) ∷ []

abbrev withdraw : List (ℕ × ℕ)
withdraw = (USICTL0, 0xc0) ∷ (USICNT, 0x80) ∷ []

abbrev listen : List (ℕ × ℕ)
listen = (USICTL0, 0xc8) ∷ (USICNT, 0x01) ∷ []

-- what one master's writes clear, as it stands before the byte, and in its role after the eight turns
opening : (pause : Pause) (own : ℕ) (standing : Standing)
    → bit_or (cleared_at still_in (Write USISRL own) (master_at pause standing))
    (clears_of still_in open_byte (written USISRL own (master_at pause standing)))
    ≡ bool_byte (is_in standing)
unfolding cleared_at applied write_byte settled followed count_flags
opening (after_start taken) own stays = refl
opening (after_byte byte ninth) own stays = refl
opening (after_start taken) own (out register latch position) = refl
opening (after_byte byte ninth) own (out register latch position) = refl

withdrawing : (taken : List Bool) (sda : Bool) (role : Role) → clears_of beaten withdraw (master_of 0 taken sda role) ≡ 0
unfolding cleared_at applied write_byte settled followed count_flags
withdrawing taken sda (drives rest latch enable) = refl
withdrawing taken sda (lost rest latch position) = refl
withdrawing taken sda (gone register latch position) = refl

listening : (taken : List Bool) (sda : Bool) (role : Role)
    → clears_of still_in listen (withdrawn (master_of 0 taken sda role)) ≡ bool_byte (contends role)
unfolding cleared_at applied write_byte settled followed count_flags
listening taken sda (drives rest latch enable) = refl
listening taken sda (lost rest latch position) = refl
listening taken sda (gone register latch position) = refl

-- who is out does not contend
gone-stays : (at : ℕ) (bits : List Bool) (register : ℕ) (latch : Bool) (position : ℕ)
    → contends (turns_of at bits (gone register latch position)) ≡ false
gone-stays at [] register latch position = refl
gone-stays at (bit ∷ bits) register latch position = gone-stays (suc at) bits register latch position

contends-in : (at : ℕ) (bits : List Bool) (latch enable : Bool) (own : ℕ) (standing : Standing)
    → is_in standing || contends (turns_of at bits (enters_as latch enable own standing)) ≡ is_in standing
contends-in at bits latch enable own stays = refl
contends-in at bits latch enable own (out register latched position) = gone-stays at bits register latched position

-- step 2, a byte: IFG is cleared, of those still in
module _ (messages : List (List ℕ)) (standing : List ℕ → Standing) (index byte acknowledge : ℕ) (pause : Pause)
    (pull : Bool) (level old : ℕ) (levels carried : List ℕ) (small : byte < 256)
    (fits : Everyone (λ message. byte_at index message < 256) messages)
    (fair : Everyone (λ message. is_in (standing message) ≡ true → byte ≤ byte_at index message) messages)
    (leader : Someone (λ message. (is_in (standing message) ≡ true) × (byte_at index message ≡ byte)) messages) where
  abbrev before : Bus
  before = bus_of (waits pause standing messages) pull level old levels carried

  abbrev inside : Bus
  inside = in_byte 8 [] (line_at pause pull level) (map (enters pause standing index) messages) 0 levels carried

  abbrev flags : List ℕ → ℕ
  flags message = bool_byte (is_in (standing message))

  abbrev at : List ℕ → Master
  at message = master_at pause (standing message)

  opens : Clears messages (loads index ∷ writes still_in open_byte) before inside flags
  unfolding performed cleared_in phases.opened phases.loaded
  opens =
      record {
        leads = opened-is messages standing index pause pull level old levels carried fits;
        is =
            ap₂ (zip_with bit_or)
            (zip_with-map (λ master message. cleared_at still_in (Write USISRL (byte_at index message)) master) at
            messages)
            (writes-clear messages still_in open_byte (performed messages (loads index) before)
            ∙ ap (map (clears_of still_in open_byte))
            (zip_with-map (λ master message. written USISRL (byte_at index message) master) at messages)
            ∙ map-map (clears_of still_in open_byte)
            (λ message. written USISRL (byte_at index message) (at message)) messages)
            ∙ zip-maps (λ message. cleared_at still_in (Write USISRL (byte_at index message)) (at message))
            (λ message. clears_of still_in open_byte (written USISRL (byte_at index message) (at message))) messages
            ∙ map-alike (everyone (λ message. opening pause (byte_at index message) (standing message)) messages);
      }

  -- after the eight turns
  abbrev line : Line
  line = line_after (line_at pause pull level) (byte_bits byte)

  abbrev role : List ℕ → Role
  role message = turns_of (9 * index) (byte_bits byte) (enters pause standing index message)

  abbrev turned : List ℕ → Master
  turned message = master_of 0 (byte_bits byte) line.sda (role message)

  abbrev over : List Master → List ℕ → Bus
  over list bytes = bus_of list line.pull line.level byte (levels ++ draw_bits (byte_bits byte)) bytes

  abbrev all : (List ℕ → Master) → Bus
  all master = over (map master messages) (carried ++ byte ∷ [])

  turns : Clears messages (data_turns 8 (9 * index)) inside (over (map turned messages) carried) (λ message. 0)
  turns =
      quietly messages (data-turns-quiet 8 (9 * index))
      (λ message. master_of 8 [] (line_at pause pull level).sda (enters pause standing index message))
      (map-map (master_of 8 [] (line_at pause pull level).sda) (enters pause standing index) messages)
      (phases.data-turns-is messages 8 (9 * index) inside
      ∙ carried-byte messages standing index byte acknowledge pause pull level old levels carried small fits fair
      leader
      ∙ ap (λ list. over list carried)
      (three-maps (master_of 0 (byte_bits byte) line.sda) (turns_of (9 * index) (byte_bits byte))
      (enters pause standing index) messages))

  -- who lost in it withdraws, the others listen
  abbrev beaten_ones : List ℕ → Master
  beaten_ones message = applied beaten (Write USICNT 0x80) (applied beaten (Write USICTL0 0xc0) (turned message))

  abbrev left : List ℕ → Master
  left message = withdrawn (turned message)

  abbrev listened : List ℕ → Master
  listened message = written USICNT 0x01 (written USICTL0 0xc8 (left message))

  withdraws : Clears messages (carries ∷ writes beaten withdraw) (over (map turned messages) carried) (all beaten_ones)
      (λ message. 0)
  unfolding performed
  withdraws =
      then messages
      (quietly messages {instants = carries ∷ []} (also tt nobody) turned {next = all turned} refl refl)
      (writing messages beaten withdraw turned refl
      (ap (λ list. over list (carried ++ byte ∷ []))
      (three-maps (applied beaten (Write USICNT 0x80)) (applied beaten (Write USICTL0 0xc0)) turned messages))
      (λ message. withdrawing (byte_bits byte) line.sda (role message)))
      (λ message. refl)

  listens : Clears messages (settles ∷ writes still_in listen) (all beaten_ones) (all listened)
      (λ message. bool_byte (contends (role message)))
  unfolding performed
  listens =
      then messages
      (quietly messages {instants = settles ∷ []} (also tt nobody) beaten_ones {next = all left} refl
      (ap (λ list. over list (carried ++ byte ∷ [])) (map-map masters.settled beaten_ones messages)))
      (writing messages still_in listen left refl
      (ap (λ list. over list (carried ++ byte ∷ []))
      (three-maps (written USICNT 0x01) (written USICTL0 0xc8) left messages))
      (λ message. listening (byte_bits byte) line.sda (role message)))
      (λ message. refl)

  pub byte-clears : cleared_over messages (byte_turn index acknowledge) before ≡ map flags messages
  byte-clears =
      (then messages
      (then messages (then messages (then messages opens turns still) withdraws still) listens
      (λ message. joined (is_in (standing message)) (contends (role message))
      ∙ ap bool_byte (contends-in (9 * index) (byte_bits byte) (latch_at pause) (enable_at pause) (byte_at index message)
      (standing message))))
      (quietly messages (bit-turn-quiet (eqb acknowledge 0)) listened refl refl)
      still
      ).is
    where
      still : (message : List ℕ) → bit_or (flags message) 0 ≡ flags message
      still message = or_zero_r (flags message)

-- step 4: what one master's writes clear, as it stands
abbrev stop_seen : Standing → Master
stop_seen standing = masters.with_usi (turn.samples true true (lets_rise standing)) (standing_as lets_rise standing)

sending-low : (byte : ℕ) (ninth : Bool) (standing : Standing)
    → clears_of still_in send_low (master_at (after_byte byte ninth) standing) ≡ bool_byte (is_in standing)
unfolding cleared_at applied write_byte settled followed count_flags
sending-low byte ninth stays = refl
sending-low byte ninth (out register latch position) = refl

letting-rise : (standing : Standing) → clears_of still_in let_rise (standing_as low_bit standing) ≡ 0
unfolding cleared_at applied write_byte settled followed
letting-rise stays = refl
letting-rise (out register latch position) = refl

finishing : (standing : Standing) → clears_of still_in finish (stop_seen standing) ≡ 0
unfolding cleared_at applied write_byte settled followed condition_flags condition_count edged fallen risen sample
finishing stays = refl
finishing (out register latch position) = refl

-- step 4: IFG is cleared, of those still in
module _ (messages : List (List ℕ)) (standing : List ℕ → Standing) (byte : ℕ) (ninth pull : Bool) (level old : ℕ)
    (levels carried : List ℕ) (one : Someone (λ message. is_in (standing message) ≡ true) messages) where
  abbrev all_as : (Standing → Usi) → Bool → ℕ → List ℕ → Bus
  all_as usi pulling seen recording =
      bus_of (map (λ message. standing_as usi (standing message)) messages) pulling seen old recording carried

  abbrev waiting : Bus
  waiting = bus_of (waits (after_byte byte ninth) standing messages) pull level old levels carried

  abbrev if_in : List ℕ → ℕ
  if_in message = bool_byte (is_in (standing message))

  sends-low : Clears messages (writes still_in send_low) waiting
      (all_as (last_bit (after_byte byte ninth)) pull level levels) if_in
  unfolding performed
  sends-low =
      writing messages still_in send_low (λ message. master_at (after_byte byte ninth) (standing message)) refl
      (ends.sends-low messages standing byte ninth pull level old levels carried one)
      (λ message. sending-low byte ninth (standing message))

  low-bit : Clears messages (bit_turn false) (all_as (last_bit (after_byte byte ninth)) pull level levels)
      (all_as low_bit false 1 (levels ++ 0 ∷ 1 ∷ [])) (λ message. 0)
  low-bit =
      quietly messages (bit-turn-quiet false)
      (λ message. standing_as (last_bit (after_byte byte ninth)) (standing message)) refl
      (phases.bit-turn-is messages false (all_as (last_bit (after_byte byte ninth)) pull level levels)
      ∙ ends.low-bit messages standing byte ninth pull level old levels carried one)

  lets-rise : Clears messages (writes still_in let_rise) (all_as low_bit false 1 (levels ++ 0 ∷ 1 ∷ []))
      (all_as lets_rise false 1 (levels ++ 0 ∷ 1 ∷ [])) (λ message. 0)
  unfolding performed
  lets-rise =
      writing messages still_in let_rise (λ message. standing_as low_bit (standing message)) refl
      (ends.lets-rise messages standing byte ninth pull level old levels carried one)
      (λ message. letting-rise (standing message))

  abbrev stop_at : Bus
  stop_at =
      bus_of (map (λ message. stop_seen (standing message)) messages) false 3 old (levels ++ 0 ∷ 1 ∷ [] ++ 3 ∷ [])
      carried

  sees-stop : Clears messages (samples ∷ records ∷ []) (all_as lets_rise false 1 (levels ++ 0 ∷ 1 ∷ [])) stop_at
      (λ message. 0)
  unfolding performed phases.recorded phases.sampled
  sees-stop =
      quietly messages (also tt (also tt nobody)) (λ message. standing_as lets_rise (standing message)) refl
      (record-all (λ message. standing_as lets_rise (standing message)) messages
      (λ message. lets_rise (standing message))
      false 1 old (levels ++ 0 ∷ 1 ∷ []) carried true true
      (ap not (any_none (everyone (λ message. ends.quiet-scl (standing message)) messages)))
      (ap not (any_none (everyone (λ message. ends.quiet-sda (standing message)) messages))))

  pub stop-clears : cleared_over messages stop waiting ≡ map if_in messages
  stop-clears =
      (then messages
      (then messages (then messages (then messages sends-low low-bit still) lets-rise still) sees-stop still)
      (writing messages still_in finish (λ message. stop_seen (standing message)) refl refl
      (λ message. finishing (standing message)))
      still
      ).is
    where
      still : (message : List ℕ) → bit_or (if_in message) 0 ≡ if_in message
      still message = or_zero_r (if_in message)

-- a restart: what one master's writes clear, as it stands
sending-high : (byte : ℕ) (ninth : Bool) (standing : Standing)
    → clears_of still_in send_high (master_at (after_byte byte ninth) standing) ≡ bool_byte (is_in standing)
unfolding cleared_at applied write_byte settled followed count_flags
sending-high byte ninth stays = refl
sending-high byte ninth (out register latch position) = refl

pulling-low : (standing : Standing) → clears_of still_in pull_low (standing_as high_bit standing) ≡ 0
unfolding cleared_at applied write_byte settled followed
pulling-low stays = refl
pulling-low (out register latch position) = refl

-- STTIFG: those still in clear it with 41h, the others with 49h
clearing-start : (standing : Standing)
    → clears_of still_in clear_start (standing_as sees_start standing) ≡ cond (is_in standing) 0x02 0
unfolding cleared_at applied write_byte settled followed
clearing-start stays = refl
clearing-start (out register latch position) = refl

clearing-seen : (standing : Standing)
    → clears_of losers clear_seen (standing_as cleared standing) ≡ cond (is_in standing) 0 0x02
unfolding cleared_at applied write_byte settled followed count_flags
clearing-seen stays = refl
clearing-seen (out register latch position) = refl

-- IFG of those still in, and STTIFG of everybody
abbrev pub restart_flags : Standing → ℕ
restart_flags standing = cond (is_in standing) 0x03 0x02

module _ (messages : List (List ℕ)) (standing : List ℕ → Standing) (byte : ℕ) (ninth pull : Bool) (level old : ℕ)
    (levels carried : List ℕ) (one : Someone (λ message. is_in (standing message) ≡ true) messages) where
  abbrev stage : (Standing → Usi) → Bool → ℕ → List ℕ → Bus
  stage usi pulling seen recording =
      bus_of (map (λ message. standing_as usi (standing message)) messages) pulling seen old recording carried

  abbrev bit : List ℕ
  bit = levels ++ 2 ∷ 3 ∷ []

  abbrev drawn : List ℕ
  drawn = bit ++ 1 ∷ []

  abbrev waits-before : Bus
  waits-before = bus_of (waits (after_byte byte ninth) standing messages) pull level old levels carried

  abbrev waits-after : Bus
  waits-after = bus_of (waits (after_start old) standing messages) false 1 old drawn carried

  abbrev of_each : (Standing → ℕ) → List ℕ → ℕ
  of_each flags message = flags (standing message)

  sends-high : Clears messages (writes still_in send_high) waits-before
      (stage (to_send (after_byte byte ninth)) pull level levels) (of_each (λ s. bool_byte (is_in s)))
  unfolding performed
  sends-high =
      writing messages still_in send_high (λ message. master_at (after_byte byte ninth) (standing message)) refl
      (again.sends-high messages standing byte ninth pull level old levels carried one)
      (λ message. sending-high byte ninth (standing message))

  high-bit : Clears messages (bit_turn false) (stage (to_send (after_byte byte ninth)) pull level levels)
      (stage high_bit false 3 bit) (λ message. 0)
  high-bit =
      quietly messages (bit-turn-quiet false)
      (λ message. standing_as (to_send (after_byte byte ninth)) (standing message)) refl
      (phases.bit-turn-is messages false (stage (to_send (after_byte byte ninth)) pull level levels)
      ∙ again.high-bit messages standing byte ninth pull level old levels carried one)

  lowers : Clears messages (writes still_in pull_low) (stage high_bit false 3 bit) (stage pulls_low false 3 bit)
      (λ message. 0)
  unfolding performed
  lowers =
      writing messages still_in pull_low (λ message. standing_as high_bit (standing message)) refl
      (again.pulls-low messages standing byte ninth pull level old levels carried one)
      (λ message. pulling-low (standing message))

  sees-start : Clears messages (samples ∷ records ∷ []) (stage pulls_low false 3 bit) (stage sees_start false 1 drawn)
      (λ message. 0)
  unfolding performed phases.recorded phases.sampled
  sees-start =
      quietly messages (also tt (also tt nobody)) (λ message. standing_as pulls_low (standing message)) refl
      (again.start-sample messages standing byte ninth pull level old levels carried one)

  clears-it : Clears messages (writes still_in clear_start) (stage sees_start false 1 drawn)
      (stage cleared false 1 drawn) (of_each (λ s. cond (is_in s) 0x02 0))
  unfolding performed
  clears-it =
      writing messages still_in clear_start (λ message. standing_as sees_start (standing message)) refl
      (again.clears-start messages standing byte ninth pull level old levels carried one)
      (λ message. clearing-start (standing message))

  losers-too : Clears messages (writes losers clear_seen) (stage cleared false 1 drawn) waits-after
      (of_each (λ s. cond (is_in s) 0 0x02))
  unfolding performed
  losers-too =
      writing messages losers clear_seen (λ message. standing_as cleared (standing message)) refl
      (again.losers-done messages standing byte ninth pull level old levels carried one old)
      (λ message. clearing-seen (standing message))

  pub restart-clears : Clears messages restart waits-before waits-after (of_each restart_flags)
  restart-clears =
      then messages
      (then messages
      (then messages
      (then messages
      (then messages sends-high high-bit (λ message. still (is_in (standing message)))) lowers
      (λ message. still (is_in (standing message))))
      sees-start
      (λ message. still (is_in (standing message))))
      clears-it
      (λ message. first (is_in (standing message))))
      losers-too
      (λ message. last (is_in (standing message)))
    where
      still : (in-it : Bool) → bit_or (bool_byte in-it) 0 ≡ bool_byte in-it
      still true = refl
      still false = refl

      first : (in-it : Bool) → bit_or (bool_byte in-it) (cond in-it 0x02 0) ≡ cond in-it 0x03 0
      first true = refl
      first false = refl

      last : (in-it : Bool) → bit_or (cond in-it 0x03 0) (cond in-it 0 0x02) ≡ cond in-it 0x03 0x02
      last true = refl
      last false = refl
