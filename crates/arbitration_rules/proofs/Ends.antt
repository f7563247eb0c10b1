-- The START and the STOP: the levels that they draw, and the modules as they leave them.
use Prim.Native.Nat.{ℕ}
use mathlib.Core.Path.{◌≡◌, refl, ap, ◌∙◌}
use mathlib.Core.Bool.{Bool, true, false, not}
use mathlib.Core.List.{List, [], ◌∷◌, ◌++◌, map, append_assoc}
use lib.Dec.{lit<}
use Rattle.usi_registers.specs.Registers.{USICTL0, USICTL1, USICKCTL, USICNT, USISRL}
use Rattle.usi_registers.specs.Rules.{count_flags}
use Rattle.usi_i2c.specs.Rules.{condition_flags, condition_count}
use Rattle.usi.specs.declared.Usi.{Usi}
use Rattle.usi.specs.Module.{pulls_scl, pulls_sda}
use Rattle.usi.specs.Step.{followed, settled, write_byte, edged, fallen, risen, sample}
use Rattle.arbitration_rules.specs.Masters.{Master, with_usi, entering, applied}
use Rattle.arbitration_rules.proofs.Phases.{writes, recorded, bit_turn, prepared, started, stopped}
use Rattle.laws.specs.Search.{any}
use Rattle.arbitration_rules.specs.Run.{Bus}
use Rattle.laws.specs.Everyone.{Someone}
use Rattle.laws.proofs.Lists.{everyone, someone-so, map-alike, any_none, any-one}
use Rattle.arbitration_rules.proofs.Turn.{between, samples, Turns}
use Rattle.arbitration_rules.proofs.Wire.{bus_of, record-all, turn_is, writes_of, writes-all}
use Rattle.arbitration_rules.proofs.Registers.{driving, released, driving-turn, released-turn}
use Rattle.arbitration_rules.proofs.Standing.{Standing, stays, out}
use Rattle.arbitration_rules.proofs.Pause.{Pause, after_start, after_byte, sda_at, latch_at, enable_at, is_in}
use Rattle.arbitration_rules.proofs.Pause.{standing_as, master_at}
use Rattle.arbitration_rules.proofs.Round.{waits}

-- the writes of step 1 and of step 4, as 01 lists them
abbrev pub prepare : List (ℕ × ℕ)
prepare = (USICKCTL, 0x22) ∷ (USICTL1, 0x41) ∷ (USICTL0, 0xc8) ∷ []

abbrev pub pull_low : List (ℕ × ℕ)
pull_low = (USISRL, 0x00) ∷ (USICTL0, 0xce) ∷ (USICTL0, 0xca) ∷ []

abbrev pub clear_start : List (ℕ × ℕ)
clear_start = (USICTL1, 0x41) ∷ []

abbrev pub send_low : List (ℕ × ℕ)
send_low = (USICTL0, 0xca) ∷ (USISRL, 0x00) ∷ (USICNT, 0x01) ∷ []

abbrev pub let_rise : List (ℕ × ℕ)
let_rise = (USISRL, 0xff) ∷ (USICTL0, 0xce) ∷ []

abbrev pub finish : List (ℕ × ℕ)
finish = (USICTL0, 0xc8) ∷ []

-- a module made ready, before and after it has seen the lines; one that pulls SDA low, before and after it has seen
-- that
abbrev pub ready : Usi
ready = (writes_of prepare entering).usi

abbrev pub seen : Usi
seen = between 0xc8 0x41 0 0 true false true

abbrev pub pulling : Usi
pulling = between 0xca 0x41 0 0 false true true

abbrev pub caught : Usi
caught = between 0xca 0x43 0 0 false true false

abbrev pub alike : Usi → List ℕ → Master
alike usi message = record { usi = usi; contending = true; lost = false; position = 0 }

-- the START: nobody pulls at first, then everybody pulls SDA
module _ {P : List ℕ → Type 0} (messages : List (List ℕ)) (one : Someone P messages) where
  nobody-pulls : any {A = List ℕ} (λ message. false) messages ≡ false
  nobody-pulls = any_none (everyone (λ message. refl) messages)

  everybody-pulls : any {A = List ℕ} (λ message. true) messages ≡ true
  everybody-pulls = any-one (someone-so (λ message h. refl) one)

  abbrev same : Usi → ℕ → List ℕ → Bus
  same usi level levels = bus_of (map (alike usi) messages) false level 0 levels []

  pub first-sample : recorded (same ready 0 []) ≡ same seen 3 (3 ∷ [])
  unfolding applied write_byte settled followed edged sample
  first-sample =
      record-all (alike ready) messages (λ message. ready) false 0 0 [] [] true true (ap not nobody-pulls)
      (ap not nobody-pulls)

  pub pulls-low : writes pull_low (same seen 3 (3 ∷ [])) ≡ same pulling 3 (3 ∷ [])
  unfolding applied write_byte settled followed
  pulls-low = writes-all pull_low (alike seen) messages false 3 0 (3 ∷ []) []

  pub start-sample : recorded (same pulling 3 (3 ∷ [])) ≡ same caught 1 (3 ∷ 1 ∷ [])
  unfolding condition_flags condition_count followed edged fallen risen sample
  start-sample =
      record-all (alike pulling) messages (λ message. pulling) false 3 0 (3 ∷ []) [] true false (ap not nobody-pulls)
      (ap not everybody-pulls)

  pub clears-start : writes clear_start (same caught 1 (3 ∷ 1 ∷ []))
      ≡ bus_of (waits (after_start 0) (λ message. stays) messages) false 1 0 (3 ∷ 1 ∷ []) []
  unfolding applied write_byte settled followed
  clears-start = writes-all clear_start (alike caught) messages false 1 0 (3 ∷ 1 ∷ []) []

  pub start_is : started (prepared messages)
      ≡ bus_of (waits (after_start 0) (λ message. stays) messages) false 1 0 (3 ∷ 1 ∷ []) []
  unfolding started prepared applied write_byte settled followed
  start_is =
      ap (λ bus. writes clear_start (recorded (writes pull_low (recorded bus))))
      (writes-all prepare (λ message. entering) messages false 0 0 [] [])
      ∙ ap (λ bus. writes clear_start (recorded (writes pull_low bus))) first-sample
      ∙ ap (λ bus. writes clear_start (recorded bus)) pulls-low
      ∙ ap (writes clear_start) start-sample
      ∙ clears-start

-- before the STOP who is in drives one bit, 0; then it lets SDA rise
abbrev pub last_bit : Pause → Standing → Usi
last_bit pause stays = driving 1 0x00 (latch_at pause) (enable_at pause) (sda_at pause)
last_bit pause (out register latch position) = released register latch (sda_at pause)

abbrev pub low_bit : Standing → Usi
low_bit stays = driving 0 0x00 false true false
low_bit (out register latch position) = released register latch false

abbrev pub lets_rise : Standing → Usi
lets_rise stays = between 0xce 0x41 0 0xff true true false
lets_rise (out register latch position) = released register latch false

-- at the end: C8 45 22 00 FF of who is in; C0 4D 22 80 and the byte in which it lost, of who is out
abbrev pub final_usi : Standing → Usi
final_usi stays = between 0xc8 0x45 0x00 0xff true true true
final_usi (out register latch position) = between 0xc0 0x4d 0x80 register latch false true

stop-turn : (pause : Pause) (standing : Standing)
    → Turns (last_bit pause standing) (is_in standing) (is_in standing) false (low_bit standing)
stop-turn pause stays = driving-turn 0 0x00 (latch_at pause) (enable_at pause) (sda_at pause) false false (lit< tt) refl
stop-turn pause (out register latch position) = released-turn register latch (sda_at pause) false

prepares-stop : (byte : ℕ) (ninth : Bool) (standing : Standing)
    → writes_of send_low (master_at (after_byte byte ninth) standing)
    ≡ standing_as (last_bit (after_byte byte ninth)) standing
unfolding applied write_byte settled followed count_flags
prepares-stop byte ninth stays = refl
prepares-stop byte ninth (out register latch position) = refl

releases : (standing : Standing)
    → writes_of let_rise (standing_as low_bit standing) ≡ standing_as lets_rise standing
unfolding applied write_byte settled followed
releases stays = refl
releases (out register latch position) = refl

pub quiet-scl : (standing : Standing) → pulls_scl (lets_rise standing) ≡ false
quiet-scl stays = refl
quiet-scl (out register latch position) = refl

pub quiet-sda : (standing : Standing) → pulls_sda (lets_rise standing) ≡ false
quiet-sda stays = refl
quiet-sda (out register latch position) = refl

sees-stop : (standing : Standing)
    → writes_of finish (with_usi (samples true true (lets_rise standing)) (standing_as lets_rise standing))
    ≡ standing_as final_usi standing
unfolding applied write_byte settled followed condition_flags condition_count edged fallen risen sample
sees-stop stays = refl
sees-stop (out register latch position) = refl

-- the STOP: who is in drives one low bit, then lets SDA rise
module _ (messages : List (List ℕ)) (standing : List ℕ → Standing) (byte : ℕ) (ninth pull : Bool) (level old : ℕ)
    (levels carried : List ℕ) (one : Someone (λ message. is_in (standing message) ≡ true) messages) where
  abbrev all_as : (Standing → Usi) → Bool → ℕ → List ℕ → Bus
  all_as usi pulling seen recording =
      bus_of (map (λ message. standing_as usi (standing message)) messages) pulling seen old recording carried

  pub sends-low : writes send_low (bus_of (waits (after_byte byte ninth) standing messages) pull level old levels carried)
      ≡ all_as (last_bit (after_byte byte ninth)) pull level levels
  sends-low =
      writes-all send_low (λ message. master_at (after_byte byte ninth) (standing message)) messages pull level old
      levels
      carried
      ∙ ap (λ masters. bus_of masters pull level old levels carried)
      (map-alike (everyone (λ message. prepares-stop byte ninth (standing message)) messages))

  pub low-bit : bit_turn false (all_as (last_bit (after_byte byte ninth)) pull level levels)
      ≡ all_as low_bit false 1 (levels ++ 0 ∷ 1 ∷ [])
  low-bit =
      turn_is (λ message. standing_as (last_bit (after_byte byte ninth)) (standing message)) messages
      (λ message. low_bit (standing message)) (λ message. is_in (standing message)) (λ message. is_in (standing message))
      pull false false level old levels carried
      (everyone (λ message. stop-turn (after_byte byte ninth) (standing message)) messages)
      (any-one one) (ap not (any-one one))

  pub lets-rise : writes let_rise (all_as low_bit false 1 (levels ++ 0 ∷ 1 ∷ []))
      ≡ all_as lets_rise false 1 (levels ++ 0 ∷ 1 ∷ [])
  lets-rise =
      writes-all let_rise (λ message. standing_as low_bit (standing message)) messages false 1 old (levels ++ 0 ∷ 1 ∷ [])
      carried
      ∙ ap (λ masters. bus_of masters false 1 old (levels ++ 0 ∷ 1 ∷ []) carried)
      (map-alike (everyone (λ message. releases (standing message)) messages))

  stop-sample : writes finish (recorded (all_as lets_rise false 1 (levels ++ 0 ∷ 1 ∷ [])))
      ≡ all_as final_usi false 3 (levels ++ 0 ∷ 1 ∷ [] ++ 3 ∷ [])
  stop-sample =
      ap (writes finish)
      (record-all (λ message. standing_as lets_rise (standing message)) messages
      (λ message. lets_rise (standing message))
      false 1 old (levels ++ 0 ∷ 1 ∷ []) carried true true
      (ap not (any_none (everyone (λ message. quiet-scl (standing message)) messages)))
      (ap not (any_none (everyone (λ message. quiet-sda (standing message)) messages))))
      ∙ writes-all finish
      (λ message. with_usi (samples true true (lets_rise (standing message))) (standing_as lets_rise (standing message)))
      messages false 3 old (levels ++ 0 ∷ 1 ∷ [] ++ 3 ∷ []) carried
      ∙ ap (λ masters. bus_of masters false 3 old (levels ++ 0 ∷ 1 ∷ [] ++ 3 ∷ []) carried)
      (map-alike (everyone (λ message. sees-stop (standing message)) messages))

  pub stop_is : stopped (bus_of (waits (after_byte byte ninth) standing messages) pull level old levels carried)
      ≡ all_as final_usi false 3 (levels ++ 0 ∷ 1 ∷ 3 ∷ [])
  unfolding stopped
  stop_is =
      ap (λ bus. writes finish (recorded (writes let_rise (bit_turn false bus)))) sends-low
      ∙ ap (λ bus. writes finish (recorded (writes let_rise bus))) low-bit
      ∙ ap (λ bus. writes finish (recorded bus)) lets-rise
      ∙ stop-sample
      ∙ ap (all_as final_usi false 3) (append_assoc levels (0 ∷ 1 ∷ []) (3 ∷ []))
