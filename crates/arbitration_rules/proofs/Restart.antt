-- A restart: who is in sends a high bit and pulls SDA low, and then stands as after the first START; who is out writes
-- away the START that it has seen, and stands as it stood after withdrawing.
use Prim.Native.Nat.{ℕ}
use mathlib.Core.Path.{◌≡◌, refl, ap, ◌∙◌}
use mathlib.Core.Bool.{Bool, true, false, not}
use mathlib.Core.List.{List, [], ◌∷◌, ◌++◌, map, append_assoc}
use lib.Dec.{lit<}
use Rattle.usi_registers.specs.Registers.{USICTL0, USICTL1, USICNT, USISRL}
use Rattle.usi_registers.specs.Rules.{count_flags}
use Rattle.usi_i2c.specs.Rules.{condition_flags, condition_count}
use Rattle.usi.specs.declared.Usi.{Usi}
use Rattle.usi.specs.Module.{pulls_scl, pulls_sda}
use Rattle.usi.specs.Step.{followed, settled, write_byte, edged, fallen, risen, sample}
use Rattle.arbitration_rules.specs.Masters.{with_usi, losers, applied}
use Rattle.arbitration_rules.proofs.Phases.{writes, writes_by, recorded, bit_turn, restarted}
use Rattle.arbitration_rules.specs.Run.{Bus}
use Rattle.laws.specs.Everyone.{Someone}
use Rattle.laws.proofs.Lists.{everyone, map-alike, any-alike, any_none, any-one}
use Rattle.arbitration_rules.proofs.Turn.{between, samples, Turns}
use Rattle.arbitration_rules.proofs.Wire.{bus_of, record-all, turn_is, writes_of, writes_of_by, writes-all, writes-by}
use Rattle.arbitration_rules.proofs.Registers.{driving, released, driving-turn, released-turn}
use Rattle.arbitration_rules.proofs.Standing.{Standing, stays, out}
use Rattle.arbitration_rules.proofs.Pause.{Pause, after_start, after_byte, sda_at, latch_at, enable_at, is_in}
use Rattle.arbitration_rules.proofs.Pause.{standing_as, master_at}
use Rattle.arbitration_rules.proofs.Round.{waits}
use Rattle.arbitration_rules.proofs.Ends.{pull_low, clear_start, pulling, caught}

-- the writes, as 02 lists them
abbrev pub send_high : List (ℕ × ℕ)
send_high = (USISRL, 0xff) ∷ (USICTL0, 0xca) ∷ (USICNT, 0x01) ∷ []

abbrev pub clear_seen : List (ℕ × ℕ)
clear_seen = (USICTL1, 0x49) ∷ (USICNT, 0x80) ∷ []

-- the modules from stage to stage: about to send a high bit; after it; pulling SDA low; having seen the START; with its
-- flag cleared by those still in
abbrev pub to_send : Pause → Standing → Usi
to_send pause stays = driving 1 0xff (latch_at pause) (enable_at pause) (sda_at pause)
to_send pause (out register latch position) = released register latch (sda_at pause)

abbrev pub high_bit : Standing → Usi
high_bit stays = driving 0 0xff true true true
high_bit (out register latch position) = released register latch true

abbrev pub pulls_low : Standing → Usi
pulls_low stays = pulling
pulls_low (out register latch position) = released register latch true

abbrev pub sees_start : Standing → Usi
sees_start stays = caught
sees_start (out register latch position) = between 0xc0 0x4b 0x00 register latch false false

abbrev pub cleared : Standing → Usi
cleared stays = between 0xca 0x41 0 0 false true false
cleared (out register latch position) = between 0xc0 0x4b 0x00 register latch false false

pub sends-one : (byte : ℕ) (ninth : Bool) (standing : Standing)
    → writes_of send_high (master_at (after_byte byte ninth) standing) ≡ standing_as (to_send (after_byte byte ninth)) standing
unfolding applied write_byte settled followed count_flags
sends-one byte ninth stays = refl
sends-one byte ninth (out register latch position) = refl

high-turn : (pause : Pause) (standing : Standing)
    → Turns (to_send pause standing) (is_in standing) false true (high_bit standing)
high-turn pause stays = driving-turn 0 0xff (latch_at pause) (enable_at pause) (sda_at pause) true true (lit< tt) refl
high-turn pause (out register latch position) = released-turn register latch (sda_at pause) true

pub pulls-sda : (standing : Standing) → writes_of pull_low (standing_as high_bit standing) ≡ standing_as pulls_low standing
unfolding applied write_byte settled followed
pulls-sda stays = refl
pulls-sda (out register latch position) = refl

quiet-scl : (standing : Standing) → pulls_scl (pulls_low standing) ≡ false
quiet-scl stays = refl
quiet-scl (out register latch position) = refl

in-pulls : (standing : Standing) → pulls_sda (pulls_low standing) ≡ is_in standing
in-pulls stays = refl
in-pulls (out register latch position) = refl

pub sees : (standing : Standing)
    → with_usi (samples true false (pulls_low standing)) (standing_as pulls_low standing) ≡ standing_as sees_start standing
unfolding condition_flags condition_count followed edged fallen risen sample
sees stays = refl
sees (out register latch position) = refl

pub clears : (standing : Standing)
    → writes_of clear_start (standing_as sees_start standing) ≡ standing_as cleared standing
unfolding applied write_byte settled followed
clears stays = refl
clears (out register latch position) = refl

pub losers-clear : (taken : ℕ) (standing : Standing)
    → writes_of_by losers clear_seen (standing_as cleared standing) ≡ master_at (after_start taken) standing
unfolding applied write_byte settled followed count_flags
losers-clear taken stays = refl
losers-clear taken (out register latch position) = refl

module _ (messages : List (List ℕ)) (standing : List ℕ → Standing) (byte : ℕ) (ninth pull : Bool) (level old : ℕ)
    (levels carried : List ℕ) (one : Someone (λ message. is_in (standing message) ≡ true) messages) where
  abbrev pub all_as : (Standing → Usi) → Bool → ℕ → List ℕ → Bus
  all_as usi pulls seen recording =
      bus_of (map (λ message. standing_as usi (standing message)) messages) pulls seen old recording carried

  abbrev pub high : List ℕ
  high = levels ++ 2 ∷ 3 ∷ []

  abbrev pub low : List ℕ
  low = high ++ 1 ∷ []

  pub sends-high : writes send_high (bus_of (waits (after_byte byte ninth) standing messages) pull level old levels carried)
      ≡ all_as (to_send (after_byte byte ninth)) pull level levels
  sends-high =
      writes-all send_high (λ message. master_at (after_byte byte ninth) (standing message)) messages pull level old levels
      carried
      ∙ ap (λ masters. bus_of masters pull level old levels carried)
      (map-alike (everyone (λ message. sends-one byte ninth (standing message)) messages))

  pub high-bit : bit_turn false (all_as (to_send (after_byte byte ninth)) pull level levels) ≡ all_as high_bit false 3 high
  high-bit =
      turn_is (λ message. standing_as (to_send (after_byte byte ninth)) (standing message)) messages
      (λ message. high_bit (standing message)) (λ message. is_in (standing message)) (λ message. false)
      pull false true level old levels carried
      (everyone (λ message. high-turn (after_byte byte ninth) (standing message)) messages)
      (any-one one) (ap not (any_none (everyone (λ message. refl) messages)))

  pub pulls-low : writes pull_low (all_as high_bit false 3 high) ≡ all_as pulls_low false 3 high
  pulls-low =
      writes-all pull_low (λ message. standing_as high_bit (standing message)) messages false 3 old high carried
      ∙ ap (λ masters. bus_of masters false 3 old high carried)
      (map-alike (everyone (λ message. pulls-sda (standing message)) messages))

  pub start-sample : recorded (all_as pulls_low false 3 high) ≡ all_as sees_start false 1 low
  start-sample =
      record-all (λ message. standing_as pulls_low (standing message)) messages
      (λ message. pulls_low (standing message)) false 3 old high carried true false
      (ap not (any_none (everyone (λ message. quiet-scl (standing message)) messages)))
      (ap not (any-alike (everyone (λ message. in-pulls (standing message)) messages) ∙ any-one one))
      ∙ ap (λ masters. bus_of masters false 1 old low carried)
      (map-alike (everyone (λ message. sees (standing message)) messages))

  pub clears-start : writes clear_start (all_as sees_start false 1 low) ≡ all_as cleared false 1 low
  clears-start =
      writes-all clear_start (λ message. standing_as sees_start (standing message)) messages false 1 old low carried
      ∙ ap (λ masters. bus_of masters false 1 old low carried)
      (map-alike (everyone (λ message. clears (standing message)) messages))

  pub losers-done : (taken : ℕ) → writes_by losers clear_seen (all_as cleared false 1 low)
      ≡ bus_of (waits (after_start taken) standing messages) false 1 old low carried
  losers-done taken =
      writes-by losers clear_seen (λ message. standing_as cleared (standing message)) messages false 1 old low carried
      ∙ ap (λ masters. bus_of masters false 1 old low carried)
      (map-alike (everyone (λ message. losers-clear taken (standing message)) messages))

  -- after a restart everyone stands as after the first START, or as after withdrawing
  pub restart-is : restarted (bus_of (waits (after_byte byte ninth) standing messages) pull level old levels carried)
      ≡ bus_of (waits (after_start old) standing messages) false 1 old (levels ++ 2 ∷ 3 ∷ 1 ∷ []) carried
  unfolding restarted
  restart-is =
      ap (λ bus. writes_by losers clear_seen (writes clear_start (recorded (writes pull_low (bit_turn false bus))))) sends-high
      ∙ ap (λ bus. writes_by losers clear_seen (writes clear_start (recorded (writes pull_low bus)))) high-bit
      ∙ ap (λ bus. writes_by losers clear_seen (writes clear_start (recorded bus))) pulls-low
      ∙ ap (λ bus. writes_by losers clear_seen (writes clear_start bus)) start-sample
      ∙ ap (writes_by losers clear_seen) clears-start
      ∙ losers-done old
      ∙ ap (λ recording. bus_of (waits (after_start old) standing messages) false 1 old recording carried)
      (append_assoc levels (2 ∷ 3 ∷ []) (1 ∷ []))
