-- A whole byte with its acknowledge: it is loaded, carried in eight turns and acknowledged in a ninth; the bus
-- carries the least byte of those still in, and each master stands as that byte decides.
use Prim.Native.Nat.{ℕ, ◌*◌, ◌≤◌, ◌<◌}
use mathlib.Core.Path.{◌≡◌, refl, ap, ap₂, sym, ◌∙◌}
use mathlib.Core.Bool.{Bool, true, false, not, ◌||◌, or-false, false≢true}
use mathlib.Core.List.{List, [], ◌∷◌, ◌++◌, map, map-map, append_assoc}
use lib.Dec.{eqb}
use Rattle.usi_registers.specs.Registers.{USICTL0, USICNT, USISRL}
use Rattle.encode.specs.Encode.{byte_bits, draw_bit, draw_bits}
use Rattle.arbitration_rules.specs.Masters.{Master, settled, applied, beaten, Write}
use Rattle.arbitration_rules.proofs.Phases.{written, withdrawn, writes, bit_turn, data_turns, loaded, opened}
use Rattle.arbitration_rules.proofs.Phases.{closed, byte_turn}
use Rattle.laws.specs.Search.{any}
use Rattle.levels.specs.Levels.{level_of}
use Rattle.arbitration_rules.specs.Outcome.{byte_at}
use Rattle.arbitration_rules.specs.Run.{Bus}
use Rattle.laws.specs.Everyone.{Everyone, Someone}
use Rattle.laws.proofs.Lists.{everyone, everyone-so, everyone-both, everyone-map, someone-so, someone-map, map-alike}
use Rattle.laws.proofs.Lists.{any_none, any-one, zip_with-map}
use Rattle.arbitration_rules.proofs.Bits.{number, number-bits, at-most-bits}
use Rattle.arbitration_rules.proofs.Wire.{bus_of, turn_is, writes-all}
use Rattle.arbitration_rules.proofs.Roles.{Role, contends, master_of, Sending}
use Rattle.arbitration_rules.proofs.Byte.{Within, Leads, turns_of, Line, line_after, in_byte, turns, within-turns}
use Rattle.arbitration_rules.proofs.Byte.{leads-turns, drawn}
use Rattle.arbitration_rules.proofs.Standing.{Standing, stays, out, standing_of, standing_after, enters_as}
use Rattle.arbitration_rules.proofs.Standing.{byte-decides}
use Rattle.arbitration_rules.proofs.Pause.{Pause, after_byte, sda_at, latch_at, enable_at, usi_at, is_in, master_at}
use Rattle.arbitration_rules.proofs.Pause.{loads, listener, listens, hears, heard}

pub three-maps : {A B C D : Type 0} (f : C → D) (g : B → C) (h : A → B) (l : List A)
    → map f (map g (map h l)) ≡ map (λ a. f (g (h a))) l
three-maps f g h l = ap (map f) (map-map g h l) ∙ map-map f (λ a. g (h a)) l

-- masters with messages, each as it stands
abbrev pub waits : Pause → (List ℕ → Standing) → List (List ℕ) → List Master
waits pause standing messages = map (λ message. master_at pause (standing message)) messages

abbrev pub enters : Pause → (List ℕ → Standing) → ℕ → List ℕ → Role
enters pause standing index message =
    enters_as (latch_at pause) (enable_at pause) (byte_at index message) (standing message)

abbrev pub line_at : Pause → Bool → ℕ → Line
line_at pause pull level = record { sda = sda_at pause; pull = pull; level = level }

-- the byte is loaded
pub opened-is : (messages : List (List ℕ)) (standing : List ℕ → Standing) (index : ℕ) (pause : Pause) (pull : Bool)
    (level byte : ℕ) (levels carried : List ℕ) → Everyone (λ message. byte_at index message < 256) messages
    → opened messages index (bus_of (waits pause standing messages) pull level byte levels carried)
    ≡ in_byte 8 [] (line_at pause pull level) (map (enters pause standing index) messages) 0 levels carried
unfolding opened loaded
opened-is messages standing index pause pull level byte levels carried fits =
    ap (λ masters. writes starts (bus masters))
    (zip_with-map (λ master message. written USISRL (byte_at index message) master)
    (λ message. master_at pause (standing message)) messages)
    ∙ writes-all starts (λ message. written USISRL (byte_at index message) (master_at pause (standing message)))
    messages
    pull level 0 levels carried
    ∙ ap bus (map-alike (everyone-so (λ message. loads pause (byte_at index message) (standing message)) fits))
    ∙ ap bus (sym (map-map (master_of 8 [] (sda_at pause)) (enters pause standing index) messages))
  where
    starts : List (ℕ × ℕ)
    starts = (USICTL0, 0xca) ∷ (USICNT, 0x08) ∷ []

    bus : List Master → Bus
    bus masters = bus_of masters pull level 0 levels carried

-- who lost releases both lines, the rest listen
closed_is : (taken : List Bool) (line : Line) (roles : List Role) (byte : ℕ) (levels carried : List ℕ)
    → Everyone (Sending 0) roles
    → closed (in_byte 0 taken line roles byte levels carried)
    ≡ bus_of (map (listener (number taken) line.sda) roles) line.pull line.level byte levels
    (carried ++ byte ∷ [])
unfolding closed
closed_is taken line roles byte levels carried sent =
    ap (λ masters. writes listen (bus masters))
    (three-maps settled (applied beaten (Write USICNT 0x80)) (applied beaten (Write USICTL0 0xc0))
    (map (master_of 0 taken line.sda) roles)
    ∙ map-map withdrawn (master_of 0 taken line.sda) roles)
    ∙ writes-all listen (λ role. withdrawn (master_of 0 taken line.sda role)) roles line.pull line.level byte
    levels
    (carried ++ byte ∷ [])
    ∙ ap bus (map-alike (everyone-so (listens taken line.sda) sent))
  where
    listen : List (ℕ × ℕ)
    listen = (USICTL0, 0xc8) ∷ (USICNT, 0x01) ∷ []

    bus : List Master → Bus
    bus masters = bus_of masters line.pull line.level byte levels (carried ++ byte ∷ [])

-- the acknowledge's turn shows its pull
acknowledge-turn : (byte : ℕ) (roles : List Role) (sda old pull : Bool) (level gathered : ℕ) (levels carried : List ℕ)
    → any contends roles ≡ true
    → bit_turn pull (bus_of (map (listener byte sda) roles) old level gathered levels carried)
    ≡ bus_of (map (λ role. master_at (after_byte byte (not pull)) (standing_of byte role)) roles) pull
    (level_of true (not pull))
    gathered (levels ++ draw_bit (not pull)) carried
acknowledge-turn byte roles sda old pull level gathered levels carried someone =
    turn_is (listener byte sda) roles (λ role. usi_at (after_byte byte (not pull)) (standing_of byte role)) contends
    (λ role. false)
    old pull (not pull) level gathered levels carried
    (everyone (hears byte sda (not pull)) roles) someone
    (ap (λ b. not (pull || b)) (any_none (everyone (λ role. refl) roles)) ∙ ap not (or-false pull))
    ∙ ap₂ (λ masters recording. bus_of masters pull (level_of true (not pull)) gathered (levels ++ recording) carried)
    (map-alike (everyone (heard byte sda (not pull)) roles))
    (drawn (not pull))

-- against the byte to come: a master that is in has no lesser one; the winner has this very byte
fair-enters : (byte own : ℕ) (latch enable : Bool) (standing : Standing) → byte < 256 → own < 256
    → (is_in standing ≡ true → byte ≤ own) → Within (byte_bits byte) (enters_as latch enable own standing)
fair-enters byte own latch enable stays small fits fair = at-most-bits byte own small fits (fair refl)
fair-enters byte own latch enable (out register latched position) small fits fair = tt

leader-enters : (byte own : ℕ) (latch enable : Bool) (standing : Standing) → is_in standing ≡ true → own ≡ byte
    → Leads (byte_bits byte) (enters_as latch enable own standing)
leader-enters byte own latch enable stays still same = ap byte_bits same
leader-enters byte own latch enable (out register latched position) still same = absurd (false≢true still)

-- the ninth bit shows the acknowledge
abbrev pub ninth_bit : ℕ → Bool
ninth_bit acknowledge = not (eqb acknowledge 0)

module _ (messages : List (List ℕ)) (standing : List ℕ → Standing) (index byte acknowledge : ℕ) (pause : Pause)
    (pull : Bool) (level old : ℕ) (levels carried : List ℕ) (small : byte < 256)
    (fits : Everyone (λ message. byte_at index message < 256) messages)
    (fair : Everyone (λ message. is_in (standing message) ≡ true → byte ≤ byte_at index message) messages)
    (leader : Someone (λ message. (is_in (standing message) ≡ true) × (byte_at index message ≡ byte)) messages) where
  -- the line before and after the eight turns, and the roles
  abbrev line : Line
  line = line_at pause pull level

  abbrev end : Line
  end = line_after line (byte_bits byte)

  abbrev entered : List Role
  entered = map (enters pause standing index) messages

  abbrev sent : List Role
  sent = map (turns_of (9 * index) (byte_bits byte)) entered

  -- how each master stands then
  abbrev next : List ℕ → Standing
  next message = standing_after index byte (byte_at index message) (standing message)

  abbrev drawing : List ℕ
  drawing = levels ++ draw_bits (byte_bits byte)

  all : Everyone (Within (byte_bits byte)) entered
  all =
      everyone-map (enters pause standing index)
      (everyone-so (λ message both. fair-enters byte (byte_at index message) (latch_at pause) (enable_at pause)
      (standing message) small both.0 both.1) (everyone-both fits fair))

  some : Someone (Leads (byte_bits byte)) entered
  some =
      someone-map (enters pause standing index)
      (someone-so (λ message both. leader-enters byte (byte_at index message) (latch_at pause) (enable_at pause)
      (standing message) both.0 both.1) leader)

  -- the eight turns carry the byte
  pub carried-byte : data_turns 8 (9 * index) (in_byte 8 [] line entered 0 levels carried)
      ≡ in_byte 0 (byte_bits byte) end sent byte drawing carried
  unfolding byte_bits
  carried-byte =
      turns (byte_bits byte) [] refl (9 * index) entered line 0 levels carried all some
      ∙ ap (λ b. in_byte 0 (byte_bits byte) end sent b drawing carried) (number-bits byte small)

  closed-byte : closed (in_byte 0 (byte_bits byte) end sent byte drawing carried)
      ≡ bus_of (map (listener byte end.sda) sent) end.pull end.level byte drawing (carried ++ byte ∷ [])
  closed-byte =
      closed_is (byte_bits byte) end sent byte drawing carried
      (everyone-map (turns_of (9 * index) (byte_bits byte)) (everyone-so (within-turns (9 * index) (byte_bits byte))
      all))
      ∙ ap (λ b. bus_of (map (listener b end.sda) sent) end.pull end.level byte drawing
      (carried ++ byte ∷ []))
      (number-bits byte small)

  -- the masters stand as the byte decides
  decided : map (λ role. master_at (after_byte byte (ninth_bit acknowledge)) (standing_of byte role)) sent
      ≡ waits (after_byte byte (ninth_bit acknowledge)) next messages
  decided =
      three-maps (λ role. master_at (after_byte byte (ninth_bit acknowledge)) (standing_of byte role))
      (turns_of (9 * index) (byte_bits byte)) (enters pause standing index) messages
      ∙ map-alike (everyone-so (λ message fit. ap (master_at (after_byte byte (ninth_bit acknowledge)))
      (byte-decides index byte (byte_at index message) (latch_at pause) (enable_at pause) (standing message) small fit))
      fits)

  acknowledged-byte : bit_turn (eqb acknowledge 0)
      (bus_of (map (listener byte end.sda) sent) end.pull end.level byte drawing (carried ++ byte ∷ []))
      ≡ bus_of (waits (after_byte byte (ninth_bit acknowledge)) next messages) (eqb acknowledge 0)
      (level_of true (ninth_bit acknowledge)) byte (levels ++ draw_bits (byte_bits byte ++ ninth_bit acknowledge ∷ []))
      (carried ++ byte ∷ [])
  unfolding byte_bits
  acknowledged-byte =
      acknowledge-turn byte sent end.sda end.pull (eqb acknowledge 0) end.level byte drawing
      (carried ++ byte ∷ [])
      (any-one (someone-map (turns_of (9 * index) (byte_bits byte))
      (someone-so (leads-turns (9 * index) (byte_bits byte)) some)))
      ∙ ap₂ (λ masters recording. bus_of masters (eqb acknowledge 0) (level_of true (ninth_bit acknowledge)) byte
      recording
      (carried ++ byte ∷ []))
      decided (append_assoc levels (draw_bits (byte_bits byte)) (draw_bit (ninth_bit acknowledge)))

  pub byte-turn : byte_turn messages index acknowledge
      (bus_of (waits pause standing messages) pull level old levels carried)
      ≡ bus_of (waits (after_byte byte (ninth_bit acknowledge)) next messages) (eqb acknowledge 0)
      (level_of true (ninth_bit acknowledge)) byte (levels ++ draw_bits (byte_bits byte ++ ninth_bit acknowledge ∷ []))
      (carried ++ byte ∷ [])
  unfolding byte_turn
  byte-turn =
      ap (λ bus. bit_turn (eqb acknowledge 0) (closed (data_turns 8 (9 * index) bus)))
      (opened-is messages standing index pause pull level old levels carried fits)
      ∙ ap (λ bus. bit_turn (eqb acknowledge 0) (closed bus)) carried-byte
      ∙ ap (bit_turn (eqb acknowledge 0)) closed-byte
      ∙ acknowledged-byte
