-- Eight turns carry the least byte of those that drive: the bus shows at each turn the bit of the master with the
-- least byte, and who drives another bit is beaten at the first bit in which it differs.
use Prim.Native.Nat.{ℕ, suc, ◌+◌, ◌*◌}
use native.Mathlib.Omega.{arith}
use mathlib.Core.Path.{◌≡◌, refl, ap, ap₂, sym, subst, ◌∙◌}
use mathlib.Core.Bool.{Bool, true, false, not}
use mathlib.Core.List.{List, [], ◌∷◌, ◌++◌, map, map-map, append_assoc, append-nil}
use mir.Val.{bool_byte}
use lib.ListN.{length, length-append}
use Rattle.usi.specs.declared.Usi.{Usi}
use Rattle.levels.specs.Levels.{sda}
use Rattle.encode.specs.Encode.{draw_bit, draw_bits}
use Rattle.trace_theorems.proofs.Bits.{number_from}
use Rattle.arbitration_rules.specs.Masters.{Master, with_usi, judged}
use Rattle.laws.specs.Search.{any}
use Rattle.levels.specs.Levels.{level_of}
use Rattle.arbitration_rules.specs.Run.{Bus, with_masters}
use Rattle.arbitration_rules.proofs.Phases.{taken as bit_taken, data_turn, data_turns}
use Rattle.laws.specs.Everyone.{Everyone, Someone}
use Rattle.laws.proofs.Lists.{everyone-so, someone-so, everyone-map, someone-map, map-alike, any_none, any-one}
use Rattle.arbitration_rules.proofs.Bits.{BitsAtMost, at-most-length}
use Rattle.arbitration_rules.proofs.Wire.{bus_of, turn_is}
use Rattle.arbitration_rules.proofs.Roles.{Role, drives, lost, gone, usi_of, master_of, contends, clocks, pulls}
use Rattle.arbitration_rules.proofs.Roles.{turn_of, Sending, role-turn, role-judged}

-- the two samples of a turn are what is drawn for its bit
pub drawn : (bit : Bool) → level_of false bit ∷ level_of true bit ∷ [] ≡ draw_bit bit
drawn true = refl
drawn false = refl

shown : (bit : Bool) → sda (level_of true bit) ≡ bit
shown true = refl
shown false = refl

-- a data turn of masters in their roles: the modules, then who has lost, then the bit
module _ (n : ℕ) (taken : List Bool) (eight : suc n + length taken ≡ 8) (at : ℕ) (roles : List Role)
    (before pull bit : Bool) (level byte : ℕ) (levels carried : List ℕ) (sending : Everyone (Sending (suc n)) roles)
    (clocked : any clocks roles ≡ true) (line : not (any pulls roles) ≡ bit) where
  -- the modules after the turn
  abbrev after : Role → Usi
  after role = usi_of n (taken ++ bit ∷ []) bit (turn_of at bit role)

  abbrev next : List Master
  next = map (master_of n (taken ++ bit ∷ []) bit) (map (turn_of at bit) roles)

  judging : map (judged at) (map (λ role. with_usi (after role) (master_of (suc n) taken before role)) roles) ≡ next
  judging =
      map-map (judged at) (λ role. with_usi (after role) (master_of (suc n) taken before role)) roles
      ∙ map-alike (everyone-so (role-judged n taken eight before bit at) sending)
      ∙ sym (map-map (master_of n (taken ++ bit ∷ []) bit) (turn_of at bit) roles)

  data-turn : data_turn at (bus_of (map (master_of (suc n) taken before) roles) pull level byte levels carried)
      ≡ bus_of next false (level_of true bit) (2 * byte + bool_byte bit) (levels ++ draw_bit bit) carried
  unfolding data_turn
  data-turn =
      ap (λ (bus : Bus). bit_taken (with_masters (map (judged at) bus.masters) bus))
      (turn_is (master_of (suc n) taken before) roles after clocks pulls pull false bit level byte levels carried
      (everyone-so (role-turn n taken eight before bit at) sending) clocked line)
      ∙ ap₂ (λ masters b. bus_of masters false (level_of true bit) (2 * byte + bool_byte b) (levels ++ samples) carried)
      judging (shown bit)
      ∙ ap (λ drawing. bus_of next false (level_of true bit) (2 * byte + bool_byte bit) (levels ++ drawing) carried)
      (drawn bit)
    where
      samples : List ℕ
      samples = level_of false bit ∷ level_of true bit ∷ []

-- against bits to come: who drives has bits not below them; the winner has these very bits
abbrev pub Within : List Bool → Role → Type 0
Within bits (drives rest latch enable) = BitsAtMost bits rest
Within bits (lost rest latch position) = length rest ≡ length bits
Within bits (gone register latch position) = Unit {0}

abbrev pub Leads : List Bool → Role → Type 0
Leads bits (drives rest latch enable) = rest ≡ bits
Leads bits (lost rest latch position) = ⊥
Leads bits (gone register latch position) = ⊥

within-sends : (bits : List Bool) (role : Role) → Within bits role → Sending (length bits) role
within-sends bits (drives rest latch enable) h = at-most-length bits rest h
within-sends bits (lost rest latch position) h = h
within-sends bits (gone register latch position) h = tt

leader-clocks : (bits : List Bool) (role : Role) → Leads bits role → clocks role ≡ true
leader-clocks bits (drives rest latch enable) h = refl
leader-clocks bits (lost rest latch position) h = absurd h
leader-clocks bits (gone register latch position) h = absurd h

-- where the winner's bit is 1 nobody pulls SDA; where it is 0 the winner does
nobody-pulls : (bits : List Bool) (role : Role) → Within (true ∷ bits) role → pulls role ≡ false
nobody-pulls bits (drives [] latch enable) h = refl
nobody-pulls bits (drives (true ∷ rest) latch enable) h = refl
nobody-pulls bits (drives (false ∷ rest) latch enable) h = absurd h
nobody-pulls bits (lost rest latch position) h = refl
nobody-pulls bits (gone register latch position) h = refl

leader-pulls : (bits : List Bool) (role : Role) → Leads (false ∷ bits) role → pulls role ≡ true
leader-pulls bits (drives rest latch enable) h = ap (λ sent. pulls (drives sent latch enable)) h
leader-pulls bits (lost rest latch position) h = absurd h
leader-pulls bits (gone register latch position) h = absurd h

-- so the bus shows the winner's bit
bus-bit : (bit : Bool) (bits : List Bool) (roles : List Role)
    → Everyone (Within (bit ∷ bits)) roles → Someone (Leads (bit ∷ bits)) roles → not (any pulls roles) ≡ bit
bus-bit true bits roles all some = ap not (any_none (everyone-so (nobody-pulls bits) all))
bus-bit false bits roles all some = ap not (any-one (someone-so (leader-pulls bits) some))

-- and both claims hold of the bits that are left
within-turn : (at : ℕ) (bit : Bool) (bits : List Bool) (role : Role) → Within (bit ∷ bits) role
    → Within bits (turn_of at bit role)
within-turn at bit bits (drives [] latch enable) h = absurd h
within-turn at true bits (drives (true ∷ rest) latch enable) h = h
within-turn at true bits (drives (false ∷ rest) latch enable) h = absurd h
within-turn at false bits (drives (true ∷ rest) latch enable) h = h
within-turn at false bits (drives (false ∷ rest) latch enable) h = h
within-turn at bit bits (lost [] latch position) h = absurd (omega arith)
within-turn at bit bits (lost (sent ∷ rest) latch position) h = omega arith
within-turn at bit bits (gone register latch position) h = tt

leads-turn : (at : ℕ) (bit : Bool) (bits : List Bool) (role : Role) → Leads (bit ∷ bits) role
    → Leads bits (turn_of at bit role)
leads-turn at bit bits (drives rest latch enable) h =
    subst (λ sent. Leads bits (turn_of at bit (drives sent latch enable))) (sym h) (own bit)
  where
    own : (bit : Bool) → Leads bits (turn_of at bit (drives (bit ∷ bits) latch enable))
    own true = refl
    own false = refl
leads-turn at bit bits (lost rest latch position) h = absurd h
leads-turn at bit bits (gone register latch position) h = absurd h

-- the turns of one master at the bits of the bus
abbrev pub turns_of : ℕ → List Bool → Role → Role
turns_of at [] role = role
turns_of at (bit ∷ bits) role = turns_of (suc at) bits (turn_of at bit role)

-- the SDA last seen, the acknowledge's pull and the level last sampled
pub record Line : Type 0 where
  pub sda : Bool
  pub pull : Bool
  pub level : ℕ

abbrev pub shows : Bool → Line
shows bit = record { sda = bit; pull = false; level = level_of true bit }

abbrev pub line_after : Line → List Bool → Line
line_after line [] = line
line_after line (bit ∷ bits) = line_after (shows bit) bits

abbrev pub in_byte : ℕ → List Bool → Line → List Role → ℕ → List ℕ → List ℕ → Bus
in_byte n taken line roles byte levels carried =
    bus_of (map (master_of n taken line.sda) roles) line.pull line.level byte levels carried

map_same : {A : Type 0} (l : List A) → map (λ a. a) l ≡ l
map_same [] = refl
map_same (a ∷ l) = ap (λ k. a ∷ k) (map_same l)

pub turns : (bits taken : List Bool) → length bits + length taken ≡ 8
    → (at : ℕ) (roles : List Role) (line : Line) (byte : ℕ) (levels carried : List ℕ)
    → Everyone (Within bits) roles → Someone (Leads bits) roles
    → data_turns (length bits) at (in_byte (length bits) taken line roles byte levels carried)
    ≡ in_byte 0 (taken ++ bits) (line_after line bits) (map (turns_of at bits) roles) (number_from byte bits)
    (levels ++ draw_bits bits) carried
turns [] taken eight at roles line byte levels carried all some =
    ap₂ (λ bits masters. in_byte 0 bits line masters byte levels carried) (sym (append-nil taken))
    (sym (map_same roles))
    ∙ ap end (sym (append-nil levels))
  where
    end : List ℕ → Bus
    end recording = in_byte 0 (taken ++ []) line (map (λ role. role) roles) byte recording carried
turns (bit ∷ bits) taken eight at roles line byte levels carried all some =
    ap (data_turns (length bits) (suc at)) first
    ∙ turns bits (taken ++ bit ∷ []) longer (suc at) later (shows bit) (2 * byte + bool_byte bit)
    (levels ++ draw_bit bit)
    carried
    (everyone-map (turn_of at bit) (everyone-so (within-turn at bit bits) all))
    (someone-map (turn_of at bit) (someone-so (leads-turn at bit bits) some))
    ∙ ap₂ (λ got masters. end got masters (levels ++ draw_bit bit ++ draw_bits bits))
    (append_assoc taken (bit ∷ []) bits) (map-map (turns_of (suc at) bits) (turn_of at bit) roles)
    ∙ ap (end (taken ++ bit ∷ bits) (map (turns_of at (bit ∷ bits)) roles))
    (append_assoc levels (draw_bit bit) (draw_bits bits))
  where
    later : List Role
    later = map (turn_of at bit) roles

    end : List Bool → List Role → List ℕ → Bus
    end got masters recording =
        in_byte 0 got (line_after (shows bit) bits) masters (number_from (2 * byte + bool_byte bit) bits) recording
        carried

    first : data_turn at (in_byte (length (bit ∷ bits)) taken line roles byte levels carried)
        ≡ in_byte (length bits) (taken ++ bit ∷ []) (shows bit) later (2 * byte + bool_byte bit) (levels ++ draw_bit bit)
        carried
    first =
        data-turn (length bits) taken eight at roles line.sda line.pull bit line.level byte levels carried
        (everyone-so (within-sends (bit ∷ bits)) all)
        (any-one (someone-so (leader-clocks (bit ∷ bits)) some))
        (bus-bit bit bits roles all some)

    longer : length bits + length (taken ++ bit ∷ []) ≡ 8
    longer = ap (λ k. length bits + k) (length-append taken (bit ∷ [])) ∙ omega arith

-- after the turns every bit is sent, and the winner drives still
pub within-turns : (at : ℕ) (bits : List Bool) (role : Role) → Within bits role → Sending 0 (turns_of at bits role)
within-turns at [] role h = within-sends [] role h
within-turns at (bit ∷ bits) role h = within-turns (suc at) bits (turn_of at bit role) (within-turn at bit bits role h)

pub leads-turns : (at : ℕ) (bits : List Bool) (role : Role) → Leads bits role → contends (turns_of at bits role) ≡ true
leads-turns at [] (drives rest latch enable) h = refl
leads-turns at [] (lost rest latch position) h = absurd h
leads-turns at [] (gone register latch position) h = absurd h
leads-turns at (bit ∷ bits) role h = leads-turns (suc at) bits (turn_of at bit role) (leads-turn at bit bits role h)
