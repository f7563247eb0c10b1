-- The roles of a master while a byte is on the bus: driving its bits; beaten in this byte, and clocking on;
-- released, having lost before. One turn takes role to role.
use Prim.Native.Nat.{ℕ, zero, suc, ◌+◌, ◌<◌}
use native.Mathlib.Omega.{arith}
use mathlib.Core.Path.{◌≡◌, refl, ap, ◌∙◌}
use mathlib.Core.Bool.{Bool, cond, true, false, not, beq}
use mathlib.Core.List.{List, [], ◌∷◌, ◌++◌, append_assoc}
use lib.ListN.{length, length-append}
use Rattle.usi_i2c.specs.Rules as rules
use Rattle.usi.specs.declared.Usi.{Usi}
use Rattle.arbitration_rules.specs.Masters.{Master, with_usi, judged}
use Rattle.arbitration_rules.proofs.Bits.{number, first-is, shift_is}
use Rattle.arbitration_rules.proofs.Turn.{Turns}
use Rattle.arbitration_rules.proofs.Registers.{driving, beaten, released, turns-to, driving-turn, beaten-turn}
use Rattle.arbitration_rules.proofs.Registers.{released-turn}

-- rest: the bits that it has still to send. The bits that it took in stand behind them in its register: those of the
-- bus.
pub data Role : Type 0 where
  drives : (rest : List Bool) (latch enable : Bool) → Role
  lost : (rest : List Bool) (latch : Bool) (position : ℕ) → Role
  gone : (register : ℕ) (latch : Bool) (position : ℕ) → Role

-- its module, with n bits to go and the bits taken
abbrev pub usi_of : ℕ → List Bool → Bool → Role → Usi
usi_of n taken sda (drives rest latch enable) = driving n (number (rest ++ taken)) latch enable sda
usi_of n taken sda (lost rest latch position) = beaten n (number (rest ++ taken)) latch sda
usi_of n taken sda (gone register latch position) = released register latch sda

-- and the master: whether it is still contending, whether it lost in this byte, and where
abbrev pub contends : Role → Bool
contends (drives rest latch enable) = true
contends (lost rest latch position) = false
contends (gone register latch position) = false

abbrev just_lost : Role → Bool
just_lost (drives rest latch enable) = false
just_lost (lost rest latch position) = true
just_lost (gone register latch position) = false

abbrev where-lost : Role → ℕ
where-lost (drives rest latch enable) = 0
where-lost (lost rest latch position) = position
where-lost (gone register latch position) = position

abbrev pub master_of : ℕ → List Bool → Bool → Role → Master
master_of n taken sda role =
    record {
      usi = usi_of n taken sda role;
      contending = contends role;
      lost = just_lost role;
      position = where-lost
          role;
    }

-- whether it pulls SCL low, and whether SDA
abbrev pub clocks : Role → Bool
clocks (drives rest latch enable) = true
clocks (lost rest latch position) = true
clocks (gone register latch position) = false

abbrev pub pulls : Role → Bool
pulls (drives [] latch enable) = false
pulls (drives (bit ∷ rest) latch enable) = not bit
pulls (lost rest latch position) = false
pulls (gone register latch position) = false

-- the turn at a position in which the bus shows a bit: who drives another bit has lost there
abbrev pub turn_of : ℕ → Bool → Role → Role
turn_of at bit (drives [] latch enable) = drives [] latch enable
turn_of at bit (drives (sent ∷ rest) latch enable) = cond (beq sent bit) (drives rest sent true)
    (lost rest sent at)
turn_of at bit (lost [] latch position) = lost [] latch position
turn_of at bit (lost (sent ∷ rest) latch position) = lost rest sent position
turn_of at bit (gone register latch position) = gone register latch position

-- it has n bits to send
abbrev pub Sending : ℕ → Role → Type 0
Sending n (drives rest latch enable) = length rest ≡ n
Sending n (lost rest latch position) = length rest ≡ n
Sending n (gone register latch position) = Unit {0}

module _ (n : ℕ) (taken : List Bool) (eight : suc n + length taken ≡ 8) (sda bit : Bool) (at : ℕ) where
  -- the bits behind the first of the register
  seven : (rest : List Bool) → length rest ≡ n → length (rest ++ taken) ≡ 7
  seven rest size = length-append rest taken ∙ omega arith

  first : (sent : Bool) (rest : List Bool) → length rest ≡ n → rules.first_bit (number (sent ∷ rest ++ taken)) ≡ sent
  first sent rest size = first-is sent (rest ++ taken) (seven rest size)

  shift : (sent : Bool) (rest : List Bool) → length rest ≡ n
      → rules.shifted (number (sent ∷ rest ++ taken)) bit ≡ number (rest ++ (taken ++ bit ∷ []))
  shift sent rest size =
      shift_is sent (rest ++ taken) (seven rest size) bit ∙ ap number (append_assoc rest taken (bit ∷ []))

  small : suc n < 32
  small = omega arith

  -- a turn takes role to role: the module
  pub role-turn : (role : Role) → Sending (suc n) role
      → Turns (usi_of (suc n) taken sda role) (clocks role) (pulls role) bit
      (usi_of n (taken ++ bit ∷ []) bit (turn_of at bit role))
  role-turn (drives [] latch enable) size = absurd (omega arith)
  role-turn (drives (sent ∷ rest) latch enable) size =
      let less : length rest ≡ n = omega arith in
      turns-to (driving-turn n (number (sent ∷ rest ++ taken)) latch enable sda sent bit small (first sent rest less))
      (either (beq sent bit) (shift sent rest less))
    where
      either : (same : Bool) {register : ℕ} → register ≡ number (rest ++ (taken ++ bit ∷ []))
          → cond same (driving n register sent true bit) (beaten n register sent bit)
          ≡ usi_of n (taken ++ bit ∷ []) bit (cond same (drives rest sent true) (lost rest sent at))
      either true shifts = ap (λ r. driving n r sent true bit) shifts
      either false shifts = ap (λ r. beaten n r sent bit) shifts
  role-turn (lost [] latch position) size = absurd (omega arith)
  role-turn (lost (sent ∷ rest) latch position) size =
      let less : length rest ≡ n = omega arith in
      turns-to (beaten-turn n (number (sent ∷ rest ++ taken)) latch sda sent bit small (first sent rest less))
      (ap (λ r. beaten n r sent bit) (shift sent rest less))
  role-turn (gone register latch position) size = released-turn register latch sda bit

  -- and the master, once its AL is heeded
  pub role-judged : (role : Role) → Sending (suc n) role
      → judged at (with_usi (usi_of n (taken ++ bit ∷ []) bit (turn_of at bit role)) (master_of (suc n) taken sda role))
      ≡ master_of n (taken ++ bit ∷ []) bit (turn_of at bit role)
  unfolding judged
  role-judged (drives [] latch enable) size = absurd (omega arith)
  role-judged (drives (sent ∷ rest) latch enable) size = either n (beq sent bit)
    where
      either : (n : ℕ) (same : Bool)
          → judged at
          (with_usi (usi_of n (taken ++ bit ∷ []) bit (cond same (drives rest sent true) (lost rest sent at)))
          (master_of (suc n) taken sda (drives (sent ∷ rest) latch enable)))
          ≡ master_of n (taken ++ bit ∷ []) bit (cond same (drives rest sent true) (lost rest sent at))
      either zero true = refl
      either zero false = refl
      either (suc n) true = refl
      either (suc n) false = refl
  role-judged (lost [] latch position) size = absurd (omega arith)
  role-judged (lost (sent ∷ rest) latch position) size = refl
  role-judged (gone register latch position) size = refl
