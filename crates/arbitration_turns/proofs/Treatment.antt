-- What each operation does to one master, as a pass does it and as the script says it.
use Prim.Native.Nat.{ℕ}
use mathlib.Core.Path.{◌≡◌, refl, sym, ap, ◌∙◌}
use mathlib.Core.Bool.{Bool, true, false, cond}
use mathlib.Core.List.{List, [], ◌∷◌, map}
use Rattle.laws.proofs.Lists.{map-map, map_same, map-alike, everyone}
use Rattle.usi_registers.specs.Registers.{USICTL0, USICTL1, USICNT}
use Rattle.usi.specs.declared.Usi.{Usi}
use Rattle.usi.specs.Step.{module_of, sample}
use Rattle.arbitration_rules.specs.Masters.{Master, with_usi, Who, everybody, still_in, beaten, losers, meant}
use Rattle.arbitration_rules.specs.Masters.{Write, applied}
use Rattle.arbitration_rules.specs.Run.{Bus, with_masters, performed, perform, writes}
use Rattle.arbitration_pass.specs.declared.instants.Operation.{Operation}
use Rattle.arbitration_pass.specs.declared.instants.Operation.TheVariants.{Sample, Load, LetGo, Heed}
use Rattle.arbitration_pass.specs.declared.pass.Pass.{Pass}
use Rattle.arbitration_pass.specs.Instants.{samples, lets_go, heeds}
use Rattle.arbitration_pass.specs.Pass.{written_all, registers, fresh, ticked}
use Rattle.arbitration_turns.proofs.View.{join, stepped, Treats}
use Rattle.arbitration_turns.proofs.Scripts.{of_tick}

-- registers written by those meant; a tick, or none; a sample
abbrev pub written_by : Who → List (ℕ × ℕ) → Master → Master
written_by who registers master =
    cond (meant who master) (with_usi (written_all registers master.usi) master) master

abbrev pub ticked_by : Bool → Master → Master
ticked_by ticks master = with_usi (ticked ticks master.usi) master

abbrev pub sampled_by : ℕ → Master → Master
sampled_by level master = with_usi (module_of (sample master.usi level)) master

-- the script's writes, one after the other, are these
pub writes-first : (who : Who) (write : ℕ × ℕ) (more : List (ℕ × ℕ)) (usi : Usi) (contending lost : Bool)
    (position : ℕ)
    → written_by who more (applied who (Write write.0 write.1) (join usi contending lost position))
    ≡ written_by who (write ∷ more) (join usi contending lost position)
unfolding applied
writes-first everybody write more usi contending lost position = refl
writes-first still_in write more usi true lost position = refl
writes-first still_in write more usi false lost position = refl
writes-first beaten write more usi contending true position = refl
writes-first beaten write more usi contending false position = refl
writes-first losers write more usi true lost position = refl
writes-first losers write more usi false lost position = refl

writes-none : (who : Who) (usi : Usi) (contending lost : Bool) (position : ℕ)
    → written_by who [] (join usi contending lost position) ≡ join usi contending lost position
writes-none everybody usi contending lost position = refl
writes-none still_in usi true lost position = refl
writes-none still_in usi false lost position = refl
writes-none beaten usi contending true position = refl
writes-none beaten usi contending false position = refl
writes-none losers usi true lost position = refl
writes-none losers usi false lost position = refl

pub writes_are : (messages : List (List ℕ)) (who : Who) (registers : List (ℕ × ℕ)) (bus : Bus)
    → perform messages (writes who registers) bus ≡ with_masters (map (written_by who registers) bus.masters) bus
unfolding performed
writes_are messages who [] bus =
    ap (λ (masters : List Master). with_masters masters bus)
    (sym
    (map_same (written_by who [])
    (λ (m : Master). writes-none who m.usi m.contending m.lost m.position) bus.masters))
writes_are messages who (write ∷ more) bus =
    let first = map (applied who (Write write.0 write.1)) bus.masters in
    writes_are messages who more (with_masters first bus)
    ∙ ap (λ (masters : List Master). with_masters masters bus)
    (map-map (written_by who more) (applied who (Write write.0 write.1)) bus.masters
    ∙ map-alike
    (everyone (λ (m : Master). writes-first who write more m.usi m.contending m.lost m.position)
    bus.masters))

-- and a tick, or none
pub ticks-are : (messages : List (List ℕ)) (ticks : Bool) (bus : Bus)
    → perform messages (of_tick ticks) bus ≡ with_masters (map (ticked_by ticks) bus.masters) bus
unfolding performed applied
ticks-are messages true bus = refl
ticks-are messages false bus =
    ap (λ (masters : List Master). with_masters masters bus)
    (sym (map_same (ticked_by false) (λ (m : Master). refl) bus.masters))

-- a pass treats a master so, for each operation
module _ (ticks : Bool) (level : ℕ) (contending lost : List Bool) (bytes : List ℕ) where
  abbrev pub passing : Operation → Pass
  passing operation =
      record {
        operation = operation;
        ticks = ticks;
        level = level;
        contending = contending;
        lost = lost;
        bytes = bytes;
      }

  pub treats-sample : Treats (passing Sample) (λ master byte. ticked_by ticks (sampled_by level master))
  treats-sample = record { as-pass = λ usi still out position byte. refl }

  -- an operation that only writes registers, the same for all
  pub record Plain (operation : Operation) : Type 0 where
    pub no-sample : samples operation ≡ false
    pub no-yield : lets_go operation ≡ false
    pub no-heed : heeds operation ≡ false
    pub not-fresh : (usi : Usi) → fresh operation usi ≡ usi
    pub alike : (byte : ℕ) → registers operation byte ≡ registers operation 0

  pub treats-plain : (operation : Operation) → Plain operation
      → Treats (passing operation) (λ master byte. ticked_by ticks (written_by still_in (registers operation 0) master))
  treats-plain operation plain =
      record {
        as-pass =
            λ usi still out position byte.
            rw (plain.no-sample, plain.no-yield, plain.no-heed) (cases usi still out position byte);
      }
    where
      cases : (usi : Usi) (still out : Bool) (position byte : ℕ)
          → ticked_by ticks (written_by still_in (registers operation 0) (join usi still out position))
          ≡ join
          (ticked ticks
          (cond still
          (written_all (registers operation byte) (fresh operation (cond still (cond out usi usi) (cond out usi usi))))
          (cond still (cond out usi usi) (cond out usi usi))))
          still out position
      cases usi true true position byte = rw (plain.not-fresh usi, plain.alike byte)
      cases usi true false position byte = rw (plain.not-fresh usi, plain.alike byte)
      cases usi false true position byte = refl
      cases usi false false position byte = refl

  pub treats-load : Treats (passing Load) (λ master byte. ticked_by ticks
      (written_by still_in (registers Load byte) master))
  treats-load = record { as-pass = cases }
    where
      cases : (usi : Usi) (still out : Bool) (position byte : ℕ)
          → ticked_by ticks (written_by still_in (registers Load byte) (join usi still out position))
          ≡ join (stepped (passing Load) still out byte usi) still out position
      cases usi true true position byte = refl
      cases usi true false position byte = refl
      cases usi false true position byte = refl
      cases usi false false position byte = refl

  -- who lost lets go, the others let go of SDA
  abbrev pub let_go : Master → ℕ → Master
  let_go master byte =
      ticked_by ticks
      (written_by still_in (registers LetGo 0) (written_by beaten ((USICTL0, 0xc0) ∷ (USICNT, 0x80) ∷ []) master))

  pub treats-let-go : Treats (passing LetGo) let_go
  treats-let-go = record { as-pass = cases }
    where
      cases : (usi : Usi) (still out : Bool) (position byte : ℕ)
          → let_go (join usi still out position) byte
          ≡ join (stepped (passing LetGo) still out byte usi) still out position
      cases usi true true position byte = refl
      cases usi true false position byte = refl
      cases usi false true position byte = refl
      cases usi false false position byte = refl

  -- the flag of a repeated START is cleared, by who lost too
  abbrev pub heed : Master → Master
  heed master =
      written_by losers ((USICTL1, 0x49) ∷ (USICNT, 0x80) ∷ []) (written_by still_in (registers Heed 0) master)

  pub treats-heed : Treats (passing Heed) (λ master byte. ticked_by ticks (heed master))
  treats-heed = record { as-pass = cases }
    where
      cases : (usi : Usi) (still out : Bool) (position byte : ℕ)
          → ticked_by ticks (heed (join usi still out position))
          ≡ join (stepped (passing Heed) still out byte usi) still out position
      cases usi true true position byte = refl
      cases usi true false position byte = refl
      cases usi false true position byte = refl
      cases usi false false position byte = refl
