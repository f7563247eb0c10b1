-- Each row of instants spells the script of its step.
use Prim.Native.Nat.{ℕ, zero, suc, ◌+◌, ◌-◌, ◌*◌, ◌<◌}
use mathlib.Core.Path.{◌≡◌, refl, sym, ap, ◌∙◌}
use mathlib.Core.Bool.{Bool, true, false, cond}
use mathlib.Core.List.{List, [], ◌∷◌, ◌++◌}
use native.Mathlib.Omega.{arith}
use lib.Dec.{eqb}
use Rattle.usi_registers.specs.Registers.{USICTL0, USICTL1, USICNT}
use Rattle.arbitration_rules.specs.Masters.{everybody, still_in, beaten, losers, Tick}
use Rattle.arbitration_rules.specs.Run as run
use Rattle.arbitration_rules.specs.Run.{does, loads, samples, records, pulls, judges, takes, carries, settles}
use Rattle.arbitration_rules.specs.Run.{writes, set_up, start, restart, byte_turn, stop}
use Rattle.arbitration_pass.specs.declared.instants.Operation.{Operation}
use Rattle.arbitration_pass.specs.declared.instants.Operation.TheVariants.{Enter, Sample, Pull, Clear, Load, LetGo}
use Rattle.arbitration_pass.specs.declared.instants.Operation.TheVariants.{Lower, Raise, Rest, Rise, Heed}
use Rattle.arbitration_pass.specs.declared.instants.Effect.{Effect}
use Rattle.arbitration_pass.specs.declared.instants.Effect.TheVariants.{Nothing, Begin, Release, Acknowledge, Record}
use Rattle.arbitration_pass.specs.declared.instants.Effect.TheVariants.{Bit, Settle}
use Rattle.arbitration_pass.specs.declared.instants.Instant.{Instant}
use Rattle.arbitration_pass.specs.declared.instants.Part.{Part}
use Rattle.arbitration_pass.specs.declared.instants.Part.TheVariants.{Opening, Restart, Byte, Closing}
use Rattle.arbitration_pass.specs.Instants.{instant, last}
use Rattle.arbitration_pass.specs.Pass.{registers}

-- what an operation spells in the byte at an index
abbrev pub of_operation : Operation → ℕ → List run.Instant
of_operation Enter index = set_up
of_operation Sample index = samples ∷ []
of_operation Pull index = writes still_in (registers Pull 0)
of_operation Clear index = writes still_in (registers Clear 0)
of_operation Load index = loads index ∷ writes still_in ((USICTL0, 0xca) ∷ (USICNT, 0x08) ∷ [])
of_operation LetGo index =
    writes beaten ((USICTL0, 0xc0) ∷ (USICNT, 0x80) ∷ []) ++ settles ∷ writes still_in (registers LetGo 0)
of_operation Lower index = writes still_in (registers Lower 0)
of_operation Raise index = writes still_in (registers Raise 0)
of_operation Rest index = writes still_in (registers Rest 0)
of_operation Rise index = writes still_in (registers Rise 0)
of_operation Heed index =
    writes still_in (registers Heed 0) ++ writes losers ((USICTL1, 0x49) ∷ (USICNT, 0x80) ∷ [])

-- so many positions on
abbrev pub further : ℕ → ℕ → ℕ
further position zero = position
further position (suc count) = suc (further position count)

pub further-is : (position count : ℕ) → further position count ≡ position + count
further-is position zero = omega arith
further-is position (suc count) = omega (arith, further-is position count)

-- what an effect spells; loads and settles are spelled with their operations
abbrev pub of_effect : Effect → ℕ → ℕ → List run.Instant
of_effect Nothing index acknowledge = []
of_effect Begin index acknowledge = []
of_effect Release index acknowledge = pulls false ∷ []
of_effect Acknowledge index acknowledge = pulls (eqb acknowledge 0) ∷ []
of_effect Record index acknowledge = records ∷ []
of_effect (Bit bit) index acknowledge =
    records ∷ judges (further (9 * index) bit) ∷ takes ∷ cond (eqb bit 7) (carries ∷ []) []
of_effect Settle index acknowledge = []

abbrev pub of_tick : Bool → List run.Instant
of_tick true = does everybody Tick ∷ []
of_tick false = []

abbrev pub spelled : Instant → ℕ → ℕ → List run.Instant
spelled instant index acknowledge =
    of_operation instant.operation index ++ of_effect instant.effect index acknowledge ++ of_tick instant.ticks

-- so many instants of a part, from one on
abbrev pub spelled_from : Part → ℕ → ℕ → ℕ → ℕ → List run.Instant
spelled_from part at zero index acknowledge = []
spelled_from part at (suc count) index acknowledge =
    spelled (instant part at) index acknowledge ++ spelled_from part (suc at) count index acknowledge

pub spells-start : (index acknowledge : ℕ) → spelled_from Opening 0 4 index acknowledge ≡ start
spells-start index acknowledge = refl

pub spells-restart : (index acknowledge : ℕ) → spelled_from Restart 0 7 index acknowledge ≡ restart
spells-restart index acknowledge = refl

pub spells-byte : (index acknowledge : ℕ) → spelled_from Byte 0 29 index acknowledge ≡ byte_turn index acknowledge
spells-byte index acknowledge = refl

pub spells-stop : (index acknowledge : ℕ) → spelled_from Closing 0 7 index acknowledge ≡ stop
spells-stop index acknowledge = refl

-- what is left of a part
abbrev pub remaining : Part → ℕ → ℕ → ℕ → List run.Instant
remaining part at index acknowledge = spelled_from part at (suc (last part) - at) index acknowledge

pub remaining-next : (part : Part) (at index acknowledge : ℕ) → at < last part
    → remaining part at index acknowledge
    ≡ spelled (instant part at) index acknowledge ++ remaining part (at + 1) index acknowledge
remaining-next part at index acknowledge less =
    let more : suc (last part) - at ≡ suc (suc (last part) - (at + 1)) = omega arith in
    let one : at + 1 ≡ suc at = omega arith in
    ap (λ (count : ℕ). spelled_from part at count index acknowledge) more
    ∙ ap (λ (k : ℕ).
    spelled (instant part at) index acknowledge ++ spelled_from part k (suc (last part) - (at + 1)) index acknowledge)
    (sym one)

pub remaining-last : (part : Part) (at index acknowledge : ℕ) → at ≡ last part
    → remaining part at index acknowledge ≡ spelled (instant part at) index acknowledge ++ []
remaining-last part at index acknowledge end =
    let one : suc (last part) - at ≡ 1 = omega arith in
    ap (λ (count : ℕ). spelled_from part at count index acknowledge) one
