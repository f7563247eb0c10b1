-- What the effect of an instant asks for beside room.
use Prim.Native.Nat.{ℕ, ◌-◌, ◌<◌, ◌≤◌}
use mathlib.Core.Path.{◌≡◌}
use mathlib.Core.Bool.{Bool, true, false, cond}
use mathlib.Core.List.{List}
use native.Mathlib.Omega.{arith}
use lib.Dec.{eqb, ltb}
use lib.ListN.{length}
use Rattle.arbitration_rules.specs.Limits.{max_length}
use Rattle.arbitration_rules.specs.Outcome.{byte_at}
use Rattle.arbitration_pass.specs.declared.instants.Operation.{Operation}
use Rattle.arbitration_pass.specs.declared.instants.Operation.TheVariants.{Pull, Clear, Lower, Raise, Rest, Rise, Heed}
use Rattle.arbitration_pass.specs.declared.instants.Effect.{Effect}
use Rattle.arbitration_pass.specs.declared.instants.Effect.TheVariants.{Nothing, Begin, Release, Acknowledge, Record}
use Rattle.arbitration_pass.specs.declared.instants.Effect.TheVariants.{Bit, Settle}
use Rattle.arbitration_pass.specs.declared.instants.Instant.{Instant}
use Rattle.arbitration_pass.specs.declared.instants.Part.{Part}
use Rattle.arbitration_pass.specs.declared.instants.Part.TheVariants.{Entry, Opening, Restart, Byte, Closing}
use Rattle.arbitration_members.specs.declared.members.Members.{Members}
use Rattle.arbitration_run.specs.declared.wire.Wire.{Wire}
use Rattle.arbitration_pass.specs.Instants.{write, sample, turn, byte, condition, instant, last}
use Rattle.arbitration_turns.proofs.Allowed.{Inside}
use Rattle.arbitration_turns.proofs.Bits.{bound, bits, bits_of, step_test, steps}
use Rattle.arbitration_turns.proofs.Bits.{bit-small}
use Rattle.arbitration_turns.proofs.Columns.{column}
use Rattle.arbitration_turns.proofs.Taking.{Given, messages_of, Early, Loaded}

module _ (given : Given) where
  abbrev messages : List (List ℕ)
  messages = messages_of given

  abbrev acknowledges : List ℕ
  acknowledges = given.acknowledges

  module _ (index : ℕ) (stood : Members) (wire : Wire) where
    abbrev pub Extra : Effect → Type 0
    Extra Nothing = Unit {0}
    Extra Begin = stood.bytes ≡ column (byte_at index) 0 messages
    Extra Release = Unit {0}
    Extra Acknowledge = Unit {0}
    Extra Record = Unit {0}
    Extra (Bit bit) = (index < max_length) × (wire.byte < 128)
    Extra Settle = Unit {0}

    either : (test : Bool) (one other : Instant) → Extra one.effect → Extra other.effect
        → Extra (cond test one other).effect
    either true one other first second = first
    either false one other first second = second

    turn-extra : (at : ℕ) → Extra (turn at Release Record false).effect
    turn-extra at =
        either (eqb at 0) (sample Release false) (cond (eqb at 1) (sample Record true) (sample Record false)) tt
        (either (eqb at 1) (sample Record true) (sample Record false) tt tt)

    condition-extra : (set change past : Operation) (at : ℕ) → Extra (condition set change past at).effect
    condition-extra set change past at =
        let low = turn (at - 1) Release Record false in
        let last = cond (eqb at 5) (sample Record false) (write past false) in
        either (eqb at 0) (write set true) (cond (ltb at 4) low (cond (eqb at 4) (write change false) last)) tt
        (either (ltb at 4) low (cond (eqb at 4) (write change false) last) (turn-extra (at - 1))
        (either (eqb at 4) (write change false) last tt
        (either (eqb at 5) (sample Record false) (write past false) tt tt)))

    in-byte : (at : ℕ) (effect : Effect) → step_test effect at ≡ true → wire.byte < bound (bits at)
        → index < length acknowledges → stood.bytes ≡ column (byte_at index) 0 messages → Extra effect
    in-byte at Nothing test small early load = tt
    in-byte at Begin test small early load = load
    in-byte at Release test small early load = tt
    in-byte at Acknowledge test small early load = tt
    in-byte at Record test small early load = tt
    in-byte at (Bit bit) test small early load =
        (omega (arith, given.short, early), bit-small bit at wire.byte test small)
    in-byte at Settle test small early load = tt

    pub extra : (part : Part) → Inside part → (at : ℕ) → at ≤ last part → Early given part index
        → Loaded given part index stood → wire.byte < bound (bits_of part at) → Extra (instant part at).effect
    extra Entry inside at within early load small = absurd inside
    extra Opening inside at within early load small =
        either (eqb at 1) (write Pull false) (cond (eqb at 3) (write Clear false) (sample Record false)) tt
        (either (eqb at 3) (write Clear false) (sample Record false) tt tt)
    extra Restart inside at within early load small = condition-extra Rise Pull Heed at
    extra Byte inside at within early load small =
        in-byte at (byte at).effect (steps at (omega (arith, within))) small early load
    extra Closing inside at within early load small = condition-extra Lower Raise Rest at
