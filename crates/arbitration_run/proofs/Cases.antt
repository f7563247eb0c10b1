-- What the arm that takes the rest of a match says of each effect.
use Prim.Native.Nat.{ℕ}
use mathlib.Core.Path.{◌≡◌, refl, sym}
use mathlib.Core.Bool.{Bool, true, false, cond, ◌&&◌}
use mathlib.Core.List.{List, [], ◌∷◌}
use lib.Dec.{eqb, ltb}
use borrow.Author.Tests.{ltb-false}
use lib.ListN.{length, set}
use types.Run.{OneOf, miss}
use lib.Seq.{set_out}
use denote.Enum.Declared.{tag_of}
use Rattle.arbitration_pass.specs.declared.instants.Effect.{Effect}
use Rattle.arbitration_pass.specs.declared.instants.Effect.TheVariants as then
use Rattle.arbitration_pass.specs.contracts.instants.Effect as effects
use Rattle.arbitration_run.specs.declared.wire.Wire.{Wire}
use Rattle.arbitration_run.specs.Wire as wire
use Rattle.arbitration_run.specs.Sequence.{sent_after, carried_by}

pub none-carried : (effect : Effect) → OneOf (0 ∷ 1 ∷ 2 ∷ 3 ∷ 4 ∷ 6 ∷ []) (tag_of effects.the_type effect)
    → (room sent byte : ℕ) (carried : List ℕ)
    → (sent ≡ sent_after effect room sent) × (carried ≡ carried_by effect sent byte carried)
none-carried then.Nothing keys room sent byte carried = (refl, refl)
none-carried then.Begin keys room sent byte carried = (refl, refl)
none-carried then.Release keys room sent byte carried = (refl, refl)
none-carried then.Acknowledge keys room sent byte carried = (refl, refl)
none-carried then.Record keys room sent byte carried = (refl, refl)
none-carried (then.Bit bit) keys room sent byte carried = absurd (miss (0 ∷ 1 ∷ 2 ∷ 3 ∷ 4 ∷ 6 ∷ []) 5 tt keys)
none-carried then.Settle keys room sent byte carried = (refl, refl)

pub wire-stays : (effect : Effect) → OneOf (0 ∷ 6 ∷ []) (tag_of effects.the_type effect)
    → (room : ℕ) (acknowledge : Bool) (stood : Wire) (levels : List ℕ)
    → (stood ≡ wire.affected room effect acknowledge stood) × (levels ≡ wire.recorded_in effect stood levels)
wire-stays then.Nothing keys room acknowledge stood levels = (refl, refl)
wire-stays then.Begin keys room acknowledge stood levels = absurd (miss (0 ∷ 6 ∷ []) 1 tt keys)
wire-stays then.Release keys room acknowledge stood levels = absurd (miss (0 ∷ 6 ∷ []) 2 tt keys)
wire-stays then.Acknowledge keys room acknowledge stood levels = absurd (miss (0 ∷ 6 ∷ []) 3 tt keys)
wire-stays then.Record keys room acknowledge stood levels = absurd (miss (0 ∷ 6 ∷ []) 4 tt keys)
wire-stays (then.Bit bit) keys room acknowledge stood levels = absurd (miss (0 ∷ 6 ∷ []) 5 tt keys)
wire-stays then.Settle keys room acknowledge stood levels = (refl, refl)

-- a byte that is not complete, or has no room, is not stored
pub not-stored : (bit index byte : ℕ) (carried : List ℕ) → eqb bit 7 && ltb index (length carried) ≡ false
    → carried ≡ cond (eqb bit 7) (set carried index byte) carried
not-stored bit index byte carried test = go (eqb bit 7) test
  where
    go : (last : Bool) → last && ltb index (length carried) ≡ false → carried ≡ cond last (set carried index byte)
        carried
    go true past = sym (set_out carried index byte (ltb-false index (length carried) past))
    go false any = refl

-- what of a byte is taken does not depend on the room for levels
pub same_byte : (effect : Effect) (room : ℕ) (acknowledge : Bool) (stood : Wire)
    → (wire.affected room effect acknowledge stood).byte ≡ (wire.affected 0 effect acknowledge stood).byte
same_byte then.Nothing room acknowledge stood = refl
same_byte then.Begin room acknowledge stood = refl
same_byte then.Release room acknowledge stood = refl
same_byte then.Acknowledge room acknowledge stood = refl
same_byte then.Record room acknowledge stood = refl
same_byte (then.Bit bit) room acknowledge stood = refl
same_byte then.Settle room acknowledge stood = refl
