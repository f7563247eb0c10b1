-- What the arm that takes the rest of a match says of each effect.
use Prim.Native.Nat.{ℕ}
use mathlib.Core.Path.{◌≡◌, refl}
use mathlib.Core.Bool.{Bool}
use mathlib.Core.List.{List, [], ◌∷◌}
use types.Run.{OneOf, miss}
use denote.Enum.Declared.{tag_of}
use Rattle.arbitration_pass.specs.declared.instants.Effect.{Effect}
use Rattle.arbitration_pass.specs.declared.instants.Effect.TheVariants as then
use Rattle.arbitration_pass.specs.contracts.instants.Effect as effects
use Rattle.arbitration_members.specs.declared.members.Members.{Members}
use Rattle.arbitration_members.specs.Members as members

pub members-stay : (effect : Effect) → OneOf (0 ∷ 1 ∷ 2 ∷ 3 ∷ 4 ∷ []) (tag_of effects.the_type effect)
    → (al : List Bool) (index : ℕ) (stood : Members) → stood ≡ members.affected effect al index stood
members-stay then.Nothing keys al index stood = refl
members-stay then.Begin keys al index stood = refl
members-stay then.Release keys al index stood = refl
members-stay then.Acknowledge keys al index stood = refl
members-stay then.Record keys al index stood = refl
members-stay (then.Bit bit) keys al index stood = absurd (miss (0 ∷ 1 ∷ 2 ∷ 3 ∷ 4 ∷ []) 5 tt keys)
members-stay then.Settle keys al index stood = absurd (miss (0 ∷ 1 ∷ 2 ∷ 3 ∷ 4 ∷ []) 6 tt keys)
