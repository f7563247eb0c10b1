-- What the arm that takes the rest of a match says of each operation.
use mathlib.Core.Path.{◌≡◌, refl}
use mathlib.Core.Bool.{false}
use mathlib.Core.List.{[], ◌∷◌}
use types.Run.{OneOf, miss}
use denote.Enum.Declared.{tag_of}
use Rattle.arbitration_pass.specs.declared.instants.Operation.{Operation}
use Rattle.arbitration_pass.specs.declared.instants.Operation.TheVariants as does
use Rattle.arbitration_pass.specs.Instants.{samples, lets_go, heeds}
use Rattle.arbitration_pass.specs.contracts.instants.Operation as operations

pub no-sample : (operation : Operation)
    → OneOf (0 ∷ 2 ∷ 3 ∷ 4 ∷ 5 ∷ 6 ∷ 7 ∷ 8 ∷ 9 ∷ 10 ∷ []) (tag_of operations.the_type operation)
    → samples operation ≡ false
no-sample does.Enter keys = refl
no-sample does.Sample keys = absurd (miss (0 ∷ 2 ∷ 3 ∷ 4 ∷ 5 ∷ 6 ∷ 7 ∷ 8 ∷ 9 ∷ 10 ∷ []) 1 tt keys)
no-sample does.Pull keys = refl
no-sample does.Clear keys = refl
no-sample does.Load keys = refl
no-sample does.LetGo keys = refl
no-sample does.Lower keys = refl
no-sample does.Raise keys = refl
no-sample does.Rest keys = refl
no-sample does.Rise keys = refl
no-sample does.Heed keys = refl

pub keeps_on : (operation : Operation)
    → OneOf (0 ∷ 1 ∷ 2 ∷ 3 ∷ 4 ∷ 6 ∷ 7 ∷ 8 ∷ 9 ∷ 10 ∷ []) (tag_of operations.the_type operation)
    → lets_go operation ≡ false
keeps_on does.Enter keys = refl
keeps_on does.Sample keys = refl
keeps_on does.Pull keys = refl
keeps_on does.Clear keys = refl
keeps_on does.Load keys = refl
keeps_on does.LetGo keys = absurd (miss (0 ∷ 1 ∷ 2 ∷ 3 ∷ 4 ∷ 6 ∷ 7 ∷ 8 ∷ 9 ∷ 10 ∷ []) 5 tt keys)
keeps_on does.Lower keys = refl
keeps_on does.Raise keys = refl
keeps_on does.Rest keys = refl
keeps_on does.Rise keys = refl
keeps_on does.Heed keys = refl

pub heedless : (operation : Operation)
    → OneOf (0 ∷ 1 ∷ 2 ∷ 3 ∷ 4 ∷ 5 ∷ 6 ∷ 7 ∷ 8 ∷ 9 ∷ []) (tag_of operations.the_type operation)
    → heeds operation ≡ false
heedless does.Enter keys = refl
heedless does.Sample keys = refl
heedless does.Pull keys = refl
heedless does.Clear keys = refl
heedless does.Load keys = refl
heedless does.LetGo keys = refl
heedless does.Lower keys = refl
heedless does.Raise keys = refl
heedless does.Rest keys = refl
heedless does.Rise keys = refl
heedless does.Heed keys = absurd (miss (0 ∷ 1 ∷ 2 ∷ 3 ∷ 4 ∷ 5 ∷ 6 ∷ 7 ∷ 8 ∷ 9 ∷ []) 10 tt keys)
