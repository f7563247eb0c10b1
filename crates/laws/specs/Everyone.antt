-- Claims about everyone in a list, and about someone in it.
use Rattle.std.specs.Prelude.{List, [], ◌∷◌}

pub data Everyone {A : Type 0} (P : A → Type 0) : List A → Type 0 where
  nobody : Everyone P []
  also : {a : A} {l : List A} → P a → Everyone P l → Everyone P (a ∷ l)

pub data Someone {A : Type 0} (P : A → Type 0) : List A → Type 0 where
  this : {a : A} {l : List A} → P a → Someone P (a ∷ l)
  another : {a : A} {l : List A} → Someone P l → Someone P (a ∷ l)
