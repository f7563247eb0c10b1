-- A lent slice after a call.
use Rattle.std.specs.Prelude.{List, ◌++◌, length, drop}

-- it starts with what the reply puts there, and its rest stays
abbrev pub filled : {A : Type 0} → List A → List A → List A
filled front buffer = front ++ drop (length front) buffer
