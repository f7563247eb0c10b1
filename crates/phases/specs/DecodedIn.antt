-- What decode answers in a mode: 18 after 5, 6, 4 and 7 and before 8.
use Rattle.std.specs.Prelude.{ℕ, List, [], ◌∷◌, ◌++◌, ltb, length, Result}
use Rattle.laws.specs.declared.Refusal.{Refusal}
use Rattle.laws.specs.Refusals.{Check, check, check_at, answer}
use Rattle.trace.specs.Trace.{trace_checks}
use Rattle.decode.specs.declared.Decoded.{Decoded}
use Rattle.decode.specs.Decode.{events}
use Rattle.decode.specs.DecodeReply.{meant}
use Rattle.phases.specs.declared.Mode.{Mode}
use Rattle.phases.specs.Phases.{first_short}

-- 18: a whole phase of SCL is shorter than the mode allows; its place is the first sample that ends one
abbrev pub phase_check : Mode → List ℕ → List ℕ → Check
phase_check mode stamps levels =
    check_at 18 (ltb (first_short mode stamps levels) (length levels)) (first_short mode stamps levels)

abbrev pub checks_in : Mode → List ℕ → List ℕ → ℕ → List Check
checks_in mode stamps levels room =
    trace_checks stamps levels
    ++ phase_check mode stamps levels
    ∷ check 8 (ltb room (length (events levels)))
    ∷ []

-- the first of them that applies, else what the levels mean
unfoldable pub decoded_in : Mode → List ℕ → List ℕ → ℕ → Result Decoded Refusal
decoded_in mode stamps levels room = answer (checks_in mode stamps levels room) (meant levels)
