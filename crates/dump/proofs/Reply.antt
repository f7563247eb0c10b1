-- What dump answers in each case: the trace's refusal, 19, 8, or the length of the text.
use mathlib.Core.Path.{◌≡◌, ap, ◌∙◌}
use mathlib.Core.List.{List, [], ◌∷◌, ◌++◌}
use Prim.Native.Nat.{ℕ, ◌+◌, ◌≤◌}
use native.Mathlib.Omega.{arith}
use lib.Dec.{eqb, ltb}
use lib.ListN.{length, drop}
use lib.Seq.{sets-eq}
use Rattle.laws.specs.Buffer.{filled}
use Rattle.std.specs.Result.{result_and}
use Rattle.laws.specs.Refusals.{Check, check, answer}
use Rattle.laws.proofs.Refusals.{answer-in_order}
use Rattle.trace.specs.Trace.{trace_checks}
use Rattle.text.specs.Output.{Put}
use Rattle.dump.specs.Text.{dump_text}
use Rattle.dump.specs.Dumped.{dumped}

module _ (stamps levels : List ℕ) (room : ℕ) where
  -- the checks after the trace's
  abbrev pub others : List Check
  others = check 19 (eqb (length levels) 0) ∷ check 8 (ltb room (length (dump_text stamps levels))) ∷ []

  -- 19 and 8 come after all others
  pub in_order : dumped stamps levels room
      ≡ result_and (answer (trace_checks stamps levels) (tt {0})) (answer others (length (dump_text stamps levels)))
  unfolding dumped
  in_order = answer-in_order (trace_checks stamps levels) others (tt {0}) (length (dump_text stamps levels))

-- a text put where there is room for it
module _ (old text new : List ℕ) (next : ℕ) (put : Put old 0 text new next) (enough : length text ≤ length old) where
  pub put_count : next ≡ length text
  put_count = omega (arith, put.moved)

  pub put-filled : new ≡ filled text old
  put-filled =
      let room : 0 + length text ≤ length old = omega arith in
      let none : 0 + length text ≡ length text = omega arith in
      put.stored ∙ sets-eq text old 0 room ∙ ap (λ (n : ℕ). text ++ drop n old) none
