-- Each constructor has its numbers.
use native.Mathlib.Omega.{arith}
use Rattle.export.proofs.trace_calls.decode_answer.Goals as goal

pub overflow_mul-result : goal.overflow_mul-result
overflow_mul-result c = omega (arith, rw c.in-Ok.is at c.requires.0)

pub overflow_add-result : goal.overflow_add-result
overflow_add-result c = omega (arith, rw c.in-Ok.is at c.requires.0, c.digit.ensures.1)

pub overflow_add-result-in-Ok : goal.overflow_add-result-in-Ok
overflow_add-result-in-Ok c =
    let given = rw c.in-Ok.is at c.requires.0 in
    omega (arith, given, c.digit.ensures.1, c.in-Ok.known_told-1-own.given)

pub overflow_add-result-in-Ok-2 : goal.overflow_add-result-in-Ok-2
overflow_add-result-in-Ok-2 c =
    let given = rw c.in-Ok.is at c.requires.0 in
    omega (arith, given, c.digit.ensures.1, c.in-Ok.known_told-1-own.given)

pub overflow_mul-result-in-Err : goal.overflow_mul-result-in-Err
overflow_mul-result-in-Err c = omega (arith, rw c.in-Err.is at c.requires.1)

pub overflow_add-result-in-Err : goal.overflow_add-result-in-Err
overflow_add-result-in-Err c = omega (arith, rw c.in-Err.is at c.requires.1, c.in-Err.known_told-in-Err-1-own.given)

pub returns-in-Ok : goal.returns-in-Ok
returns-in-Ok c = rw (c.digit.ensures.0, c.in-Ok.is) (omega arith)

pub returns-in-Err : goal.returns-in-Err
returns-in-Err c = rw c.in-Err.is (omega arith)
