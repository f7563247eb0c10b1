-- Refusals 14, 15 and 16 in their order, then the run.
use Prim.Native.Nat.{ℕ, ◌<◌, ◌≤◌}
use mathlib.Core.Path.{◌≡◌, sym, ap, ◌∙◌}
use mathlib.Core.Bool.{true, false}
use mathlib.Core.List.{List}
use native.Mathlib.Omega.{arith}
use borrow.Author.Tests.{lt-ltb, le-ltb}
use lib.ListN.{length}
use Rattle.std.specs.Prelude.{Ok, Err}
use Rattle.laws.specs.Refusals.{refused_at}
use Rattle.laws.specs.Search.{first, any}
use Rattle.laws.proofs.Search.{any-first}
use Rattle.arbitration_rules.specs.Reply.{cut, reads}
use Rattle.arbitration_rules.proofs.Cut.{cut-count}
use Rattle.arbitration_checks.specs.Settled.{carrying}
use Rattle.arbitration_checks.proofs.Decided.{decided-14, decided-15, decided-16, decided-run}
use Rattle.arbitration_checks.proofs.decide.Goals as goal

some_read : (lengths sent : List ℕ) (at : ℕ) → at ≡ first reads (cut lengths sent) → at < length lengths
    → any reads (cut lengths sent) ≡ true
some_read lengths sent at is less =
    any-first reads (cut lengths sent)
    ∙ lt-ltb (first reads (cut lengths sent)) (length (cut lengths sent))
    (omega (arith, is, less, cut-count lengths sent))

none_read : (lengths sent : List ℕ) (at : ℕ) → at ≡ first reads (cut lengths sent) → length lengths ≤ at
    → any reads (cut lengths sent) ≡ false
none_read lengths sent at is past =
    any-first reads (cut lengths sent)
    ∙ le-ltb (first reads (cut lengths sent)) (length (cut lengths sent))
    (omega (arith, is, past, cut-count lengths sent))

pub returns-then-read-lengths : goal.returns-then-read-lengths
returns-then-read-lengths c =
    let found = c.first_read-read in
    let a = c.args in
    c.refused.ensures
    ∙ ap (λ (place : ℕ). Err (refused_at 14 place)) found.ensures
    ∙ decided-14 a.sent.now a.lengths.now a.acks.now
    (some_read a.lengths.now a.sent.now _ found.ensures c.if-read-lengths.true)

pub returns-then-acks-longest : goal.returns-then-acks-longest
returns-then-acks-longest c =
    let a = c.args in
    c.refused-then-acks-longest.ensures
    ∙ decided-15 a.sent.now a.lengths.now a.acks.now
    (none_read a.lengths.now a.sent.now _ c.first_read-read.ensures c.if-read-lengths.false)
    (rw (← c.any_above_one.ensures, ← c.longest.ensures) c.if-acks-longest.true)

pub returns-then-any_ending_differs : goal.returns-then-any_ending_differs
returns-then-any_ending_differs c =
    let a = c.args in
    let same = c.locate_least-least.ensures.same in
    c.refused-then-any_ending_differs.ensures
    ∙ decided-16 a.sent.now a.lengths.now a.acks.now
    (none_read a.lengths.now a.sent.now _ c.first_read-read.ensures c.if-read-lengths.false)
    (rw (← c.any_above_one.ensures, ← c.longest.ensures) c.if-acks-longest.false)
    (rw same at (sym c.any_ending_differs.ensures ∙ c.if-any_ending_differs.true))

pub returns : goal.returns
returns c =
    let a = c.args in
    let same = c.locate_least-least.ensures.same in
    ap Ok c.carrying.ensures
    ∙ ap (λ (message : List ℕ). Ok (carrying message a.acks.now)) same
    ∙ decided-run a.sent.now a.lengths.now a.acks.now
    (none_read a.lengths.now a.sent.now _ c.first_read-read.ensures c.if-read-lengths.false)
    (rw (← c.any_above_one.ensures, ← c.longest.ensures) c.if-acks-longest.false)
    (rw same at (sym c.any_ending_differs.ensures ∙ c.if-any_ending_differs.false))
