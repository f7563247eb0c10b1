use Prim.Native.Nat.{ℕ, ◌+◌, ◌-◌, ◌≤◌, ◌<◌}
use native.Mathlib.Omega.{arith}
use mathlib.Core.Path.{◌≡◌, sym, ◌∙◌}
use mathlib.Core.Bool.{true, false}
use mathlib.Core.List.{List}
use Rattle.laws.proofs.Branches.{call-yes, call-no}
use Rattle.frame_match.specs.Book.{is_of}
use Rattle.frame_match.specs.Frames.{frame_at}
use Rattle.frame_match.proofs.Coming.{one-here, one_later, none_left, none-past}
use Rattle.frame_match.proofs.rules.comes_within.Goals as goal

pub loop-init : goal.loop-init
loop-init c = let all : c.args.count - 0 ≡ c.args.count = omega arith in rw all

pub returns-then-at-seen : goal.returns-then-at-seen
returns-then-at-seen c =
    let head = c.loop in
    let args = c.args in
    let left = c.args.count - head.counter in
    none-past (λ (frame : List ℕ). is_of args.book.now args.events.now frame args.row) args.seen.now
    head.at left c.if-at-seen.true ∙ sym head.invariant

pub returns-then-is_of : goal.returns-then-is_of
returns-then-is_of c =
    let head = c.loop in
    let args = c.args in
    let left = c.args.count - head.counter in
    let more : 0 < left = omega arith in
    let is : is_of args.book.now args.events.now (frame_at args.seen.now head.at) args.row ≡ true =
    rw (← c.frame_at.ensures) (call-yes _ _ c.is_of.ensures c.if-is_of.true) in
    one-here (λ (frame : List ℕ). is_of args.book.now args.events.now frame args.row) args.seen.now
    head.at left more c.if-at-seen.false is ∙ sym head.invariant

pub loop-preserved : goal.loop-preserved
loop-preserved c =
    let head = c.loop in
    let args = c.args in
    let left = c.args.count - head.counter in
    let more : 0 < left = omega arith in
    let is : is_of args.book.now args.events.now (frame_at args.seen.now head.at) args.row ≡ false =
    rw (← c.frame_at.ensures) (call-no _ _ c.is_of.ensures c.if-is_of.false) in
    let less : left - 1 ≡ args.count - (head.counter + 1) = omega arith in
    head.invariant
    ∙ one_later (λ (frame : List ℕ). is_of args.book.now args.events.now frame args.row) args.seen.now
    head.at left more c.if-at-seen.false is
    ∙ rw (← c.end_of-at.ensures, less)

pub returns : goal.returns
returns c =
    let head = c.loop in
    let args = c.args in
    let left = c.args.count - head.counter in
    let none : left ≤ 0 = omega arith in
    none_left (λ (frame : List ℕ). is_of args.book.now args.events.now frame args.row) args.seen.now
    head.at left none ∙ sym head.invariant
