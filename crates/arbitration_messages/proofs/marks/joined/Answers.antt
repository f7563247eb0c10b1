use native.Mathlib.Omega.{arith}
use Prim.Native.Nat.{ℕ, ◌+◌, ◌<◌}
use mathlib.Core.Path.{◌≡◌, refl, ap, ◌∙◌}
use mathlib.Core.List.{List, ◌++◌, zip_with}
use lib.ListN.{length, take, drop}
use lib.Seq.{take-length}
use Rattle.laws.proofs.Loops.{paired, paired-more}
use borrow.Author.Rules.{rules}
use Rattle.arbitration_messages.proofs.marks.joined.Goals as goal

pub loop-i-init : goal.loop-i-init
unfolding zip_with
loop-i-init c = (search rules, refl)

pub overflow_add-sent : goal.overflow_add-sent
overflow_add-sent c = omega (arith, c.requires.1 c.loop-i.i)

pub loop-i-preserved : goal.loop-i-preserved
loop-i-preserved c =
    let head = c.loop-i in
    let args = c.args in
    let size : length args.marks ≡ 1024 = search rules in
    let room : head.i < length args.marks = omega arith in
    (search rules, rw c.from.ensures (paired-more ◌+◌ _ _ _ _ head.i 0 0 head.invariant.1 c.loop-i-test.true room room))

pub returns : goal.returns
returns c =
    let args = c.args in
    let head = c.loop-i in
    let bytes = args.bytes.now in
    let done : head.i ≡ length bytes = omega arith in
    head.invariant.1
    ∙ ap (paired ◌+◌ bytes args.marks args.marks) done
    ∙ ap (λ (l : List ℕ). zip_with ◌+◌ l (take (length bytes) args.marks) ++ drop (length bytes) args.marks)
    (take-length bytes)
