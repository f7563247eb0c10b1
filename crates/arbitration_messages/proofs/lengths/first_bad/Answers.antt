use native.Mathlib.Omega.{arith}
use Prim.Native.Nat.{◌<◌, ◌≤◌}
use mathlib.Core.Path.{◌≡◌, ◌∙◌}
use mathlib.Core.Bool.{false}
use lib.ListN.{length}
use Rattle.laws.proofs.Lists.{zip_with-at, zip_with-length}
use Rattle.laws.proofs.Search.{passed_start, passed-more, found_first, none_first}
use Rattle.arbitration_rules.specs.Reply.{itself}
use Rattle.arbitration_messages.specs.Lengths.{bad_length, bad_lengths_of}
use Rattle.arbitration_messages.proofs.lengths.first_bad.Goals as goal

pub loop-i-init : goal.loop-i-init
loop-i-init c = passed_start itself _

pub returns-then-count-lengths : goal.returns-then-count-lengths
returns-then-count-lengths c =
    let head = c.loop-i in
    let args = c.args in
    let counts = args.counts.now in
    let lengths = args.lengths.now in
    let less : head.i < length counts = omega arith in
    let less-too : head.i < length lengths = omega arith in
    let size = zip_with-length bad_length counts lengths in
    let more : head.i < length (bad_lengths_of counts lengths) = omega (arith, size) in
    let here = zip_with-at bad_length counts lengths head.i 0 0 false less less-too in
    found_first itself (bad_lengths_of counts lengths) head.i false head.invariant more (here ∙ c.if-count-lengths.true)

pub loop-i-preserved : goal.loop-i-preserved
loop-i-preserved c =
    let head = c.loop-i in
    let args = c.args in
    let counts = args.counts.now in
    let lengths = args.lengths.now in
    let less : head.i < length counts = omega arith in
    let less-too : head.i < length lengths = omega arith in
    let size = zip_with-length bad_length counts lengths in
    let more : head.i < length (bad_lengths_of counts lengths) = omega (arith, size) in
    let here = zip_with-at bad_length counts lengths head.i 0 0 false less less-too in
    passed-more itself (bad_lengths_of counts lengths) head.i false head.invariant more (here ∙ c.if-count-lengths.false)

pub returns : goal.returns
returns c =
    let args = c.args in
    let counts = args.counts.now in
    let lengths = args.lengths.now in
    let size = zip_with-length bad_length counts lengths in
    let done : length (bad_lengths_of counts lengths) ≤ c.loop-i.i = omega (arith, size) in
    let all : length counts ≡ c.loop-i.i = omega arith in
    all ∙ none_first itself _ _ c.loop-i.invariant done
