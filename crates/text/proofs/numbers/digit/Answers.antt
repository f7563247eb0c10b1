-- `text::numbers::digit` meets its contract: each arm is its case of `digit_in`.
use native.Mathlib.Omega.{arith}
use Rattle.text.specs.Numbers.{digit_in}
use Rattle.text.proofs.Reading.{inside, under, over}
use Rattle.text.proofs.numbers.digit.Goals as goal

pub returns-in-48-to-57 : goal.returns-in-48-to-57
unfolding digit_in
returns-in-48-to-57 c =
    let b = c.args.b in
    rw (inside 48 57 b (omega arith) (omega arith))

pub returns-in-65-to-70 : goal.returns-in-65-to-70
unfolding digit_in
returns-in-65-to-70 c =
    let b = c.args.b in
    rw (over 48 57 b (omega arith), inside 65 70 b (omega arith) (omega arith))

pub returns-in-97-to-102 : goal.returns-in-97-to-102
unfolding digit_in
returns-in-97-to-102 c =
    let b = c.args.b in
    rw (over 48 57 b (omega arith), over 65 70 b (omega arith), inside 97 102 b (omega arith) (omega arith))

pub returns-in_default : goal.returns-in_default
unfolding digit_in
returns-in_default c =
    let b = c.args.b in
    rw (under 48 57 b (omega arith), under 65 70 b (omega arith), under 97 102 b (omega arith))

pub returns-in_default-2 : goal.returns-in_default-2
unfolding digit_in
returns-in_default-2 c =
    let b = c.args.b in
    rw (over 48 57 b (omega arith), under 65 70 b (omega arith), under 97 102 b (omega arith))

pub returns-in_default-3 : goal.returns-in_default-3
unfolding digit_in
returns-in_default-3 c =
    let b = c.args.b in
    rw (over 48 57 b (omega arith), over 65 70 b (omega arith), under 97 102 b (omega arith))

pub returns-in_default-4 : goal.returns-in_default-4
unfolding digit_in
returns-in_default-4 c =
    let b = c.args.b in
    rw (over 48 57 b (omega arith), over 65 70 b (omega arith), over 97 102 b (omega arith))
