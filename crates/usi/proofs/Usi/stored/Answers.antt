-- Each key of the match is one register.
use Rattle.laws.proofs.Branches.{branches}
use Rattle.usi.specs.Step.{write_byte}
use Rattle.usi.proofs.Usi.stored.Goals as goal

pub returns-in-120 : goal.returns-in-120
unfolding write_byte
returns-in-120 c = rw c.in-120.is (cc)

pub returns-in-121 : goal.returns-in-121
unfolding write_byte
returns-in-121 c = rw c.in-121.is (cc)

pub returns-in-122 : goal.returns-in-122
unfolding write_byte
returns-in-122 c = rw c.in-122.is (cc)

pub returns-in-123 : goal.returns-in-123
unfolding write_byte
returns-in-123 c = rw c.in-123.is (cc)

pub returns-in-124 : goal.returns-in-124
unfolding write_byte
returns-in-124 c = rw c.in-124.is (cc)

pub returns-in-125 : goal.returns-in-125
unfolding write_byte
returns-in-125 c = rw c.in-125.is (cc)

pub returns-in_default : goal.returns-in_default
unfolding write_byte
returns-in_default c = search branches
