-- Each key of the match is an even register; no other even address is one.
use borrow.Author.Tests.{ne_eqb}
use Rattle.laws.proofs.Branches.{branches}
use Rattle.usi.proofs.Registers.{reads_nothing}
use Rattle.usi.specs.Step.{read_word, read_byte}
use Rattle.usi.proofs.Usi.read_word.Goals as goal

pub returns-then-address-eq1 : goal.returns-then-address-eq1
unfolding read_word
returns-then-address-eq1 c = search branches

pub returns-in-120 : goal.returns-in-120
unfolding read_word read_byte
returns-in-120 c = rw (c.in-120.is, c.word.ensures)

pub returns-in-122 : goal.returns-in-122
unfolding read_word read_byte
returns-in-122 c = rw (c.in-122.is, c.word-in-122.ensures)

pub returns-in-124 : goal.returns-in-124
unfolding read_word read_byte
returns-in-124 c = rw (c.in-124.is, c.word-in-124.ensures)

pub returns-in_default : goal.returns-in_default
unfolding read_word
returns-in_default c =
    let even = c.if-address-eq1.false in
    rw (
      ne_eqb _ _ even,
      reads_nothing c.args.address even c.in_default.in_default-own.rest.0.0.1 c.in_default.in_default-own.rest.0.1
          c.in_default.in_default-own.rest.1
          c.args.self,
    )
    c.refused-in_default.ensures
