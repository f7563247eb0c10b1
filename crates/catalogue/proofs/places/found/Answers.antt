-- What is before the message, and its own length.
use mathlib.Core.Path.{refl}
use native.Mathlib.Omega.{arith}
use lib.ListN.{take}
use Rattle.catalogue.proofs.Sums.{total-sum, both-within}
use Rattle.catalogue.proofs.places.found.Goals as goal

pub offset_of-requires : goal.offset_of-requires
offset_of-requires c =
    let before = take c.args.index c.args.lengths.now in
    let within = both-within c.args.lengths.now c.args.index c.requires.0 in
    (omega arith, omega (arith, total-sum before, within, c.requires.1))

pub returns : goal.returns
returns c = rw (c.offset_of.ensures, ← total-sum) refl
