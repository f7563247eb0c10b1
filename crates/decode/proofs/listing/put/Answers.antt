-- `put` stores what one sample lists, by cases.
use mathlib.Core.Path.{refl}
use native.Mathlib.Numerals.{add-one}
use lib.ListN.{length-set}
use native.Mathlib.Omega.{arith}
use Rattle.decode.proofs.listing.put.Goals as goal

pub bounds-events-count : goal.bounds-events-count
bounds-events-count c = omega (arith, rw c.in-One.is at c.requires)

pub bounds-events-count-in-Two : goal.bounds-events-count-in-Two
bounds-events-count-in-Two c = omega (arith, rw c.in-Two.is at c.requires)

pub bounds-events-count-in-Two-2 : goal.bounds-events-count-in-Two-2
bounds-events-count-in-Two-2 c =
    let room = rw c.in-Two.is at c.requires in
    rw length-set (omega (arith, room))

pub returns-in-Nothing : goal.returns-in-Nothing
returns-in-Nothing c = rw c.in-Nothing.is record { next = omega arith; stored = refl }

pub returns-in-One : goal.returns-in-One
returns-in-One c = rw c.in-One.is record { next = refl; stored = refl }

pub returns-in-Two : goal.returns-in-Two
returns-in-Two c = rw c.in-Two.is record { next = refl; stored = rw add-one }
