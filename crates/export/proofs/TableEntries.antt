-- The bits of an entry of the tables are those of its master.
use Prim.Native.Nat.{ℕ, ◌+◌, ◌*◌, ◌/◌, ◌%◌, ◌<◌}
use native.Mathlib.Omega.{arith}
use mathlib.Core.Path.{◌≡◌, refl, ap₂}
use mathlib.Core.Bool.{Bool, true, false}
use mathlib.Core.List.{List, [], ◌∷◌, ◌++◌, map, zip_with}
use mathlib.Core.Option.{Option, none, some}
use mir.Val.{bool_byte}
use lib.ListN.{length, take}
use borrow.Author.Tests.{eq-eqb, ne_eqb}
use Rattle.laws.specs.Everyone.{Everyone, nobody, also}
use Rattle.bits.specs.Positions.{is_set}
use Rattle.usi.specs.declared.Usi.{Usi}
use Rattle.arbitration_rules.specs.declared.Seat.{Seat}
use Rattle.arbitration_rules.specs.Final.{final_usi}
use Rattle.arbitration_rules.specs.Masters.{Master}
use Rattle.arbitration_rules.specs.Outcome.{Fate}
use Rattle.arbitration_rules.specs.Reply.{seat_of}
use Rattle.arbitration.specs.Shown.{fate_of}
use Rattle.export.specs.Arbitration.{fate_in, packed_seat}
use Rattle.export.specs.Packed.{byte_at, packed}

abbrev pub Small : Usi → Type 0
Small u = (u.usictl0 < 256) × (u.usictl1 < 256)

second-byte : (u : Usi) → Small u → byte_at 1 (packed u) ≡ u.usictl1
second-byte u small = omega (arith, small.0, small.1)

abbrev pub Few : Seat → Type 0
Few seat = seat.cleared < 16

low-bit : (b : Bool) (cleared position : ℕ) → is_set 0 (bool_byte b + 2 * cleared + 32 * position) ≡ b
low-bit true cleared position = eq-eqb ((1 + 2 * cleared + 32 * position) / 1 % 2) 1 (omega arith)
low-bit false cleared position = ne_eqb ((0 + 2 * cleared + 32 * position) / 1 % 2) 1 (λ e. omega arith)

rest_of : (b : Bool) (cleared position : ℕ) → cleared < 16 → (bool_byte b + 2 * cleared + 32 * position) / 32 ≡ position
rest_of true cleared position few = omega arith
rest_of false cleared position few = omega arith

fate-is : (u : Usi) (seat : Seat) → Small u → Few seat → fate_in (packed u) (packed_seat seat) ≡ fate_of u seat
fate-is u seat small few =
    rw (
      second-byte u small,
      low-bit seat.contending seat.cleared seat.position,
      rest_of seat.contending seat.cleared seat.position few,
    )

pub fates-are : (modules : List Usi) (seats others : List Seat) (more most : List ℕ) → Everyone Small modules
    → Everyone Few seats → length modules ≡ length seats
    → take (length modules) (zip_with fate_in (map packed modules ++ more) (map packed_seat seats ++ most))
    ≡ zip_with fate_of modules (seats ++ others)
unfolding zip_with
fates-are [] seats others more most small few same = refl
fates-are (u ∷ modules) [] others more most small few same = absurd (omega (arith, same))
fates-are (u ∷ modules) (seat ∷ seats) others more most (also first rest) (also few fews) same =
    ap₂ (λ (one : Fate) (fates : List Fate). one ∷ fates) (fate-is u seat first few)
    (fates-are modules seats others more most rest fews (omega (arith, same)))

-- the modules at the end of a run
pub final-small : (carried message : List ℕ) (loss : Option ℕ) → Small (final_usi carried message loss)
final-small carried message none = (omega arith, omega arith)
final-small carried message (some position) = (omega arith, omega arith)

pub few-seats : (flags : List ℕ) (masters : List Master) → Everyone (λ (n : ℕ). n < 16) flags
    → Everyone Few (zip_with seat_of flags masters)
unfolding zip_with
few-seats [] masters small = nobody
few-seats (flag ∷ flags) [] small = nobody
few-seats (flag ∷ flags) (master ∷ masters) (also here rest) = also here (few-seats flags masters rest)
