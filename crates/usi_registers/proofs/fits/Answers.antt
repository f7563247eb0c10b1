-- The word is tested half by half, then byte by byte, and the bits of a byte by trying every byte.
use mathlib.Core.Path.{◌≡◌, refl, ◌∙◌, ap, ap₂}
use mathlib.Core.Bool.{Bool, true, false, ◌&&◌, beq}
use Prim.Native.Nat.{ℕ, ◌+◌, ◌*◌, ◌<◌}
use native.Mathlib.Omega.{arith}
use lib.Dec.{eqb}
use lib.Bits.{bit_and}
use borrow.Author.Rules.{rules}
use Rattle.laws.proofs.Bools.{alike, and-false}
use Rattle.laws.proofs.Search.{all_below, all-below}
use Rattle.bits.specs.Positions.{on, off}
use Rattle.bits.proofs.Words.{halves-tested}
use Rattle.usi_registers.specs.Registers.{USIPE7, USIPE6, USILSB, USISWRST, USICKPH, USII2C, USICKPL, USI16B}
use Rattle.usi_registers.specs.Rules.{fits}
use Rattle.usi_registers.proofs.fits.Goals as goal

every_byte : (test other : ℕ → Bool) → all_below (λ x. beq (test x) (other x)) 256 ≡ true → (x : ℕ) → x < 256 → test
    x ≡ other x
every_byte test other agree x small =
    alike (test x) (other x) (all-below (λ x. beq (test x) (other x)) 256 agree x small)

usictl0-bits : (x : ℕ) → x < 256 → eqb (bit_and x 0xd1) 0xc0
    ≡ off x USILSB && on x USIPE6 && on x USIPE7 && off x USISWRST
usictl0-bits =
    every_byte (λ x. eqb (bit_and x 0xd1) 0xc0) (λ x. off x USILSB && on x USIPE6 && on x USIPE7 && off x USISWRST) refl

usictl1-bits : (x : ℕ) → x < 256 → eqb (bit_and x 0xc0) 0x40 ≡ on x USII2C && off x USICKPH
usictl1-bits = every_byte (λ x. eqb (bit_and x 0xc0) 0x40) (λ x. on x USII2C && off x USICKPH) refl

in-order : (i2c ckpl ckph lsb b16 pe6 pe7 swrst : Bool)
    → b16 && ckpl && (i2c && ckph && (lsb && pe6 && pe7 && swrst)) ≡ i2c && ckpl && ckph && lsb && b16 && pe6 && pe7 && swrst
in-order true true true true true pe6 pe7 swrst = refl
in-order true true true true false pe6 pe7 swrst = refl
in-order true true true false b16 pe6 pe7 swrst = and-false (b16 && true)
in-order true true false lsb b16 pe6 pe7 swrst = and-false (b16 && true)
in-order true false ckph lsb b16 pe6 pe7 swrst = ap (λ (b : Bool). b && (ckph && (lsb && pe6 && pe7 && swrst))) (and-false b16)
in-order false ckpl ckph lsb b16 pe6 pe7 swrst = and-false (b16 && ckpl)

word_fits : (usictl0 usictl1 usickctl usicnt : ℕ) → usictl0 < 256 → usictl1 < 256 → usickctl < 256
    → eqb (bit_and ((usicnt * 256 + usickctl) * 65536 + (usictl1 * 256 + usictl0)) 0x4002c0d1) 0x000240c0
    ≡ fits usictl0 usictl1 usickctl usicnt
word_fits usictl0 usictl1 usickctl usicnt small0 small1 small2 =
    let control : usictl1 * 256 + usictl0 < 65536 = omega arith in
    halves-tested 16 (usicnt * 256 + usickctl) (usictl1 * 256 + usictl0) 0x4002c0d1 0x000240c0 control
    ∙ ap₂ ◌&&◌ (halves-tested 8 usicnt usickctl 0x4002 0x0002 small2)
    (halves-tested 8 usictl1 usictl0 0xc0d1 0x40c0 small0 ∙ ap₂ ◌&&◌ (usictl1-bits usictl1 small1) (usictl0-bits usictl0 small0))
    ∙ in-order (on usictl1 USII2C) (on usickctl USICKPL) (off usictl1 USICKPH) (off usictl0 USILSB) (off usicnt USI16B)
    (on usictl0 USIPE6) (on usictl0 USIPE7) (off usictl0 USISWRST)

pub returns : goal.returns
returns c = rw c.word.ensures (word_fits c.args.usictl0 c.args.usictl1 c.args.usickctl
    c.args.usicnt (search rules) (search rules) (search rules))
