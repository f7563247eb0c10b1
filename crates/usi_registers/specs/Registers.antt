-- The USI's register table (01, "The module's registers"; TI's names): address, value after power-up, and the bits by
-- position.
use Rattle.std.specs.Prelude.{ℕ, ◌+◌}
use Rattle.bits.specs.Positions.{bit, lowest}

-- | 078h | USICTL0 | 01h | PE7 PE6 PE5 LSB MST GE OE SWRST |
abbrev pub USICTL0 : ℕ
USICTL0 = 0x078

abbrev pub USICTL0-power_up : ℕ
USICTL0-power_up = 0x01

abbrev pub USIPE7 : ℕ
USIPE7 = bit 7

abbrev pub USIPE6 : ℕ
USIPE6 = bit 6

abbrev pub USIPE5 : ℕ
USIPE5 = bit 5

abbrev pub USILSB : ℕ
USILSB = bit 4

abbrev pub USIMST : ℕ
USIMST = bit 3

abbrev pub USIGE : ℕ
USIGE = bit 2

abbrev pub USIOE : ℕ
USIOE = bit 1

abbrev pub USISWRST : ℕ
USISWRST = bit 0

-- | 079h | USICTL1 | 01h | CKPH I2C STTIE IIE AL STP STTIFG IFG |
abbrev pub USICTL1 : ℕ
USICTL1 = 0x079

abbrev pub USICTL1-power_up : ℕ
USICTL1-power_up = 0x01

abbrev pub USICKPH : ℕ
USICKPH = bit 7

abbrev pub USII2C : ℕ
USII2C = bit 6

abbrev pub USISTTIE : ℕ
USISTTIE = bit 5

abbrev pub USIIE : ℕ
USIIE = bit 4

abbrev pub USIAL : ℕ
USIAL = bit 3

abbrev pub USISTP : ℕ
USISTP = bit 2

abbrev pub USISTTIFG : ℕ
USISTTIFG = bit 1

abbrev pub USIIFG : ℕ
USIIFG = bit 0

-- the four flags
abbrev pub USIFLAGS : ℕ
USIFLAGS = USIAL + USISTP + USISTTIFG + USIIFG

-- | 07Ah | USICKCTL | 00h | DIV(3) SSEL(3) CKPL SWCLK |
abbrev pub USICKCTL : ℕ
USICKCTL = 0x07a

abbrev pub USICKCTL-power_up : ℕ
USICKCTL-power_up = 0x00

-- the two fields are given by their lowest position and their width
abbrev pub USIDIV-position : ℕ
USIDIV-position = 5

abbrev pub USIDIV-width : ℕ
USIDIV-width = 3

abbrev pub USISSEL-position : ℕ
USISSEL-position = 2

abbrev pub USISSEL-width : ℕ
USISSEL-width = 3

abbrev pub USICKPL : ℕ
USICKPL = bit 1

abbrev pub USISWCLK : ℕ
USISWCLK = bit 0

-- | 07Bh | USICNT | 00h | SCLREL 16B IFGCC CNT(5) |
abbrev pub USICNT : ℕ
USICNT = 0x07b

abbrev pub USICNT-power_up : ℕ
USICNT-power_up = 0x00

abbrev pub USISCLREL : ℕ
USISCLREL = bit 7

abbrev pub USI16B : ℕ
USI16B = bit 6

abbrev pub USIIFGCC : ℕ
USIIFGCC = bit 5

-- the mask of the field CNT, bits 4 to 0 (TI: USICNTx)
abbrev pub USICNTx : ℕ
USICNTx = lowest 5

-- | 07Ch | USISRL | unchanged | shift register |; bit 7 is the one sent first
abbrev pub USISRL : ℕ
USISRL = 0x07c

abbrev pub USISRL-first : ℕ
USISRL-first = bit 7

-- | 07Dh | USISRH | unchanged | not used here |
abbrev pub USISRH : ℕ
USISRH = 0x07d
