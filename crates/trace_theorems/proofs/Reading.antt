-- Reading in parts: what a decoder lists of some levels and where that leaves it, put end to end; then a drawn bit.
use Prim.Native.Nat.{ℕ, suc, ◌+◌, ◌*◌, ◌<◌}
use native.Mathlib.Omega.{arith}
use mathlib.Core.Path.{◌≡◌, refl, sym, ◌∙◌, ap}
use mathlib.Core.Bool.{Bool, true, false}
use mathlib.Core.List.{List, [], ◌∷◌, ◌++◌, append_assoc}
use mir.Val.{bool_byte}
use lib.Dec.{eqb}
use lib.ListN.{length}
use borrow.Author.Tests.{ne_eqb}
use Rattle.decode.specs.declared.Decoder.{Decoder}
use Rattle.levels.specs.Levels.{starts, stops}
use Rattle.trace.specs.Events.{byte_event}
use Rattle.decode.specs.Decode.{takes, with_bit, next, cut, lists, after, listed}
use Rattle.encode.specs.Encode.{draw_bit, draw_bits}
use Rattle.trace_theorems.proofs.Bits.{number_from}

-- from one decoder to another these levels list these events
pub record Reads (from : Decoder) (levels : List ℕ) (events : List ℕ) (to : Decoder) : Type 0 where
  pub lists-them : listed from levels ≡ events
  pub ends_at : after from levels ≡ to

listed-append : (decoder : Decoder) (levels others : List ℕ)
    → listed decoder (levels ++ others) ≡ listed decoder levels ++ listed (after decoder levels) others
listed-append decoder [] others = refl
listed-append decoder (level ∷ levels) others =
    ap (λ (events : List ℕ). lists decoder level ++ events) (listed-append (next decoder level) levels others)
    ∙ sym (append_assoc (lists decoder level) _ _)

after-append : (decoder : Decoder) (levels others : List ℕ)
    → after decoder (levels ++ others) ≡ after (after decoder levels) others
after-append decoder [] others = refl
after-append decoder (level ∷ levels) others = after-append (next decoder level) levels others

-- one part after another
pub then-reads : {first second third : Decoder} {levels others events more : List ℕ}
    → Reads first levels events second → Reads second others more third
    → Reads first (levels ++ others) (events ++ more) third
then-reads {first} {levels} {others} one two =
    record {
      lists-them = listed-append first levels others ∙ rw (one.ends_at, one.lists-them, two.lists-them);
      ends_at = after-append first levels others ∙ rw (one.ends_at, two.ends_at);
    }

-- between frames: both lines high
abbrev pub between : Bool → Decoder
between marked = record { last = 3; framed = false; marked = marked; pending = 0; value = 0 }

-- after a START: SDA low, SCL still high
abbrev pub opened : Decoder
opened = record { last = 1; framed = true; marked = true; pending = 0; value = 0 }

-- in the high phase of a bit, which will be taken when SCL falls
abbrev pub showing : Bool → ℕ → ℕ → Decoder
showing bit pending value =
    record { last = 2 * bool_byte bit + 1; framed = true; marked = false; pending = pending; value = value }

-- the first bit after a START
pub first-bit : (bit : Bool) → Reads opened (draw_bit bit) [] (showing bit 0 0)
unfolding starts stops takes with_bit next cut lists
first-bit true = record { lists-them = refl; ends_at = refl }
first-bit false = record { lists-them = refl; ends_at = refl }

-- a bit after a byte: the byte's ninth bit is taken
pub bit-after-byte : (ninth : Bool) (value : ℕ) (bit : Bool)
    → Reads (showing ninth 8 value) (draw_bit bit) (byte_event value ninth ∷ []) (showing bit 0 0)
unfolding starts stops takes with_bit next cut lists
bit-after-byte true value true = record { lists-them = refl; ends_at = refl }
bit-after-byte true value false = record { lists-them = refl; ends_at = refl }
bit-after-byte false value true = record { lists-them = refl; ends_at = refl }
bit-after-byte false value false = record { lists-them = refl; ends_at = refl }

-- a bit within a byte: the bit before joins the value
pub bit-within : (before bit : Bool) (pending value : ℕ) → eqb pending 8 ≡ false
    → Reads (showing before pending value) (draw_bit bit) [] (showing bit (pending + 1) (2 * value + bool_byte before))
unfolding starts stops takes with_bit next cut lists
bit-within true true pending value few = record { lists-them = rw few; ends_at = rw few }
bit-within true false pending value few = record { lists-them = rw few; ends_at = rw few }
bit-within false true pending value few = record { lists-them = rw few; ends_at = rw few }
bit-within false false pending value few = record { lists-them = rw few; ends_at = rw few }

below-eight : (pending : ℕ) → pending < 8 → eqb pending 8 ≡ false
below-eight pending few = ne_eqb pending 8 (λ e. omega arith)

-- bits within a byte, up to the one that shows at the end
pub bits-within : (bits : List Bool) (before last : Bool) (pending value : ℕ) → pending + length bits < 8
    → Reads (showing before pending value) (draw_bits (bits ++ last ∷ [])) []
    (showing last (pending + suc (length bits)) (number_from value (before ∷ bits)))
bits-within [] before last pending value few = bit-within before last pending value
    (below-eight pending (omega arith))
bits-within (bit ∷ bits) before last pending value few =
    let one-more : pending + suc (suc (length bits)) ≡ pending + 1 + suc (length bits) = omega arith in
    rw one-more
    (then-reads (bit-within before bit pending value (below-eight pending (omega arith)))
    (bits-within bits bit last (pending + 1) (2 * value + bool_byte before) (omega arith)))
