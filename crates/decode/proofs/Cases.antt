-- One sample by the cases of SCL.
use Prim.Native.Nat.{ℕ, ◌+◌, ◌*◌}
use mathlib.Core.Path.{◌≡◌, refl}
use mathlib.Core.Bool.{Bool, true, false, not, ◌&&◌, and-false, and-not_self, not-and_self}
use mathlib.Core.List.{[], ◌∷◌, ◌++◌}
use mir.Val.{bool_byte}
use Rattle.levels.specs.Levels.{scl, sda, starts, stops}
use Rattle.trace.specs.Events.{byte_event, stop_event}
use Rattle.decode.specs.declared.Decoder.{Decoder}
use Rattle.decode.specs.declared.Stepped.{Stepped}
use Rattle.decode.specs.Decode.{takes, ninth, conditioned, with_bit, next, cut, start_of, lists}
use Rattle.decode.specs.Stepping.{Steps, list_of, quietly}

module _ (decoder : Decoder) (level : ℕ) (answer : Stepped) where
  -- SCL was low: nothing is listed
  pub was-low : scl decoder.last ≡ false → answer ≡ quietly decoder level (decoder.marked && scl level)
      → Steps decoder level answer
  unfolding starts stops takes next lists
  was-low low is = rw is (record { decoder_is = rw low; listed_is = rw low })

  -- SCL stays high
  module _ (high : scl decoder.last ≡ true) (still : scl level ≡ true) where
    same-mark : quietly decoder level decoder.marked ≡ quietly decoder level (decoder.marked && scl level)
    same-mark = rw still (go decoder.marked)
      where
        go : (marked : Bool) → quietly decoder level marked ≡ quietly decoder level (marked && true)
        go true = refl
        go false = refl

    -- and SDA stays
    pub same_line : sda decoder.last ≡ sda level → answer ≡ quietly decoder level decoder.marked
        → Steps decoder level answer
    unfolding starts stops takes next lists
    same_line same is =
        rw (is, same-mark)
        (record {
          decoder_is = rw (high, same, still, and-not_self (sda level), not-and_self (sda level));
          listed_is = rw (high, same, still, and-not_self (sda level), not-and_self (sda level));
        })

    -- SDA falls: START
    pub starting : sda decoder.last ≡ true → sda level ≡ false → answer.decoder ≡ conditioned true level
        → list_of answer.listed ≡ cut decoder ++ start_of decoder.framed ∷ [] → Steps decoder level answer
    unfolding starts stops takes next lists
    starting was is decoder_is listed_is =
        record { decoder_is = rw (high, was, still, is) decoder_is; listed_is = rw (high, was, still, is) listed_is }

    -- SDA rises: STOP, which closes an open frame
    module _ (was : sda decoder.last ≡ false) (is : sda level ≡ true)
        (closed : answer.decoder ≡ conditioned false level) where
      pub stopping : decoder.framed ≡ true → list_of answer.listed ≡ cut decoder ++ stop_event ∷ []
          → Steps decoder level answer
      unfolding starts stops takes next lists cut
      stopping framed listed_is =
          record {
            decoder_is = rw (high, was, still, is) closed;
            listed_is = rw (high, was, still, is, framed) listed_is;
          }

      pub unheard : decoder.framed ≡ false → list_of answer.listed ≡ [] → Steps decoder level answer
      unfolding starts stops takes next lists
      unheard unframed listed_is =
          record {
            decoder_is = rw (high, was, still, is) closed;
            listed_is = rw (high, was, still, is, unframed) listed_is;
          }

  -- SCL falls
  module _ (high : scl decoder.last ≡ true) (low : scl level ≡ false) where
    pub no-bit : decoder.framed && not decoder.marked ≡ false → answer ≡ quietly decoder level false
        → Steps decoder level answer
    unfolding starts stops takes next lists
    no-bit none is =
        rw is
        (record {
          decoder_is = rw (high, low, none, and-false decoder.marked);
          listed_is = rw (high, low, none);
        })

    module _ (taken : decoder.framed && not decoder.marked ≡ true) where
      pub bit : ninth decoder ≡ false
          → answer.decoder
          ≡ record {
            last = level;
            framed = true;
            marked = false;
            pending = decoder.pending + 1;
            value = 2 * decoder.value + bool_byte (sda decoder.last);
          }
          → list_of answer.listed ≡ [] → Steps decoder level answer
      unfolding starts stops takes with_bit next lists
      bit eight decoder_is listed_is =
          record {
            decoder_is = rw (high, low, taken, eight) decoder_is;
            listed_is = rw (high, low, taken, eight) listed_is;
          }

      pub byte : ninth decoder ≡ true
          → answer.decoder ≡ record { last = level; framed = true; marked = false; pending = 0; value = 0 }
          → list_of answer.listed ≡ byte_event decoder.value (sda decoder.last) ∷ []
          → Steps decoder level answer
      unfolding starts stops takes with_bit next lists
      byte nine decoder_is listed_is =
          record {
            decoder_is = rw (high, low, taken, nine) decoder_is;
            listed_is = rw (high, low, taken, nine) listed_is;
          }
