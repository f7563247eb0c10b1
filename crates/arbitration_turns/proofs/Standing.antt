-- At every turn of a run: from where it stands the steps that are left give the whole run.
use Prim.Native.Nat.{ℕ, suc, ◌+◌, ◌<◌, ◌≤◌}
use mathlib.Core.Path.{◌≡◌, refl, ap, ◌∙◌}
use mathlib.Core.Bool.{Bool, true, false, cond, ◌||◌}
use mathlib.Core.List.{List, append-nil}
use native.Mathlib.Omega.{arith}
use borrow.Author.Tests.{ltb-true, ltb-false}
use lib.Dec.{eqb, ltb}
use lib.ListN.{drop}
use Rattle.arbitration_rules.specs.Masters.{Master}
use Rattle.arbitration_rules.specs.Run as script
use Rattle.arbitration_rules.specs.Run.{Bus, perform, byte_turn, stop, through}
use Rattle.arbitration_rules.proofs.Phases.{perform-append}
use Rattle.arbitration_pass.specs.declared.instants.Part.{Part}
use Rattle.arbitration_pass.specs.declared.instants.Part.TheVariants.{Entry, Opening, Restart, Byte, Closing}
use Rattle.arbitration_pass.specs.Instants.{instant, last}
use Rattle.arbitration_run.specs.Sequence.{acknowledge_at}
use Rattle.arbitration_turns.proofs.Scripts.{spelled, remaining, remaining-next, remaining-last}
use Rattle.arbitration_turns.proofs.Growth.{Grows, grows-not, grows-on, perform-grows, bytes-grow}

module _ (messages : List (List ℕ)) (acknowledges : List ℕ) where
  -- step 2 from the byte at an index on
  abbrev pub bytes_from : ℕ → Bus → Bus
  bytes_from index bus = script.bytes messages (drop index acknowledges) index bus

  -- whether the byte at an index is the last
  abbrev pub ends : ℕ → List Master → Bool
  ends index masters = eqb (acknowledge_at acknowledges index) 1 || through messages (suc index) masters

  -- what follows the byte at an index
  abbrev pub after_byte : ℕ → Bus → Bus
  after_byte index bus = perform messages stop (cond (ends index bus.masters) bus (bytes_from (suc index) bus))

  abbrev pub byte_after : ℕ → Bus → Bus
  byte_after index bus = perform messages (byte_turn index (acknowledge_at acknowledges index)) bus

  -- what follows a part that is over
  abbrev pub finished : Part → ℕ → Bus → Bus
  finished Entry index bus = bus
  finished Opening index bus = perform messages stop (bytes_from index bus)
  finished Restart index bus = after_byte index (byte_after index bus)
  finished Byte index bus = after_byte index bus
  finished Closing index bus = bus

  abbrev pub rest_at : Part → ℕ → ℕ → Bus → Bus
  rest_at part at index bus =
      finished part index (perform messages (remaining part at index (acknowledge_at acknowledges index)) bus)

  after-grows : (index : ℕ) (bus : Bus) → Grows bus (after_byte index bus)
  after-grows index bus = go (ends index bus.masters)
    where
      go : (over : Bool) → Grows bus (perform messages stop (cond over bus (bytes_from (suc index) bus)))
      go true = perform-grows messages stop bus
      go false =
          grows-on bus (bytes_from (suc index) bus) (perform messages stop (bytes_from (suc index) bus))
          (bytes-grow messages (drop (suc index) acknowledges) (suc index) bus)
          (perform-grows messages stop (bytes_from (suc index) bus))

  finished-grows : (part : Part) (index : ℕ) (bus : Bus) → Grows bus (finished part index bus)
  finished-grows Entry index bus = grows-not bus
  finished-grows Opening index bus =
      grows-on bus (bytes_from index bus) (perform messages stop (bytes_from index bus))
      (bytes-grow messages (drop index acknowledges) index bus) (perform-grows messages stop (bytes_from index bus))
  finished-grows Restart index bus =
      grows-on bus (byte_after index bus) (after_byte index (byte_after index bus))
      (perform-grows messages (byte_turn index (acknowledge_at acknowledges index)) bus)
      (after-grows index (byte_after index bus))
  finished-grows Byte index bus = after-grows index bus
  finished-grows Closing index bus = grows-not bus

  module _ (part : Part) (at index : ℕ) (bus : Bus) where
    abbrev spelled_here : List script.Instant
    spelled_here = spelled (instant part at) index (acknowledge_at acknowledges index)

    -- one instant more
    pub rest-next : at < last part
        → rest_at part at index bus ≡ rest_at part (at + 1) index (perform messages spelled_here bus)
    rest-next less =
        ap (finished part index)
        (ap (λ (left : List script.Instant). perform messages left bus)
        (remaining-next part at index (acknowledge_at acknowledges index) less)
        ∙ perform-append messages spelled_here
        (remaining part (at + 1) index (acknowledge_at acknowledges index)) bus)

    -- the last one
    pub rest-last : at ≡ last part → rest_at part at index bus ≡ finished part index (perform messages spelled_here bus)
    rest-last end =
        ap (finished part index)
        (ap (λ (left : List script.Instant). perform messages left bus)
        (remaining-last part at index (acknowledge_at acknowledges index) end ∙ append-nil spelled_here))

    -- what the instant records and carries is in the whole
    pub instant-grows : at ≤ last part → Grows (perform messages spelled_here bus) (rest_at part at index bus)
    instant-grows within = go (ltb at (last part)) refl
      where
        next : Bus
        next = perform messages spelled_here bus

        go : (more : Bool) → ltb at (last part) ≡ more → Grows next (rest_at part at index bus)
        go true is =
            rw (rest-next (ltb-true at (last part) is))
            (grows-on next
            (perform messages (remaining part (at + 1) index (acknowledge_at acknowledges index)) next)
            (rest_at part (at + 1) index next)
            (perform-grows messages (remaining part (at + 1) index (acknowledge_at acknowledges index)) next)
            (finished-grows part index
            (perform messages (remaining part (at + 1) index (acknowledge_at acknowledges index)) next)))
        go false is =
            let end : at ≡ last part = omega (arith, within, ltb-false at (last part) is) in
            rw (rest-last end) (finished-grows part index next)
