-- No step of a run is refused: the set-up fits from the set-up's writes on, with a divider that waits (22h has DIV=1),
-- and every later step keeps it so. Whatever the messages and acknowledges are.
use Prim.Native.Nat.{ℕ, zero, suc, ◌*◌, ◌≤◌}
use native.Mathlib.Omega.{arith}
use mathlib.Core.Path.{◌≡◌, refl, sym, ap, ◌∙◌}
use mathlib.Core.Bool.{Bool, cond, true, false, not, ◌&&◌, ◌||◌}
use mathlib.Core.List.{List, [], ◌∷◌, ◌++◌, map, zip_with, append_assoc}
use lib.Dec.{eqb}
use borrow.Author.Tests.{le-ltb}
use Rattle.bits.specs.Positions.{on, off}
use Rattle.laws.specs.Everyone.{Everyone, nobody, also}
use Rattle.laws.specs.Search.{any}
use Rattle.laws.proofs.Bools.{both, bool-byte}
use Rattle.laws.proofs.Lists.{everyone, everyone-map, everyone-so, everyone-append}
use Rattle.levels.specs.Levels.{scl, sda, max_level}
use Rattle.usi_registers.specs.Registers.{USICTL0, USICTL1, USICKCTL, USICNT, USISRL, USIPE7, USIPE6, USILSB}
use Rattle.usi_registers.specs.Registers.{USISWRST}
use Rattle.usi_registers.specs.Registers.{USICKPH, USII2C, USICKPL, USI16B}
use Rattle.usi_registers.specs.Rules as set_up_rules
use Rattle.usi.specs.declared.Usi.{Usi}
use Rattle.std.specs.Prelude.{Result}
use Rattle.usi.specs.declared.Refused.{Refused}
use Rattle.usi.specs.Module.{fits, pulls_scl, pulls_sda, with_usictl0, with_usictl1, with_usicnt, with_usisrl}
use Rattle.usi.specs.Step.{refusal, module_of, followed, settled, write_byte, sampled, sample, ticked, tick}
use Rattle.usi.proofs.SetUp.{count-flags, followed-fits, sampled-fits, ticked-fits}
use Rattle.usi.proofs.SetUp.{followed-clock, sampled-clock, ticked-clock}
use Rattle.arbitration_rules.specs.Masters as masters
use Rattle.arbitration_rules.specs.Masters.{Master, Who, still_in, beaten, losers, everybody, meant}
use Rattle.arbitration_rules.specs.Masters.{Operation, Sample, Write}
use Rattle.arbitration_rules.specs.Outcome.{byte_at}
use Rattle.arbitration_rules.specs.Masters.{entering, stepped, applied, refused_at, judged}
use Rattle.arbitration_rules.specs.Run.{Bus, Instant, does, loads, samples, records, pulls, judges, takes}
use Rattle.arbitration_rules.specs.Run.{carries}
use Rattle.arbitration_rules.specs.Run.{settles, wire, performed, perform, writes, powered, set_up, start}
use Rattle.arbitration_rules.specs.Run.{bit_turn, restart, turn_of, restarting}
use Rattle.arbitration_rules.specs.Run.{data_turns, byte_turn, stop, through, bytes, run, bytes_script, script}
use Rattle.arbitration_rules.specs.Run.{refused_in, refusals}
use Rattle.arbitration_rules.proofs.Phases.{perform-append}

-- a set-up that fits, with a divider that waits
abbrev Ready : Usi → Type 0
Ready u = (fits u ≡ true) × (eqb (set_up_rules.divider u.usickctl) 0 ≡ false)

-- a step is not refused, and leaves such a set-up
abbrev Fine : Result Usi Refused → Type 0
Fine step = (refusal step ≡ 0) × Ready (module_of step)

-- a module whose set-up is as another's was is ready as it was
same-clock : (u v : Usi) → Ready u → fits v ≡ fits u → v.usickctl ≡ u.usickctl → Ready v
same-clock u v ready fitting clock = (fitting ∙ ready.0, rw clock ready.1)

tick-fine : (u : Usi) → Ready u → Fine (tick u)
unfolding tick
tick-fine u ready =
    rw (ready.0, ready.1) (refl, same-clock u (ticked u) ready (ticked-fits u) (ticked-clock u))

sample-fine : (u : Usi) (level : ℕ) → level ≤ max_level → Ready u → Fine (sample u level)
unfolding sample
sample-fine u level small ready =
    rw (le-ltb max_level level small, ready.0) (
      refl,
      same-clock u (sampled (scl level) (sda level) u) ready (sampled-fits (scl level) (sda level) u)
          (sampled-clock (scl level) (sda level) u),
    )

-- what a write leaves is ready where the registers are, before it and after it
settled-fits : (before u : Usi) → fits before ≡ true → Ready u → Ready (settled before u)
unfolding settled
settled-fits before u fitted ready = rw (ready.0, fitted) (same-clock u (followed u) ready (followed-fits u) (followed-clock u))

-- the eight tests of the set-up
record Fitting (usictl0 usictl1 usickctl usicnt : ℕ) : Type 0 where
  i2c : on usictl1 USII2C ≡ true
  ckpl : on usickctl USICKPL ≡ true
  ckph : off usictl1 USICKPH ≡ true
  lsb : off usictl0 USILSB ≡ true
  narrow : off usicnt USI16B ≡ true
  pe6 : on usictl0 USIPE6 ≡ true
  pe7 : on usictl0 USIPE7 ≡ true
  swrst : off usictl0 USISWRST ≡ true

tests : (c0 c1 ck cn : ℕ) → set_up_rules.fits c0 c1 ck cn ≡ true → Fitting c0 c1 ck cn
tests c0 c1 ck cn fitting =
    let t7 = both _ (off c0 USISWRST) fitting in
    let t6 = both _ (on c0 USIPE7) t7.0 in
    let t5 = both _ (on c0 USIPE6) t6.0 in
    let t4 = both _ (off cn USI16B) t5.0 in
    let t3 = both _ (off c0 USILSB) t4.0 in
    let t2 = both _ (off c1 USICKPH) t3.0 in
    let t1 = both (on c1 USII2C) (on ck USICKPL) t2.0 in
    record {
      i2c = t1.0;
      ckpl = t1.1;
      ckph = t2.1;
      lsb = t3.1;
      narrow = t4.1;
      pe6 = t5.1;
      pe7 = t6.1;
      swrst = t7.1;
    }

-- the values that a run writes: CEh, CAh, C8h, C0h to USICTL0, 41h to USICTL1, 08h, 01h, 80h to USICNT, any to USISRL
data Keeping : ℕ → ℕ → Type 0 where
  to_control : {value : ℕ} → off value USILSB ≡ true → on value USIPE6 ≡ true → on value USIPE7 ≡ true
      → off value USISWRST ≡ true → Keeping USICTL0 value
  to_flags : {value : ℕ} → on value USII2C ≡ true → off value USICKPH ≡ true → Keeping USICTL1 value
  to_count : {value : ℕ} → off value USI16B ≡ true → Keeping USICNT value
  to_shift : {value : ℕ} → Keeping USISRL value

write-fine : {address value : ℕ} → Keeping address value → (u : Usi) → Ready u → Fine (write_byte u address value)
unfolding write_byte
write-fine (to_control {value} lsb pe6 pe7 swrst) u ready =
    let t = tests u.usictl0 u.usictl1 u.usickctl u.usicnt ready.0 in
    let fitting : fits (with_usictl0 value u) ≡ true =
    rw (t.i2c, t.ckpl, t.ckph, lsb, t.narrow, pe6, pe7, swrst) in
    (refl, settled-fits u (with_usictl0 value u) ready.0 (fitting, ready.1))
write-fine (to_flags {value} i2c ckph) u ready =
    let t = tests u.usictl0 u.usictl1 u.usickctl u.usicnt ready.0 in
    let fitting : fits (with_usictl1 value u) ≡ true =
    rw (i2c, t.ckpl, ckph, t.lsb, t.narrow, t.pe6, t.pe7, t.swrst) in
    (refl, settled-fits u (with_usictl1 value u) ready.0 (fitting, ready.1))
write-fine (to_count {value} narrow) u ready =
    let t = tests u.usictl0 u.usictl1 u.usickctl u.usicnt ready.0 in
    let counted = with_usicnt value (with_usictl1 (set_up_rules.count_flags u.usictl1 value) u) in
    let fitting : fits counted ≡ true =
    count-flags value u.usictl0 u.usictl1 u.usickctl value
    ∙ rw (t.i2c, t.ckpl, t.ckph, t.lsb, narrow, t.pe6, t.pe7, t.swrst) in
    (refl, settled-fits u counted ready.0 (fitting, ready.1))
write-fine (to_shift {value}) u ready = (refl, settled-fits u (with_usisrl value u) ready.0 ready)

-- a master whose set-up fits, and an operation that no such master is refused
abbrev Fit : Master → Type 0
Fit master = Ready master.usi

abbrev Works : Operation → Type 0
Works operation = (u : Usi) → Ready u → Fine (stepped operation u)

module _ (who : Who) (operation : Operation) (works : Works operation) (master : Master) (fit : Fit master) where
  stays_fit : Fit (applied who operation master)
  unfolding applied
  stays_fit = go (meant who master)
    where
      go : (mine : Bool)
          → Fit (cond mine (masters.with_usi (module_of (stepped operation master.usi)) master) master)
      go true = (works master.usi fit).1
      go false = fit

  not-refused : refused_at who operation master ≡ 0
  unfolding refused_at
  not-refused = go (meant who master)
    where
      go : (mine : Bool) → cond mine (refusal (stepped operation master.usi)) 0 ≡ 0
      go true = (works master.usi fit).0
      go false = refl

-- a wire's level is no more than 3
wire-small : (pull : Bool) (list : List Master) → wire pull list ≤ max_level
unfolding wire
wire-small pull list =
    let high = bool-byte (not (any (λ (master : Master). pulls_scl master.usi) list)) in
    let line = bool-byte (not (pull || any (λ (master : Master). pulls_sda master.usi) list)) in
    omega (arith, high, line)

judged-fit : (position : ℕ) (master : Master) → Fit master → Fit (judged position master)
unfolding judged
judged-fit position master fit = go (master.contending && _)
  where
    go : (lost : Bool)
        → Fit (cond lost (record { usi = master.usi; contending = false; lost = true; position = position }) master)
    go true = fit
    go false = fit

everyone-zip : {A B C : Type 0} {P : A → Type 0} {Q : C → Type 0} (f : A → B → C)
    → ((a : A) (b : B) → P a → Q (f a b)) → {l : List A} → Everyone P l → (others : List B)
    → Everyone Q (zip_with f l others)
unfolding zip_with
everyone-zip f holds nobody others = nobody
everyone-zip f holds (also p more) [] = nobody
everyone-zip f holds (also {a} p more) (b ∷ others) = also (holds a b p) (everyone-zip f holds more others)

-- an instant whose operation works
abbrev Keeps : Instant → Type 0
Keeps (does who operation) = Works operation
Keeps (loads index) = Unit {0}
Keeps samples = Unit {0}
Keeps records = Unit {0}
Keeps (pulls pull) = Unit {0}
Keeps (judges position) = Unit {0}
Keeps takes = Unit {0}
Keeps carries = Unit {0}
Keeps settles = Unit {0}

abbrev Zero : ℕ → Type 0
Zero number = number ≡ 0

module _ (messages : List (List ℕ)) where
  -- of masters that fit none is refused, and all fit after it
  instant-smooth : (instant : Instant) → Keeps instant → (bus : Bus) → Everyone Fit bus.masters
      → Everyone Zero (refused_in messages instant bus) × Everyone Fit (performed messages instant bus).masters
  unfolding refused_in performed
  instant-smooth (does who operation) works bus fit = (
    everyone-map (refused_at who operation) (everyone-so (not-refused who operation works) fit),
    everyone-map (applied who operation) (everyone-so (stays_fit who operation works) fit),
  )
  instant-smooth (loads index) works bus fit = (
    everyone-zip (λ master message. refused_at still_in (Write USISRL (byte_at index message)) master)
        (λ master message f. not-refused still_in (Write USISRL (byte_at index message)) (write-fine to_shift) master f)
        fit messages,
    everyone-zip (λ master message. applied still_in (Write USISRL (byte_at index message)) master)
        (λ master message f. stays_fit still_in (Write USISRL (byte_at index message)) (write-fine to_shift) master f)
        fit messages,
  )
  instant-smooth samples works bus fit =
      let level = wire bus.pull bus.masters in
      let fine : Works (Sample level) =
      λ u ready. sample-fine u level (wire-small bus.pull bus.masters) ready in (
        everyone-map (refused_at everybody (Sample level)) (everyone-so (not-refused everybody (Sample level) fine)
            fit),
        everyone-map (applied everybody (Sample level)) (everyone-so (stays_fit everybody (Sample level) fine) fit),
      )
  instant-smooth records works bus fit = (nobody, fit)
  instant-smooth (pulls pull) works bus fit = (nobody, fit)
  instant-smooth (judges position) works bus fit =
      (nobody, everyone-map (judged position) (everyone-so (judged-fit position) fit))
  instant-smooth takes works bus fit = (nobody, fit)
  instant-smooth carries works bus fit = (nobody, fit)
  instant-smooth settles works bus fit = (nobody, everyone-map masters.settled (everyone-so (λ master f. f) fit))

  smooth : {instants : List Instant} → Everyone Keeps instants → (bus : Bus) → Everyone Fit bus.masters
      → Everyone Zero (refusals messages instants bus) × Everyone Fit (perform messages instants bus).masters
  smooth nobody bus fit = (nobody, fit)
  smooth (also {a = instant} keeps more) bus fit =
      let here = instant-smooth instant keeps bus fit in
      let later = smooth more (performed messages instant bus) here.1 in
      (everyone-append here.0 later.0, later.1)

-- the scripts of steps 1 to 4 keep the set-up
writes-keep : (who : Who) {list : List (ℕ × ℕ)} → Everyone (λ write. Keeping write.0 write.1) list
    → Everyone Keeps (writes who list)
writes-keep who nobody = nobody
writes-keep who (also keeping more) = also (write-fine keeping) (writes-keep who more)

bit-turn-keeps : (pull : Bool) → Everyone Keeps (bit_turn pull)
bit-turn-keeps pull =
    also tick-fine (also tt (also tt (also tt (also tt (also tick-fine (also tt (also tt nobody)))))))

data-turns-keep : (count position : ℕ) → Everyone Keeps (data_turns count position)
data-turns-keep zero position = nobody
data-turns-keep (suc count) position =
    everyone-append (bit-turn-keeps false) (also tt (also tt (data-turns-keep count (suc position))))

start-keeps : Everyone Keeps start
start-keeps =
    also tt (also tt
    (everyone-append
    (writes-keep still_in (also to_shift (also (to_control refl refl refl refl)
    (also (to_control refl refl refl refl) nobody))))
    (also tt (also tt (writes-keep still_in (also (to_flags refl refl) nobody))))))

byte-turn-keeps : (index acknowledge : ℕ) → Everyone Keeps (byte_turn index acknowledge)
byte-turn-keeps index acknowledge =
    everyone-append
    (everyone-append
    (everyone-append
    (everyone-append
    (also tt (writes-keep still_in (also (to_control refl refl refl refl) (also (to_count refl) nobody))))
    (data-turns-keep 8 (9 * index)))
    (also tt (writes-keep beaten (also (to_control refl refl refl refl) (also (to_count refl) nobody)))))
    (also tt (writes-keep still_in (also (to_control refl refl refl refl) (also (to_count refl) nobody)))))
    (bit-turn-keeps (eqb acknowledge 0))

stop-keeps : Everyone Keeps stop
stop-keeps =
    everyone-append
    (everyone-append
    (everyone-append
    (everyone-append
    (writes-keep still_in (also (to_control refl refl refl refl) (also to_shift (also (to_count refl) nobody))))
    (bit-turn-keeps false))
    (writes-keep still_in (also to_shift (also (to_control refl refl refl refl) nobody))))
    (also tt (also tt nobody)))
    (writes-keep still_in (also (to_control refl refl refl refl) nobody))

restart-keeps : Everyone Keeps restart
restart-keeps =
    everyone-append
    (everyone-append
    (everyone-append
    (everyone-append
    (everyone-append
    (writes-keep still_in (also to_shift (also (to_control refl refl refl refl) (also (to_count refl) nobody))))
    (bit-turn-keeps false))
    (writes-keep still_in (also to_shift (also (to_control refl refl refl refl)
    (also (to_control refl refl refl refl) nobody)))))
    (also tt (also tt nobody)))
    (writes-keep still_in (also (to_flags refl refl) nobody)))
    (writes-keep losers (also (to_flags refl refl) (also (to_count refl) nobody)))

turn-keeps : (again : Bool) (index acknowledge : ℕ) → Everyone Keeps (turn_of again index acknowledge)
turn-keeps true index acknowledge = everyone-append restart-keeps (byte-turn-keeps index acknowledge)
turn-keeps false index acknowledge = byte-turn-keeps index acknowledge

-- steps one after the other
module _ (messages : List (List ℕ)) where
  refusals-append : (instants more : List Instant) (bus : Bus)
      → refusals messages (instants ++ more) bus
      ≡ refusals messages instants bus ++ refusals messages more (perform messages instants bus)
  refusals-append [] more bus = refl
  refusals-append (instant ∷ instants) more bus =
      ap (λ (rest : List ℕ). refused_in messages instant bus ++ rest)
      (refusals-append instants more (performed messages instant bus))
      ∙ sym (append_assoc (refused_in messages instant bus) _ _)

  -- instants that are smooth from a bus, and leave its masters fit
  record Smooth (instants : List Instant) (bus : Bus) : Type 0 where
    none : Everyone Zero (refusals messages instants bus)
    fit : Everyone Fit (perform messages instants bus).masters

  then : (instants more : List Instant) (bus : Bus) → Smooth instants bus
      → Smooth more (perform messages instants bus) → Smooth (instants ++ more) bus
  then instants more bus first second =
      record {
        none = rw (refusals-append instants more bus) (everyone-append first.none second.none);
        fit = rw (perform-append messages instants more bus) second.fit;
      }

  kept : {instants : List Instant} → Everyone Keeps instants → (bus : Bus) → Everyone Fit bus.masters
      → Smooth instants bus
  kept keeps bus fit = let both_so = smooth messages keeps bus fit in record { none = both_so.0; fit = both_so.1 }

  -- power-up does not fit, but its three writes are not refused, and then it does
  abbrev first : Master → Master
  first = applied still_in (Write USICKCTL 0x22)

  abbrev second : Master → Master
  second = applied still_in (Write USICTL1 0x41)

  alike : {P : Master → Type 0} → P entering → Everyone P (map (λ (message : List ℕ). entering) messages)
  alike holds = everyone-map (λ message. entering) (everyone (λ message. holds) messages)

  set-up : Smooth set_up (powered messages)
  unfolding refused_in performed applied refused_at write_byte settled followed set_up_rules.count_flags
  set-up =
      record {
        none =
            everyone-append (everyone-map (refused_at still_in (Write USICKCTL 0x22)) (alike refl))
            (everyone-append
            (everyone-map (refused_at still_in (Write USICTL1 0x41)) (everyone-map first (alike refl)))
            (everyone-append
            (everyone-map (refused_at still_in (Write USICTL0 0xc8))
            (everyone-map second (everyone-map first (alike refl)))) nobody));
        fit =
            everyone-map (applied still_in (Write USICTL0 0xc8))
            (everyone-map second (everyone-map first (alike (refl, refl))));
      }

  started : Smooth (set_up ++ start) (powered messages)
  started =
      then set_up start (powered messages) set-up
      (kept start-keeps (perform messages set_up (powered messages)) set-up.fit)

  -- step 2, as far as it goes
  all-bytes : (acknowledges : List ℕ) (index : ℕ) (bus : Bus) → Everyone Fit bus.masters
      → Smooth (bytes_script messages acknowledges index bus) bus
      × (perform messages (bytes_script messages acknowledges index bus) bus ≡ bytes messages acknowledges index bus)
  all-bytes [] index bus fit = (record { none = nobody; fit = fit }, refl)
  all-bytes (acknowledge ∷ acknowledges) index bus fit =
      go (eqb acknowledge 1 || through messages (suc index) after.masters)
      (kept (turn-keeps again index acknowledge) bus fit)
      (all-bytes acknowledges (suc index) after)
    where
      again : Bool
      again = restarting messages index bus.masters

      turn : List Instant
      turn = turn_of again index acknowledge

      after : Bus
      after = perform messages turn bus

      rest : List Instant
      rest = bytes_script messages acknowledges (suc index) after

      go : (last : Bool) → Smooth turn bus
          → (Everyone Fit after.masters
          → Smooth rest after × (perform messages rest after ≡ bytes messages acknowledges (suc index) after))
          → Smooth (turn ++ cond last [] rest) bus
          × (perform messages (turn ++ cond last [] rest) bus
          ≡ cond last after (bytes messages acknowledges (suc index) after))
      go true here later = (
        then turn [] bus here (record { none = nobody; fit = here.fit }),
        perform-append messages turn [] bus,
      )
      go false here later =
          let more = later here.fit in (
            then turn rest bus here more.0,
            perform-append messages turn rest bus ∙ more.1,
          )

  -- the whole run
  module _ (acknowledges : List ℕ) where
    abbrev opened : Bus
    opened = perform messages (set_up ++ start) (powered messages)

    abbrev sent : List Instant
    sent = bytes_script messages acknowledges 0 opened

    whole : Smooth (set_up ++ start ++ sent ++ stop) (powered messages)
    whole =
        let middle = all-bytes acknowledges 0 opened started.fit in
        let front = then (set_up ++ start) sent (powered messages) started middle.0 in
        then (set_up ++ start ++ sent) stop (powered messages) front
        (kept stop-keeps (perform messages (set_up ++ start ++ sent) (powered messages)) front.fit)

    -- the script performs the run
    pub script-is : perform messages (script messages acknowledges) (powered messages) ≡ run messages acknowledges
    unfolding run
    script-is =
        perform-append messages (set_up ++ start ++ sent) stop (powered messages)
        ∙ ap (perform messages stop)
        (perform-append messages (set_up ++ start) sent (powered messages)
        ∙ (all-bytes acknowledges 0 opened started.fit).1)

    -- and no step in it is refused
    pub unrefused : Everyone (λ number. number ≡ 0) (refusals messages (script messages acknowledges)
        (powered messages))
    unrefused = whole.none
