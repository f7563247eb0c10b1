-- How many turns of a run are left at most. It falls with every turn, so a run ends.
use mathlib.Core.Path.{◌≡◌, refl}
use Prim.Native.Nat.{ℕ, suc, ◌+◌, ◌-◌, ◌*◌, ◌<◌, ◌≤◌, max}
use native.Mathlib.Omega.{arith}
use mathlib.Core.Bool.{Bool, cond, true, false, ◌||◌}
use mathlib.Core.List.{List}
use lib.Dec.{eqb, ltb}
use lib.ListN.{length}
use borrow.Author.Tests.{ltb-true}
use Rattle.arbitration_pass.specs.declared.instants.Part.{Part}
use Rattle.arbitration_pass.specs.declared.instants.Part.TheVariants.{Entry, Opening, Restart, Byte, Closing}
use Rattle.arbitration_pass.specs.declared.pass.Seen.{Seen}
use Rattle.arbitration_run.specs.declared.sequencer.Sequencer.{Sequencer}
use Rattle.arbitration_pass.specs.Instants.{last}
use Rattle.arbitration_members.specs.Members as members
use Rattle.arbitration_members.specs.Rows.{column_of}
use Rattle.arbitration_run.specs.Sequence.{acknowledge_at, taking, loaded, entering, placed, affected, opened}
use Rattle.arbitration_run.specs.Sequence.{decided, parted_from, parted, advanced, turned}
use Rattle.arbitration_turns.specs.Turns.{ready}

-- the turns after a part, with so many acknowledges from its index on: 7 for a restart, 29 for a byte, 7 for step 4, 4
-- for step 1
abbrev beyond : Part → ℕ → ℕ
beyond Entry bytes = 36 * bytes + 47
beyond Opening bytes = 36 * bytes + 43
beyond Restart bytes = 36 * bytes + 36
beyond Byte bytes = 36 * bytes + 7
beyond Closing bytes = 0

abbrev rest : ℕ → Sequencer → ℕ
rest acknowledges sequencer =
    suc (last sequencer.part - sequencer.at + beyond sequencer.part (acknowledges - sequencer.index))

-- where a byte is still to be taken from the rows, a restart may come first
pub weight : ℕ → Sequencer → ℕ
weight acknowledges sequencer =
    cond sequencer.running
    (cond sequencer.loading (max (rest acknowledges sequencer) (36 * (acknowledges - sequencer.index) + 43))
    (rest acknowledges sequencer)) 0

-- what holds of both cases of a test, each where it is taken
either : {A : Type 0} (P : A → Type 0) (test : Bool) (one other : A) → (test ≡ true → P one) → (test ≡ false → P other)
    → P (cond test one other)
either P true one other so not_so = so refl
either P false one other so not_so = not_so refl

module _ (acknowledges : List ℕ) where
  abbrev left : Sequencer → ℕ
  left = weight (length acknowledges)

  abbrev most : Sequencer → ℕ
  most sequencer = 36 * (length acknowledges - sequencer.index) + 43

  -- at least the turns of the part, and just these where no byte is to be taken
  left_is : (sequencer : Sequencer) → sequencer.running ≡ true → sequencer.loading ≡ false
      → left sequencer ≡ rest (length acknowledges) sequencer
  unfolding weight
  left_is sequencer running ready = rw (running, ready)

  left-loading : (sequencer : Sequencer) → sequencer.running ≡ true → sequencer.loading ≡ true
      → left sequencer ≡ max (rest (length acknowledges) sequencer) (most sequencer)
  unfolding weight
  left-loading sequencer running loading = rw (running, loading)

  closing : (sequencer : Sequencer) → sequencer.running ≡ true → left (entering Closing false sequencer) ≡ 7
  unfolding weight
  closing sequencer running = rw running

  -- the byte at the index is next, or step 4
  opened-left : (sequencer : Sequencer) → sequencer.running ≡ true
      → left (opened acknowledges sequencer) ≤ most sequencer
  unfolding opened
  opened-left sequencer running =
      either (λ s. left s ≤ most sequencer)
      (ltb sequencer.index (length acknowledges)) _ _
      (λ more. omega (arith, left-loading (entering Byte true sequencer) running refl))
      (λ none. omega (arith, closing sequencer running))

  decided-left : (sequencer : Sequencer) → sequencer.running ≡ true
      → left (decided acknowledges sequencer) ≤ 36 * (length acknowledges - sequencer.index) + 7
  unfolding decided
  decided-left sequencer running =
      let next : Sequencer =
      placed sequencer.part sequencer.at sequencer.loading (sequencer.index + 1) sequencer in
      let bound : ℕ = 36 * (length acknowledges - sequencer.index) + 7 in
      either (λ s. left s ≤ bound) (ltb sequencer.index (length acknowledges)) _ _
      (λ more.
      let less = ltb-true sequencer.index (length acknowledges) more in
      either (λ s. left s ≤ bound)
      (eqb (acknowledge_at acknowledges sequencer.index) 1
      || members.through (sequencer.index + 1) sequencer.members) _ _
      (λ ends. omega (arith, closing next running))
      (λ goes-on. omega (arith, less, opened-left next running)))
      (λ none. omega (arith, closing sequencer running))

  -- after the last instant of a part
  parted-left : (part : Part) (sequencer : Sequencer) → sequencer.running ≡ true
      → left (parted_from part acknowledges sequencer)
      ≤ beyond part (length acknowledges - sequencer.index)
  unfolding weight
  parted-left Entry sequencer running = omega (arith, left_is (entering Opening false sequencer) running refl)
  parted-left Opening sequencer running = opened-left sequencer running
  parted-left Restart sequencer running = omega (arith, left_is (entering Byte false sequencer) running refl)
  parted-left Byte sequencer running = decided-left sequencer running
  parted-left Closing sequencer running = omega arith

  advanced-falls : (sequencer : Sequencer) → sequencer.running ≡ true → sequencer.loading ≡ false
      → left (advanced acknowledges sequencer) < left sequencer
  unfolding advanced parted
  advanced-falls sequencer running ready =
      let next : Sequencer =
      placed sequencer.part (sequencer.at + 1) sequencer.loading sequencer.index sequencer in
      let now-left = left_is sequencer running ready in
      either (λ s. left s < left sequencer) (ltb sequencer.at (last sequencer.part)) _ _
      (λ within.
      let less = ltb-true sequencer.at (last sequencer.part) within in
      omega (arith, less, now-left, left_is next running ready))
      (λ over. omega (arith, now-left, parted-left sequencer.part sequencer running))

  turned-falls : (carried-room level-room : ℕ) (seen : Seen) (sequencer : Sequencer) → sequencer.running ≡ true
      → sequencer.loading ≡ false → left (turned carried-room level-room acknowledges seen sequencer) < left sequencer
  unfolding weight turned affected
  turned-falls carried-room level-room seen sequencer running ready =
      advanced-falls (affected carried-room level-room acknowledges seen sequencer) running ready

  -- taking the bytes is no turn
  pub weight-falls : (rows : List (List ℕ)) (carried-room level-room : ℕ) (seen : Seen) (sequencer : Sequencer)
      → sequencer.running ≡ true
      → left (turned carried-room level-room acknowledges seen (ready rows sequencer)) < left sequencer
  unfolding ready loaded taking
  weight-falls rows carried-room level-room seen sequencer running =
      let column = column_of rows sequencer.index in
      let taken : Sequencer = taking column sequencer in
      let again : Sequencer = entering Restart false taken in
      either Falls sequencer.loading _ _
      (λ loading.
      let now-left = left-loading sequencer running loading in
      either Falls (members.restarting column sequencer.members) _ _
      (λ first.
      omega (
        arith,
        now-left,
        left_is again running refl,
        turned-falls carried-room level-room seen again running refl,
      ))
      (λ none.
      omega (
        arith,
        now-left,
        left_is taken running refl,
        turned-falls carried-room level-room seen taken running refl,
      )))
      (λ waits. turned-falls carried-room level-room seen sequencer running waits)
    where
      Falls : Sequencer → Type 0
      Falls s = left (turned carried-room level-room acknowledges seen s) < left sequencer
