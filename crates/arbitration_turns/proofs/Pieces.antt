-- What a turn does to the bus is what its instant spells.
use Prim.Native.Nat.{ℕ, zero, suc, ◌≤◌}
use mathlib.Core.Path.{◌≡◌, refl, ap, ap₂, ◌∙◌}
use mathlib.Core.Bool.{Bool, true, false, cond, not, ◌&&◌, ◌||◌}
use mathlib.Core.List.{List, [], ◌∷◌, ◌++◌, map, zip_with}
use native.Mathlib.Nat.{not-suc-le-zero, le_of_suc-le-suc}
use native.Mathlib.Omega.{arith}
use lib.ListN.{length, set, take, replicate, length-take}
use Rattle.laws.specs.Search.{any}
use Rattle.laws.proofs.Lists.{zip_with-first}
use Rattle.usi.specs.declared.Usi.{Usi}
use Rattle.arbitration_rules.specs.Limits.{max_masters}
use Rattle.arbitration_rules.specs.Masters.{Master, judged, settled}
use Rattle.arbitration_rules.specs.Run.{Bus}
use Rattle.arbitration_members.specs.declared.members.Members.{Members}
use Rattle.arbitration_pass.specs.declared.pass.Pass.{Pass}
use Rattle.arbitration_run.specs.declared.wire.Wire.{Wire}
use Rattle.arbitration_members.specs.Members as members
use Rattle.arbitration_pass.specs.Pass.{passed, lost_by}
use Rattle.arbitration_turns.proofs.View.{join, masters_from, Treats, from_on}

-- the bus that a table, what the masters know, the wire and the two buffers stand for
abbrev pub bus_at : ℕ → List Usi → Members → Wire → ℕ → List ℕ → List ℕ → Bus
bus_at count table members wire sent carried levels =
    record {
      masters = masters_from (take count table) members.contending members.lost members.positions;
      pull = wire.pull;
      level = wire.level;
      byte = wire.byte;
      levels = take wire.recorded levels;
      carried = take sent carried;
    }

-- a place for each master
pub record Sized (members : Members) : Type 0 where
  pub of-contending : length members.contending ≡ max_masters
  pub of-lost : length members.lost ≡ max_masters
  pub of-positions : length members.positions ≡ max_masters
  pub of-bytes : length members.bytes ≡ max_masters

-- as many masters as modules
pub as_many : (table : List Usi) (contending lost : List Bool) (positions : List ℕ)
    → length table ≤ length contending → length table ≤ length lost → length table ≤ length positions
    → length (masters_from table contending lost positions) ≡ length table
as_many [] contending lost positions c l p = refl
as_many (usi ∷ table) [] lost positions c l p = absurd (not-suc-le-zero c)
as_many (usi ∷ table) (still ∷ contending) [] positions c l p = absurd (not-suc-le-zero l)
as_many (usi ∷ table) (still ∷ contending) (out ∷ lost) [] c l p = absurd (not-suc-le-zero p)
as_many (usi ∷ table) (still ∷ contending) (out ∷ lost) (position ∷ positions) c l p =
    ap suc
    (as_many table contending lost positions (le_of_suc-le-suc c) (le_of_suc-le-suc l) (le_of_suc-le-suc p))

-- a test of the modules is one of the masters
pub any-module : (test : Usi → Bool) (table : List Usi) (contending lost : List Bool) (positions : List ℕ)
    → length table ≤ length contending → length table ≤ length lost → length table ≤ length positions
    → any (λ (m : Master). test m.usi) (masters_from table contending lost positions) ≡ any test table
any-module test [] contending lost positions c l p = refl
any-module test (usi ∷ table) [] lost positions c l p = absurd (not-suc-le-zero c)
any-module test (usi ∷ table) (still ∷ contending) [] positions c l p = absurd (not-suc-le-zero l)
any-module test (usi ∷ table) (still ∷ contending) (out ∷ lost) [] c l p = absurd (not-suc-le-zero p)
any-module test (usi ∷ table) (still ∷ contending) (out ∷ lost) (position ∷ positions) c l p =
    ap (λ (rest : Bool). test usi || rest)
    (any-module test table contending lost positions (le_of_suc-le-suc c) (le_of_suc-le-suc l)
    (le_of_suc-le-suc p))

-- the byte in which someone lost is over
pub view-settled : (table : List Usi) (contending lost : List Bool) (positions : List ℕ) (count : ℕ)
    → length lost ≡ count
    → masters_from table contending (replicate count false) positions
    ≡ map settled (masters_from table contending lost positions)
view-settled [] contending lost positions count size = refl
view-settled (usi ∷ table) [] lost positions count size = refl
view-settled (usi ∷ table) (still ∷ contending) [] positions zero size = refl
view-settled (usi ∷ table) (still ∷ contending) [] positions (suc count) size = absurd (omega arith)
view-settled (usi ∷ table) (still ∷ contending) (out ∷ lost) positions zero size = absurd (omega arith)
view-settled (usi ∷ table) (still ∷ contending) (out ∷ lost) [] (suc count) size = refl
view-settled (usi ∷ table) (still ∷ contending) (out ∷ lost) (position ∷ positions) (suc count) size =
    ap (λ (ms : List Master). join usi still false position ∷ ms)
    (view-settled table contending lost positions count (omega arith))

-- who has AL set has lost
module _ (position : ℕ) where
  judged-one : (usi : Usi) (still out : Bool) (before : ℕ)
      → join usi (still && not (lost_by usi)) (out || (still && lost_by usi))
      (members.lost_at position before (still && lost_by usi))
      ≡ judged position (join usi still out before)
  unfolding judged
  judged-one usi still out before = go still out (lost_by usi)
    where
      go : (still out set : Bool)
          → join usi (still && not set) (out || (still && set)) (members.lost_at position before (still && set))
          ≡ cond (still && set) (join usi false true position) (join usi still out before)
      go true true true = refl
      go true true false = refl
      go true false true = refl
      go true false false = refl
      go false true set = refl
      go false false set = refl

  pub view-judged : (table : List Usi) (contending lost more : List Bool) (positions : List ℕ)
      → let al = map lost_by table ++ more in
      masters_from table (zip_with (λ still set. still && not set) contending al)
      (zip_with (λ before loses. before || loses) lost (members.losing contending al))
      (zip_with (members.lost_at position) positions (members.losing contending al))
      ≡ map (judged position) (masters_from table contending lost positions)
  unfolding zip_with
  view-judged [] contending lost more positions = refl
  view-judged (usi ∷ table) [] lost more positions = refl
  view-judged (usi ∷ table) (still ∷ contending) [] more positions = refl
  view-judged (usi ∷ table) (still ∷ contending) (out ∷ lost) more [] = refl
  view-judged (usi ∷ table) (still ∷ contending) (out ∷ lost) more (before ∷ positions) =
      ap₂ (λ (m : Master) (ms : List Master). m ∷ ms) (judged-one usi still out before)
      (view-judged table contending lost more positions)

-- the masters after a pass
module _ (count : ℕ) (few : count ≤ max_masters) (positions : List ℕ) (places : length positions ≡ max_masters) where
  pub pass-view : (pass : Pass) (treat : Master → ℕ → Master) → Treats pass treat → (table : List Usi)
      → length pass.contending ≡ max_masters → length pass.lost ≡ max_masters
      → length pass.bytes ≡ max_masters
      → masters_from (take count (passed count pass table)) pass.contending pass.lost positions
      ≡ zip_with treat (masters_from (take count table) pass.contending pass.lost positions) pass.bytes
  unfolding passed
  pass-view pass treat treats table c l b =
      from_on pass treat treats positions 0 count table (omega arith) (omega arith) (omega arith) (omega arith)
      (omega arith)

  -- treated each by itself
  pub pass_alone : (pass : Pass) (treat : Master → Master) → Treats pass (λ master byte. treat master)
      → (table : List Usi) → length pass.contending ≡ max_masters → length pass.lost ≡ max_masters
      → length pass.bytes ≡ max_masters
      → masters_from (take count (passed count pass table)) pass.contending pass.lost positions
      ≡ map treat (masters_from (take count table) pass.contending pass.lost positions)
  pass_alone pass treat treats table c l b =
      let size = length-take count table in
      let many =
      as_many (take count table) pass.contending pass.lost positions (omega (arith, size)) (omega (arith, size))
      (omega (arith, size)) in
      pass-view pass (λ master byte. treat master) treats table c l b
      ∙ zip_with-first treat (masters_from (take count table) pass.contending pass.lost positions) pass.bytes
      (omega (arith, many, size))
