-- The masters that a table and what they know of themselves stand for, and what a pass does to them.
use Prim.Native.Nat.{ℕ, zero, suc, ◌+◌, ◌<◌, ◌≤◌}
use mathlib.Core.Path.{◌≡◌, refl, sym, ap, ap₂, ◌∙◌}
use mathlib.Core.Bool.{Bool, true, false, cond}
use mathlib.Core.List.{List, [], ◌∷◌, zip_with}
use native.Mathlib.Omega.{arith}
use borrow.Author.Tests.{lt-ltb}
use lib.ListN.{length, get_or, take, drop}
use lib.Seq.{drop-cons}
use Rattle.usi.specs.declared.Usi.{Usi}
use Rattle.usi.specs.Step.{module_of, sample}
use Rattle.arbitration_rules.specs.Limits.{max_masters}
use Rattle.arbitration_rules.specs.Masters.{Master}
use Rattle.arbitration_pass.specs.declared.pass.Pass.{Pass}
use Rattle.arbitration_pass.specs.Instants.{samples}
use Rattle.arbitration_pass.specs.Pass.{ticked, wrote_as, sampled_at, wrote_at, applied, passed_from}

-- one master
abbrev pub join : Usi → Bool → Bool → ℕ → Master
join usi contending lost position =
    record { usi = usi; contending = contending; lost = lost; position = position }

-- as many as there are in all four lists
abbrev pub masters_from : List Usi → List Bool → List Bool → List ℕ → List Master
masters_from [] contending lost positions = []
masters_from (usi ∷ table) [] lost positions = []
masters_from (usi ∷ table) (still ∷ contending) [] positions = []
masters_from (usi ∷ table) (still ∷ contending) (out ∷ lost) [] = []
masters_from (usi ∷ table) (still ∷ contending) (out ∷ lost) (position ∷ positions) =
    join usi still out position ∷ masters_from table contending lost positions

-- a module stepped by a pass: a sample, or the registers written, and then a tick or none
abbrev pub stepped : Pass → Bool → Bool → ℕ → Usi → Usi
stepped pass contending lost byte usi =
    ticked pass.ticks
    (cond (samples pass.operation) (module_of (sample usi pass.level))
    (wrote_as pass.operation contending lost byte usi))

applied-is : (pass : Pass) (i : ℕ) (usi : Usi) → i < max_masters
    → applied pass i usi
    ≡ stepped pass (get_or pass.contending i false) (get_or pass.lost i false) (get_or pass.bytes i 0) usi
unfolding applied sampled_at wrote_at
applied-is pass i usi here = rw (lt-ltb i max_masters here) (go (samples pass.operation))
  where
    wrote : Usi
    wrote =
        wrote_as pass.operation (get_or pass.contending i false) (get_or pass.lost i false)
        (get_or pass.bytes i 0) usi

    go : (sampled : Bool)
        → cond sampled (ticked pass.ticks (module_of (sample usi pass.level))) (ticked pass.ticks wrote)
        ≡ ticked pass.ticks (cond sampled (module_of (sample usi pass.level)) wrote)
    go true = refl
    go false = refl

-- a function that treats one master as a pass does its module, by the byte that it is to send
pub record Treats (pass : Pass) (treat : Master → ℕ → Master) : Type 0 where
  pub as-pass : (usi : Usi) (contending lost : Bool) (position byte : ℕ)
      → treat (join usi contending lost position) byte
      ≡ join (stepped pass contending lost byte usi) contending lost position

-- there is a place for each of so many
abbrev Room : {A : Type 0} → List A → ℕ → ℕ → Type 0
Room list i count = i + count ≤ length list

module _ (pass : Pass) (treat : Master → ℕ → Master) (treats : Treats pass treat) where
  -- the masters after a pass are the masters treated
  pub from_on : (positions : List ℕ) (i count : ℕ) (table : List Usi) → i + count ≤ max_masters
      → Room pass.contending i count → Room pass.lost i count → Room positions i count
      → Room pass.bytes i count
      → masters_from (take count (passed_from pass i count table)) (drop i pass.contending) (drop i pass.lost)
      (drop i positions)
      ≡ zip_with treat
      (masters_from (take count table) (drop i pass.contending) (drop i pass.lost) (drop i positions))
      (drop i pass.bytes)
  unfolding zip_with
  from_on positions i zero table few c l p b = refl
  from_on positions i (suc count) [] few c l p b = refl
  from_on positions i (suc count) (usi ∷ table) few c l p b =
      let here : i < max_masters = omega arith in
      let at_c : i < length pass.contending = omega arith in
      let at-l : i < length pass.lost = omega arith in
      let at_p : i < length positions = omega arith in
      let at_b : i < length pass.bytes = omega arith in
      rw (
        drop-cons pass.contending i false at_c,
        drop-cons pass.lost i false at-l,
        drop-cons positions i 0 at_p,
        drop-cons pass.bytes i 0 at_b,
      )
      (ap₂ (λ (m : Master) (ms : List Master). m ∷ ms)
      (ap (λ (after : Usi). join after (get_or pass.contending i false) (get_or pass.lost i false)
      (get_or positions i 0)) (applied-is pass i usi here)
      ∙ sym
      (treats.as-pass usi (get_or pass.contending i false) (get_or pass.lost i false) (get_or positions i 0)
      (get_or pass.bytes i 0)))
      (from_on positions (suc i) count table (omega arith) (omega arith) (omega arith) (omega arith) (omega arith)))
