-- The parts of the grammar that a match does not name, and the number of a refused word.
use Prim.Native.Nat.{ℕ}
use mathlib.Core.Path.{◌≡◌, refl}
use mathlib.Core.Bool.{false}
use mathlib.Core.List.{List, [], ◌∷◌}
use Rattle.std.proofs.Common.{None, Some, arith, cond, eqb, true, Bool}
use types.Run.{OneOf, miss}
use denote.Enum.Declared.{tag_of}
use Rattle.dump_reader.specs.declared.reader.Part.{Part}
use Rattle.dump_reader.specs.declared.reader.Part.TheVariants as next
use Rattle.dump_reader.specs.DumpRead.{may_end, refusal_of, refused_word}
use Rattle.dump_reader.specs.contracts.reader.Part as parts

-- all parts but those between commands
abbrev in_command : List ℕ
in_command = 1 ∷ 2 ∷ 3 ∷ 4 ∷ 5 ∷ 6 ∷ 7 ∷ 8 ∷ 9 ∷ 10 ∷ 11 ∷ 12 ∷ 14 ∷ 15 ∷ 16 ∷ []

pub may-not-end : (part : Part) → OneOf in_command (tag_of parts.the_type part) → false ≡ may_end part
may-not-end next.Definitions keys = absurd (miss in_command 0 tt keys)
may-not-end next.Note keys = refl
may-not-end next.Number keys = refl
may-not-end (next.Unit power) keys = refl
may-not-end next.Close keys = refl
may-not-end next.ScopeType keys = refl
may-not-end next.ScopeName keys = refl
may-not-end next.WireType keys = refl
may-not-end next.WireSize keys = refl
may-not-end next.Identifier keys = refl
may-not-end next.Name keys = refl
may-not-end next.Names keys = refl
may-not-end next.Opening keys = refl
may-not-end next.Values keys = absurd (miss in_command 13 tt keys)
may-not-end next.Section keys = refl
may-not-end next.Comment keys = refl
may-not-end (next.Refused number) keys = refl

-- what no word or some word refused says of the number
pub no-number : (part : Part) → refused_word part ≡ None → eqb (refusal_of part) 0 ≡ true
no-number part is = go (eqb (refusal_of part) 0) is
  where
    go : (none : Bool) → cond none None (Some (refusal_of part)) ≡ None → none ≡ true
    go true is = refl
    go false is = let never : ◌≡◌ {A = ℕ} 0 1 = cc in absurd (omega arith)

pub number-is : (part : Part) (number : ℕ) → refused_word part ≡ Some number
    → (eqb (refusal_of part) 0 ≡ false) × (refusal_of part ≡ number)
number-is part number is = go (eqb (refusal_of part) 0) is
  where
    go : (none : Bool) → cond none None (Some (refusal_of part)) ≡ Some number
        → (none ≡ false) × (refusal_of part ≡ number)
    go true is = let never : ◌≡◌ {A = ℕ} 0 1 = cc in absurd (omega arith)
    go false is = (refl, cc)
