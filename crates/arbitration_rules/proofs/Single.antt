-- A request whose messages have one part each, as worked numbers and theorems state it: a count of 1 for each length.
use Prim.Native.Nat.{ℕ}
use mathlib.Core.List.{List, map}
use Rattle.arbitration_rules.specs.Reply.{Request}

abbrev pub ones : List ℕ → List ℕ
ones lengths = map (λ part. 1) lengths

abbrev pub single : List ℕ → List ℕ → List ℕ → Request
single bytes lengths acknowledges =
    record { bytes = bytes; parts = lengths; counts = ones lengths; acknowledges = acknowledges }
