-- Worked nights: small requests, and what the definitions and theorems say of them.
use Prim.Native.Nat.{ℕ}
use native.Mathlib.Omega.{arith}
use mathlib.Core.Path.{◌≡◌, refl}
use mathlib.Core.List.{List, [], ◌∷◌}
use lib.ListN.{length}
use Rattle.usi.specs.declared.Usi.{Usi}
use Rattle.laws.specs.Everyone.{nobody, also}
use Rattle.laws.specs.Refusals.{none, refused_at}
use Rattle.arbitration_rules.specs.Reply.{Request, messages_of}
use Rattle.arbitration_rules.proofs.Pieces.{Bytes}
use Rattle.night_rules.specs.Different.{different}
use Rattle.night_rules.specs.Night.{night_refusal, rounds_counted, rounds_after, table_after}
use Rattle.night_rules.proofs.Round.{carried_usi}
use Rattle.night_rules.proofs.Accepted.{count-after, rounds-after, table-after}

-- [90 12], [90 0F] and [90 12] again: the second is carried first, then the other two together
abbrev three : Request
three =
    record {
      bytes = 0x90 ∷ 0x12 ∷ 0x90 ∷ 0x0f ∷ 0x90 ∷ 0x12 ∷ [];
      parts = 2 ∷ 2 ∷ 2 ∷ [];
      counts = 1 ∷ 1 ∷ 1 ∷ [];
      acknowledges = 0 ∷ 0 ∷ [];
    }

three-different : different (messages_of three) ≡ (0x190 ∷ 0x10f ∷ []) ∷ (0x190 ∷ 0x112 ∷ []) ∷ []
unfolding mathlib.Core.List.zip_with
three-different = refl

three-bytes : Bytes three.bytes
three-bytes =
    also {a = 0x90} (omega arith) (also {a = 0x12} (omega arith) (also {a = 0x90} (omega arith)
    (also {a = 0x0f} (omega arith) (also {a = 0x90} (omega arith) (also {a = 0x12} (omega arith) nobody)))))

module _ (a b c d : Usi) where
  abbrev four : List Usi
  four = a ∷ b ∷ c ∷ d ∷ []

  three-unrefused : night_refusal three 3 4 ≡ none
  unfolding night_refusal mathlib.Core.List.zip_with
  three-unrefused = refl

  three-count : rounds_counted three (night_refusal three 3 4) four ≡ 2
  unfolding night_refusal mathlib.Core.List.zip_with
  three-count = count-after three 3 four three-bytes refl

  three-rounds : (x y z : ℕ) → rounds_after three (night_refusal three 3 4) four (x ∷ y ∷ z ∷ []) ≡ 2 ∷ 1 ∷ 2 ∷ []
  unfolding night_refusal mathlib.Core.List.zip_with
  three-rounds x y z = rounds-after three 3 four three-bytes refl (x ∷ y ∷ z ∷ [])

  three-table : table_after three (night_refusal three 3 4) four ≡ carried_usi ∷ carried_usi ∷ carried_usi ∷ d ∷ []
  unfolding night_refusal mathlib.Core.List.zip_with
  three-table = table-after three 3 four three-bytes refl

-- a slice of two rounds is too short
three-short : night_refusal three 2 3 ≡ refused_at 8 0
unfolding night_refusal mathlib.Core.List.zip_with
three-short = refl

-- [90 12] and [90 12 34]: one ends where the other sends a byte
abbrev longer : List ℕ → Request
longer acknowledges =
    record {
      bytes = 0x90 ∷ 0x12 ∷ 0x90 ∷ 0x12 ∷ 0x34 ∷ [];
      parts = 2 ∷ 3 ∷ [];
      counts = 1 ∷ 1 ∷ [];
      acknowledges = acknowledges;
    }

longer-refused : night_refusal (longer (0 ∷ 0 ∷ 0 ∷ [])) 2 2 ≡ refused_at 16 0
unfolding night_refusal mathlib.Core.List.zip_with
longer-refused = refl

-- an acknowledge 1 comes before it, even past where they part
longer-unacknowledged : night_refusal (longer (0 ∷ 0 ∷ 1 ∷ [])) 2 2 ≡ refused_at 43 0
unfolding night_refusal mathlib.Core.List.zip_with
longer-unacknowledged = refl

-- [90 | 92 34] and [90 12 34]: one restarts where the other sends a byte. [90 | 92 34] and [90 | 90 34] both restart,
-- and the second is carried first
abbrev restarting : ℕ → List ℕ → Request
restarting second parts =
    record {
      bytes = 0x90 ∷ 0x92 ∷ 0x34 ∷ 0x90 ∷ second ∷ 0x34 ∷ [];
      parts = 1 ∷ 2 ∷ parts;
      counts = 2 ∷ length parts ∷ [];
      acknowledges = 0 ∷ 0 ∷ 0 ∷ [];
    }

restart-refused : night_refusal (restarting 0x12 (3 ∷ [])) 2 2 ≡ refused_at 16 0
unfolding night_refusal mathlib.Core.List.zip_with
restart-refused = refl

restart-unrefused : night_refusal (restarting 0x90 (1 ∷ 2 ∷ [])) 2 2 ≡ none
unfolding night_refusal mathlib.Core.List.zip_with
restart-unrefused = refl

restart-different : different (messages_of (restarting 0x90 (1 ∷ 2 ∷ [])))
    ≡ (0x190 ∷ 0x090 ∷ 0x134 ∷ []) ∷ (0x190 ∷ 0x092 ∷ 0x134 ∷ []) ∷ []
unfolding mathlib.Core.List.zip_with
restart-different = refl
