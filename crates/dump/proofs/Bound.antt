-- The longest text: a trace that is not refused takes at most 73,855 bytes.
use mathlib.Core.Path.{◌≡◌, sym, ap}
use mathlib.Core.List.{List, [], ◌∷◌}
use Prim.Native.Nat.{ℕ, suc, ◌+◌, ◌*◌, ◌^◌, ◌≤◌, ◌<◌}
use native.Mathlib.Omega.{arith}
use lib.ListN.{length, get_or, length-append}
use borrow.Author.Tests.{ne_eqb, le-ltb}
use Rattle.laws.specs.Everyone.{Everyone, nobody, also}
use Rattle.std.specs.Prelude.{Ok}
use Rattle.laws.proofs.Refusals.{passed_first, passed-both, passed_ok, ok_passed, ok_same}
use Rattle.trace.specs.Trace.{trace_checks}
use Rattle.trace.proofs.Checked.{Checked, from-checks, to-checks}
use Rattle.dump.specs.Text.{header, sample_text, samples_after, samples_text, unlike_first, dump_text}
use Rattle.dump.specs.Dumped.{dump_checks, dumped}
use Rattle.dump.proofs.Length.{header-length, sample-length}
use Rattle.dump.proofs.Samples.{from_first}
use Rattle.dump.proofs.Reply.{others}

-- stamps of 32 bits
abbrev pub Stamps : List ℕ → Type 0
Stamps stamps = Everyone (λ (stamp : ℕ). stamp < 2 ^ 32) stamps

pub each-stamp : (stamps : List ℕ) → ((i : ℕ) → get_or stamps i 0 < 2 ^ 32) → Stamps stamps
each-stamp [] known = nobody
each-stamp (stamp ∷ stamps) known = also (known 0) (each-stamp stamps (λ i. known (suc i)))

-- each sample takes at most 18 bytes
after-length : (last : ℕ) (stamps levels : List ℕ) → Stamps stamps → length (samples_after last stamps levels) ≤ 18 * length levels
after-length last [] levels all = omega arith
after-length last (stamp ∷ stamps) [] all = omega arith
after-length last (stamp ∷ stamps) (level ∷ levels) (also small rest) =
    omega (
      arith,
      length-append (sample_text last stamp level) (samples_after level stamps levels),
      sample-length last stamp level small,
      after-length level stamps levels rest,
    )

pub text-length : (stamps levels : List ℕ) → Stamps stamps → length (dump_text stamps levels) ≤ 127 + 18 * length levels
text-length stamps levels all =
    omega (
      arith,
      length-append header (samples_text stamps levels),
      header-length,
      ap length (from_first stamps levels),
      after-length (unlike_first levels) stamps levels all,
    )

pub longest-text : (stamps levels : List ℕ) → Stamps stamps → Checked stamps levels → length (dump_text stamps levels) ≤ 73855
longest-text stamps levels all trace = omega (arith, text-length stamps levels all, trace.few)

-- a slice of that many bytes has room for every trace that has a sample and is not refused by 5, 6, 4 or 7
pub always-room : (stamps levels : List ℕ) (room : ℕ) → Stamps stamps → Checked stamps levels → (length levels ≡ 0 → ⊥)
    → 73855 ≤ room → dumped stamps levels room ≡ Ok (length (dump_text stamps levels))
unfolding dumped
always-room stamps levels room all trace some enough =
    let fits : length (dump_text stamps levels) ≤ room = omega (arith, longest-text stamps levels all trace) in
    ok_passed (dump_checks stamps levels room) (length (dump_text stamps levels))
    (passed-both (trace_checks stamps levels) (others stamps levels room) (to-checks trace)
    (ne_eqb (length levels) 0 some, (le-ltb room (length (dump_text stamps levels)) fits, tt)))

-- what dump says that it wrote is the length of the text, and at most so many
module _ (stamps levels : List ℕ) (room count : ℕ) (reply : dumped stamps levels room ≡ Ok count) where
  pub written-trace : Checked stamps levels
  unfolding dumped
  written-trace =
      from-checks stamps levels
      (passed_first (trace_checks stamps levels) (others stamps levels room)
      (passed_ok (dump_checks stamps levels room) (length (dump_text stamps levels)) count reply))

  pub written_count : count ≡ length (dump_text stamps levels)
  unfolding dumped
  written_count = sym (ok_same (dump_checks stamps levels room) (length (dump_text stamps levels)) count reply)

  pub written-few : Stamps stamps → count ≤ 73855
  written-few all = omega (arith, written_count, longest-text stamps levels all written-trace)
