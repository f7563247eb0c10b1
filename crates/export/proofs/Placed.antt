-- No refusal of a request has a place past the masters.
use native.Mathlib.Omega.{arith}
use Prim.Native.Nat.{ℕ, ◌≤◌}
use lib.Dec.{eqb, ltb}
use lib.ListN.{length}
use borrow.Author.Tests.{ltb-false}
use Rattle.laws.proofs.Bools.{neither}
use Rattle.laws.proofs.Lists.{zip_with-length}
use Rattle.laws.proofs.Refusals.{Placed}
use Rattle.laws.proofs.Search.{first-within}
use Rattle.arbitration_rules.specs.Limits.{max_masters}
use Rattle.arbitration_rules.specs.Reply.{Request, messages_of, parts_of, bad_message, bad_messages, itself, reads}
use Rattle.arbitration_rules.specs.Reply.{request_checks}
use Rattle.arbitration_rules.proofs.Cut.{messages-count}
use Rattle.night_rules.specs.Night.{night_checks}

module _ (request : Request) where
  pub request-placed : Placed max_masters (request_checks request)
  request-placed = (
    omega arith,
    λ count.
        let few : length request.counts ≤ max_masters =
        ltb-false max_masters (length request.counts)
        (neither (eqb (length request.counts) 0) (ltb max_masters (length request.counts)) count).1 in (
          omega (
            arith,
            first-within itself (bad_messages request),
            zip_with-length bad_message request.counts (parts_of request),
          ),
          λ sizes. (
            omega (arith, first-within reads (messages_of request), messages-count request),
            λ reading. (omega arith, λ answers. (omega arith, λ decided. tt)),
          ),
        ),
  )

  -- a night's 12 to 15 are the same, and the others have no place
  pub night-placed : (rounds_room table_room : ℕ) → Placed max_masters (night_checks request rounds_room table_room)
  night-placed rounds_room table_room = (
    request-placed.0,
    λ count.
        let shaped = request-placed.1 count in (
          shaped.0,
          λ sizes.
              let sized = shaped.1 sizes in (
                sized.0,
                λ reading.
                    let writes = sized.1 reading in (
                      writes.0,
                      λ answers. (omega arith, λ heard. (omega arith, λ decided. (omega arith, λ enough. tt))),
                    ),
              ),
        ),
  )
