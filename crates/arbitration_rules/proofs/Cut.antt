-- Lists cut from one: as many as there are counts, and those that were joined.
use mathlib.Core.Path.{◌≡◌, refl, ap, ap₂, ◌∙◌}
use mathlib.Core.List.{List, [], ◌∷◌, map}
use Prim.Native.Nat.{ℕ, suc}
use lib.ListN.{length, drop, length-map}
use lib.Seq.{take-append_seam, drop-append_seam}
use Rattle.arbitration_rules.specs.Reply.{Request, cut, joined, total, parts_of, lengths_of, messages_of, sent_of}

pub cut-count : (counts list : List ℕ) → length (cut counts list) ≡ length counts
cut-count [] list = refl
cut-count (count ∷ counts) list = ap suc (cut-count counts (drop count list))

pub cut-joined : (lists : List (List ℕ)) → cut (map length lists) (joined lists) ≡ lists
cut-joined [] = refl
cut-joined (list ∷ lists) =
    ap₂ ◌∷◌ (take-append_seam list (joined lists))
    (ap (cut (map length lists)) (drop-append_seam list (joined lists)) ∙ cut-joined lists)

-- a request has a message for each count
pub lengths-count : (request : Request) → length (lengths_of request) ≡ length request.counts
lengths-count request = length-map (parts_of request) total ∙ cut-count request.counts request.parts

pub messages-count : (request : Request) → length (messages_of request) ≡ length request.counts
messages-count request = cut-count (lengths_of request) (sent_of request) ∙ lengths-count request
