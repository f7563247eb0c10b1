-- What is handed to the library: the messages of the boards that are not silent, each to the master that its board is.
use mathlib.Core.Path.{◌≡◌, refl, sym, ap, ap₂, ◌∙◌}
use mathlib.Core.Bool.{Bool, true, false}
use mathlib.Core.List.{List, [], ◌∷◌, ◌++◌, map, append_assoc, append-nil}
use Prim.Native.Nat.{ℕ, zero, suc, ◌+◌, ◌-◌, ◌*◌, ◌≤◌, ◌<◌, min}
use native.Mathlib.Nat.{not-suc-le-zero, le_of_suc-le-suc}
use native.Mathlib.Numerals.{add-one}
use native.Mathlib.Omega.{arith}
use lib.ListN.{length, get_or, take, drop}
use lib.Seq.{take_all, drop-drop}
use Rattle.text.specs.Output.{Put}
use Rattle.text.proofs.Runs.{to_end}
use Rattle.text.proofs.Putting.{put_then, put_as}
use Rattle.laws.proofs.Lists.{take-least, drop-least}
use Rattle.arbitration_rules.specs.Limits.{max_masters, max_length}
use Rattle.arbitration_rules.specs.Reply.{Request, asked, cut, joined, total, parts_of, lengths_of}
use Rattle.arbitration_rules.proofs.Cut.{cut-joined}
use Rattle.load_text.specs.Boards.{board_of, masters}
use Rattle.load_text.specs.Messages.{chosen, messages_in, unless, parts_in, part_counts}

-- a board's message, cut out of the rows
pub messages-length : (counts rows : List ℕ) → length (messages_in rows counts) ≡ length counts
messages-length [] rows = refl
messages-length (count ∷ counts) rows = ap suc (messages-length counts (drop max_length rows))

messages-at : (counts rows : List ℕ) (board : ℕ) → board < length counts
    → get_or (messages_in rows counts) board [] ≡ take (get_or counts board 0) (drop (board * max_length) rows)
messages-at [] rows board less = absurd (not-suc-le-zero less)
messages-at (count ∷ counts) rows zero less = refl
messages-at (count ∷ counts) rows (suc board) less =
    let next : max_length + board * max_length ≡ suc board * max_length = omega arith in
    messages-at counts (drop max_length rows) board (le_of_suc-le-suc less)
    ∙ ap (take (get_or counts board 0)) (drop-drop (board * max_length) max_length rows ∙ ap (λ (k : ℕ). drop k rows) next)

module _ (counts rows : List ℕ) (board : ℕ) where
  pub message-none : length counts ≤ board → [] ≡ get_or (messages_in rows counts) board []
  message-none past = sym (get_d-out (messages_in rows counts) board (omega (arith, messages-length counts rows)))
    where
      get_d-out : (l : List (List ℕ)) (i : ℕ) → length l ≤ i → get_or l i [] ≡ []
      get_d-out [] i h = refl
      get_d-out (a ∷ l) zero h = absurd (not-suc-le-zero h)
      get_d-out (a ∷ l) (suc i) h = get_d-out l i (le_of_suc-le-suc h)

  pub message-cut : (start end : ℕ) → board < length counts → start ≡ min (board * max_length) (length rows)
      → end ≡ min (get_or counts board 0) (length (take (length rows - start) (drop start rows)))
      → take end (take (length rows - start) (drop start rows)) ≡ get_or (messages_in rows counts) board []
  message-cut start end less from to =
      ap (λ (k : ℕ). take k row) to
      ∙ take-least (get_or counts board 0) row
      ∙ ap (take (get_or counts board 0))
      (to_end start rows ∙ ap (λ (k : ℕ). drop k rows) from ∙ drop-least (board * max_length) rows)
      ∙ sym (messages-at counts rows board less)
    where
      row : List ℕ
      row = take (length rows - start) (drop start rows)

pub unless-silent : {A : Type 0} (silent : Bool) (said : List A) → silent ≡ true → unless silent said ≡ []
unless-silent silent said is = rw is

pub unless_not : {A : Type 0} (silent : Bool) (said : List A) → silent ≡ false → unless silent said ≡ said
unless_not silent said is = rw is

-- the boards from the front: one board more
module _ {A : Type 0} where
  chosen-suc : (silent : List Bool) (all : List A) (board : ℕ) (empty : A) → board < length silent → board < length all
      → chosen (take (suc board) silent) (take (suc board) all)
      ≡ chosen (take board silent) (take board all) ++ unless (get_or silent board false) (get_or all board empty ∷ [])
  chosen-suc [] all board empty less less-all = absurd (not-suc-le-zero less)
  chosen-suc (one ∷ silent) [] board empty less less-all = absurd (not-suc-le-zero less-all)
  chosen-suc (true ∷ silent) (a ∷ all) zero empty less less-all = refl
  chosen-suc (false ∷ silent) (a ∷ all) zero empty less less-all = refl
  chosen-suc (true ∷ silent) (a ∷ all) (suc board) empty less less-all =
      chosen-suc silent all board empty (le_of_suc-le-suc less) (le_of_suc-le-suc less-all)
  chosen-suc (false ∷ silent) (a ∷ all) (suc board) empty less less-all =
      ap (λ (l : List A). a ∷ l)
      (chosen-suc silent all board empty (le_of_suc-le-suc less) (le_of_suc-le-suc less-all))

  chosen-all : (silent : List Bool) (all : List A) (board : ℕ) → length silent ≤ board → length all ≤ board
      → chosen (take board silent) (take board all) ≡ chosen silent all
  chosen-all silent all board past past_all = ap₂ chosen (take_all board silent past) (take_all board all past_all)

joined-one : (some : List (List ℕ)) (silent : Bool) (message : List ℕ)
    → joined (some ++ unless silent (message ∷ [])) ≡ joined some ++ unless silent message
joined-one [] true message = refl
joined-one [] false message = append-nil message
joined-one (a ∷ some) silent message =
    ap (λ (l : List ℕ). a ++ l) (joined-one some silent message)
    ∙ sym (append_assoc a (joined some) (unless silent message))

module _ (silent : List Bool) where
  -- the lengths of the first boards have been put
  pub record Lengths (counts old : List ℕ) (board : ℕ) (new : List ℕ) (next : ℕ) : Type 0 where
    pub within : board ≤ max_masters
    pub put : Put old 0 (chosen (take board silent) (take board counts)) new next

  -- the messages of the first boards have been put
  pub record Messages (messages : List (List ℕ)) (old : List ℕ) (board : ℕ) (new : List ℕ) (next : ℕ) : Type 0 where
    pub within : board ≤ max_masters
    pub put : Put old 0 (joined (chosen (take board silent) (take board messages))) new next

  module _ (counts old : List ℕ) (board : ℕ) {mid new : List ℕ} {next end : ℕ} where
    pub lengths-more : board < max_masters → board < length silent → board < length counts
        → Lengths counts old board mid next
        → Put mid next (unless (get_or silent board false) (get_or counts board 0 ∷ [])) new end
        → Lengths counts old (board + 1) new end
    lengths-more few less less-counts before one =
        let more : chosen (take (board + 1) silent) (take (board + 1) counts)
        ≡ chosen (take board silent) (take board counts)
        ++ unless (get_or silent board false) (get_or counts board 0 ∷ []) =
        rw add-one (chosen-suc silent counts board 0 less less-counts) in
        record { within = omega arith; put = put_then old 0 _ _ _ more before.put one }

  module _ (messages : List (List ℕ)) (old : List ℕ) (board : ℕ) {mid new : List ℕ} {next end : ℕ} where
    pub messages-more : board < max_masters → board < length silent → board < length messages
        → Messages messages old board mid next
        → Put mid next (unless (get_or silent board false) (get_or messages board [])) new end
        → Messages messages old (board + 1) new end
    messages-more few less less-messages before one =
        let one-more = ap joined (chosen-suc silent messages board [] less less-messages)
        ∙ joined-one (chosen (take board silent) (take board messages)) (get_or silent board false)
        (get_or messages board []) in
        let more : joined (chosen (take (board + 1) silent) (take (board + 1) messages))
        ≡ joined (chosen (take board silent) (take board messages))
        ++ unless (get_or silent board false) (get_or messages board []) =
        rw add-one one-more in
        record { within = omega arith; put = put_then old 0 _ _ _ more before.put one }

  pub lengths-all : (counts old : List ℕ) (board : ℕ) {new : List ℕ} {next : ℕ} → length silent ≤ board
      → length counts ≤ board → Lengths counts old board new next → Put old 0 (chosen silent counts) new next
  lengths-all counts old board past past-counts done =
      put_as old 0 (sym (chosen-all silent counts board past past-counts)) done.put

  pub messages-all : (messages : List (List ℕ)) (old : List ℕ) (board : ℕ) {new : List ℕ} {next : ℕ}
      → length silent ≤ board → length messages ≤ board → Messages messages old board new next
      → Put old 0 (joined (chosen silent messages)) new next
  messages-all messages old board past past-messages done =
      put_as old 0 (ap joined (sym (chosen-all silent messages board past past-messages))) done.put

-- a master's part of what is chosen is its board's
pub chosen_at : {A : Type 0} (silent : List Bool) (all : List A) (master : ℕ) (empty : A) → master < masters silent
    → length silent ≤ length all → get_or (chosen silent all) master empty ≡ get_or all (board_of silent master) empty
unfolding board_of masters
chosen_at [] all master empty less enough = absurd (not-suc-le-zero less)
chosen_at (one ∷ silent) [] master empty less enough = absurd (not-suc-le-zero enough)
chosen_at (true ∷ silent) (a ∷ all) master empty less enough =
    chosen_at silent all master empty (omega arith) (le_of_suc-le-suc enough)
chosen_at (false ∷ silent) (a ∷ all) zero empty less enough = refl
chosen_at (false ∷ silent) (a ∷ all) (suc master) empty less enough =
    chosen_at silent all master empty (omega arith) (le_of_suc-le-suc enough)

chosen-map : {A B : Type 0} (f : A → B) (silent : List Bool) (all : List A)
    → chosen silent (map f all) ≡ map f (chosen silent all)
chosen-map f [] all = refl
chosen-map f (one ∷ silent) [] = refl
chosen-map f (true ∷ silent) (a ∷ all) = chosen-map f silent all
chosen-map {B} f (false ∷ silent) (a ∷ all) = ap (λ (l : List B). f a ∷ l) (chosen-map f silent all)

chosen-apart : (silent : List Bool) (lists : List (List ℕ))
    → cut (chosen silent (map length lists)) (joined (chosen silent lists)) ≡ chosen silent lists
chosen-apart silent lists =
    ap (λ (l : List ℕ). cut l (joined (chosen silent lists))) (chosen-map length silent lists)
    ∙ cut-joined (chosen silent lists)

-- what the library is handed: the messages in rows of bytes, their parts in rows like them, and acknowledges
module _ (silent : List Bool) (counts rows starts acknowledges : List ℕ) where
  abbrev pub request : Request
  request =
      asked (joined (chosen silent (messages_in rows counts))) (joined (chosen silent (parts_in starts)))
      (chosen silent (part_counts starts)) acknowledges

  parts-apart : parts_of request ≡ chosen silent (parts_in starts)
  parts-apart = chosen-apart silent (parts_in starts)

  -- a master has the parts of its board
  pub handed-parts : (master : ℕ) → length silent ≤ length (parts_in starts) → master < masters silent
      → get_or (parts_of request) master [] ≡ get_or (parts_in starts) (board_of silent master) []
  handed-parts master enough less =
      ap (λ (l : List (List ℕ)). get_or l master []) parts-apart
      ∙ chosen_at silent (parts_in starts) master [] less enough

  -- and its board's message, where each board's parts are as long as its message
  pub handed : (master : ℕ) → map total (parts_in starts) ≡ map length (messages_in rows counts)
      → length silent ≤ length counts → master < masters silent
      → get_or (cut (lengths_of request) request.bytes) master []
      ≡ get_or (messages_in rows counts) (board_of silent master) []
  handed master whole enough less =
      let messages = messages_in rows counts in
      let lengths : lengths_of request ≡ chosen silent (map length messages) =
      ap (map total) parts-apart ∙ sym (chosen-map total silent (parts_in starts)) ∙ ap (chosen silent) whole in
      let all : length silent ≤ length messages = omega (arith, messages-length counts rows) in
      ap (λ (l : List ℕ). get_or (cut l (joined (chosen silent messages))) master []) lengths
      ∙ ap (λ (l : List (List ℕ)). get_or l master []) (chosen-apart silent messages)
      ∙ chosen_at silent messages master [] less all
