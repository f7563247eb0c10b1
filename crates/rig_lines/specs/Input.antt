-- A line taken from a file. Of the bytes that the system delivers the logic knows nothing, so this says which bytes
-- a source hands on, in which order, and what a line that was put together of them is.
use Rattle.std.specs.Prelude.{◌≡◌, Bool, true, false, cond, not, List, [], ◌∷◌, ◌++◌, ℕ, ◌+◌, ◌≤◌, ◌<◌, min, eqb, leb, ℤ, length, get_or, take}
use Rattle.std.proofs.lemmas.List.Edits.{sets}
use Rattle.text.specs.Words.{run_length}
use Rattle.rig_lines.specs.Bytes.{plain, every}
use Rattle.rig_lines.specs.Numbers.{largest, one_more}
use Rattle.rig_lines.specs.declared.input.Line.{Line}
use Rattle.rig_lines.specs.declared.input.Line.TheVariants.{Text, TooLong, NoText, End, Failed}
use Rattle.rig_lines.specs.declared.input.Next.{Next}
use Rattle.rig_lines.specs.declared.input.Next.TheVariants.{Byte, End as NoByte}
use Rattle.rig_lines.specs.declared.input.Source.{Source}
use Rattle.rig_lines.specs.declared.input.Taken.{Taken}

-- a source that nothing is read from yet
abbrev pub begun : ℤ → ℕ → Source
begun fd argument =
    record { fd = fd; argument = argument; at = 0; end = 0; line = 0; done = false; errno = 0 }

-- a source at its next line
abbrev pub next_number : Source → Source
next_number s =
    record {
      fd = s.fd;
      argument = s.argument;
      at = s.at;
      end = s.end;
      line = one_more s.line;
      done = s.done;
      errno = s.errno;
    }

-- a source past a byte of its piece
abbrev pub past_byte : Source → Source
past_byte s =
    record {
      fd = s.fd;
      argument = s.argument;
      at = s.at + 1;
      end = s.end;
      line = s.line;
      done = s.done;
      errno = s.errno;
    }

-- a source with a new piece of n bytes; none ends the input, with an error's number where the read failed
unfoldable pub after_read : ℕ → ℕ → Source → Source
after_read n errno s =
    record {
      fd = s.fd;
      argument = s.argument;
      at = 0;
      end = n;
      line = s.line;
      done = cond (eqb n 0) true s.done;
      errno = cond (eqb n 0) errno s.errno;
    }

-- The bytes that a source hands on, with its piece and itself before and after: each is the byte of the piece at the
-- source's position, and a new piece is read only where the last one is used up and the input has not ended.
pub data Fed (piece : List ℕ) (s : Source) : List ℕ → List ℕ → Source → Type 0 where
  nothing : Fed piece s [] piece s
  byte : {bytes now : List ℕ} {at : Source} → Fed piece s bytes now at → at.at < at.end → at.at < length now
      → Fed piece s (bytes ++ (get_or now at.at 0 ∷ [])) now (past_byte at)
  read : {bytes now : List ℕ} {at : Source} (new : List ℕ) (n errno : ℕ) → Fed piece s bytes now at
      → at.end ≤ at.at → at.done ≡ false → length new ≡ length now → n ≤ length now
      → Fed piece s bytes new (after_read n errno at)

-- what reading once may leave, where the last piece is used up and the input has not ended
pub record Refilled (piece : List ℕ) (s : Source) (piece' : List ℕ) (s' : Source) : Type 0 where
  pub fed : Fed piece s [] piece' s'
  pub kept : length piece' ≡ length piece

-- a source with a piece of n bytes to be read
abbrev pub supplied_with : ℕ → Source → Source
supplied_with n s =
    record {
      fd = s.fd;
      argument = s.argument;
      at = 0;
      end = n;
      line = s.line;
      done = s.done;
      errno = s.errno;
    }

-- the same where the input ends with it, with an error's number where a read failed
abbrev pub ended_with : ℕ → ℕ → Source → Source
ended_with n errno s =
    record { fd = s.fd; argument = s.argument; at = 0; end = n; line = s.line; done = true; errno = errno }

-- A piece read from its start on, so many bytes: each read delivers some behind those that are there, and what it
-- leaves past them is not known.
pub data Read (piece : List ℕ) : List ℕ → ℕ → Type 0 where
  none : Read piece piece 0
  more : {now : List ℕ} {n : ℕ} (new : List ℕ) (count : ℕ) → Read piece now n → n + length new ≡ length now
      → count ≤ length new → Read piece (take n now ++ new) (n + count)

-- What filling a piece may leave: nothing is read where bytes of the last piece are left; else the piece is full, or
-- the input ended with it.
pub data Filled (piece : List ℕ) (s : Source) (piece' : List ℕ) (s' : Source) : Type 0 where
  unread : s.at < s.end → piece' ≡ piece → s' ≡ s → Filled piece s piece' s'
  full : Read piece piece' (length piece) → s.end ≤ s.at → s' ≡ supplied_with (length piece) s
      → Filled piece s piece' s'
  ended : (n errno : ℕ) → Read piece piece' n → s.end ≤ s.at → s' ≡ ended_with n errno s → Filled piece s piece' s'

-- a source that has no byte: its position is past its piece
abbrev pub Spent : List ℕ → Source → Type 0
Spent piece s = s.at < s.end → s.at < length piece → ⊥

-- what asking for a byte may find
abbrev pub NextByte : List ℕ → Source → List ℕ → Next → Type 0
NextByte piece s piece' (Byte b s') = Fed piece s (b ∷ []) piece' s'
NextByte piece s piece' (NoByte s') = Fed piece s [] piece' s' × Spent piece' s'

-- what a line is of which n bytes are stored in its room
unfoldable pub judged_line : List ℕ → ℕ → Line
judged_line line n = cond (leb (length line) n) TooLong (cond (every plain (take n line)) (Text n) NoText)

-- what the end of the input leaves: a last line without a newline, or none
unfoldable pub judged_last : ℕ → List ℕ → ℕ → Line
judged_last errno line n = cond (eqb errno 0) (cond (eqb n 0) End (judged_line line n)) Failed

-- how many bytes of a line are stored: all, or as many as there is room for
abbrev pub stored_in : List ℕ → List ℕ → ℕ
stored_in line bytes = min (length bytes) (length line)

-- no newline
abbrev pub no_newline : ℕ → Bool
no_newline b = not (eqb b 0x0a)

-- Taking a line: the bytes that the source handed on up to a newline, or up to the end of the input, are the line's;
-- they are stored as far as there is room. No line uses up the turns; one that did would be too long.
pub data Took (piece line : List ℕ) (s : Source) (piece' line' : List ℕ) (taken : Taken) : Type 0 where
  whole : (bytes : List ℕ) → every no_newline bytes ≡ true → line' ≡ sets line 0 bytes
      → Fed piece (next_number s) (bytes ++ (0x0a ∷ [])) piece' taken.source
      → taken.line ≡ judged_line line' (stored_in line bytes) → Took piece line s piece' line' taken
  last : (bytes : List ℕ) → every no_newline bytes ≡ true → line' ≡ sets line 0 bytes
      → Fed piece (next_number s) bytes piece' taken.source → Spent piece' taken.source
      → taken.line ≡ judged_last taken.source.errno line' (stored_in line bytes)
      → Took piece line s piece' line' taken
  endless : (bytes : List ℕ) → length bytes ≡ largest → line' ≡ sets line 0 bytes
      → Fed piece (next_number s) bytes piece' taken.source
      → taken.line ≡ TooLong → Took piece line s piece' line' taken

-- where a comment begins, or the length of a line that has none
abbrev pub comment_at : List ℕ → ℕ
comment_at line = run_length (λ b. not (eqb b 0x23)) line

-- a line up to a comment
abbrev pub content_of : List ℕ → List ℕ
content_of line = take (comment_at line) line
