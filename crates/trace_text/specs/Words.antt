-- What a line of an event list says.
use Rattle.std.specs.Prelude.{Bool, cond, ◌||◌, List, ℕ, ◌+◌, ◌%◌, eqb, ltb, length}
use Rattle.laws.specs.Same.{same}
use Rattle.text.specs.Words.{first_word, after_word}
use Rattle.trace.specs.Events.{start_event, repeated_start_event, stop_event, partial_event}
use Rattle.rig_lines.specs.Bytes.{ascii}
use Rattle.rig_lines.specs.Numbers.{value_in, byte_in}
use Rattle.trace_text.specs.declared.reading.Said.{Said}
use Rattle.trace_text.specs.declared.reading.Said.TheVariants.{Event, Numbers, Malformed, WrongDirection}

-- an event, where nothing stands after it
unfoldable pub alone_in : List ℕ → ℕ → Said
alone_in line event = cond (eqb (length (first_word line)) 0) (Event event) Malformed

-- `ACK` or `NACK` after a byte
unfoldable pub acknowledged_in : List ℕ → ℕ → Said
acknowledged_in line byte =
    cond (same (first_word line) (ascii "ACK")) (alone_in (after_word line) byte)
    (cond (same (first_word line) (ascii "NACK")) (alone_in (after_word line) (byte + 256)) Malformed)

-- `write` with an even byte, `read` with an odd one, or neither; then the acknowledge
unfoldable pub directed_in : List ℕ → ℕ → Said
directed_in line byte =
    cond (same (first_word line) (ascii "write"))
    (cond (eqb (byte % 2) 1) WrongDirection (acknowledged_in (after_word line) byte))
    (cond (same (first_word line) (ascii "read"))
    (cond (eqb (byte % 2) 0) WrongDirection (acknowledged_in (after_word line) byte))
    (acknowledged_in line byte))

-- a word that follows a byte
unfoldable pub follows_byte : List ℕ → Bool
follows_byte word =
    same word (ascii "ACK") || same word (ascii "NACK") || same word (ascii "write") || same word (ascii "read")

-- a byte of one or two hexadecimal digits where such a word follows, else event numbers
unfoldable pub transfer_in : List ℕ → Said
transfer_in line =
    cond (follows_byte (first_word (after_word line)))
    (cond (ltb 255 (value_in (byte_in (first_word line))))
    Malformed
    (directed_in (after_word line) (value_in (byte_in (first_word line)))))
    Numbers

-- the second word of an event of two words
unfoldable pub pair_in : List ℕ → List ℕ → ℕ → Said
pair_in line name event = cond (same (first_word line) name) (alone_in (after_word line) event) Malformed

-- what a line says, by its first word
unfoldable pub said_in : List ℕ → Said
said_in line =
    cond (same (first_word line) (ascii "START")) (alone_in (after_word line) start_event)
    (cond (same (first_word line) (ascii "STOP")) (alone_in (after_word line) stop_event)
    (cond (same (first_word line) (ascii "repeated")) (pair_in (after_word line) (ascii "START") repeated_start_event)
    (cond (same (first_word line) (ascii "cut")) (pair_in (after_word line) (ascii "byte") partial_event)
    (transfer_in line))))
