-- Refusals in words.
use Rattle.std.specs.Prelude.{List, [], ◌∷◌, ◌++◌, ℕ}
use Rattle.rig_lines.specs.Bytes.{ascii}
use Rattle.rig_lines.specs.Console.{form_text}
use Rattle.rig_lines.specs.Lists.{line_at}

-- what each refusal says, by its number: each in a line of its own, after the line of 0, which is none; those of 12
-- to 16 are told with boards, lines and counts
abbrev pub refusals : List ℕ
refusals =
    ascii "\n"
    ++ ascii "the address is outside 078h to 07Dh\n"
    ++ ascii "a word access needs an even address\n"
    ++ ascii "the set-up fits neither I2C nor SPI\n"
    ++ ascii "a level is above 3\n"
    ++ ascii "stamps and levels differ in number\n"
    ++ ascii "more than 4096 samples\n"
    ++ ascii "a stamp is not above the one before it\n"
    ++ ascii "the reply needs more room than was lent\n"
    ++ ascii "the event list is not complete\n"
    ++ ascii "the gap is 0 or above 1000\n"
    ++ ascii "the last stamp is above 4294967295\n"
    ++ ascii "\n\n\n\n\n"
    ++ ascii "a divider of 1 does not wait, and SCL was last seen low\n"
    ++ ascii "a phase of SCL is too short for the mode\n"
    ++ ascii "the trace has no sample\n"
    ++ ascii "a value is x or z\n"
    ++ ascii "a stamp is not above the one before it\n"
    ++ ascii "a value of a wire that is not declared\n"
    ++ ascii "the text ends inside a line, a command or a section\n"
    ++ ascii "a dump needs just two wires of one bit, and a value for each at its first stamp\n"
    ++ ascii "a stamp is above 4294967295\n"
    ++ ascii "the text is longer than 60000 bytes\n"
    ++ ascii "this is not of the form of a dump with two wires\n"

abbrev pub refusal_words : ℕ → List ℕ
refusal_words number = line_at number refusals

-- a refusal without a place
abbrev pub refusal_text : ℕ → List ℕ
refusal_text number = form_text (ascii "refused #: ") (number ∷ []) ++ refusal_words number

-- a refusal with the sample it is about, and the line of the file that the sample stands in
abbrev pub sample_text : ℕ → ℕ → ℕ → List ℕ
sample_text number sample line =
    form_text (ascii "refused # sample # (line #): ") (number ∷ sample ∷ line ∷ []) ++ refusal_words number

-- a refusal with the sample it is about, and its stamp
abbrev pub stamp_text : ℕ → ℕ → ℕ → List ℕ
stamp_text number sample stamp =
    form_text (ascii "refused # sample # (stamp #): ") (number ∷ sample ∷ stamp ∷ []) ++ refusal_words number

-- a refusal with the byte of a text that it is about, and the line of that byte
abbrev pub byte_text : ℕ → ℕ → ℕ → List ℕ
byte_text number byte line =
    form_text (ascii "refused # byte # (line #): ") (number ∷ byte ∷ line ∷ []) ++ refusal_words number
