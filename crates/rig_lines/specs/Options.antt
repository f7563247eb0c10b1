-- Options on a command line, and what is said of one that is wrong.
use Rattle.std.specs.Prelude.{Bool, cond, false, ◌&&◌, List, ◌++◌, ℕ, eqb, ltb, length, get_or}
use Rattle.rig_lines.specs.Bytes.{ascii}
use Rattle.rig_lines.specs.Console.{quoted_text}

-- a word that begins with two dashes
abbrev pub is_option : List ℕ → Bool
is_option word = cond (ltb (length word) 2) false (eqb (get_or word 0 0) 45 && eqb (get_or word 1 0) 45)

-- an option that a command does not have
abbrev pub of_command : List ℕ → List ℕ
of_command command = ascii " for " ++ command ++ ascii "\n"

abbrev pub unknown_option : List ℕ → List ℕ → List ℕ
unknown_option word command = ascii "error unknown option " ++ quoted_text word ++ of_command command

-- a word in the place of the number of --room
abbrev pub no_number : List ℕ → List ℕ
no_number word = ascii "error expected a number after --room, not " ++ quoted_text word ++ ascii "\n"
