-- What opening a file comes to. Which descriptor the system hands out, and which words the command line has, the logic
-- does not know.
use Rattle.std.specs.Prelude.{◌≡◌, cond, List, [], ◌∷◌, ℕ, eqb, ℤ, pos, Result, Ok, Err}
use Rattle.text.specs.Output.{Put}
use Rattle.rig_lines.specs.Bytes.{ascii}
use Rattle.rig_lines.specs.Console.{shown_text, form_text}
use Rattle.rig_lines.specs.Input.{begun}
use Rattle.rig_lines.specs.declared.input.Source.{Source}

-- standard input, which argument 0 and the name `-` are; else the file of that name, from its start, or none
pub data Opening (argument : ℕ) (name : List ℕ) : Result Source ℕ → Type 0 where
  standard : argument ≡ 0 → Opening argument name (Ok (begun (pos 0) 0))
  dash : name ≡ ascii "-" → Opening argument name (Ok (begun (pos 0) 0))
  file :
      (fd : ℤ) → (argument ≡ 0 → ⊥) → (name ≡ ascii "-" → ⊥) → Opening argument name (Ok (begun fd argument))
  failed : (errno : ℕ) → (argument ≡ 0 → ⊥) → (name ≡ ascii "-" → ⊥) → Opening argument name (Err errno)

-- why the system refuses a file, by the error's number
unfoldable pub reason_text : ℕ → List ℕ
reason_text errno =
    cond (eqb errno 2) (ascii "no such file")
    (cond (eqb errno 13) (ascii "permission denied")
    (cond (eqb errno 21) (ascii "it is a directory")
    (cond (eqb errno 36) (ascii "the name is too long")
    (cond (eqb errno 9) (ascii "it is not open") (form_text (ascii "error number #") (errno ∷ []))))))

-- a file's name: standard input, which argument 0 is, or a word of the command line
unfoldable pub name_text : ℕ → List ℕ → List ℕ
name_text argument word = cond (eqb argument 0) (ascii "standard input") (shown_text word)

-- the name of a file is put on a page
pub record Named (argument : ℕ) (old : List ℕ) (at : ℕ) (new : List ℕ) (next : ℕ) : Type 0 where
  pub word : List ℕ
  pub put : Put old at (name_text argument word) new next
