-- Masters and the boards that are not silent are one to one: `board_of` and `master_of` undo each other.
use mathlib.Core.Path.{◌≡◌, refl, sym, ap, ◌∙◌}
use mathlib.Core.Bool.{Bool, true, false, false≢true}
use mathlib.Core.List.{List, [], ◌∷◌}
use Prim.Native.Nat.{ℕ, zero, suc, ◌+◌, ◌<◌}
use native.Mathlib.Nat.{not-suc-le-zero}
use native.Mathlib.Omega.{arith}
use lib.ListN.{length, get_or}
use Rattle.load_text.specs.Boards.{board_of, master_of, masters}

-- a master's board is one of the boards, and is not silent
pub record Speaks (silent : List Bool) (board : ℕ) : Type 0 where
  pub within : board < length silent
  pub heard : get_or silent board true ≡ false

speaks-next : (one : Bool) (others : List Bool) (board : ℕ) → Speaks others board → Speaks (one ∷ others) (suc board)
speaks-next one others board speaks = record { within = omega (arith, speaks.within); heard = speaks.heard }

speaks-before : (one : Bool) (others : List Bool) (board : ℕ) → Speaks (one ∷ others) (suc board) → Speaks others board
speaks-before one others board speaks = record { within = omega (arith, speaks.within); heard = speaks.heard }

pub board-speaks : (silent : List Bool) (master : ℕ) → master < masters silent → Speaks silent (board_of silent master)
unfolding board_of masters
board-speaks [] master less = absurd (not-suc-le-zero less)
board-speaks (true ∷ others) master less =
    speaks-next true others (board_of others master) (board-speaks others master (omega arith))
board-speaks (false ∷ others) zero less = record { within = omega arith; heard = refl }
board-speaks (false ∷ others) (suc master) less =
    speaks-next false others (board_of others master) (board-speaks others master (omega arith))

-- the master of a master's board is that master
pub master-of-board : (silent : List Bool) (master : ℕ) → master < masters silent
    → master_of silent (board_of silent master) ≡ master
unfolding board_of master_of masters
master-of-board [] master less = absurd (not-suc-le-zero less)
master-of-board (true ∷ others) master less =
    let rest = master-of-board others master (omega arith) in
    omega (arith, rest)
master-of-board (false ∷ others) zero less = refl
master-of-board (false ∷ others) (suc master) less =
    let rest = master-of-board others master (omega arith) in
    omega (arith, rest)

-- the board of a board's master is that board: every board that is not silent is some master's
pub board-of-master : (silent : List Bool) (board : ℕ) → Speaks silent board
    → (master_of silent board < masters silent) × (board_of silent (master_of silent board) ≡ board)
unfolding board_of master_of masters
board-of-master [] board speaks = absurd (not-suc-le-zero speaks.within)
board-of-master (true ∷ others) zero speaks = absurd (false≢true (sym speaks.heard))
board-of-master (false ∷ others) zero speaks = (omega arith, refl)
board-of-master (true ∷ others) (suc board) speaks =
    let rest = board-of-master others board (speaks-before true others board speaks) in
    let none : 0 + master_of others board ≡ master_of others board = omega arith in
    (omega (arith, rest.0), ap suc (ap (board_of others) none ∙ rest.1))
board-of-master (false ∷ others) (suc board) speaks =
    let rest = board-of-master others board (speaks-before false others board speaks) in
    let one : 1 + master_of others board ≡ suc (master_of others board) = omega arith in
    (omega (arith, rest.0), ap (board_of (false ∷ others)) one ∙ ap suc rest.1)

-- distinct masters have distinct boards
pub boards-differ : (silent : List Bool) (one other : ℕ) → one < masters silent → other < masters silent
    → board_of silent one ≡ board_of silent other → one ≡ other
boards-differ silent one other less less_other same =
    sym (master-of-board silent one less) ∙ ap (master_of silent) same ∙ master-of-board silent other less_other
