-- The lines of a script one after the other, on a board that was just opened.
use Rattle.std.specs.Prelude.{◌≡◌, ℕ, List, [], ◌++◌, length, drop}
use Rattle.tickets.specs.Boards.{Board}
use Rattle.machine.specs.Machine.{Machine}
use Rattle.law.specs.History.{History}
use Rattle.refinement.specs.Worlds.{plain_of}
use Rattle.refinement.specs.Promise.{Ran}
use Rattle.script.specs.Replies.{calls_of, text}

-- the answers stand at the front of the buffer, n bytes of them, and the calls of the lines were run
pub record Served (lines : List (List ℕ)) (start : Board) (K : ℕ) (first : Machine) (buffer : List ℕ) (n : ℕ) (filled : List ℕ) (last : Machine) : Type 0 where
  pub ends : n ≡ length (text 1 lines (plain_of first))
  pub bytes : filled ≡ text 1 lines (plain_of first) ++ drop n buffer
  pub ran : (h : History) × Ran start K (calls_of lines) h last

-- where the board came from an accepted opening with no call yet
abbrev pub ServesLines : List (List ℕ) → Machine → List ℕ → ℕ → List ℕ → Machine → Type 0
ServesLines lines first buffer n filled last = (start : Board) (K : ℕ) → Ran start K [] [] first → Served lines start K first buffer n filled last
