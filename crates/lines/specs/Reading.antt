-- Reading the numbers of a line, and the call that it spells.
use Rattle.std.specs.Prelude.{ℕ, zero, suc, cond, List, [], ◌∷◌, Some, None, codes, Option, ◌==◌, slice_index}
use Prim.Native.String.{String}
use Rattle.std.specs.Option.{option_map}
use Rattle.calls.specs.declared.call.Call.{Call}
use Rattle.calls.specs.declared.call.Call.TheVariants.{Begin, Read, Write, Commit, GiveUp, Apply, Drain, Value}
use Rattle.lines.specs.Numerals.{numeral}
use Rattle.lines.specs.Tokens.{Piece, letter, number, token_in_front, behind_token}

-- the letter that a token is, and the number that it is
abbrev pub letter_in : Option Piece → Option ℕ
letter_in None = None
letter_in (Some (letter [])) = None
letter_in (Some (letter (b ∷ bs))) = Some b
letter_in (Some (number bs)) = None

abbrev pub number_in : Option Piece → Option ℕ
number_in None = None
number_in (Some (letter bs)) = None
number_in (Some (number bs)) = numeral bs

-- a number before others, if all are there
abbrev pub before : Option ℕ → Option (List ℕ) → Option (List ℕ)
before None others = None
before (Some n) None = None
before (Some n) (Some ns) = Some (n ∷ ns)

-- exactly so many numbers, and nothing behind them
unfoldable pub numbers_in : ℕ → List ℕ → Option (List ℕ)
numbers_in zero [] = Some []
numbers_in zero (b ∷ bs) = None
numbers_in (suc n) rest = before (number_in (token_in_front rest)) (numbers_in n (behind_token rest))

-- a call with the first numbers of a list: one of them, two, three
abbrev pub with_one : (ℕ → Call) → List ℕ → Call
with_one call ns = call (slice_index ns 0)

abbrev pub with_two : (ℕ → ℕ → Call) → List ℕ → Call
with_two call ns = call (slice_index ns 0) (slice_index ns 1)

abbrev pub with_three : (ℕ → ℕ → ℕ → Call) → List ℕ → Call
with_three call ns = call (slice_index ns 0) (slice_index ns 1) (slice_index ns 2)

-- such a call, where the rest of a line is exactly its numbers
abbrev pub one : (ℕ → Call) → List ℕ → Option Call
one call rest = option_map (with_one call) (numbers_in 1 rest)

abbrev pub two : (ℕ → ℕ → Call) → List ℕ → Option Call
two call rest = option_map (with_two call) (numbers_in 2 rest)

abbrev pub three : (ℕ → ℕ → ℕ → Call) → List ℕ → Option Call
three call rest = option_map (with_three call) (numbers_in 3 rest)

-- the number of a letter
abbrev pub byte : String → ℕ
byte s = slice_index (codes s) 0

-- the call that a letter asks for
abbrev pub asked : Option ℕ → List ℕ → Option Call
asked None rest = None
asked (Some l) rest =
    cond (l == (byte "B")) (one Begin rest)
    (cond (l == (byte "R")) (two Read rest)
    (cond (l == (byte "W")) (three Write rest)
    (cond (l == (byte "C")) (one Commit rest)
    (cond (l == (byte "G")) (one GiveUp rest)
    (cond (l == (byte "A")) (two Apply rest)
    (cond (l == (byte "D")) (two Drain rest)
    (cond (l == (byte "V")) (two Value rest) None)))))))

-- the call that a line spells, if it spells one
unfoldable pub understood : List ℕ → Option Call
understood line = asked (letter_in (token_in_front line)) (behind_token line)
