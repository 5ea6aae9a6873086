-- What a line is cut into: tokens, each with its bytes and their place in the line.
use Rattle.std.specs.Prelude.{◌≡◌, ℕ, ◌+◌, cond, List, [], ◌∷◌, length, drop, Some, None, Option, ◌==◌}
use Rattle.std.specs.Char.{is_ascii_digit, is_ascii_alphabetic}
use Rattle.lines.specs.declared.token.Token.{Token}
use Rattle.lines.specs.declared.token.Token.TheVariants.{Letter, Number}
use Rattle.lines.specs.declared.tokens.Tokens.{Tokens}
use Rattle.lines.specs.Fronts.{front}

-- a token's bytes
pub data Piece : Type 0 where
  letter : List ℕ → Piece
  number : List ℕ → Piece

abbrev pub piece : Token → Piece
piece (Letter bytes at) = letter bytes.now
piece (Number bytes at) = number bytes.now

-- digits, if there are any, are a number
abbrev pub some_digits : List ℕ → Option Piece
some_digits [] = None
some_digits (d ∷ ds) = Some (number (d ∷ ds))

-- the token in front: a letter, or a space and then all the digits there
abbrev pub token_in_front : List ℕ → Option Piece
token_in_front [] = None
token_in_front (b ∷ bs) = cond (is_ascii_alphabetic b) (Some (letter (b ∷ []))) (cond (b == 32) (some_digits (front is_ascii_digit bs)) None)

-- the bytes that the cut takes off with a token: a number has one space before it
abbrev pub taken_off : Option Piece → List ℕ
taken_off None = []
taken_off (Some (letter bs)) = bs
taken_off (Some (number bs)) = 32 ∷ bs

-- what is left behind the token in front
abbrev pub behind_token : List ℕ → List ℕ
behind_token rest = drop (length (taken_off (token_in_front rest))) rest

-- a token tells the place of its bytes in the line, where the cut began at `at`
abbrev pub Placed : ℕ → Option Token → Type 0
Placed at None = Unit {0}
Placed at (Some (Letter bytes place)) = place ≡ at
Placed at (Some (Number bytes place)) = place ≡ at + 1

-- where the next token is to be cut, and what is left of the line there
abbrev pub place_of : Tokens → ℕ
place_of t = t.at

abbrev pub left_of : Tokens → List ℕ
left_of t = drop t.at t.line.now
