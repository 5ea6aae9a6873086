-- The bytes that a run is written as. Numbers have the high byte first.
use Rattle.std.specs.Prelude.{ℕ, ◌+◌, ◌*◌, ◌/◌, ◌%◌, List, [], ◌∷◌, ◌++◌, length}
use Rattle.std.specs.List.{flat_map}
use Rattle.record_format.specs.Items.{Item}

-- a number of two bytes, and one of four
abbrev pub two : ℕ → List ℕ
two n = n / 256 % 256 ∷ n % 256 ∷ []

abbrev pub four : ℕ → List ℕ
four n = n / 16777216 % 256 ∷ n / 65536 % 256 ∷ n / 256 % 256 ∷ n % 256 ∷ []

-- five bytes a pair: object and value
abbrev pub pair_bytes : ℕ × ℕ → List ℕ
pair_bytes p = p.0 ∷ four p.1

-- a body: s, and the pairs
abbrev pub body : Item → List ℕ
body it = two it.s ++ flat_map pair_bytes it.pairs

-- four bytes of the contents: home, how many pairs, and the offset of the body in the record
abbrev pub entry : ℕ → Item → List ℕ
entry at it = it.home ∷ length it.pairs ∷ two at

-- the contents, where the first body lies at the offset and each other behind the one before
abbrev pub contents : ℕ → List Item → List ℕ
contents at [] = []
contents at (it ∷ its) = entry at it ++ contents (at + length (body it)) its

-- the bodies, in order and without gaps
abbrev pub bodies : List Item → List ℕ
bodies its = flat_map body its

-- the bodies, each with its place in the record, where the first lies at the offset
abbrev pub placed_bodies : ℕ → List Item → List (List ℕ × ℕ)
placed_bodies at [] = []
placed_bodies at (it ∷ its) = (body it, at) ∷ placed_bodies (at + length (body it)) its

-- the offset of the first body of n: behind the count and the contents
abbrev pub first_body : ℕ → ℕ
first_body n = 2 + 4 * n

-- the record: the count, the contents, the bodies
abbrev pub encoded : List Item → List ℕ
encoded its = two (length its) ++ (contents (first_body (length its)) its ++ bodies its)
