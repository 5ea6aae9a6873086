-- What the types of the code mean.
use Rattle.std.specs.Prelude.{cond, Some, None, Option}
use Rattle.std.specs.Option.{option_map}
use Rattle.tickets.specs.Boards as boards
use Rattle.tickets.specs.WriteSets.{Pairs, is_write_set}
pub use Rattle.tickets.specs.Pairs.{pair_of, pairs_of}
use Rattle.tickets.specs.declared.board.Board.{Board}
use Rattle.tickets.specs.declared.write_set.WriteSet.{WriteSet}

-- a write set means its pairs, in order
abbrev pub pairs : WriteSet → Pairs
pairs w = pairs_of w.len w.pairs

-- a board means its values, by object
abbrev pub values : Board → boards.Board
values b = b.values

-- the pairs as a write set, exactly where they are one
abbrev pub built : Pairs → Option Pairs
built ps = cond (is_write_set ps) (Some ps) None

abbrev pub set_pairs : Option WriteSet → Option Pairs
set_pairs o = option_map pairs o
