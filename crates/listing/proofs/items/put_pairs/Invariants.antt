use Rattle.std.proofs.Common.{◌≡◌, ◌++◌, map, drop, string_bytes}
use Rattle.std.specs.List.{flat_map}
use Rattle.tickets.specs.Meaning.{pair_of}
use Rattle.listing.specs.Listing.{pair_text}
use Rattle.listing.proofs.items.put_pairs.Given as goal

-- what is written and what is left stay the whole
abbrev pub invariant-loop-pair : goal.invariant-loop-pair
invariant-loop-pair l = string_bytes l.text ++ flat_map pair_text (drop l.pair-index (map pair_of l.pair-items)) ≡ string_bytes l.initial.text ++ flat_map pair_text (map pair_of l.pair-items)
