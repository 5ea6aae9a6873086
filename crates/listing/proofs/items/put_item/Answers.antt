use Rattle.std.proofs.Common.{[], ◌∷◌, ◌++◌, string_bytes}
use Rattle.std.specs.List.{flat_map}
use Rattle.tickets.specs.Meaning.{pairs}
use Rattle.listing.specs.Listing.{head_text, pair_text}
use Rattle.listing.proofs.Lines.{added_twice}
use Rattle.listing.proofs.items.put_item.Goals as goal

pub returns : goal.returns
returns c =
    let item = c.args.item.now in
    let ps = flat_map pair_text (pairs item.set) in
    record {
      bytes =
          added_twice (string_bytes c.args.text.now) (head_text c.args.n item.home item.s) (ps ++ 10 ∷ []) c.in_ok-put_head.ensures.bytes
          (added_twice (string_bytes c.put_head.new.text) ps (10 ∷ []) c.in_ok-put_pairs.ensures.bytes c.in_ok-writeln.ensures.bytes);
    }
