-- A mark set in place.
use Rattle.std.proofs.Common.{◌≡◌, ◌<◌, Bool, List, length, get_or, vec_items, ap, rules}
use Rattle.tickets.specs.Meaning.{pairs}
use Rattle.ledger.specs.Sets.{SetModel}
use Rattle.ledger.proofs.Items.{mark_item}
use Rattle.ledger.proofs.write_sets.WriteSets.mark.Goals as goal

pub returns-in-Some : goal.returns-in-Some
returns-in-Some c =
    let xs = vec_items c.args.self.now.given.items in
    let x = c.in-Some.x.now in
    let within : c.place.result < length xs = search rules in
    let read : x ≡ get_or xs c.place.result x = search rules in
    let marked : List Bool → SetModel = λ at. record { home = x.home; s = x.s; transaction = x.transaction; pairs = pairs x.set; applied = at } in
    record { after = mark_item xs c.args.n c.place.result c.args.replica x _ c.place.ensures.answer within read (ap marked c.mark.ensures.after) }
