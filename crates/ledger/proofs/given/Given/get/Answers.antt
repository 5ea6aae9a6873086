-- What stands at a number.
use Rattle.std.proofs.Common.{◌≡◌, ◌-◌, ◌<◌, vec_items, sym, ◌∙◌, rules}
use Rattle.std.specs.List.{slice_get}
use Rattle.ledger.proofs.Items.{copied_get, numbered_get}
use Rattle.ledger.proofs.given.Given.get.Goals as goal

pub returns : goal.returns
returns g c =
    let xs = vec_items c.args.self.now.items in
    let i = c.in_ok-checked_sub.field-0 in
    let at : i ≡ c.args.n - 1 = search rules in
    let some : 0 < c.args.n = search rules in
    let got = copied_get c.deref.result.now i c.get.result c.get.ensures.lookup.0 c.get.ensures.lookup.1 in
    record { answer = c.copied.ensures ∙ got ∙ (λ r. slice_get (c.deref.ensures.value r) (at r)) ∙ sym (numbered_get xs c.args.n some) }
