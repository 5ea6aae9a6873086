-- The lowest mark and the value kept for it are the pair told.
use Rattle.std.proofs.Common.{ℕ, ◌-◌, get_or, ap, ◌∙◌, rules}
use Rattle.marks.specs.Marked.{marked}
use Rattle.copy_store.proofs.Writes.{shown, told_is_the_lowest}
use Rattle.copy_store.proofs.place.Place.own_from.Goals as goal

pub returns-in_err-object : goal.returns-in_err-object
returns-in_err-object c =
    let x = c.args.self.now in
    let value : ℕ → ℕ = λ k. get_or x.own k 0 in
    let told = ap (shown value) c.lowest_from.ensures.answer ∙ told_is_the_lowest (marked x.wrote) value c.args.object (128 - c.args.object) in
    search rules

pub returns : goal.returns
returns c =
    let x = c.args.self.now in
    let value : ℕ → ℕ = λ k. get_or x.own k 0 in
    let told = ap (shown value) c.lowest_from.ensures.answer ∙ told_is_the_lowest (marked x.wrote) value c.args.object (128 - c.args.object) in
    search rules
