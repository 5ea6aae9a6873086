use Rattle.std.proofs.Common.{ap, ◌∙◌, arith}
use Rattle.std.specs.Option.{option_map}
use Rattle.record_format.proofs.Numbering.{placed, none_placed}
use Rattle.record_format.specs.Meaning.{item_of}
use Rattle.record_reader.proofs.reader.Reader.item.Goals as goal

pub returns-in_err-place : goal.returns-in_err-place
returns-in_err-place c = record {
  answer = ap (option_map item_of) c.from_residual.ensures ∙ (none_placed c.args.self.now.bytes.now c.args.n c.in_err-place.ensures.answer).0;
}

pub item_at-requires-clause-n_in_bounds : goal.item_at-requires-clause-n_in_bounds
item_at-requires-clause-n_in_bounds c = let p = placed c.args.self.now.bytes.now c.args.n _ _ c.in_ok-place.ensures.answer in p.contents

pub item_at-requires-clause-at_in_bounds : goal.item_at-requires-clause-at_in_bounds
item_at-requires-clause-at_in_bounds c = let p = placed c.args.self.now.bytes.now c.args.n _ _ c.in_ok-place.ensures.answer in omega (arith, p.room)

pub returns : goal.returns
returns c =
    let p = placed c.args.self.now.bytes.now c.args.n _ _ c.in_ok-place.ensures.answer in
    record { answer = c.item_at.ensures.answer ∙ p.item_is }
