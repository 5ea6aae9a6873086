use Rattle.std.proofs.Common.{◌≡◌, sym, ap, ◌∙◌, rules}
use Rattle.std.proofs.lemmas.Iterator.{YieldsList-from_slice}
use Rattle.std.proofs.lemmas.Iterator.Search.{any_from_yields_List}
use Rattle.std.specs.List.{list_any}
use Rattle.tickets.specs.WriteSets.{Pairs, stands, shares}
use Rattle.tickets.specs.Meaning.{pairs}
use Rattle.tickets.specs.declared.pair.Pair.{Pair}
use Rattle.tickets.proofs.Found.{shares_any}
use Rattle.tickets.proofs.write_set.WriteSet.shares.Goals as goal
use borrow.Author.Tests.{tests}

pub returns : goal.returns
returns c =
    let xs = c.pairs.result.now in
    let qs = pairs c.args.other.now in
    let any : c.any.result ≡ list_any (λ (p : Pair). stands qs p.object) xs = any_from_yields_List (λ (p : Pair). stands qs p.object) _ _ _ c.any.ensures.ran (YieldsList-from_slice xs cc) (λ x b q k. search (rules, tests)) in
    record { answer = any ∙ sym (shares_any xs qs) ∙ ap (λ (ps : Pairs). shares ps qs) c.pairs.ensures.answer }
