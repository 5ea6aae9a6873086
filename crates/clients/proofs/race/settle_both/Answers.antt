use Rattle.std.proofs.Common.{sym, ap, ◌∙◌}
use Rattle.stores.specs.Model.{commit_answer}
use Rattle.banks.specs.Steps.{settled_after}
use Rattle.clients.specs.Races.{settled_race, settled_both}
use Rattle.clients.proofs.AtStore.{same_answer, answered, left, first_is, second_is}
use Rattle.clients.proofs.race.settle_both.Goals as goal

pub at_store-first-requires : goal.at_store-first-requires
at_store-first-requires g c =
    let m = g.S.Store.meaning c.args.store.now in
    let w = c.sorted.result.0 in
    let one = first_is c.args.order c.args.left c.args.right w c.requires c.sorted.ensures.first in
    (commit_answer m w.place, answered m (λ n. commit_answer n w.place) w.replica one.0 c.settle.ensures.answer)

pub at_store-second-requires : goal.at_store-second-requires
at_store-second-requires g c =
    let m = g.S.Store.meaning c.settle.new.bank in
    let w = c.sorted.result.1 in
    let two = second_is c.args.order c.args.left c.args.right w c.requires c.sorted.ensures.second in
    (commit_answer m w.place, answered m (λ n. commit_answer n w.place) w.replica two.0 c.settle-2.ensures.answer)

pub returns : goal.returns
returns g c =
    let m = g.S.Store.meaning c.args.store.now in
    let m' = g.S.Store.meaning c.settle.new.bank in
    let (w, v) = c.sorted.result in
    let one = first_is c.args.order c.args.left c.args.right w c.requires c.sorted.ensures.first in
    let two = second_is c.args.order c.args.left c.args.right v c.requires c.sorted.ensures.second in
    let first = same_answer _ _ (sym c.at_store-first.ensures ∙ answered m (λ n. commit_answer n w.place) w.replica one.0 c.settle.ensures.answer) in
    let second = same_answer _ _ (sym c.at_store-second.ensures ∙ answered m' (λ n. commit_answer n v.place) v.replica two.0 c.settle-2.ensures.answer) in
    let between = left m (λ n. settled_after n w.place) w.replica one.0 c.settle.ensures.after in
    let after = left m' (λ n. settled_after n v.place) v.replica two.0 c.settle-2.ensures.after in
    record {
      answer = (λ i. record { first = first i; second = (second ∙ ap (λ n. commit_answer n v.place) between) i }) ∙ (λ i. settled_race m (one.1 i) (two.1 i));
      after = after ∙ ap (λ n. settled_after n v.place) between ∙ (λ i. settled_both m (one.1 i) (two.1 i));
    }
