use Rattle.std.proofs.Common.{sym, refl, ◌∙◌}
use Rattle.tickets.specs.Meaning.{pairs}
use Rattle.clients.specs.Committed.{write_set_answer, write_set_after}
use Rattle.clients.proofs.AtStore.{same_answer, answered, left}
use Rattle.clients.proofs.Landing.{lands, landed}
use Rattle.clients.proofs.store_client.write_and_commit.Goals as goal

pub at_store-requires : goal.at_store-requires
at_store-requires g c =
    let m = g.S.Store.meaning c.args.store.now in
    let p = c.args.place in
    (write_set_answer m p, answered m (λ n. write_set_answer n p) 0 refl c.write_and_commit_at.ensures.answer)

pub returns : goal.returns
returns g c =
    let m = g.S.Store.meaning c.args.store.now in
    let p = c.args.place in
    let ps = pairs c.args.set.now in
    let answer = same_answer _ _ (sym c.at_store.ensures ∙ answered m (λ n. write_set_answer n p) 0 refl c.write_and_commit_at.ensures.answer) in
    let after = left m (λ n. write_set_after n p ps) 0 refl c.write_and_commit_at.ensures.after in
    record { answer = answer; after = after; law = λ closed less. (answer ∙ lands m p ps closed less, landed m p ps closed less after) }
