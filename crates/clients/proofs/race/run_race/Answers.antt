use Rattle.std.proofs.Common.{Err, refl, ap, ◌∙◌}
use Rattle.std.proofs.lemmas.Result.{err_from_is_err_and}
use Rattle.tickets.specs.Meaning.{pairs}
use Rattle.stores.specs.Model.{begin_answer, abort_after}
use Rattle.clients.specs.Committed.{opened_after}
use Rattle.clients.proofs.AtStore.{begun_there, begun_is, opened, opened_ok, opened_err, left}
use Rattle.clients.proofs.FirstWins.{left_refused_answered, left_refused_left, race_answered, race_left, refused_answered, refused_left, first_committer_wins}
use Rattle.clients.proofs.race.run_race.Goals as goal

pub at_store-requires : goal.at_store-requires
at_store-requires g c =
    let m = g.S.Store.meaning c.args.store.now in
    let p = c.args.left.place in
    (begun_there p (begin_answer m p), opened m p c.open_with.ensures.answer)

pub returns-in_err-a : goal.returns-in_err-a
returns-in_err-a g c =
    let m = g.S.Store.meaning c.args.store.now in
    let l = c.args.left in
    let r = c.args.right in
    let o = c.args.order in
    let refused = opened_err m l.place _ c.in_err-a.ensures c.open_with.ensures.answer in
    let e = err_from_is_err_and c.from_residual.result c.from_residual.ensures.1 in
    let answer = e.1 ∙ ap (λ x. Err x) e.2 ∙ left_refused_answered m l r o _ refused in
    let after = left_refused_left m l r o _ refused (left m (λ n. opened_after n l.place (pairs l.set)) 0 refl c.open_with.ensures.after) in
    record { answer = answer; after = after; law = first_committer_wins m l r o _ _ answer after }

pub at_store-requires-2 : goal.at_store-requires-2
at_store-requires-2 g c =
    let m = g.S.Store.meaning c.open_with.new.bank in
    let p = c.args.right.place in
    (begun_there p (begin_answer m p), opened m p c.open_with-2.ensures.answer)

pub returns-in-Ok : goal.returns-in-Ok
returns-in-Ok g c =
    let m = g.S.Store.meaning c.args.store.now in
    let m' = g.S.Store.meaning c.open_with.new.bank in
    let l = c.args.left in
    let r = c.args.right in
    let o = c.args.order in
    let a = c.in_ok-a.a in
    let b = c.in-Ok.b in
    let opened₁ = opened_ok m l.place a c.in_ok-a.ensures c.open_with.ensures.answer in
    let opened₂ = opened_ok m' r.place b c.in-Ok.ensures c.open_with-2.ensures.answer in
    let wrote₁ = left m (λ n. opened_after n l.place (pairs l.set)) 0 refl c.open_with.ensures.after in
    let wrote₂ = left m' (λ n. opened_after n r.place (pairs r.set)) 0 refl c.open_with-2.ensures.after in
    let answer = race_answered m m' _ l r o a opened₁ wrote₁ wrote₂ b opened₂ c.settle_both.ensures.answer in
    let after = race_left m m' _ l r o a opened₁ wrote₁ wrote₂ b opened₂ c.settle_both.ensures.after in
    record { answer = answer; after = after; law = first_committer_wins m l r o _ _ answer after }

pub returns-in-Err : goal.returns-in-Err
returns-in-Err g c =
    let m = g.S.Store.meaning c.args.store.now in
    let m' = g.S.Store.meaning c.open_with.new.bank in
    let l = c.args.left in
    let r = c.args.right in
    let o = c.args.order in
    let a = c.in_ok-a.a in
    let opened₁ = opened_ok m l.place a c.in_ok-a.ensures c.open_with.ensures.answer in
    let refused = opened_err m' r.place c.in-Err.e c.in-Err.ensures c.open_with-2.ensures.answer in
    let wrote₁ = left m (λ n. opened_after n l.place (pairs l.set)) 0 refl c.open_with.ensures.after in
    let wrote₂ = left m' (λ n. opened_after n r.place (pairs r.set)) 0 refl c.open_with-2.ensures.after in
    let at = begun_is l.place a (begin_answer m l.place) opened₁ in
    let freed = left _ (λ n. abort_after n a.place) a.replica at.2 c.abort.ensures.after in
    let answer = refused_answered m m' _ l r o a opened₁ wrote₁ wrote₂ c.in-Err.e refused in
    let after = refused_left m m' _ l r o a opened₁ wrote₁ wrote₂ c.in-Err.e refused freed in
    record { answer = answer; after = after; law = first_committer_wins m l r o _ _ answer after }
