use Rattle.std.proofs.Common.{List, [], vec_items, sym, refl, subst}
use Rattle.stores.specs.Model.{StoreModel}
use Rattle.law.specs.History.Answer.{done}
use Rattle.law.specs.Promise.{Promised}
use Rattle.refinement.specs.Stores.{law_bank}
use Rattle.middleware.specs.Listing.{past}
use Rattle.middleware.specs.Meaning.{held}
use Rattle.middleware.proofs.Runs.{served}
use Rattle.middleware.proofs.queues.run_queue.Goals as goal

pub returns : goal.returns
returns g c =
    let stores = g.B.Bank.stores in
    let ms = stores c.args.bank in
    let queue = c.args.queue.now in
    let h = past queue (vec_items c.serve.new.answers) [] in
    let last = held stores c.serve.new.self in
    let kept = served ms (g.met.B.Bank.lawful c.args.bank) queue (held stores c.in-Ok-new.board) (held stores c.open.new.self) c.in-Ok-new.ensures.made done c.in_default-open.ensures.law h last refl c.serve.ensures.law in
    record { law = subst (λ (k : List StoreModel). Promised (law_bank ms) queue done h (law_bank k)) (sym c.into_bank-2.ensures.answer) kept; names = c.serve.ensures.names }
