use Rattle.std.proofs.Common.{refl}
use Rattle.calls.specs.declared.call.Call.TheVariants.{Commit}
use Rattle.machine.specs.Committing.{committing}
use Rattle.refinement.specs.Answers.{verdict_listed}
use Rattle.middleware.proofs.Served.{changed}
use Rattle.engine.specs.Seen.{seen}
use Rattle.middleware.specs.Meaning.{held}
use Rattle.middleware.proofs.middleware.Middleware.commit.Goals as goal

pub returns : goal.returns
returns g c =
    let before = held g.B.Bank.stores c.args.self.now in
    let x = changed verdict_listed (Commit c.args.t) before _ _ c.asked.ensures.answer (seen g.B.Bank.stores c.commit.new.self) (committing before c.args.t) refl c.commit.ensures.answer c.commit.ensures.after in
    record { law = x.law; stays = x.stays; names = x.names }
