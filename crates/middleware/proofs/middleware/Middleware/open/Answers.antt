use Rattle.std.proofs.Common.{◌≡◌, ap, ◌∙◌}
use Rattle.refinement.specs.Answers.{answered, quiet}
use Rattle.refinement.specs.Steps.{machine_open}
use Rattle.engine.specs.Seen.{seen}
use Rattle.middleware.specs.Listing.{result_listed}
use Rattle.middleware.specs.Meaning.{held}
use Rattle.middleware.specs.declared.fault.Asked.TheVariants.{Open}
use Rattle.middleware.proofs.Served.{listed_as, opens, opening_stays, named}
use Rattle.middleware.proofs.middleware.Middleware.open.Goals as goal

pub returns : goal.returns
returns g c =
    let before = held g.B.Bank.stores c.args.self.now in
    let after = seen g.B.Bank.stores c.open.new.self in
    let said = c.asked_to.ensures.answer in
    let answer : result_listed quiet c.asked_to.result ≡ (machine_open before).0 = ap (result_listed quiet) said ∙ listed_as quiet Open c.open.result ∙ ap (answered quiet) c.open.ensures.answer in
    record {
      names = named _ _ _ said;
      law = opens before after _ answer c.open.ensures.after;
      stays = opening_stays before after _ answer c.open.ensures.after;
    }
