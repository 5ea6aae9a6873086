use Rattle.std.proofs.Common.{replicate}
use Rattle.engine.specs.Seen.{seen}
use Rattle.middleware.proofs.Served.{makes}
use Rattle.middleware.proofs.middleware.Middleware.new.Goals as goal

pub returns : goal.returns
returns g c =
    let bank = c.args.bank in
    record { made = makes (g.B.Bank.stores bank) (replicate 128 0) (seen g.B.Bank.stores c.in_ok-engine.engine) (g.met.B.Bank.lawful bank) c.in_ok-engine.ensures.made }
