-- At home or elsewhere, as the write set's home has it.
use Rattle.std.proofs.Common.{ap, ◌∙◌}
use Rattle.ledger.specs.Sets.{set_of}
use Rattle.machine.specs.Machine.{Came}
use Rattle.machine.proofs.Played.{plays_home, plays_away}
use Rattle.engine.specs.Seen.{seen}
use Rattle.engine.proofs.engine.Engine.play.Goals as goal

pub returns-then-x-replica : goal.returns-then-x-replica
returns-then-x-replica g c =
    let b = seen g.B.Bank.stores c.args.self.now in
    let all = plays_home b c.args.replica c.args.n c.requires (set_of c.in_ok-x.x) c.in_ok-x.ensures.answer c.if-x-replica.true in
    record { answer = c.play_home.ensures.answer ∙ ap (λ (o : Came (Unit {0})). o.answer) all; after = c.play_home.ensures.after ∙ ap (λ (o : Came (Unit {0})). o.after) all }

pub returns : goal.returns
returns g c =
    let b = seen g.B.Bank.stores c.args.self.now in
    let all = plays_away b c.args.replica c.args.n c.requires (set_of c.in_ok-x.x) c.in_ok-x.ensures.answer c.if-x-replica.false in
    record { answer = c.play_away.ensures.answer ∙ ap (λ (o : Came (Unit {0})). o.answer) all; after = c.play_away.ensures.after ∙ ap (λ (o : Came (Unit {0})). o.after) all }
