use Rattle.std.proofs.Common.{refl}
use Rattle.calls.specs.declared.call.Call.TheVariants.{Read, Value, State, WriteSet, Applied}
use Rattle.ledger.specs.Sets.{set_of}
use Rattle.law.specs.History.Answer.{told}
use Rattle.refinement.specs.Answers.{state_listed, set_listed, progress_listed}
use Rattle.middleware.proofs.Served.{answered_as}
use Rattle.middleware.specs.Meaning.{held}
use Rattle.middleware.proofs.middleware.Middleware.call.Goals as goal

pub returns-in-Read : goal.returns-in-Read
returns-in-Read g c =
    let said = c.of-in-Read.ensures in
    let x = answered_as told c.args.call (Read c.in-Read.t c.in-Read.j) (held g.B.Bank.stores c.args.self.now) _ c.of-in-Read.result c.in-Read.is refl said.answer said.refusal c.read.ensures.law c.read.ensures.names in
    record { law = x.law; stays = x.stays; names = x.names }

pub returns-in-Value : goal.returns-in-Value
returns-in-Value g c =
    let said = c.of-in-Value.ensures in
    let x = answered_as told c.args.call (Value c.in-Value.k c.in-Value.j) (held g.B.Bank.stores c.args.self.now) _ c.of-in-Value.result c.in-Value.is refl said.answer said.refusal c.value.ensures.law c.value.ensures.names in
    record { law = x.law; stays = x.stays; names = x.names }

pub returns-in-State : goal.returns-in-State
returns-in-State g c =
    let said = c.of-in-State.ensures in
    let x = answered_as state_listed c.args.call (State c.in-State.t) (held g.B.Bank.stores c.args.self.now) _ c.of-in-State.result c.in-State.is refl said.answer said.refusal c.state.ensures.law c.state.ensures.names in
    record { law = x.law; stays = x.stays; names = x.names }

pub returns-in-WriteSet : goal.returns-in-WriteSet
returns-in-WriteSet g c =
    let said = c.of-in-WriteSet.ensures in
    let x = answered_as (λ w. set_listed (set_of w)) c.args.call (WriteSet c.in-WriteSet.n) (held g.B.Bank.stores c.args.self.now) _ c.of-in-WriteSet.result c.in-WriteSet.is refl said.answer said.refusal c.write_set.ensures.law c.write_set.ensures.names in
    record { law = x.law; stays = x.stays; names = x.names }

pub returns-in-Applied : goal.returns-in-Applied
returns-in-Applied g c =
    let said = c.of-in-Applied.ensures in
    let x = answered_as progress_listed c.args.call (Applied c.in-Applied.k) (held g.B.Bank.stores c.args.self.now) _ c.of-in-Applied.result c.in-Applied.is refl said.answer said.refusal c.progress.ensures.law c.progress.ensures.names in
    record { law = x.law; stays = x.stays; names = x.names }
