use Rattle.std.proofs.Common.{◌≡◌, length, None, rules}
use Rattle.middleware.specs.Meaning.{held}
use Rattle.script.specs.Promise.{unfit}
use Rattle.script.proofs.Plays.{played}
use Rattle.script.proofs.scripts.run_script.Goals as goal

pub returns : goal.returns
returns g c =
    let stores = g.B.Bank.stores in
    let fit : unfit c.args.script.now (length c.args.buffer.now) ≡ None = search rules in
    record { law = played (stores c.args.bank) (g.met.B.Bank.lawful c.args.bank) (held stores c.in-Ok.board) (held stores c.open.new.self) c.in-Ok.ensures.made c.in_default-open.ensures.law _ _ _ _ (held stores c.serve_lines-length.new.board) _ fit c.serve_lines-length.ensures.law c.into_bank-2.ensures.answer }
