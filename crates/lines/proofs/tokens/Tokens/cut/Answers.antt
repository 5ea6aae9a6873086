use Rattle.std.proofs.Common.{◌+◌, length, drop, Some, ap, arith}
use Rattle.std.proofs.lemmas.List.{length-drop}
use Rattle.lines.specs.Tokens.{piece, taken_off}
use Rattle.lines.proofs.Cutting.{what_is_taken_off_comes_first, going_on_behind_the_token, token_and_what_is_left}
use Rattle.lines.proofs.tokens.Tokens.cut.Goals as goal

pub returns : goal.returns
returns c =
    let line = c.args.self.now.line.now in
    let at = c.args.self.now.at in
    let token = c.in_ok-token.ensures in
    let o = Some (piece c.in_ok-token.token) in
    let wide = c.width.ensures.answer in
    record {
      answer = token.answer;
      place = token.place;
      after = (going_on_behind_the_token line at c.width.result o token.answer wide, ap (λ w. at + w) wide);
      law = token_and_what_is_left line at c.width.result o token.answer wide;
    }

pub invariant_of-self : goal.invariant_of-self
invariant_of-self c =
    let line = c.args.self.now.line.now in
    let at = c.args.self.now.at in
    let short = (what_is_taken_off_comes_first (drop at line)).short in
    record { within = omega (arith, c.width.ensures.answer, ap (λ o. length (taken_off o)) c.in_ok-token.ensures.answer, length-drop at line) }
