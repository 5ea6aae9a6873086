use Rattle.std.proofs.Common.{rules, ◌≡◌, length, get_or, take, ap, ◌∙◌}
use Rattle.std.specs.Char.{is_ascii_digit}
use Rattle.std.specs.List.{take_while}
use Rattle.std.specs.Option.{option_map}
use Rattle.lines.specs.Tokens.{piece, left_of}
use Rattle.lines.proofs.Cutting.{behind_the_first, number_in_front}
use Rattle.lines.proofs.tokens.Tokens.front.Goals as goal

pub returns-in-32-clause-answer : goal.returns-in-32-clause-answer
returns-in-32-clause-answer c =
    let rest = left_of c.args.self.now in
    let space : get_or rest 0 0 ≡ 32 = search rules in
    let behind = behind_the_first c.args.self.now.line.now c.args.self.now.at in
    let n = c.digit_count-digits.result in
    ap (option_map piece) c.then_some.ensures
    ∙ number_in_front rest n _ _ space (c.digit_count-digits.ensures ∙ ap (λ l. length (take_while is_ascii_digit l)) behind) (ap (take n) behind)
