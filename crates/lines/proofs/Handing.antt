-- Handing out the lines to the last gives all of them, in order.
use Rattle.std.proofs.Common.{◌≡◌, ℕ, List, length, Option, sym, ap, ◌∙◌, Bor}
use Rattle.std.specs.Option.{option_map}
use Rattle.std.specs.Iterator.Runs.{WholeRun, YieldsRun}
use Rattle.std.proofs.lemmas.Iterator.{YieldsList, items_from_drains}
use Rattle.std.proofs.lemmas.List.{length-map}
use Rattle.std.proofs.lemmas.Iterator.Consumers.{YieldsList-from_shown}
use Rattle.lines.specs.declared.lines.Lines.{Lines}
use Rattle.lines.specs.Scripts.{lines_left, HandsOut}

-- one call of `next`
abbrev pub Steps : Lines → Option (Bor (List ℕ)) → Lines → Type 0
Steps s r t = HandsOut (lines_left s) (option_map (λ x. x.now) r) (lines_left t)

pub the_lines_in_turn : (s : Lines) → YieldsList Steps (λ l. l.now) s (lines_left s)
the_lines_in_turn s = YieldsList-from_shown Steps (λ l. l.now) lines_left (λ t u none. ap length none.0) (λ t l u some. some) s

pub counting_the_lines : (s : Lines) (n : ℕ) → WholeRun Steps s (λ p. n ≡ p.len) → n ≡ length (lines_left s)
unfolding YieldsRun
counting_the_lines s n (p, from, whole, is) =
    let (t, came, then-none) = p.gave.0 in
    let all = items_from_drains p.items (t, came, λ _. then-none whole) (the_lines_in_turn p.from) in
    is ∙ p.long ∙ sym (length-map p.items (λ l. l.now)) ∙ ap length all ∙ ap (λ k. length (lines_left k)) from
