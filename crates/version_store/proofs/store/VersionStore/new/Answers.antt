use Rattle.std.proofs.Common.{◌≡◌, length, replicate, None, ap, ◌∙◌, rules}
use Rattle.versions.specs.Meaning.{history_of}
use Rattle.versions.proofs.Histories.{board_started}
use Rattle.version_store.specs.Meaning.{store_over}
use Rattle.version_store.proofs.store.VersionStore.new.Goals as goal

pub returns-clause-answer : goal.returns-clause-answer
returns-clause-answer c =
    let whole : length c.args.values ≡ 128 = search rules in
    ap (store_over (history_of c.in_ok-history.history)) c.closed.ensures.answer
    ∙ ap (λ h. store_over h (replicate 16 None)) c.in_ok-history.ensures.answer
    ∙ ap (λ b. record { board = b; commits = 0; most = 256; places = replicate 16 None }) (board_started c.args.values whole)
