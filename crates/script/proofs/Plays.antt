-- A script that was run keeps the promise: the board was made, opened, and given line after line.
use Rattle.std.proofs.Common.{◌≡◌, ℕ, List, ◌++◌, length, drop, None, refl, ap, ◌∙◌}
use Rattle.stores.specs.Model.{StoreModel}
use Rattle.lines.specs.Scripts.{lines_of}
use Rattle.machine.specs.Machine.{Machine}
use Rattle.law.specs.History.Answer.{done}
use Rattle.law.specs.Opening.{PlainBoard, start_of}
use Rattle.refinement.specs.Stores.{law_bank}
use Rattle.refinement.specs.Sound.{LawfulStores}
use Rattle.refinement.proofs.Queues.{ran_none, promised_served}
use Rattle.middleware.specs.Serving.{Made, Opens}
use Rattle.middleware.proofs.Runs.{opened_as}
use Rattle.script.specs.Replies.{calls_of, text}
use Rattle.script.specs.Serving.{ServesLines}
use Rattle.script.specs.Promise.{unfit, Plays}

pub played : (ms : List StoreModel) → LawfulStores ms → (made first : Machine) → Made ms made → Opens made done first →
    (script buffer : List ℕ) (n : ℕ) (filled : List ℕ) (last : Machine) (left : List StoreModel) →
    unfit script (length buffer) ≡ None → ServesLines (lines_of script) first buffer n filled last → left ≡ last.stores →
    Plays (law_bank ms) script buffer n filled (law_bank left)
played ms ok made first new opened script buffer n filled last left fit serves kept =
    let lines = lines_of script in
    let f = opened_as ms ok (calls_of lines) made first new done opened in
    let s = serves (start_of (law_bank ms)) (length (law_bank ms)) (ran_none ms done first f refl) in
    record {
      fit = fit;
      ends = s.ends ∙ ap (λ (p : PlainBoard). length (text 1 lines p)) f.after;
      bytes = s.bytes ∙ ap (λ (p : PlainBoard). text 1 lines p ++ drop n buffer) f.after;
      law = (s.ran.0, rw kept (promised_served ms ok (calls_of lines) done s.ran.0 last f.answer refl s.ran.1));
    }
