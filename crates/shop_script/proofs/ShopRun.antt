-- Four stations of zeros are opened, and a script runs on the plain board of four replicas of zeros.
use Rattle.std.proofs.Common.{◌≡◌, ℕ, true, false, cond, List, [], ◌∷◌, ◌++◌, length, drop, replicate, Err, sym, refl, ap, ◌∙◌, subst, arith}
use Rattle.beside.specs.declared.Beside.{Beside}
use Rattle.copy_store.specs.Copied as copied
use Rattle.version_store.specs.Meaning as versions
use Rattle.stores.specs.Model.{StoreModel}
use Rattle.shop.specs.Shop.{Two, EmptyShop}
use Rattle.lines.specs.Scripts.{lines_of}
use Rattle.law.specs.History.{Answer, accepted}
use Rattle.law.specs.History.Answer.{done}
use Rattle.law.specs.Opening.{PlainBoard, opening, open_from, first_object, board_open}
use Rattle.law.specs.Plain.{just_opened}
use Rattle.law.specs.Store.{Store}
use Rattle.refinement.specs.Stores.{law_bank}
use Rattle.script.specs.Replies.{text}
use Rattle.script.specs.Promise.{Plays, ScriptPromise}
use Rattle.shop_script.specs.Promise.{shop_stores, shop_answers, ShopRuns}
use Rattle.script.specs.declared.run.Unplayed.{Unplayed}
use Rattle.script.specs.declared.run.Unplayed.TheVariants.{NotOpened}
use Rattle.middleware.specs.declared.fault.BoardFault.{BoardFault}
use Rattle.middleware.specs.Listing.{fault_listed}
use Rattle.middleware.proofs.Runs.{refusal_refuses}

-- what the stores of a shop's bank mean
abbrev pub stores_of : Beside Two Two → List StoreModel
stores_of b = versions.meaning_of b.left.left ∷ copied.meaning_of b.left.right ∷ versions.meaning_of b.right.left ∷ copied.meaning_of b.right.right ∷ []

pub empty_shop_is_four_zeros : (b : Beside Two Two) → EmptyShop b → stores_of b ≡ shop_stores
empty_shop_is_four_zeros b e i = e.first_two.version i ∷ e.first_two.copy i ∷ e.last_two.version i ∷ e.last_two.copy i ∷ []

pub zeros_are_opened : opening (law_bank shop_stores) ≡ done
unfolding open_from first_object
zeros_are_opened = refl

opened_zeros : (board_open (law_bank shop_stores) PlainBoard.unopened).1 ≡ PlainBoard.opened (just_opened (replicate 128 0) 4)
opened_zeros =
    ap (λ (a : Answer). cond (accepted a) (PlainBoard.opened (just_opened (replicate 128 0) 4)) PlainBoard.unopened) zeros_are_opened

pub shop_runs : (ms : List StoreModel) → ms ≡ shop_stores → (script buffer : List ℕ) (n : ℕ) (filled : List ℕ) (left : List Store) → Plays (law_bank ms) script buffer n filled left → ShopRuns script buffer n filled
shop_runs ms e script buffer n filled left plays =
    let p = subst (λ (k : List StoreModel). Plays (law_bank k) script buffer n filled left) e plays in
    let answers : text 1 (lines_of script) (board_open (law_bank shop_stores) PlainBoard.unopened).1 ≡ shop_answers script = ap (text 1 (lines_of script)) opened_zeros in
    record {
      fit = p.fit;
      ends = p.ends ∙ ap length answers;
      bytes = p.bytes ∙ ap (λ (l : List ℕ). l ++ drop n buffer) answers;
      law = (p.law.0, (left, p.law.1));
    }

-- no fault is an accepted answer
no_fault_is_done : (f : BoardFault) → fault_listed f ≡ done → ⊥
no_fault_is_done f e = let z : true ≡ false = sym (ap accepted e) ∙ refusal_refuses f.reason in let n : ◌≡◌ {A = ℕ} 0 1 = cc in omega arith

pub never_unopened : (b : Beside Two Two) → EmptyShop b → (script buffer filled : List ℕ) (u : Unplayed (Beside Two Two)) (f : BoardFault) (back : Beside Two Two) → u ≡ NotOpened f back → ScriptPromise stores_of b script buffer (Err u) filled → ⊥
never_unopened b e script buffer filled u f back is promise =
    let p : ScriptPromise stores_of b script buffer (Err (NotOpened f back)) filled = subst (λ (x : Unplayed (Beside Two Two)). ScriptPromise stores_of b script buffer (Err x) filled) is promise in
    no_fault_is_done f (p.1 ∙ ap (λ (ms : List StoreModel). opening (law_bank ms)) (empty_shop_is_four_zeros b e) ∙ zeros_are_opened)
