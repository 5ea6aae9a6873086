-- A whole run keeps the promise: made, opened, and call after call to the end.
use Rattle.std.proofs.Common.{◌≡◌, true, false, cond, List, [], length, sym, refl, ap, ◌∙◌, subst}
use Rattle.calls.specs.declared.call.Call.{Call}
use Rattle.stores.specs.Model.{StoreModel}
use Rattle.machine.specs.declared.reason.Reason.{Reason}
use Rattle.machine.specs.Reasons.{from_store, listed}
use Rattle.machine.specs.Machine.{Machine}
use Rattle.law.specs.History.{Answer, History, accepted}
use Rattle.law.specs.History.Answer.{done, refused, fault}
use Rattle.law.specs.Opening.{PlainBoard, board_open, start_of}
use Rattle.law.specs.Promise.{Promised}
use Rattle.refinement.specs.Answers.{refusal}
use Rattle.refinement.specs.Stores.{law_bank}
use Rattle.refinement.specs.Sound.{LawfulStores, Follows}
use Rattle.refinement.proofs.Queues.{ran_none, promised_served, promised_refused}
use Rattle.middleware.specs.Serving.{Made, Opens, RunsOn}

-- a refusal is not accepted
pub refusal_refuses : (e : Reason) → accepted (refusal e) ≡ false
refusal_refuses e =
    elim (from_store e) as (λ b. accepted (cond b (fault (listed e).0) (refused (listed e).0 (listed e).1)) ≡ false) [ true ↦ refl | false ↦ refl ]

module _ (ms : List StoreModel) (ok : LawfulStores ms) (queue : List Call) (made first : Machine) (new : Made ms made) (a : Answer) (o : Opens made a first) where
  pub opened_as : Follows (board_open (law_bank ms) PlainBoard.unopened) a first
  opened_as =
      subst (λ (x : List StoreModel × PlainBoard). Follows (board_open (law_bank x.0) x.1) a first) (λ i. (new.stores i, new.plain i)) (o.follows new.sound)

  pub served : (h : History) (last : Machine) → a ≡ done → RunsOn first queue h last → Promised (law_bank ms) queue a h (law_bank last.stores)
  served h last e r =
      let yes : accepted a ≡ true = ap accepted e in
      promised_served ms ok queue a h last opened_as.answer yes (r (start_of (law_bank ms)) (length (law_bank ms)) (ran_none ms a first opened_as yes))

  pub turned_down : (e : Reason) → a ≡ refusal e → Promised (law_bank ms) queue a [] (law_bank first.stores) × (first.stores ≡ ms)
  turned_down e is =
      let same = o.bank ∙ new.stores in
      (subst (λ (k : List StoreModel). Promised (law_bank ms) queue a [] (law_bank k)) (sym same) (promised_refused ms queue a opened_as.answer (ap accepted is ∙ refusal_refuses e)), same)
