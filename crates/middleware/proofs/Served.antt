-- A call that is the machine's, with the call put beside a refusal, is the plain board's.
use Rattle.std.proofs.Common.{◌≡◌, ℕ, ◌+◌, ◌<◌, ◌≤◌, false, List, [], ◌∷◌, ◌++◌, length, get_or, take, Ok, Err, Result, sym, refl, ap, ◌∙◌, subst, arith}
use Rattle.std.proofs.lemmas.List.{take_more, take_all, length-take-le}
use Rattle.calls.specs.declared.call.Call.{Call}
use Rattle.machine.specs.declared.reason.Reason.{Reason}
use Rattle.machine.specs.Machine.{Machine, Came}
use Rattle.law.specs.History.{Answer, History, accepted}
use Rattle.law.specs.History.Event.{event}
use Rattle.law.specs.Opening.{board_step}
use Rattle.ledger.specs.declared.numbered.Numbered.{Numbered}
use Rattle.ledger.specs.Sets.{SetModel, set_of}
use Rattle.engine.specs.Seen.{set_seen}
use Rattle.refinement.specs.Answers.{answered, set_listed}
use Rattle.refinement.specs.Steps.{came, machine_step, machine_open}
use Rattle.refinement.specs.Worlds.{plain_of}
use Rattle.refinement.specs.Refusals.{Unmoved, Stays}
use Rattle.refinement.specs.Sound.{Sound, Follows, Fresh, LawfulStores}
use Rattle.tickets.specs.Boards.{Board}
use Rattle.stores.specs.Model.{StoreModel}
use Rattle.refinement.specs.Promise.{Ran}
use Rattle.machine.specs.Beginning.{beginning}
use Rattle.refinement.specs.Places.{PlaceWasShut}
use Rattle.refinement.proofs.Begun.{every_place}
use Rattle.refinement.proofs.Calls.{every_call}
use Rattle.refinement.proofs.Opened.{every_making, every_opening, opening_keeps_stores}
use Rattle.refinement.proofs.Refusals.{every_opening_stays, every_refusal_stays}
use Rattle.refinement.proofs.Queues.{ran_more}
use Rattle.middleware.specs.declared.fault.Asked.{Asked}
use Rattle.middleware.specs.declared.fault.Asked.TheVariants.{Queued}
use Rattle.middleware.specs.declared.fault.BoardFault.{BoardFault}
use Rattle.middleware.specs.declared.answer.Answer.{Answer as Answer'}
use Rattle.middleware.specs.Listing.{listed, result_listed, refusal_in, refusal_of, asked_to, asked_as, set_held, past}
use Rattle.middleware.specs.Serving.{Serves, Tells, Names, Asks, Carries, AllCarry, GetsShutPlace, Made, Opens, RunsOn}

-- what was asked, beside a refusal, does not change what is listed
pub listed_as : {A : Type 0} (f : A → Answer) (what : Asked) (r : Result A Reason) → result_listed f (asked_to what r) ≡ answered f r
listed_as f what (Ok a) = refl
listed_as f what (Err e) = refl

-- what was asked stands beside a refusal
named_so : {A : Type 0} (what : Asked) (q : Result A Reason) → Names what (asked_to what q)
named_so what (Ok a) = tt
named_so what (Err e) = refl

pub named : {A : Type 0} (what : Asked) (q : Result A Reason) (r : Result A BoardFault) → r ≡ asked_to what q → Names what r
named {A} what q r e = subst (λ (x : Result A BoardFault). Names what x) (sym e) (named_so what q)

-- what the contract of a call that changes the board says, and of one that changes nothing
pub record Changed {A : Type 0} (f : A → Answer) (c : Call) (before : Machine) (r : Result A BoardFault) (after : Machine) : Type 0 where
  pub law : Serves c before (result_listed f r) after
  pub stays : Stays before (result_listed f r) after
  pub names : Names (Queued c) r

pub record Looked {A : Type 0} (f : A → Answer) (c : Call) (m : Machine) (r : Result A BoardFault) : Type 0 where
  pub law : Tells c m (result_listed f r)
  pub names : Names (Queued c) r

module _ {A : Type 0} (f : A → Answer) (c : Call) (before : Machine) (q : Result A Reason) (r : Result A BoardFault) (said : r ≡ asked_as c q) where
  list : result_listed f r ≡ answered f q
  list = ap (result_listed f) said ∙ listed_as f (Queued c) q

  -- what it answers, and what is left, is the machine's
  reached : (after : Machine) (o : Came A) → machine_step c before ≡ came f o → q ≡ o.answer → after ≡ o.after → machine_step c before ≡ (result_listed f r, after)
  reached after o is answer left = is ∙ (λ i. (sym (list ∙ ap (answered f) answer) i, sym left i))

  serves : (after : Machine) (o : Came A) → machine_step c before ≡ came f o → q ≡ o.answer → after ≡ o.after → Serves c before (result_listed f r) after
  serves after o is answer left sound =
      subst (λ (x : Answer × Machine). Follows (board_step c (plain_of before)) x.0 x.1) (reached after o is answer left) (every_call c before sound)

  stays : (after : Machine) (o : Came A) → machine_step c before ≡ came f o → q ≡ o.answer → after ≡ o.after → Stays before (result_listed f r) after
  stays after o is answer left = subst (λ (x : Answer × Machine). Stays before x.0 x.1) (reached after o is answer left) (every_refusal_stays c before)

  pub changed : (after : Machine) (o : Came A) → machine_step c before ≡ came f o → q ≡ o.answer → after ≡ o.after → Changed f c before r after
  changed after o is answer left =
      record { law = serves after o is answer left; stays = stays after o is answer left; names = named (Queued c) q r said }

  tells : (o : Result A Reason) → machine_step c before ≡ (answered f o, before) → q ≡ o → Tells c before (result_listed f r)
  tells o is answer sound =
      list ∙ ap (answered f) answer ∙ sym (ap (λ (x : Answer × Machine). x.0) is) ∙ (every_call c before sound).answer

  pub looked : (o : Result A Reason) → machine_step c before ≡ (answered f o, before) → q ≡ o → Looked f c before r
  looked o is answer = record { law = tells o is answer; names = named (Queued c) q r said }

-- a numbered write set is listed by what it means
listed_set : (r : Result Numbered Reason) → answered (λ (w : Numbered). set_listed (set_of w)) r ≡ answered set_listed (set_seen r)
listed_set (Ok w) = refl
listed_set (Err e) = refl

pub tells_set : (c : Call) (m : Machine) (q : Result Numbered Reason) (r : Result Numbered BoardFault) → r ≡ asked_as c q → (o : Result SetModel Reason) → machine_step c m ≡ (answered set_listed o, m) → set_seen q ≡ o → Tells c m (result_listed (λ (w : Numbered). set_listed (set_of w)) r)
tells_set c m q r said o is answer sound =
    ap (result_listed (λ (w : Numbered). set_listed (set_of w))) said ∙ listed_as (λ (w : Numbered). set_listed (set_of w)) (Queued c) q ∙ listed_set q
    ∙ ap (answered set_listed) answer ∙ sym (ap (λ (x : Answer × Machine). x.0) is) ∙ (every_call c m sound).answer

-- with the call beside a refusal, all that is held of it stays
held_as : (c : Call) (q : Result Numbered Reason) → set_held (asked_as c q) ≡ asked_as c (set_seen q)
held_as c (Ok w) = refl
held_as c (Err e) = refl

pub whole_set : (c : Call) (q : Result Numbered Reason) (r : Result Numbered BoardFault) (o : Result SetModel Reason) → r ≡ asked_as c q → set_seen q ≡ o → set_held r ≡ asked_as c o
whole_set c q r o said answer = ap set_held said ∙ held_as c q ∙ ap (asked_as c) answer

-- ---- the same call as one of a queue

-- its refusal carries the call
carried : {A : Type 0} (c : Call) (r : Result A BoardFault) (a : Answer') → refusal_in a ≡ refusal_of r → Names (Queued c) r → Carries c a
carried c (Ok x) a e n = subst (Asks (Queued c)) (sym e) tt
carried c (Err f) a e n = subst (Asks (Queued c)) (sym e) n

-- a call that changes nothing
serves_told : (c : Call) (m : Machine) (a b : Answer) → (machine_step c m).1 ≡ m → b ≡ a → Tells c m a → Serves c m b m
serves_told c m a b still e f sound =
    let x = every_call c m sound in
    record { answer = e ∙ f sound; after = ap plain_of (sym still) ∙ x.after; sound = sound }

stays_told : (m : Machine) (a : Answer) → Stays m a m
stays_told m a = record { sound = λ _ _. refl; faultless = λ _ _. refl }

pub record Answered (c : Call) (m : Machine) (a : Answer') : Type 0 where
  pub law : Serves c m (listed a) m
  pub stays : Stays m (listed a) m
  pub names : Carries c a

pub answered_as : {A : Type 0} (f : A → Answer) (c d : Call) (m : Machine) (r : Result A BoardFault) (a : Answer') → c ≡ d → (machine_step d m).1 ≡ m → listed a ≡ result_listed f r → refusal_in a ≡ refusal_of r → Tells d m (result_listed f r) → Names (Queued d) r → Answered c m a
answered_as f c d m r a is still e refusal t n =
    subst (λ (x : Call). Answered x m a) (sym is)
    (record { law = serves_told d m (result_listed f r) (listed a) still e t; stays = stays_told m (listed a); names = carried d r a refusal n })

-- ---- one more call of a queue

-- its answer behind the others
pub past_push : (cs : List Call) (as' : List Answer') (c : Call) (a : Answer') (h : History) → length cs ≡ length as' → past (cs ++ c ∷ []) (as' ++ a ∷ []) h ≡ event c (listed a) ∷ past cs as' h
unfolding past
past_push [] [] c a h e = refl
past_push [] (b ∷ as') c a h e = absurd (omega arith)
past_push (d ∷ cs) [] c a h e = absurd (omega arith)
past_push (d ∷ cs) (b ∷ as') c a h e = past_push cs as' c a (event d (listed b) ∷ h) (omega arith)

pub runs_more : (first before after : Machine) (cs : List Call) (as' : List Answer') (c : Call) (a : Answer') → length cs ≡ length as' → RunsOn first cs (past cs as' []) before → Serves c before (listed a) after → RunsOn first (cs ++ c ∷ []) (past (cs ++ c ∷ []) (as' ++ a ∷ []) []) after
runs_more first before after cs as' c a e r s start K new =
    let ran = r start K new in
    subst (λ (h : History). Ran start K (cs ++ c ∷ []) h after) (sym (past_push cs as' c a [] e))
    (ran_more start K cs (past cs as' []) before c (listed a) after ran (s ran.sound))

pub runs_next : (first before after : Machine) (queue : List Call) (i : ℕ) (as' more : List Answer') (d : Call) (a : Answer') → i < length queue → length as' ≡ i → more ≡ as' ++ a ∷ [] → RunsOn first (take i queue) (past (take i queue) as' []) before → Serves (get_or queue i d) before (listed a) after → RunsOn first (take (i + 1) queue) (past (take (i + 1) queue) more []) after
runs_next first before after queue i as' more d a h l e r s =
    let n = length-take-le i queue (omega arith) in
    let t = take_more queue i d h in
    subst (λ (x : List Call × List Answer'). RunsOn first x.0 (past x.0 x.1 []) after) (λ k. (sym t k, sym e k))
    (runs_more first before after (take i queue) as' (get_or queue i d) a (omega arith) r s)

pub runs_all : (first after : Machine) (queue : List Call) (i : ℕ) (as' : List Answer') → length queue ≤ i → RunsOn first (take i queue) (past (take i queue) as' []) after → RunsOn first queue (past queue as' []) after
runs_all first after queue i as' h r = subst (λ (x : List Call). RunsOn first x (past x as' []) after) (take_all i queue h) r

pub carry_push : (cs : List Call) (as' : List Answer') (c : Call) (a : Answer') → length cs ≡ length as' → AllCarry cs as' → Carries c a → AllCarry (cs ++ c ∷ []) (as' ++ a ∷ [])
unfolding AllCarry
carry_push [] [] c a e all one = (one, tt)
carry_push [] (b ∷ as') c a e all one = absurd (omega arith)
carry_push (d ∷ cs) [] c a e all one = absurd (omega arith)
carry_push (d ∷ cs) (b ∷ as') c a e all one = (all.0, carry_push cs as' c a (omega arith) all.1 one)

pub carry_next : (queue : List Call) (i : ℕ) (as' more : List Answer') (d : Call) (a : Answer') → i < length queue → length as' ≡ i → more ≡ as' ++ a ∷ [] → AllCarry (take i queue) as' → Carries (get_or queue i d) a → AllCarry (take (i + 1) queue) more
carry_next queue i as' more d a h l e all one =
    let n = length-take-le i queue (omega arith) in
    let t = take_more queue i d h in
    subst (λ (x : List Call × List Answer'). AllCarry x.0 x.1) (λ k. (sym t k, sym e k)) (carry_push (take i queue) as' (get_or queue i d) a (omega arith) all one)

pub carry_all : (queue : List Call) (i : ℕ) (as' : List Answer') → length queue ≤ i → AllCarry (take i queue) as' → AllCarry queue as'
carry_all queue i as' h all = subst (λ (x : List Call). AllCarry x as') (take_all i queue h) all

-- ---- making and opening

pub makes : (ms : List StoreModel) (start : Board) (b : Machine) → LawfulStores ms → b ≡ record { opened = false; start = start; stores = ms; txns = []; sets = [] } → Made ms b
makes ms start b ok e =
    let new : Fresh b = subst Fresh (sym e) (record { unopened = refl; transactions = refl; write_sets = refl }) in
    let s = ap (λ (x : Machine). x.stores) e in
    record { stores = s; plain = ap plain_of e; sound = every_making b new (subst LawfulStores (sym s) ok) }

pub opens : (before after : Machine) (a : Answer) → a ≡ (machine_open before).0 → after ≡ (machine_open before).1 → Opens before a after
opens before after a answer left =
    record {
      follows = λ sound.
          let e = every_opening before sound in
          record { answer = answer ∙ e.answer; after = ap plain_of left ∙ e.after; sound = subst Sound (sym left) e.sound };
      bank = ap (λ (x : Machine). x.stores) left ∙ opening_keeps_stores before;
    }

pub opening_stays : (before after : Machine) (a : Answer) → a ≡ (machine_open before).0 → after ≡ (machine_open before).1 → Unmoved before a after
opening_stays before after a answer left refused = left ∙ every_opening_stays before (sym (ap accepted answer) ∙ refused)

-- the place that a begin takes
told_as : (c : Call) (q : Result ℕ Reason) (r : Result ℕ BoardFault) (t : ℕ) → r ≡ asked_as c q → r ≡ Ok t → q ≡ Ok t
told_as c (Ok n) r t e f = let z : n ≡ t = cc in ap Ok z
told_as c (Err x) r t e f = let z : ◌≡◌ {A = ℕ} 0 1 = cc in absurd (omega arith)

pub gets_shut_place : (c : Call) (before after : Machine) (k : ℕ) (q : Result ℕ Reason) (r : Result ℕ BoardFault) → r ≡ asked_as c q → q ≡ (beginning before k).answer → after ≡ (beginning before k).after → GetsShutPlace before k r after
gets_shut_place c before after k q r said answer left t is =
    subst (PlaceWasShut before k t) (sym left) (every_place before k t (sym answer ∙ told_as c q r t said is))
