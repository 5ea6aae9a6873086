-- Whole runs of a machine: made, opened, and given a queue, call after call.
use Rattle.std.proofs.Common.{◌≡◌, ℕ, Bool, true, false, List, [], ◌∷◌, ◌++◌, length, refl, ap, subst, append_assoc}
use Rattle.std.proofs.lemmas.List.{append-nil}
use Rattle.calls.specs.declared.call.Call.{Call}
use Rattle.tickets.specs.Boards.{Board}
use Rattle.stores.specs.Model.{StoreModel}
use Rattle.machine.specs.Machine.{Machine}
use Rattle.law.specs.History.{Answer, accepted, History, run_of}
use Rattle.law.specs.History.Event.{event}
use Rattle.law.specs.Opening.{PlainBoard, start_of, opening, board_open, board_step}
use Rattle.law.specs.Promise as law
use Rattle.law.specs.Promise.{Promised}
use Rattle.law.specs.Sound as middle
use Rattle.law.proofs.Promised as promised
use Rattle.law.specs.Store.{Store}
use Rattle.refinement.specs.Stores.{law_bank}
use Rattle.refinement.specs.Worlds.{middle_of, plain_of}
use Rattle.refinement.specs.Steps.{machine_open, machine_step}
use Rattle.refinement.specs.Sound.{LawfulStores, Follows}
use Rattle.refinement.specs.Promise.{Ran, run_from, EveryQueue, OwnBoards}
use Rattle.refinement.proofs.Calls.{unopened_is, every_call}
use Rattle.refinement.proofs.Opened.{every_making, every_opening, opening_keeps_stores, bank_is, lawful_bank}

-- what a machine comes to is what the law's middleware does
law_ran : (start : Board) (K : ℕ) (cs : List Call) (h : History) (b : Machine) → Ran start K cs h b → law.Ran start K cs h (middle_of b)
law_ran start K cs h b r = record { answers = r.answers; plain = r.plain; sound = r.sound.coupled }

law_follows : (o : Answer × PlainBoard) (a : Answer) (b : Machine) → Follows o a b → middle.Follows o a (middle_of b)
law_follows o a b f = record { answer = f.answer; after = f.after; sound = f.sound.coupled }

-- an accepted opening, and no call yet
pub ran_none : (ms : List StoreModel) (a : Answer) (b : Machine) → Follows (board_open (law_bank ms) PlainBoard.unopened) a b → accepted a ≡ true →
    Ran (start_of (law_bank ms)) (length (law_bank ms)) [] [] b
ran_none ms a b f e =
    let r = promised.ran_none (law_bank ms) a (middle_of b) (law_follows (board_open (law_bank ms) PlainBoard.unopened) a b f) e in
    record { answers = r.answers; plain = r.plain; sound = f.sound }

-- one more call
pub ran_more : (start : Board) (K : ℕ) (cs : List Call) (h : History) (b : Machine) (c : Call) (a : Answer) (d : Machine) →
    Ran start K cs h b → Follows (board_step c (plain_of b)) a d → Ran start K (cs ++ c ∷ []) (event c a ∷ h) d
ran_more start K cs h b c a d r f =
    let x = promised.ran_more start K cs h (middle_of b) c a (middle_of d) (law_ran start K cs h b r) (law_follows (board_step c (plain_of b)) a d f) in
    record { answers = x.answers; plain = x.plain; sound = f.sound }

-- at the end of the queue
pub promised_served : (ms : List StoreModel) → LawfulStores ms → (queue : List Call) (a : Answer) (h : History) (b : Machine) →
    a ≡ opening (law_bank ms) → accepted a ≡ true → Ran (start_of (law_bank ms)) (length (law_bank ms)) queue h b → Promised (law_bank ms) queue a h (law_bank b.stores)
promised_served ms ok queue a h b e d r =
    subst (λ (k : List Store). Promised (law_bank ms) queue a h k) (bank_is b)
    (promised.promised_served (law_bank ms) (lawful_bank ms ok) queue a h (middle_of b) e d (law_ran (start_of (law_bank ms)) (length (law_bank ms)) queue h b r))

-- a refused opening makes no call and leaves the bank
pub promised_refused : (ms : List StoreModel) (queue : List Call) (a : Answer) → a ≡ opening (law_bank ms) → accepted a ≡ false → Promised (law_bank ms) queue a [] (law_bank ms)
promised_refused ms queue a e d = promised.promised_refused (law_bank ms) queue a e d

-- the rest of a queue
ran_on : (start : Board) (K : ℕ) (cs made : List Call) (h : History) (b : Machine) → Ran start K made h b →
    Ran start K (made ++ cs) (run_of machine_step cs h b).0 (run_of machine_step cs h b).1
unfolding run_of
ran_on start K [] made h b r = rw (append-nil made) r
ran_on start K (c ∷ cs) made h b r =
    let f = every_call c b r.sound in
    let d = machine_step c b in
    rw (← (append_assoc made (c ∷ []) cs)) (ran_on start K cs (made ++ c ∷ []) (event c d.0 ∷ h) d.1 (ran_more start K made h b c d.0 d.1 r f))

pub every_queue : EveryQueue
every_queue b new ok queue = go (accepted a) refl
  where
    ms : List StoreModel
    ms = b.stores

    a : Answer
    a = (machine_open b).0

    o : Machine
    o = (machine_open b).1

    f : Follows (board_open (law_bank ms) PlainBoard.unopened) a o
    f =
        subst (λ (p : PlainBoard). Follows (board_open (law_bank ms) p) a o) (ap middle.plain_of (unopened_is b new.unopened))
        (every_opening b (every_making b new ok))

    go : (c : Bool) → accepted a ≡ c → Promised (law_bank ms) queue a (run_from queue c o).0 (law_bank (run_from queue c o).1.stores)
    go true e =
        promised_served ms ok queue a (run_of machine_step queue [] o).0 (run_of machine_step queue [] o).1 f.answer e
        (ran_on (start_of (law_bank ms)) (length (law_bank ms)) queue [] [] o (ran_none ms a o f e))
    go false e = rw (opening_keeps_stores b) (promised_refused ms queue a f.answer e)

pub own_boards : OwnBoards
own_boards [] = refl
own_boards (m ∷ ms) = ap (λ (l : List Board). m.board ∷ l) (own_boards ms)
