-- A whole run: opened, call after call, and what it promises at its end.
use Rattle.std.proofs.Common.{◌≡◌, ℕ, Bool, true, false, List, [], ◌∷◌, ◌++◌, map, length, sym, refl, ap, ◌∙◌, subst, append_assoc, arith}
use Rattle.std.proofs.lemmas.List.{append-nil}
use Rattle.std.proofs.lemmas.Bool.{both_ways}
use Rattle.calls.specs.declared.call.Call.{Call}
use Rattle.tickets.specs.Boards.{Board}
use Rattle.law.specs.History.{Answer, History, accepted, run_of}
use Rattle.law.specs.History.Event.{event}
use Rattle.law.specs.Law.{Law}
use Rattle.law.specs.Opening.{LawfulBank, PlainBoard, board_open, board_step, opening, start_of}
use Rattle.law.specs.Plain.{Plain, just_opened}
use Rattle.law.specs.Promise.{EveryQueue, NoFault, Promised, Ran, Served, opened_over, run_from}
use Rattle.law.specs.Sound.{Follows, Middle, bank_of, middle_step, new_world, plain_of}
use Rattle.law.specs.Steps.{run, step}
use Rattle.law.specs.Store.{Store}
use Rattle.law.specs.World.{Picks, board_of, world_plain}
use Rattle.law.proofs.Opening.{every_call, every_making, every_opening}
use Rattle.law.proofs.Queues.{law_of_run, no_faults}

-- one more call of a queue, on any machine
pub run_push : {X : Type 0} (f : Call → X → Answer × X) (cs : List Call) (c : Call) (h : History) (x : X) →
    run_of f (cs ++ c ∷ []) h x ≡ (event c (f c (run_of f cs h x).1).0 ∷ (run_of f cs h x).0, (f c (run_of f cs h x).1).1)
unfolding run_of
run_push f [] c h x = refl
run_push f (y ∷ cs) c h x = run_push f cs c (event y (f y x).0 ∷ h) (f y x).1

-- an accepted opening, and no call yet
pub ran_none : (bank : List Store) (a : Answer) (m : Middle) → Follows (board_open bank PlainBoard.unopened) a m → accepted a ≡ true → Ran (start_of bank) (length bank) [] [] m
unfolding run_of
ran_none bank a m f e = record { answers = refl; plain = f.after ∙ rw (ap accepted (sym f.answer) ∙ e); sound = f.sound }

-- one more call
pub ran_more : (start : Board) (K : ℕ) (cs : List Call) (h : History) (m : Middle) (c : Call) (a : Answer) (n : Middle) → Ran start K cs h m →
    Follows (board_step c (plain_of m)) a n → Ran start K (cs ++ c ∷ []) (event c a ∷ h) n
ran_more start K cs h m c a n r f =
    let p : Plain = (run cs [] (just_opened start K)).1 in
    let e = run_push step cs c [] (just_opened start K) in
    let o : board_step c (plain_of m) ≡ ((step c p).0, PlainBoard.opened (step c p).1) = ap (board_step c) r.plain in
    record {
      answers = rw (f.answer ∙ ap (λ (x : Answer × PlainBoard). x.0) o, r.answers) (sym (ap (λ (x : History × Plain). x.0) e));
      plain = f.after ∙ (ap (λ (x : Answer × PlainBoard). x.1) o ∙ ap PlainBoard.opened (sym (ap (λ (x : History × Plain). x.1) e)));
      sound = f.sound;
    }

-- the copies of an opened middleware are its stores' boards
bank_boards : (m : Middle) (p : Plain) → plain_of m ≡ PlainBoard.opened p → map board_of (bank_of m) ≡ p.boards
bank_boards (Middle.unopened w) p e = absurd (let z : ◌≡◌ {A = ℕ} 0 1 = cc in omega arith)
bank_boards (Middle.opened w) p e = let d : world_plain w ≡ p = cc in ap (λ (x : Plain). x.boards) d

pub served : (bank : List Store) → LawfulBank bank → (queue : List Call) (h : History) (m : Middle) → Ran (start_of bank) (length bank) queue h m → Served bank queue h (bank_of m)
served bank lawful queue h m r =
    record {
      answers = r.answers;
      copies = same;
      law = subst (λ (x : History). Law (start_of bank) (length bank) x (map board_of (bank_of m))) (sym r.answers)
          (subst (λ (x : List Board). Law (start_of bank) (length bank) (run queue [] (just_opened (start_of bank) (length bank))).0 x) (sym same) (law_of_run (start_of bank) (length bank) queue (λ l. (lawful 0 l).whole)));
      no_fault = subst NoFault (sym r.answers) (no_faults queue [] (just_opened (start_of bank) (length bank)) tt);
    }
  where
    same : map board_of (bank_of m) ≡ (run queue [] (just_opened (start_of bank) (length bank))).1.boards
    same = bank_boards m (run queue [] (just_opened (start_of bank) (length bank))).1 r.plain

pub promised_served : (bank : List Store) → LawfulBank bank → (queue : List Call) (a : Answer) (h : History) (m : Middle) → a ≡ opening bank →
    accepted a ≡ true → Ran (start_of bank) (length bank) queue h m → Promised bank queue a h (bank_of m)
promised_served bank lawful queue a h m e d r = record { opening = e; served = λ _. served bank lawful queue h m r; refused = λ x. absurd (both_ways (accepted a) x d) }

-- a refusal answers no call and leaves the bank
pub promised_refused : (bank : List Store) (queue : List Call) (a : Answer) → a ≡ opening bank → accepted a ≡ false → Promised bank queue a [] bank
promised_refused bank queue a e d = record { opening = e; served = λ x. absurd (both_ways (accepted a) d x); refused = λ _. (refl, refl) }

-- the rest of a queue
ran_on : (pick : List Bool → ℕ) → Picks pick → (start : Board) (K : ℕ) (cs made : List Call) (h : History) (m : Middle) → Ran start K made h m →
    Ran start K (made ++ cs) (run_of (middle_step pick) cs h m).0 (run_of (middle_step pick) cs h m).1
unfolding run_of
ran_on pick picks start K [] made h m r = rw (append-nil made) r
ran_on pick picks start K (c ∷ cs) made h m r =
    let f = every_call pick picks c m r.sound in
    rw (← (append_assoc made (c ∷ []) cs)) (ran_on pick picks start K cs (made ++ c ∷ []) (event c (middle_step pick c m).0 ∷ h) (middle_step pick c m).1 (ran_more start K made h m c (middle_step pick c m).0 (middle_step pick c m).1 r f))

pub every_queue : EveryQueue
every_queue pick picks bank lawful queue = go (accepted (opened_over bank).0) refl
  where
    f : Follows (board_open bank PlainBoard.unopened) (opened_over bank).0 (opened_over bank).1 × (bank_of (opened_over bank).1 ≡ bank)
    f = every_opening (Middle.unopened (new_world bank)) (every_making bank lawful)

    go : (b : Bool) → accepted (opened_over bank).0 ≡ b →
        Promised bank queue (opened_over bank).0 (run_from pick queue b (opened_over bank).1).0 (bank_of (run_from pick queue b (opened_over bank).1).1)
    go true e =
        promised_served bank lawful queue (opened_over bank).0 (run_of (middle_step pick) queue [] (opened_over bank).1).0 (run_of (middle_step pick) queue [] (opened_over bank).1).1 refl e
        (ran_on pick picks (start_of bank) (length bank) queue [] [] (opened_over bank).1 (ran_none bank (opened_over bank).0 (opened_over bank).1 f.0 e))
    go false e = rw f.1 (promised_refused bank queue (opened_over bank).0 refl e)
