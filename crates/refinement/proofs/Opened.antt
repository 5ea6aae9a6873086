-- Making and opening a machine: what the plain board and the law's middleware come to, it comes to.
use Rattle.std.proofs.Common.{◌≡◌, ℕ, zero, suc, Bool, true, false, cond, List, [], map, length, sym, refl, ap, ◌∙◌, subst, arith}
use lib.ListN.{length-map}
use Rattle.std.proofs.lemmas.Bool.{cond-true, cond-false}
use Rattle.tickets.specs.Boards.{Board}
use Rattle.stores.specs.Model.{StoreModel}
use Rattle.banks.specs.Model.{store_at}
use Rattle.errands.specs.Outcomes as outcomes
use Rattle.errands.specs.Outcomes.{look}
use Rattle.machine.specs.declared.reason.Reason.TheVariants.{AlreadyOpened}
use Rattle.machine.specs.Machine.{Machine, Came}
use Rattle.machine.specs.Opening.{starting_board, may_open, opened_on, opening}
use Rattle.law.specs.History.{Answer, accepted}
use Rattle.law.specs.Opening.{LawfulBank, PlainBoard, board_open}
use Rattle.law.specs.World.{World}
use Rattle.law.specs.Sound as middle
use Rattle.law.specs.Sound.{Middle, middle_open, with_start}
use Rattle.law.proofs.Opening as openings
use Rattle.refinement.specs.Stores.{law_place, law_bank}
use Rattle.refinement.specs.Worlds.{entry_of, numbered_of, applied_of, world_of, middle_of, plain_of}
use Rattle.refinement.specs.Answers.{quiet}
use Rattle.refinement.specs.Steps.{came, machine_open}
use Rattle.refinement.specs.Sound.{LawfulStores, EightMarks, EveryMaking, EveryOpening}
use Rattle.refinement.proofs.Banks.{as_many_stores, store_is}
use Rattle.refinement.proofs.Opening.{MayOpen, may_open_is, start_is}
use Rattle.refinement.proofs.Calls.{unopened_is}

-- what the machine b and the law's middleware come to at their opening, side by side; no store and no write set is changed
record Beside (b : Machine) (o : Answer × Machine) (p : Answer × Middle) : Type 0 where
  answer : o.0 ≡ p.0
  after : middle_of o.1 ≡ p.1
  stores : o.1.stores ≡ b.stores
  sets : o.1.sets ≡ b.sets

opens : (b : Machine) → Beside b (machine_open b) (middle_open (middle_of b))
opens b = go b.opened refl (may_open_is b.stores)
  where
    w : World
    w = world_of b

    checks : Came (Unit {0})
    checks = look (may_open b.stores) b (λ start. outcomes.done tt (opened_on b start))

    as_middle : Bool → Middle
    as_middle c = cond c (Middle.opened w) (Middle.unopened w)

    by : (c : Came (Unit {0})) (m : Middle) → opening b ≡ c → middle_of b ≡ m → Beside b (came quiet c) (middle_open m) → Beside b (machine_open b) (middle_open (middle_of b))
    by c m d e r =
        subst (λ (x : Came (Unit {0})). Beside b (came quiet x) (middle_open (middle_of b))) (sym d)
        (subst (λ (x : Middle). Beside b (came quiet c) (middle_open x)) (sym e) r)

    go : (o : Bool) → b.opened ≡ o → MayOpen b.stores → Beside b (machine_open b) (middle_open (middle_of b))
    go true e x =
        by (outcomes.refused AlreadyOpened b) (Middle.opened w) (cond-true b.opened (outcomes.refused AlreadyOpened b) checks e) (ap as_middle e)
        (record { answer = refl; after = ap as_middle e; stores = refl; sets = refl })
    go false e (MayOpen.accepts i a) =
        by (outcomes.done tt (opened_on b (starting_board b.stores))) (Middle.unopened w)
        (cond-false b.opened (outcomes.refused AlreadyOpened b) checks e ∙ ap (λ r. look r b (λ start. outcomes.done tt (opened_on b start))) i) (unopened_is b e)
        (rw a (record { answer = refl; after = ap (λ (s : Board). Middle.opened (record { start = s; sets = w.sets; applied = w.applied; entries = w.entries; bank = w.bank })) (sym (start_is b.stores)); stores = refl; sets = refl }))
    go false e (MayOpen.refuses r i a n) =
        by (outcomes.refused r b) (Middle.unopened w)
        (cond-false b.opened (outcomes.refused AlreadyOpened b) checks e ∙ ap (λ x. look x b (λ start. outcomes.done tt (opened_on b start))) i) (unopened_is b e)
        (record { answer = sym a; after = unopened_is b e ∙ sym (ap (λ c. cond c (Middle.opened (with_start w)) (Middle.unopened w)) (ap accepted a ∙ n)); stores = refl; sets = refl })

pub opening_keeps_stores : (b : Machine) → (machine_open b).1.stores ≡ b.stores
opening_keeps_stores b = (opens b).stores

-- the bank of the law's middleware
pub bank_is : (b : Machine) → middle.bank_of (middle_of b) ≡ law_bank b.stores
bank_is b = go b.opened
  where
    go : (o : Bool) → middle.bank_of (cond o (Middle.opened (world_of b)) (Middle.unopened (world_of b))) ≡ law_bank b.stores
    go true = refl
    go false = refl

pub every_opening : EveryOpening
every_opening b s =
    let o = opens b in
    let f = (openings.every_opening (middle_of b) s.coupled).0 in
    let to = ap (λ k. board_open k (plain_of b)) (bank_is b) in
    record {
      answer = o.answer ∙ (f.answer ∙ ap (λ (x : Answer × PlainBoard). x.0) to);
      after = ap middle.plain_of o.after ∙ (f.after ∙ ap (λ (x : Answer × PlainBoard). x.1) to);
      sound = record { stores = subst LawfulStores (sym o.stores) s.stores; marks = subst EightMarks (sym o.sets) s.marks; coupled = subst middle.Sound (sym o.after) f.sound };
    }

-- ---- making

pub lawful_bank : (ms : List StoreModel) → LawfulStores ms → LawfulBank (law_bank ms)
lawful_bank ms ok k l =
    let h = ok k (omega (arith, as_many_stores ms)) in
    rw (store_is ms k) (record { whole = h.whole; least_most = h.least_most; least_places = omega (arith, h.least_places, length-map (store_at ms k).places law_place) })

pub every_making : EveryMaking
every_making b f ok =
    record {
      stores = ok;
      marks = λ i l. absurd (omega (arith, ap length f.write_sets));
      coupled = subst middle.Sound (sym (unopened_is b f.unopened)) (record {
        sets = ap (map numbered_of) f.write_sets;
        applied = λ k n. ap (λ us. applied_of us k n) f.write_sets ∙ nothing k n;
        entries = ap (map entry_of) f.transactions;
        lawful = lawful_bank b.stores ok;
      });
    }
  where
    nothing : (k n : ℕ) → applied_of [] k n ≡ false
    nothing k zero = refl
    nothing k (suc n) = refl
