-- A write set played at a place of its own: the machine's errand at the bank, beside the law's store.
use Rattle.std.proofs.Common.{◌≡◌, ℕ, ◌<◌, List, [], ◌∷◌, length, set, Ok, Err, Result, sym, refl, ap, ◌∙◌, subst, arith, length-set}
use Rattle.std.proofs.lemmas.List.{get_or-set_same, set-set, set-get_or}
use Rattle.tickets.specs.WriteSets.{Pairs}
use Rattle.stores.specs.declared.fault.StoreFault.{StoreFault}
use Rattle.stores.specs.Model as model
use Rattle.stores.specs.Model.{StoreModel, Lawful}
use Rattle.banks.specs.declared.fault.BankFault.{BankFault}
use Rattle.banks.specs.Model as banks
use Rattle.banks.specs.Model.{lifted}
use Rattle.errands.specs.Outcomes.{step, done}
use Rattle.errands.specs.Replay.{AtBank, at, begin_at, write_at, commit_at, write_all, end_with, end_at, finish, fill, replay}
use Rattle.law.specs.Store.{Store, Done, next, store_begin, store_write, store_write_all, store_commit, store_play}
use Rattle.law.specs.Store.Done.{fine, failed}
use Rattle.law.specs.Opening.{store_at, no_store}
use Rattle.refinement.specs.Stores.{law_store, law_bank}
use Rattle.refinement.specs.Sound.{LawfulStores}
use Rattle.refinement.proofs.Stores.{done_of, same_begin, same_write, same_commit}
use Rattle.refinement.proofs.Lawful.{begin_lawful, write_lawful, commit_lawful}
use Rattle.refinement.proofs.Banks.{as_many_stores, store_is, asked_is, bank_changed, lawful_changed}

-- an errand at the store k of the bank ms that went through: the store came to σ
pub record Through (ms : List StoreModel) (k : ℕ) (σ : Store) (o : AtBank (Unit {0})) : Type 0 where
  pub answer : o.answer ≡ Ok tt
  pub bank : law_bank o.after ≡ set (law_bank ms) k σ
  pub lawful : LawfulStores o.after

-- an errand that goes through where the law's store does
abbrev Same : List StoreModel → ℕ → Done → AtBank (Unit {0}) → Type 0
Same ms k d o = (σ : Store) → d ≡ fine σ → Through ms k σ o

-- what went through went through in both parts
then_fine : (d : Done) (f : Store → Done) (σ : Store) → next d f ≡ fine σ → (τ : Store) × (d ≡ fine τ) × (f τ ≡ fine σ)
then_fine (fine τ) f σ e = (τ, refl, e)
then_fine (failed n τ) f σ e = absurd (let z : ◌≡◌ {A = ℕ} 0 1 = cc in omega arith)

module _ (k : ℕ) where
  -- the store k of a bank, as the law has it
  abbrev at_k : List StoreModel → Store
  at_k ms = law_store (banks.store_at ms k)

  -- one call
  one_call : (ms : List StoreModel) → LawfulStores ms → k < length ms →
      (call : Done) (answer : StoreModel → Result (Unit {0}) StoreFault) (after : StoreModel → StoreModel) →
      call ≡ done_of (answer (banks.store_at ms k)) (law_store (after (banks.store_at ms k))) → ((m : StoreModel) → Lawful m → Lawful (after m)) →
      Same ms k call (at ms k answer after)
  one_call ms ok l call answer after same keeps σ e = go (answer m) refl (sym same ∙ e)
    where
      m : StoreModel
      m = banks.store_at ms k

      go : (a : Result (Unit {0}) StoreFault) → answer m ≡ a → done_of a (law_store (after m)) ≡ fine σ → Through ms k σ (at ms k answer after)
      go (Ok u) d f =
          let s : law_store (after m) ≡ σ = cc in
          record { answer = asked_is ms k answer l ∙ ap (lifted k) d; bank = bank_changed ms k after ∙ ap (set (law_bank ms) k) s; lawful = lawful_changed ms ok k after keeps }
      go (Err x) d f = absurd (let z : ◌≡◌ {A = ℕ} 0 1 = cc in omega arith)

  -- after an errand that went through
  module _ (ms : List StoreModel) (σ : Store) (o : AtBank (Unit {0})) (l : k < length ms) (r : Through ms k σ o) where
    still_there : k < length o.after
    still_there = omega (arith, as_many_stores ms, as_many_stores o.after, ap length r.bank, length-set (law_bank ms) k σ)

    came_to : at_k o.after ≡ σ
    came_to = sym (store_is o.after k) ∙ (ap (λ (bank : List Store). store_at bank k) r.bank ∙ get_or-set_same (law_bank ms) k σ no_store (omega (arith, as_many_stores ms)))

    both : (τ : Store) (q : AtBank (Unit {0})) → Through o.after k τ q → Through ms k τ q
    both τ q h = record { answer = h.answer; bank = h.bank ∙ (ap (λ (bank : List Store). set bank k τ) r.bank ∙ set-set (law_bank ms) k σ τ); lawful = h.lawful }

  -- one errand after another
  chained : (ms : List StoreModel) → k < length ms → (d : Done) (o : AtBank (Unit {0})) (f : Store → Done) (g : List StoreModel → AtBank (Unit {0})) →
      Same ms k d o → ((ns : List StoreModel) → LawfulStores ns → k < length ns → Same ns k (f (at_k ns)) (g ns)) →
      Same ms k (next d f) (step o (λ _. g))
  chained ms l d o f g h c σ e =
      let a = then_fine d f σ e in
      let r = h a.0 a.1 in
      let z = c o.after r.lawful (still_there ms a.0 o l r) σ (ap f (came_to ms a.0 o l r) ∙ a.2) in
      rw r.answer (both ms a.0 o l r σ (g o.after) z)

  nothing_done : (ms : List StoreModel) → LawfulStores ms → (u : Unit {0}) → Same ms k (fine (at_k ms)) (done u ms)
  nothing_done ms ok u σ e =
      let c : at_k ms ≡ σ = cc in
      let s : σ ≡ store_at (law_bank ms) k = sym c ∙ sym (store_is ms k) in
      record { answer = refl; bank = sym (ap (set (law_bank ms) k) s ∙ set-get_or (law_bank ms) k no_store); lawful = ok }

  module _ (p : ℕ) where
    writes_all : (u : Pairs) (ms : List StoreModel) → LawfulStores ms → k < length ms → Same ms k (store_write_all u p (at_k ms)) (write_all k p u ms)
    unfolding write_all
    writes_all [] ms ok l = nothing_done ms ok tt
    writes_all ((j, v) ∷ u) ms ok l =
        chained ms l (store_write (at_k ms) p j v) (write_at k p (j, v) ms) (store_write_all u p) (write_all k p u)
        (one_call ms ok l (store_write (at_k ms) p j v) (λ m. model.write_answer m p j v) (λ m. model.write_after m p j v) (same_write (banks.store_at ms k) p j v) (λ m h. write_lawful m h p j v))
        (λ ns ns_ok ns_l. writes_all u ns ns_ok ns_l)

    pub commits : (ms : List StoreModel) → LawfulStores ms → k < length ms → (σ : Store) → store_commit (at_k ms) p ≡ fine σ → Through ms k σ (commit_at k p ms)
    commits ms ok l =
        one_call ms ok l (store_commit (at_k ms) p) (λ m. model.commit_answer m p) (λ m. model.commit_after m p)
        (same_commit (banks.store_at ms k) p (ok k l).whole ((ok k l).own p)) (λ m h. commit_lawful m h p)

    -- a commit that goes through leaves nothing to free
    ends : (ms : List StoreModel) → LawfulStores ms → k < length ms → Same ms k (store_commit (at_k ms) p) (end_at k p ms)
    ends ms ok l σ e =
        let r = commits ms ok l σ e in
        subst (λ (a : Result (Unit {0}) BankFault). Through ms k σ (end_with k p a (commit_at k p ms).after)) (sym r.answer) (record { answer = refl; bank = r.bank; lawful = r.lawful })

    fills : (u : Pairs) (ms : List StoreModel) → LawfulStores ms → k < length ms → Same ms k (next (store_write_all u p (at_k ms)) (λ s. store_commit s p)) (fill k p u ms)
    fills u ms ok l σ e =
        let o = write_all k p u ms in
        let a = then_fine (store_write_all u p (at_k ms)) (λ s. store_commit s p) σ e in
        let r = writes_all u ms ok l a.0 a.1 in
        let z = ends o.after r.lawful (still_there ms a.0 o l r) σ (ap (λ s. store_commit s p) (came_to ms a.0 o l r) ∙ a.2) in
        subst (λ (x : Result (Unit {0}) BankFault). Through ms k σ (finish k p x o.after)) (sym r.answer) (both ms a.0 o l r σ (end_at k p o.after) z)

    pub replays : (u : Pairs) (ms : List StoreModel) → LawfulStores ms → k < length ms → (σ : Store) → store_play u p (at_k ms) ≡ fine σ → Through ms k σ (replay k p u ms)
    unfolding replay
    replays u ms ok l =
        chained ms l (store_begin (at_k ms) p) (begin_at k p ms) (λ s. next (store_write_all u p s) (λ t. store_commit t p)) (fill k p u)
        (one_call ms ok l (store_begin (at_k ms) p) (λ m. model.begin_answer m p) (λ m. model.begin_after m p) (same_begin (banks.store_at ms k) p) (λ m h. begin_lawful m h p))
        (λ ns ns_ok ns_l. fills u ns ns_ok ns_l)
