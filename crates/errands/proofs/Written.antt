-- A write set played at a place: the calls of the work come to the steps of the play. Assumes nothing.
use Rattle.std.proofs.Common.{◌≡◌, ℕ, ◌<◌, List, [], ◌∷◌, length, Ok, Err, Result, sym, refl, ap, ◌∙◌, arith}
use Rattle.stores.specs.Model.{StoreModel, write_answer, write_after, commit_answer, commit_after, abort_after}
use Rattle.tickets.specs.WriteSets.{Pairs}
use Rattle.tickets.specs.Meaning.{pairs}
use Rattle.tickets.specs.declared.write_set.WriteSet.{WriteSet}
use Rattle.tickets.proofs.Sets.{length_pairs, some_pairs}
use Rattle.banks.specs.declared.fault.BankFault.{BankFault}
use Rattle.banks.specs.declared.work.Work.{Work}
use Rattle.banks.specs.declared.work.Unfinished.{Unfinished}
use Rattle.banks.specs.declared.work.Unfinished.TheVariants.{Ended, Back}
use Rattle.banks.specs.Model.{asked, changed}
use Rattle.banks.specs.Works.{ended, refused}
use Rattle.banks.specs.Steps.{writes_answer, writes_after, settled_after}
use Rattle.banks.proofs.Writes.{first_written, first_refused, none_written}
use Rattle.banks.proofs.Settles.{work_of, fault_of, same_work, same_fault, settle_ok, settle_ended, settle_back}
use Rattle.errands.specs.Outcomes.{go_on}
use Rattle.errands.specs.Replay.{AtBank, at, give_back, end_with, end_at, write_all, finish, fill}

-- ---- the pairs written in their order

module _ (k p : ℕ) where
  abbrev written : Pairs → List StoreModel → AtBank (Unit {0})
  written ps ms = at ms k (λ m. writes_answer m p ps) (λ m. writes_after m p ps)

  write_first : (x : ℕ × ℕ) (xs : Pairs) → ((ms : List StoreModel) → k < length ms → write_all k p xs ms ≡ written xs ms) → (ms : List StoreModel) → write_all k p (x ∷ xs) ms ≡ written (x ∷ xs) ms
  unfolding write_all
  write_first x xs rest ms = by (asked ms k (λ m. write_answer m p x.0 x.1)) refl
    where
      by : (r : Result (Unit {0}) BankFault) → r ≡ asked ms k (λ m. write_answer m p x.0 x.1) → go_on r (changed ms k (λ m. write_after m p x.0 x.1)) (λ _. write_all k p xs) ≡ written (x ∷ xs) ms
      by (Ok u) e = let s = first_written ms _ k p x xs refl e in rest _ s.2 ∙ (λ i. record { answer = s.0 i; after = s.1 i })
      by (Err d) e = let s = first_refused ms _ k p x xs refl d e in λ i. record { answer = s.0 i; after = s.1 i }

  write_there : (ps : Pairs) (ms : List StoreModel) → k < length ms → write_all k p ps ms ≡ written ps ms
  unfolding write_all
  write_there [] ms l = let s = none_written ms k p l in λ i. record { answer = s.0 i; after = s.1 i }
  write_there (x ∷ xs) ms l = write_first x xs (write_there xs) ms

  -- no write set is empty
  write_some : (ps : Pairs) → 0 < length ps → (ms : List StoreModel) → write_all k p ps ms ≡ written ps ms
  write_some [] h ms = absurd (omega arith)
  write_some (x ∷ xs) h ms = write_first x xs (write_there xs) ms

  -- ---- committed, or aborted where the store is full

  end_is : (ms : List StoreModel) → end_at k p ms ≡ at ms k (λ m. commit_answer m p) (λ m. settled_after m p)
  end_is ms = by (asked ms k (λ m. commit_answer m p)) refl
    where
      w : Work
      w = record { replica = k; place = p }

      left : List StoreModel
      left = changed ms k (λ m. commit_after m p)

      in_turn : (f : BankFault) → Err f ≡ asked ms k (λ m. commit_answer m p) → (u : Unfinished) → u ≡ refused w f → give_back k p u left ≡ at ms k (λ m. commit_answer m p) (λ m. settled_after m p)
      in_turn f e (Ended d) h =
          let s : d ≡ f = ap fault_of h ∙ same_fault w f in
          let a = settle_ended ms left w refl d (ap (λ u. Err u) h ∙ ap (ended w) e) in
          λ i. record { answer = (ap (λ x. Err x) s ∙ e) i; after = a i }
      in_turn f e (Back w' d) h =
          let s : d ≡ f = ap fault_of h ∙ same_fault w f in
          let o : w ≡ w' = sym (ap (work_of w) h ∙ same_work w f) in
          let a = settle_back ms left w refl w' d (ap (λ u. Err u) h ∙ ap (ended w) e) (λ i. changed left (o i).replica (λ m. abort_after m (o i).place)) in
          λ i. record { answer = (ap (λ x. Err x) s ∙ e) i; after = a i }

      by : (r : Result (Unit {0}) BankFault) → r ≡ asked ms k (λ m. commit_answer m p) → end_with k p r left ≡ at ms k (λ m. commit_answer m p) (λ m. settled_after m p)
      by (Ok u) e = let a = settle_ok ms left w refl (ap (ended w) e) in λ i. record { answer = e i; after = a i }
      by (Err f) e = in_turn f e (refused w f) refl

-- ---- written and ended

module _ (w : Work) (set : WriteSet) (ms ms₁ : List StoreModel) (wrote : ms₁ ≡ changed ms w.replica (λ m. writes_after m w.place (pairs set))) where
  abbrev told : Result (Unit {0}) BankFault
  told = asked ms w.replica (λ m. writes_answer m w.place (pairs set))

  abbrev filled : AtBank (Unit {0})
  filled = fill w.replica w.place (pairs set) ms

  finished : (r : Result (Unit {0}) BankFault) → r ≡ told → finish w.replica w.place r ms₁ ≡ filled
  finished r e =
      let some : 0 < length (pairs set) = omega (arith, length_pairs set, some_pairs set) in
      (λ i. finish w.replica w.place (e i) (wrote i)) ∙ sym (ap (λ (o : AtBank (Unit {0})). finish w.replica w.place o.answer o.after) (write_some w.replica w.place (pairs set) some ms))

  pub fill_refused : (d : BankFault) → Err d ≡ told → {ms₂ : List StoreModel} → ms₂ ≡ changed ms₁ w.replica (λ m. abort_after m w.place) → (Err d ≡ filled.answer) × (ms₂ ≡ filled.after)
  fill_refused d e a = let f = finished (Err d) e in (ap (λ (o : AtBank (Unit {0})). o.answer) f, a ∙ ap (λ (o : AtBank (Unit {0})). o.after) f)

  pub fill_ended : Ok tt ≡ told → {r : Result (Unit {0}) BankFault} → r ≡ asked ms₁ w.replica (λ m. commit_answer m w.place)
      → {ms₂ : List StoreModel} → ms₂ ≡ changed ms₁ w.replica (λ m. settled_after m w.place) → (r ≡ filled.answer) × (ms₂ ≡ filled.after)
  fill_ended e h a = let f = sym (end_is w.replica w.place ms₁) ∙ finished (Ok tt) e in (h ∙ ap (λ (o : AtBank (Unit {0})). o.answer) f, a ∙ ap (λ (o : AtBank (Unit {0})). o.after) f)
