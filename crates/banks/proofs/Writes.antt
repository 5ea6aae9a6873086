-- Many writes in a row, one by one: at a store, and at one store of a bank. Assumes nothing.
use Rattle.std.proofs.Common.{◌≡◌, ℕ, ◌+◌, ◌<◌, ◌≤◌, List, [], ◌∷◌, map, length, get_or, drop, Ok, Err, Result, sym, refl, ap, ◌∙◌, arith}
use Rattle.std.proofs.lemmas.List.{drop_more, drop_all}
use Rattle.tickets.specs.declared.pair.Pair.{Pair}
use Rattle.tickets.specs.Meaning.{pair_of}
use Rattle.tickets.specs.WriteSets.{Pairs}
use Rattle.stores.specs.declared.fault.StoreFault.{StoreFault}
use Rattle.stores.specs.Model.{StoreModel, write_place, write_answer, write_after, leaves, done}
use Rattle.banks.specs.declared.fault.BankFault.{BankFault}
use Rattle.banks.specs.Steps.{writes_answer, writes_after}
use Rattle.banks.specs.Model.{store_at, asked, changed}
use Rattle.banks.proofs.Calls.{asked_at, asked_ok, asked_err, asked_agree, changed_agree, changed_same, asked_changed, changed_changed}
use Rattle.banks.proofs.Others.{changed_others}

-- ---- at a store

refused_same : {A : Type 0} (r : Result A StoreFault) (f : A → StoreModel) (m : StoreModel) (e : StoreFault) → done r ≡ Err e → leaves r f m ≡ m
refused_same (Ok a) f m e h = let z : ◌≡◌ {A = ℕ} 0 1 = cc in absurd (omega arith)
refused_same (Err d) f m e h = refl

module _ (m : StoreModel) (p : ℕ) (q : ℕ × ℕ) (ps : Pairs) where
  pub writes_ok : write_answer m p q.0 q.1 ≡ Ok tt
      → (writes_answer m p (q ∷ ps) ≡ writes_answer (write_after m p q.0 q.1) p ps) × (writes_after m p (q ∷ ps) ≡ writes_after (write_after m p q.0 q.1) p ps)
  writes_ok e = (rw e, rw e)

  pub writes_err : (f : StoreFault) → write_answer m p q.0 q.1 ≡ Err f
      → (writes_answer m p (q ∷ ps) ≡ Err f) × (writes_after m p (q ∷ ps) ≡ m) × (write_after m p q.0 q.1 ≡ m)
  writes_err f e = (rw e, rw e, refused_same (write_place m p q.0 q.1) _ m f e)

-- ---- at store k of a bank: the first pair is written, and the others give what all of them give

module _ (ms ms' : List StoreModel) (k p : ℕ) (q : ℕ × ℕ) (ps : Pairs) (wrote : ms' ≡ changed ms k (λ m. write_after m p q.0 q.1)) where
  pub first_written : Ok tt ≡ asked ms k (λ m. write_answer m p q.0 q.1)
      → (asked ms' k (λ m. writes_answer m p ps) ≡ asked ms k (λ m. writes_answer m p (q ∷ ps)))
      × (changed ms' k (λ m. writes_after m p ps) ≡ changed ms k (λ m. writes_after m p (q ∷ ps)))
      × (k < length ms')
  first_written e =
      let a = asked_ok ms k (λ m. write_answer m p q.0 q.1) tt e in
      let s = writes_ok (store_at ms k) p q ps (sym a.1) in (
        ap (λ l. asked l k (λ m. writes_answer m p ps)) wrote
            ∙ asked_changed ms k (λ m. write_after m p q.0 q.1) (λ m. writes_answer m p ps)
            ∙ asked_agree ms k (λ m. writes_answer (write_after m p q.0 q.1) p ps) (λ m. writes_answer m p (q ∷ ps)) (λ _. sym s.0),
        ap (λ l. changed l k (λ m. writes_after m p ps)) wrote
            ∙ changed_changed ms k (λ m. write_after m p q.0 q.1) (λ m. writes_after m p ps)
            ∙ changed_agree ms k (λ m. writes_after (write_after m p q.0 q.1) p ps) (λ m. writes_after m p (q ∷ ps)) (λ _. sym s.1),
        (let n = ap length wrote ∙ (changed_others ms k (λ m. write_after m p q.0 q.1)).as_many in omega (arith, a.0)),
      )

  pub first_refused : (e : BankFault) → Err e ≡ asked ms k (λ m. write_answer m p q.0 q.1)
      → (Err e ≡ asked ms k (λ m. writes_answer m p (q ∷ ps))) × (ms' ≡ changed ms k (λ m. writes_after m p (q ∷ ps)))
  first_refused e h =
      let d = asked_err ms k (λ m. write_answer m p q.0 q.1) e h in
      let s = λ (l : k < length ms). writes_err (store_at ms k) p q ps (d l).0 (sym (d l).1) in (
        h ∙ asked_agree ms k (λ m. write_answer m p q.0 q.1) (λ m. writes_answer m p (q ∷ ps)) (λ l. sym (d l).1 ∙ sym (s l).0),
        wrote ∙ changed_agree ms k (λ m. write_after m p q.0 q.1) (λ m. writes_after m p (q ∷ ps)) (λ l. (s l).2 ∙ sym (s l).1),
      )

-- where no pair is left to write
pub none_written : (ms : List StoreModel) (k p : ℕ) → k < length ms → (Ok tt ≡ asked ms k (λ m. writes_answer m p [])) × (ms ≡ changed ms k (λ m. writes_after m p []))
none_written ms k p l = (sym (asked_at ms k (λ m. writes_answer m p []) l), sym (changed_same ms k (λ m. writes_after m p []) (λ _. refl)))

-- ---- the pair at i of the code's, and what is left behind it

abbrev pub left_from : List Pair → ℕ → Pairs
left_from xs i = map pair_of (drop i xs)

module _ (ms : List StoreModel) (k p : ℕ) (xs : List Pair) (i : ℕ) where
  abbrev all_answer : Pairs → Result (Unit {0}) BankFault
  all_answer ps = asked ms k (λ m. writes_answer m p ps)

  abbrev all_after : Pairs → List StoreModel
  all_after ps = changed ms k (λ m. writes_after m p ps)

  module _ (ms' : List StoreModel) (d : Pair) (h : i < length xs) (wrote : ms' ≡ changed ms k (λ m. write_after m p (get_or xs i d).object (get_or xs i d).value)) where
    abbrev q : ℕ × ℕ
    q = pair_of (get_or xs i d)

    here : q ∷ left_from xs (i + 1) ≡ left_from xs i
    here = sym (ap (map pair_of) (drop_more xs i d h))

    pub write_goes_on : Ok tt ≡ asked ms k (λ m. write_answer m p q.0 q.1)
        → (asked ms' k (λ m. writes_answer m p (left_from xs (i + 1))) ≡ all_answer (left_from xs i))
        × (changed ms' k (λ m. writes_after m p (left_from xs (i + 1))) ≡ all_after (left_from xs i))
        × (k < length ms')
    write_goes_on e = let s = first_written ms ms' k p q (left_from xs (i + 1)) wrote e in (s.0 ∙ ap all_answer here, s.1 ∙ ap all_after here, s.2)

    pub write_stops : (e : BankFault) → Err e ≡ asked ms k (λ m. write_answer m p q.0 q.1) → (Err e ≡ all_answer (left_from xs i)) × (ms' ≡ all_after (left_from xs i))
    write_stops e r = let s = first_refused ms ms' k p q (left_from xs (i + 1)) wrote e r in (s.0 ∙ ap all_answer here, s.1 ∙ ap all_after here)

  pub writes_done : k < length ms → length xs ≤ i → (Ok tt ≡ all_answer (left_from xs i)) × (ms ≡ all_after (left_from xs i))
  writes_done l n =
      let none : [] ≡ left_from xs i = sym (ap (map pair_of) (drop_all i xs n)) in
      let s = none_written ms k p l in
      (s.0 ∙ ap all_answer none, s.1 ∙ ap all_after none)
