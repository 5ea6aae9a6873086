-- The world stays coupled, and its plain board follows, where write sets are applied.
use Rattle.std.proofs.Common.{◌≡◌, ℕ, suc, ◌-◌, ◌<◌, ◌≤◌, Bool, true, false, ◌||◌, eqb, ◌⊎◌, List, map, length, get_or, set, is_some, Some, None, sym, refl, ap, ◌∙◌, subst, inl, inr, ⊎_elim, arith, length-set}
use Rattle.std.proofs.lemmas.List.{get_or-set_other, get_or-set_same, map-set}
use Rattle.std.proofs.lemmas.Bool.{both_ways, cases_eq, cases_lt, eq-eqb, ne_eqb, or_cases}
use Rattle.tickets.specs.Boards.{Board}
use Rattle.tickets.specs.WriteSets.{lookup, play}
use Rattle.law.specs.Applications.{marked, played_at}
use Rattle.law.specs.Coupled.{Coupled, Held, StoreOk}
use Rattle.law.specs.Numbers.{count}
use Rattle.law.specs.Opening.{no_store, store_at}
use Rattle.law.specs.Orderly.{Orderly, TransactionFine}
use Rattle.law.specs.Plain.{Plain, TransactionState, board, in_state, numbered, pairs, transaction}
use Rattle.law.specs.Store.{Store, is_open, open_count, overtake, overtake_in, place}
use Rattle.law.specs.World.{Entry, Phase, World, board_of, entry, in_phase, is_working, no_entry, place_of, transaction_of, with_applied, working, working_at, world_plain}
use Rattle.law.proofs.Couplings.{apart_set}
use Rattle.law.proofs.Elements.{at_place, at_set, marked_more, marked_new}
use Rattle.law.proofs.Numbers.{count_add, count_same, tally_set}
use Rattle.law.proofs.Stores.{Played}
use Rattle.law.proofs.Worlds.{Alike, alike_overtaken, at_number, board_is, map_changed, map_same, transaction_is, transaction_kept, transactions_length, working_state}

module _ (w : World) (q : Coupled w) where
  abbrev p : Plain
  p = world_plain w

  abbrev T : List Entry
  T = w.entries

  -- n is applied at k, by a store that played it from the place i
  module _ (k n : ℕ) (b : k < length w.bank) (ln : 1 ≤ n) (mn : n ≤ length w.sets) (new : w.applied k n ≡ false) (i : ℕ) (τ : Store) (y : Played (store_at w.bank k) (pairs w.sets n) i τ) where
    abbrev A : ℕ → ℕ → Bool
    A = marked k n w.applied

    played_boards : map board_of (set w.bank k τ) ≡ set p.boards k (play (pairs w.sets n) (board p k))
    played_boards = map-set board_of w.bank k τ ∙ ap (λ (v : Board). set (map board_of w.bank) k v) (y.board ∙ ap (play (pairs w.sets n)) (sym (board_is w k)))

    -- a transaction whose place is another
    played_tx : (o : ℕ) → (is_working (entry w o).phase ≡ true → (entry w o).home ≡ k → (entry w o).place ≡ i → ⊥) →
        transaction_of (set w.bank k τ) (entry w o) ≡ transaction_of w.bank (entry w o)
    played_tx o other =
        transaction_kept (set w.bank k τ) w.bank (entry w o)
        (λ z. at_place (λ s. Alike (place s (entry w o).place) (place (store_at w.bank (entry w o).home) (entry w o).place)) no_store w.bank k (entry w o).home τ b
        (λ d. rw (d, y.other (entry w o).place (other z d)) (alike_overtaken y.by (place (store_at w.bank k) (entry w o).place)))
        (λ _. (refl, refl)))

    played_held : (x : Entry) → (is_working x.phase ≡ true → (j : ℕ) → 1 ≤ j → j ≤ x.s → w.applied x.home j ≡ true) →
        is_working x.phase ≡ true → Held w.sets (w.applied x.home) (store_at w.bank x.home) x → (x.home ≡ k → x.place ≡ i → ⊥) →
        Held w.sets (A x.home) (store_at (set w.bank k τ) x.home) x
    played_held x front z d apart =
        at_place (λ s. Held w.sets (A x.home) s x) no_store w.bank k x.home τ b
        (λ e. record {
          here = overtake y.by d.here;
          is = y.other x.place (apart e) ∙ ap (overtake_in y.by) (ap (λ j. place (store_at w.bank j) x.place) (sym e) ∙ d.is);
          own = d.own;
          passed = λ j c. ⊎_elim (λ (f : is_some (lookup y.by j) ≡ true). (n, late e, ap (λ a. A a n) e ∙ marked_new k n w.applied, ap is_some (sym (y.same j)) ∙ f)) (λ (f : d.here.overtaken j ≡ true). old j f) (or_cases (is_some (lookup y.by j)) (d.here.overtaken j) c);
        })
        (λ _. record { here = d.here; is = d.is; own = d.own; passed = old })
      where
        late : x.home ≡ k → x.s < n
        late e = ⊎_elim (λ (c : x.s < n). c) (λ (c : n ≤ x.s). absurd (both_ways (w.applied k n) new (ap (λ a. w.applied a n) (sym e) ∙ front z n ln c))) (cases_lt x.s n)

        old : (j : ℕ) → d.here.overtaken j ≡ true → (o : ℕ) × (x.s < o) × (A x.home o ≡ true) × (is_some (lookup (pairs w.sets o) j) ≡ true)
        old j f = let g = d.passed j f in (g.0, g.1, marked_more k n w.applied x.home g.0 g.2, g.3)

    front : (o : ℕ) → 1 ≤ o → o ≤ length T → is_working (entry w o).phase ≡ true → (j : ℕ) → 1 ≤ j → j ≤ (entry w o).s → w.applied (entry w o).home j ≡ true
    front o lo mo z =
        let f : TransactionFine (length p.boards) (length w.sets) w.applied (transaction_of w.bank (entry w o)) = subst (TransactionFine (length p.boards) (length w.sets) w.applied) (transaction_is w o) (q.orderly.transactions o lo (omega (arith, transactions_length w))) in
        f.front (working_state (entry w o).phase (place (store_at w.bank (entry w o).home) (entry w o).place) ∙ z)

    played_stores : (U : List Entry) → open_count τ.places ≡ working k U → ((o : ℕ) → (o ≡ k → ⊥) → working o U ≡ working o T) → (o : ℕ) →
        o < length (set w.bank k τ) → StoreOk (count (A o) (length w.sets)) (working o U) (store_at (set w.bank k τ) o)
    played_stores U e f o c = go (cases_eq o k)
      where
        here : StoreOk (count (A k) (length w.sets)) (working k U) τ
        here =
            let s = q.stores k b in
            let a : count (A k) (length w.sets) ≡ suc (count (w.applied k) (length w.sets)) = count_same (A k) (λ j. eqb j n || w.applied k j) (length w.sets) (λ j _ _. rw (eq-eqb k k refl)) ∙ count_add (w.applied k) n new ln (length w.sets) mn in
            record { commits = omega (arith, y.commits, s.commits, a); most = omega (arith, s.most, y.most); places = omega (arith, s.places, y.places); opens = e }

        there_too : (o ≡ k → ⊥) → StoreOk (count (A o) (length w.sets)) (working o U) (store_at w.bank o)
        there_too d =
            let s = q.stores o (omega (arith, length-set w.bank k τ)) in
            record { commits = s.commits ∙ count_same (w.applied o) (A o) (length w.sets) (λ j _ _. rw (ne_eqb o k d)); most = s.most; places = s.places; opens = s.opens ∙ sym (f o d) }

        go : (o ≡ k) ⊎ (o ≡ k → ⊥) → StoreOk (count (A o) (length w.sets)) (working o U) (store_at (set w.bank k τ) o)
        go (inl d) = rw (d, get_or-set_same w.bank k τ no_store b) here
        go (inr d) = rw (get_or-set_other w.bank k o τ no_store d) (there_too d)

    -- from elsewhere
    module _ (e : eqb k (numbered w.sets n).home ≡ false) (shut : place (store_at w.bank k) i ≡ None) where
      away : (o : ℕ) (lo : 1 ≤ o) (c : o ≤ length T) → is_working (entry w o).phase ≡ true → (entry w o).home ≡ k → (entry w o).place ≡ i → ⊥
      away o lo c z h j =
          let f = q.held o lo c z in
          let a : place (store_at w.bank k) i ≡ Some f.here = ap (λ v. place (store_at w.bank k) v) (sym j) ∙ (ap (λ v. place (store_at w.bank v) (entry w o).place) (sym h) ∙ f.is) in
          both_ways (is_open (place (store_at w.bank k) i)) (ap is_open shut) (ap is_open a)

      pub plain_away : world_plain (with_applied w k n T τ) ≡ played_at k n p
      plain_away =
          let transactions : map (transaction_of (set w.bank k τ)) T ≡ map (transaction_of w.bank) T = map_same (transaction_of (set w.bank k τ)) (transaction_of w.bank) T (λ o a. at_number (λ i. transaction_of (set w.bank k τ) (get_or T i no_entry) ≡ transaction_of w.bank (get_or T i no_entry)) o (played_tx (suc o) (away (suc o) (omega arith) (omega arith)))) in
          rw (e, played_boards, transactions)

      pub coupled_away : Orderly (world_plain (with_applied w k n T τ)) → Coupled (with_applied w k n T τ)
      coupled_away ord =
          record {
            orderly = ord;
            eight = omega (arith, q.eight, length-set w.bank k τ);
            stores = played_stores T (let a = y.opens in omega (arith, rw shut at a, (q.stores k b).opens)) (λ o d. refl);
            held = λ o lo mo z. played_held (entry w o) (front o lo mo) z (q.held o lo mo z) (away o lo mo z);
            apart = q.apart;
          }

    -- at home, from the place of the transaction t
    module _ (e : eqb k (numbered w.sets n).home ≡ true) (l : 1 ≤ (numbered w.sets n).who) (m : (numbered w.sets n).who ≤ length T) (bt : is_working (entry w (numbered w.sets n).who).phase ≡ true) (home : (entry w (numbered w.sets n).who).home ≡ k) (at : i ≡ place_of w (numbered w.sets n).who) where
      abbrev t : ℕ
      t = (numbered w.sets n).who

      abbrev U : List Entry
      U = set T (t - 1) (in_phase Phase.committed (entry w t))

      others : (o : ℕ) → 1 ≤ o → o ≤ length T → (o ≡ t → ⊥) → is_working (entry w o).phase ≡ true → (entry w o).home ≡ k → (entry w o).place ≡ i → ⊥
      others o lo mo n z h j = n (q.apart o t lo mo l m z bt (h ∙ sym home) (j ∙ at))

      pub plain_home : world_plain (with_applied w k n U τ) ≡ played_at k n p
      plain_home =
          let transactions : map (transaction_of (set w.bank k τ)) U ≡ set (map (transaction_of w.bank) T) (t - 1) (in_state TransactionState.committed (transaction p t)) =
          map_changed (transaction_of (set w.bank k τ)) (transaction_of w.bank) T (t - 1) (in_phase Phase.committed (entry w t)) (λ o a c. same o a c) ∙ ap (λ v. set (map (transaction_of w.bank) T) (t - 1) (in_state TransactionState.committed v)) (sym (transaction_is w t)) in
          rw (e, played_boards, transactions)
        where
          same : (o : ℕ) → o < length T → (o ≡ t - 1 → ⊥) → transaction_of (set w.bank k τ) (get_or T o no_entry) ≡ transaction_of w.bank (get_or T o no_entry)
          same o a c = at_number (λ v. transaction_of (set w.bank k τ) (get_or T v no_entry) ≡ transaction_of w.bank (get_or T v no_entry)) o (played_tx (suc o) (others (suc o) (omega arith) (omega arith) (omega arith)))

      pub coupled_home : Orderly (world_plain (with_applied w k n U τ)) → Coupled (with_applied w k n U τ)
      coupled_home ord =
          record {
            orderly = ord;
            eight = omega (arith, q.eight, length-set w.bank k τ);
            stores = played_stores U opens (λ o d. elsewhere o d);
            held = λ o lo mo. at_set (λ v. is_working v.phase ≡ true → Held w.sets (A v.home) (store_at (set w.bank k τ) v.home) v) no_entry T t o (in_phase Phase.committed (entry w t)) l m lo
                (λ _ c. absurd (both_ways false refl c))
                (λ c z. let mo' : o ≤ length T = omega (arith, length-set T (t - 1) (in_phase Phase.committed (entry w t))) in played_held (entry w o) (front o lo mo') z (q.held o lo mo' z) (others o lo mo' c z));
            apart = apart_set T q.apart t Phase.committed l m (λ _. bt);
          }
        where
          opens : open_count τ.places ≡ working k U
          opens =
              let g = q.held t l m bt in
              let a : place (store_at w.bank k) i ≡ Some g.here = ap (λ v. place (store_at w.bank k) v) at ∙ (ap (λ v. place (store_at w.bank v) (place_of w t)) (sym home) ∙ g.is) in
              let c = y.opens in
              let u = tally_set (working_at k) no_entry T (t - 1) (in_phase Phase.committed (entry w t)) (omega arith) in
              omega (arith, rw a at c, (q.stores k b).opens, rw (eq-eqb (entry w t).home k home, bt) at u)

          elsewhere : (o : ℕ) → (o ≡ k → ⊥) → working o U ≡ working o T
          elsewhere o d =
              let u = tally_set (working_at o) no_entry T (t - 1) (in_phase Phase.committed (entry w t)) (omega arith) in
              let c : eqb (entry w t).home o ≡ false = ne_eqb (entry w t).home o (λ a. d (sym a ∙ home)) in
              omega (arith, rw c at u)
