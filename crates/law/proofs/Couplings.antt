-- The world stays coupled, and its plain board follows, where transactions begin, write, end and are numbered.
use Rattle.std.proofs.Common.{◌≡◌, ℕ, suc, ◌+◌, ◌-◌, ◌<◌, ◌≤◌, Bool, true, false, eqb, List, [], ◌∷◌, ◌++◌, map, length, get_or, set, is_some, Some, None, sym, refl, ap, ◌∙◌, arith, length-set}
use Rattle.std.proofs.lemmas.List.{get_or_append_left, get_or_push, get_or-set_other, get_or-set_same, length_push, map_push, map-set}
use Rattle.std.proofs.lemmas.Bool.{both_ways, eq-eqb, ne_eqb}
use Rattle.tickets.specs.WriteSets.{Pairs, lookup, stands}
use Rattle.law.specs.Coupled.{Apart, Coupled, Held, StoreOk}
use Rattle.law.specs.Numbers.{count}
use Rattle.law.specs.Opening.{no_store, store_at}
use Rattle.law.specs.Orderly.{Orderly}
use Rattle.law.specs.Plain.{Numbered, Plain, Transaction, TransactionState, in_state, no_set, pairs, transaction, with_transaction}
use Rattle.law.specs.Store.{Store, fresh, is_open, open_count, place, with_place}
use Rattle.law.specs.Transactions.{new_transaction, register, with_begun}
use Rattle.law.specs.World.{Entry, Phase, World, board_of, entry, home_of, in_phase, is_working, no_entry, picked, place_of, state_of, transaction_of, with_begin, with_entry, with_number, working, working_at, world_plain}
use Rattle.law.proofs.Elements.{at_place, at_push, at_set}
use Rattle.law.proofs.Numbers.{bit, tally_push, tally_set}
use Rattle.law.proofs.Orderly.{not_yet}
use Rattle.law.proofs.Places.{open_set}
use Rattle.law.proofs.Worlds.{alike_same, at_number, board_is, boards_kept, map_changed, map_same, replicas, transaction_is, transaction_kept, transactions_length}

-- one entry comes to another phase at its place
pub apart_set : (T : List Entry) → Apart T → (t : ℕ) (e : Phase) → 1 ≤ t → t ≤ length T →
    (is_working e ≡ true → is_working (get_or T (t - 1) no_entry).phase ≡ true) → Apart (set T (t - 1) (in_phase e (get_or T (t - 1) no_entry)))
apart_set T q t e l m bx a o la ma lo mo =
    at_set (λ y. is_working y.phase ≡ true → is_working (get_or T' (o - 1) no_entry).phase ≡ true → y.home ≡ (get_or T' (o - 1) no_entry).home → y.place ≡ (get_or T' (o - 1) no_entry).place → a ≡ o) no_entry T t a x l m la
    (λ d. at_set (λ y. is_working e ≡ true → is_working y.phase ≡ true → x.home ≡ y.home → x.place ≡ y.place → a ≡ o) no_entry T t o x l m lo
    (λ c _ _ _ _. d ∙ sym c)
    (λ _ b c h s. d ∙ q t o l m lo mo' (bx b) c h s))
    (λ n. at_set (λ y. is_working (get_or T (a - 1) no_entry).phase ≡ true → is_working y.phase ≡ true → (get_or T (a - 1) no_entry).home ≡ y.home → (get_or T (a - 1) no_entry).place ≡ y.place → a ≡ o) no_entry T t o x l m lo
    (λ d b c h s. q a t la ma' l m b (bx c) h s ∙ sym d)
    (λ _. q a o la ma' lo mo'))
  where
    x : Entry
    x = in_phase e (get_or T (t - 1) no_entry)

    T' : List Entry
    T' = set T (t - 1) x

    ma' : a ≤ length T
    ma' = omega (arith, length-set T (t - 1) x)

    mo' : o ≤ length T
    mo' = omega (arith, length-set T (t - 1) x)

-- the place of another
held_same : (N : List Numbered) (f : ℕ → Bool) (σ τ : Store) (x : Entry) → place τ x.place ≡ place σ x.place → Held N f σ x → Held N f τ x
held_same N f σ τ x e d = record { here = d.here; is = e ∙ d.is; own = d.own; passed = d.passed }

module _ (w : World) (q : Coupled w) where
  abbrev p : Plain
  p = world_plain w

  abbrev T : List Entry
  T = w.entries

  pub home_within : (t : ℕ) → 1 ≤ t → t ≤ length T → (entry w t).home < length w.bank
  home_within t l m =
      let f = q.orderly.transactions t l (omega (arith, transactions_length w)) in
      let h : (transaction p t).home ≡ (entry w t).home = ap (λ (x : Transaction). x.home) (transaction_is w t) in
      omega (arith, f.home, replicas w)

  -- t comes to the phase e, and its home's store to τ, which differs at t's place alone
  module _ (t : ℕ) (l : 1 ≤ t) (m : t ≤ length T) (bt : is_working (entry w t).phase ≡ true) (e : Phase) (τ : Store) (same : (i : ℕ) → (i ≡ place_of w t → ⊥) → place τ i ≡ place (home_of w t) i) where
    abbrev h : ℕ
    h = (entry w t).home

    abbrev x : Entry
    x = in_phase e (entry w t)

    -- another's place is as it was
    kept_place : (o : ℕ) → 1 ≤ o → o ≤ length T → (o ≡ t → ⊥) → is_working (entry w o).phase ≡ true →
        place (store_at (set w.bank h τ) (entry w o).home) (entry w o).place ≡ place (store_at w.bank (entry w o).home) (entry w o).place
    kept_place o lo mo n b =
        at_place (λ s. place s (entry w o).place ≡ place (store_at w.bank (entry w o).home) (entry w o).place) no_store w.bank h (entry w o).home τ (home_within t l m)
        (λ d. same (entry w o).place (λ c. n (q.apart o t lo mo l m b bt d c)) ∙ ap (λ k. place (store_at w.bank k) (entry w o).place) (sym d))
        (λ _. refl)

    pub plain_entry : τ.board ≡ (home_of w t).board → world_plain (with_entry w t e τ) ≡ with_transaction p t (in_state (state_of e (place τ (place_of w t))) (transaction p t))
    plain_entry b =
        let boards : map board_of (set w.bank h τ) ≡ map board_of w.bank = boards_kept w.bank h τ b in
        let here : store_at (set w.bank h τ) h ≡ τ = get_or-set_same w.bank h τ no_store (home_within t l m) in
        let new : transaction_of (set w.bank h τ) x ≡ in_state (state_of e (place τ (place_of w t))) (transaction p t) = rw here (ap (in_state (state_of e (place τ (place_of w t)))) (sym (transaction_is w t))) in
        let transactions : map (transaction_of (set w.bank h τ)) (set T (t - 1) x) ≡ set (map (transaction_of w.bank) T) (t - 1) (in_state (state_of e (place τ (place_of w t))) (transaction p t)) =
        map_changed (transaction_of (set w.bank h τ)) (transaction_of w.bank) T (t - 1) x (λ o a n. transaction_kept (set w.bank h τ) w.bank (get_or T o no_entry) (λ c. alike_same _ _ (other o a n c))) ∙ ap (λ y. set (map (transaction_of w.bank) T) (t - 1) y) new in
        rw (boards, transactions)
      where
        other : (o : ℕ) → o < length T → (o ≡ t - 1 → ⊥) → is_working (get_or T o no_entry).phase ≡ true →
            place (store_at (set w.bank h τ) (get_or T o no_entry).home) (get_or T o no_entry).place ≡ place (store_at w.bank (get_or T o no_entry).home) (get_or T o no_entry).place
        other o a n c = at_number (λ i. is_working (get_or T i no_entry).phase ≡ true → place (store_at (set w.bank h τ) (get_or T i no_entry).home) (get_or T i no_entry).place ≡ place (store_at w.bank (get_or T i no_entry).home) (get_or T i no_entry).place) o (kept_place (suc o) (omega arith) (omega arith) (omega arith)) c

    working_here : working h (set T (t - 1) x) + 1 ≡ working h T + bit (is_working e)
    working_here = let a = tally_set (working_at h) no_entry T (t - 1) x (omega arith) in rw (eq-eqb h h refl, bt) at a

    working_other : (k : ℕ) → (k ≡ h → ⊥) → working k (set T (t - 1) x) ≡ working k T
    working_other k n =
        let a = tally_set (working_at k) no_entry T (t - 1) x (omega arith) in
        let c : eqb h k ≡ false = ne_eqb h k (λ d. n (sym d)) in
        omega (arith, rw c at a)

    pub coupled_entry : Orderly (world_plain (with_entry w t e τ)) → τ.commits ≡ (home_of w t).commits → τ.most ≡ (home_of w t).most →
        length τ.places ≡ length (home_of w t).places → open_count τ.places + 1 ≡ open_count (home_of w t).places + bit (is_working e) →
        (is_working e ≡ true → Held w.sets (w.applied h) τ x) → Coupled (with_entry w t e τ)
    coupled_entry ord commits most long opens new =
        record {
          orderly = ord;
          eight = omega (arith, q.eight, length-set w.bank h τ);
          stores = λ k b. at_place (λ s. StoreOk (count (w.applied k) (length w.sets)) (working k (set T (t - 1) x)) s) no_store w.bank h k τ (home_within t l m)
              (λ d. rw d (let s = q.stores h (home_within t l m) in record { commits = commits ∙ s.commits; most = omega (arith, s.most); places = omega (arith, s.places); opens = omega (arith, working_here, s.opens) }))
              (λ n. rw (working_other k n) (q.stores k (omega (arith, length-set w.bank h τ))));
          held = λ o lo mo. at_set (λ y. is_working y.phase ≡ true → Held w.sets (w.applied y.home) (store_at (set w.bank h τ) y.home) y) no_entry T t o x l m lo
              (λ d b. rw (get_or-set_same w.bank h τ no_store (home_within t l m)) (new b))
              (λ n b. let mo' : o ≤ length T = omega (arith, length-set T (t - 1) x) in held_same w.sets (w.applied (entry w o).home) (store_at w.bank (entry w o).home) (store_at (set w.bank h τ) (entry w o).home) (entry w o) (kept_place o lo mo' n b) (q.held o lo mo' b));
          apart = apart_set T q.apart t e l m (λ _. bt);
        }

  -- a transaction begins at a place that is not open
  module _ (pick : List Bool → ℕ) (k : ℕ) (b : k < length w.bank) (inside : picked pick (store_at w.bank k) < length (store_at w.bank k).places) (shut : place (store_at w.bank k) (picked pick (store_at w.bank k)) ≡ None) where
    abbrev σ₀ : Store
    σ₀ = store_at w.bank k

    abbrev i₀ : ℕ
    i₀ = picked pick σ₀

    abbrev τ₀ : Store
    τ₀ = with_place σ₀ i₀ (Some (fresh σ₀.board))

    abbrev x₀ : Entry
    x₀ = record { home = k; s = count (w.applied k) (length w.sets); place = i₀; phase = Phase.live }

    not_there : (o : ℕ) (lo : 1 ≤ o) (mo : o ≤ length T) → is_working (entry w o).phase ≡ true → (entry w o).home ≡ k → (entry w o).place ≡ i₀ → ⊥
    not_there o lo mo z e d =
        let f = q.held o lo mo z in
        let a : place σ₀ i₀ ≡ Some f.here = ap (λ j. place σ₀ j) (sym d) ∙ (ap (λ j. place (store_at w.bank j) (entry w o).place) (sym e) ∙ f.is) in
        both_ways (is_open (place σ₀ i₀)) (ap is_open shut) (ap is_open a)

    kept_begin : (o : ℕ) → 1 ≤ o → o ≤ length T → is_working (entry w o).phase ≡ true →
        place (store_at (set w.bank k τ₀) (entry w o).home) (entry w o).place ≡ place (store_at w.bank (entry w o).home) (entry w o).place
    kept_begin o lo mo z =
        at_place (λ s. place s (entry w o).place ≡ place (store_at w.bank (entry w o).home) (entry w o).place) no_store w.bank k (entry w o).home τ₀ b
        (λ d. get_or-set_other σ₀.places i₀ (entry w o).place (Some (fresh σ₀.board)) None (λ c. not_there o lo mo z d c) ∙ ap (λ j. place (store_at w.bank j) (entry w o).place) (sym d))
        (λ _. refl)

    pub plain_begin : world_plain (with_begin pick w k τ₀) ≡ with_begun k p
    plain_begin =
        let boards : map board_of (set w.bank k τ₀) ≡ map board_of w.bank = boards_kept w.bank k τ₀ refl in
        let here : store_at (set w.bank k τ₀) k ≡ τ₀ = get_or-set_same w.bank k τ₀ no_store b in
        let inn : place τ₀ i₀ ≡ Some (fresh σ₀.board) = get_or-set_same σ₀.places i₀ (Some (fresh σ₀.board)) None inside in
        let new : transaction_of (set w.bank k τ₀) x₀ ≡ new_transaction k p = rw (here, inn, board_is w k) in
        let old : map (transaction_of (set w.bank k τ₀)) T ≡ map (transaction_of w.bank) T = map_same (transaction_of (set w.bank k τ₀)) (transaction_of w.bank) T (λ o a. at_number (λ i. transaction_of (set w.bank k τ₀) (get_or T i no_entry) ≡ transaction_of w.bank (get_or T i no_entry)) o (transaction_kept (set w.bank k τ₀) w.bank (entry w (suc o)) (λ z. alike_same _ _ (kept_begin (suc o) (omega arith) (omega arith) z)))) in
        let transactions : map (transaction_of (set w.bank k τ₀)) (T ++ x₀ ∷ []) ≡ map (transaction_of w.bank) T ++ new_transaction k p ∷ [] = map_push (transaction_of (set w.bank k τ₀)) T x₀ ∙ rw (old, new) in
        rw (boards, transactions)

    pub coupled_begin : Orderly (world_plain (with_begin pick w k τ₀)) → Coupled (with_begin pick w k τ₀)
    coupled_begin ord =
        record {
          orderly = ord;
          eight = omega (arith, q.eight, length-set w.bank k τ₀);
          stores = λ o c. at_place (λ s. StoreOk (count (w.applied o) (length w.sets)) (working o (T ++ x₀ ∷ [])) s) no_store w.bank k o τ₀ b
              (λ d. rw d here) (λ n. rw (elsewhere o n) (q.stores o (omega (arith, length-set w.bank k τ₀))));
          held = λ o lo mo. at_push (λ y. is_working y.phase ≡ true → Held w.sets (w.applied y.home) (store_at (set w.bank k τ₀) y.home) y) no_entry T o x₀ lo mo
              (λ _ _. rw (get_or-set_same w.bank k τ₀ no_store b) new)
              (λ c z. held_same w.sets (w.applied (entry w o).home) (store_at w.bank (entry w o).home) (store_at (set w.bank k τ₀) (entry w o).home) (entry w o) (kept_begin o lo c z) (q.held o lo c z));
          apart = λ a o la ma lo mo. at_push (λ y. is_working y.phase ≡ true → is_working (get_or (T ++ x₀ ∷ []) (o - 1) no_entry).phase ≡ true → y.home ≡ (get_or (T ++ x₀ ∷ []) (o - 1) no_entry).home → y.place ≡ (get_or (T ++ x₀ ∷ []) (o - 1) no_entry).place → a ≡ o) no_entry T a x₀ la ma
              (λ e. at_push (λ y. is_working x₀.phase ≡ true → is_working y.phase ≡ true → k ≡ y.home → i₀ ≡ y.place → a ≡ o) no_entry T o x₀ lo mo
              (λ d _ _ _ _. e ∙ sym d)
              (λ c _ z g s. absurd (not_there o lo c z (sym g) (sym s))))
              (λ ca. at_push (λ y. is_working (entry w a).phase ≡ true → is_working y.phase ≡ true → (entry w a).home ≡ y.home → (entry w a).place ≡ y.place → a ≡ o) no_entry T o x₀ lo mo
              (λ d z _ g s. absurd (not_there a la ca z g s))
              (λ co. q.apart a o la ca lo co));
        }
      where
        elsewhere : (o : ℕ) → (o ≡ k → ⊥) → working o (T ++ x₀ ∷ []) ≡ working o T
        elsewhere o n = let a = tally_push (working_at o) T x₀ in let e : eqb k o ≡ false = ne_eqb k o (λ d. n (sym d)) in omega (arith, rw e at a)

        here : StoreOk (count (w.applied k) (length w.sets)) (working k (T ++ x₀ ∷ [])) τ₀
        here =
            let s = q.stores k b in
            let a = open_set σ₀.places i₀ (Some (fresh σ₀.board)) inside in
            let c = tally_push (working_at k) T x₀ in
            record { commits = s.commits; most = s.most; places = omega (arith, s.places, length-set σ₀.places i₀ (Some (fresh σ₀.board))); opens = omega (arith, s.opens, rw shut at a, rw (eq-eqb k k refl) at c) }

        new : Held w.sets (w.applied k) τ₀ x₀
        new = record { here = fresh σ₀.board; is = get_or-set_same σ₀.places i₀ (Some (fresh σ₀.board)) None inside; own = λ n e. absurd (let z : ◌≡◌ {A = ℕ} 0 1 = cc in omega arith); passed = λ j e. absurd (both_ways false refl e) }

  -- a write set gets its number
  module _ (t : ℕ) (l : 1 ≤ t) (m : t ≤ length T) (bt : is_working (entry w t).phase ≡ true) (u : Pairs) (own : (q.held t l m bt).here.own ≡ u) where
    abbrev y₁ : Numbered
    y₁ = record { who = t; home = (entry w t).home; s = (entry w t).s; pairs = u }

    abbrev e₁ : Phase
    e₁ = Phase.pending (suc (length w.sets))

    pub plain_number : world_plain (with_number w t u) ≡ register t u p
    plain_number =
        let transactions : map (transaction_of w.bank) (set T (t - 1) (in_phase e₁ (entry w t))) ≡ set (map (transaction_of w.bank) T) (t - 1) (in_state (TransactionState.pending (suc (length w.sets))) (transaction p t)) =
        map-set (transaction_of w.bank) T (t - 1) (in_phase e₁ (entry w t)) ∙ ap (λ y. set (map (transaction_of w.bank) T) (t - 1) (in_state (TransactionState.pending (suc (length w.sets))) y)) (sym (transaction_is w t)) in
        rw (transactions, transaction_is w t)

    pub coupled_number : Orderly (world_plain (with_number w t u)) → Coupled (with_number w t u)
    coupled_number ord =
        record {
          orderly = ord;
          eight = q.eight;
          stores = λ k b. let s = q.stores k b in record { commits = s.commits ∙ counted k; most = s.most; places = s.places; opens = s.opens ∙ sym (as_busy k) };
          held = λ o lo mo. at_set (λ v. is_working v.phase ≡ true → Held (w.sets ++ y₁ ∷ []) (w.applied v.home) (store_at w.bank v.home) v) no_entry T t o (in_phase e₁ (entry w t)) l m lo
              (λ _ _. let d = q.held t l m bt in record { here = d.here; is = d.is; own = λ n e. named n e; passed = moved (entry w t) d })
              (λ _ b. let d = q.held o lo (omega (arith, length-set T (t - 1) (in_phase e₁ (entry w t)))) b in record { here = d.here; is = d.is; own = λ n e. let g = d.own n e in (g.0, omega (arith, g.1, longer), g.2 ∙ sym (old n g.0 g.1)); passed = moved (entry w o) d });
          apart = apart_set T q.apart t e₁ l m (λ _. bt);
        }
      where
        longer : length (w.sets ++ y₁ ∷ []) ≡ suc (length w.sets)
        longer = omega (arith, length_push w.sets y₁)

        old : (n : ℕ) → 1 ≤ n → n ≤ length w.sets → pairs (w.sets ++ y₁ ∷ []) n ≡ pairs w.sets n
        old n a c = ap (λ (v : Numbered). v.pairs) (get_or_append_left w.sets (y₁ ∷ []) no_set (n - 1) (omega arith))

        named : (n : ℕ) → e₁ ≡ Phase.pending n → (1 ≤ n) × (n ≤ length (w.sets ++ y₁ ∷ [])) × ((q.held t l m bt).here.own ≡ pairs (w.sets ++ y₁ ∷ []) n)
        named n e =
            let a : suc (length w.sets) ≡ n = cc in
            let c : pairs (w.sets ++ y₁ ∷ []) n ≡ u = ap (λ (v : Numbered). v.pairs) (get_or_push w.sets y₁ no_set (n - 1) (omega arith)) in
            (omega arith, omega (arith, longer), own ∙ sym c)

        moved : (v : Entry) (d : Held w.sets (w.applied v.home) (store_at w.bank v.home) v) (j : ℕ) → d.here.overtaken j ≡ true →
            (o : ℕ) × (v.s < o) × (w.applied v.home o ≡ true) × (is_some (lookup (pairs (w.sets ++ y₁ ∷ []) o) j) ≡ true)
        moved v d j e = let g = d.passed j e in (g.0, g.1, g.2, ap (λ (z : Pairs). stands z j) (old g.0 (q.orderly.least v.home g.0 g.2) (q.orderly.most v.home g.0 g.2)) ∙ g.3)

        counted : (k : ℕ) → count (w.applied k) (length w.sets) ≡ count (w.applied k) (length (w.sets ++ y₁ ∷ []))
        counted k = let e : count (w.applied k) (suc (length w.sets)) ≡ count (w.applied k) (length w.sets) = rw (not_yet p q.orderly k) in sym (ap (count (w.applied k)) longer ∙ e)

        as_busy : (k : ℕ) → working k (set T (t - 1) (in_phase e₁ (entry w t))) ≡ working k T
        as_busy k = let a = tally_set (working_at k) no_entry T (t - 1) (in_phase e₁ (entry w t)) (omega arith) in omega (arith, rw bt at a)
