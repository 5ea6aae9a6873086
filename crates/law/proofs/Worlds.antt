-- How the plain board of a world follows a change of the world.
use Rattle.std.proofs.Common.{◌≡◌, ℕ, zero, suc, ◌-◌, ◌<◌, true, List, [], ◌∷◌, map, length, get_or, set, Some, None, Option, refl, ap, ◌∙◌, subst, arith}
use lib.ListN.{get_or-map, length-map}
use Rattle.std.proofs.lemmas.List.{map-set, set-get_or}
use Rattle.tickets.specs.WriteSets.{Pairs}
use Rattle.law.specs.Opening.{no_store, store_at}
use Rattle.law.specs.Plain.{Transaction, TransactionState, board, busy, is_busy, transaction}
use Rattle.law.specs.Store.{Place, Store, overtake_in, own_of, place, snapshot_of}
use Rattle.law.specs.World.{Entry, Phase, World, board_of, entry, is_working, no_entry, state_of, transaction_of, working, world_plain}

-- the transaction t of the plain board
pub transaction_is : (w : World) (t : ℕ) → transaction (world_plain w) t ≡ transaction_of w.bank (entry w t)
transaction_is w t = get_or-map (transaction_of w.bank) w.entries (t - 1) no_entry

pub board_is : (w : World) (k : ℕ) → board (world_plain w) k ≡ (store_at w.bank k).board
board_is w k = get_or-map board_of w.bank k no_store

pub transactions_length : (w : World) → length (world_plain w).transactions ≡ length w.entries
transactions_length w = length-map w.entries (transaction_of w.bank)

pub replicas : (w : World) → length (world_plain w).boards ≡ length w.bank
replicas w = length-map w.bank board_of

pub working_state : (f : Phase) (o : Option Place) → is_busy (state_of f o) ≡ is_working f
working_state Phase.live o = refl
working_state (Phase.pending n) o = refl
working_state Phase.committed o = refl
working_state Phase.aborted o = refl
working_state Phase.given_up o = refl

pub working_busy : (bank : List Store) (k : ℕ) (T : List Entry) → busy k (map (transaction_of bank) T) ≡ working k T
working_busy bank k [] = refl
working_busy bank k (x ∷ T) = rw (working_state x.phase (place (store_at bank x.home) x.place), working_busy bank k T)

-- places with one snapshot and the same own writes
abbrev pub Alike : Option Place → Option Place → Type 0
Alike o' o = (snapshot_of o' ≡ snapshot_of o) × (own_of o' ≡ own_of o)

pub alike_same : (o' o : Option Place) → o' ≡ o → Alike o' o
alike_same o' o e = (ap snapshot_of e, ap own_of e)

pub alike_overtaken : (u : Pairs) (o : Option Place) → Alike (overtake_in u o) o
alike_overtaken u None = (refl, refl)
alike_overtaken u (Some x) = (refl, refl)

state_kept : (f : Phase) (o' o : Option Place) → (is_working f ≡ true → Alike o' o) → state_of f o' ≡ state_of f o
state_kept Phase.live o' o h = let a = h refl in rw (a.0, a.1)
state_kept (Phase.pending n) o' o h = refl
state_kept Phase.committed o' o h = refl
state_kept Phase.aborted o' o h = refl
state_kept Phase.given_up o' o h = refl

pub transaction_kept : (after bank : List Store) (x : Entry) →
    (is_working x.phase ≡ true → Alike (place (store_at after x.home) x.place) (place (store_at bank x.home) x.place)) →
    transaction_of after x ≡ transaction_of bank x
transaction_kept after bank x h = ap (λ (e : TransactionState). record { home = x.home; s = x.s; state = e }) (state_kept x.phase (place (store_at after x.home) x.place) (place (store_at bank x.home) x.place) h)

pub map_same : (f g : Entry → Transaction) (T : List Entry) → ((o : ℕ) → o < length T → f (get_or T o no_entry) ≡ g (get_or T o no_entry)) → map f T ≡ map g T
map_same f g [] h = refl
map_same f g (x ∷ T) h = let a : f x ≡ g x = h 0 (omega arith) in let ih = map_same f g T (λ o l. h (suc o) (omega arith)) in cc

-- the entry at i is changed, and the others give the same
pub map_changed : (f g : Entry → Transaction) (T : List Entry) (i : ℕ) (x : Entry) →
    ((o : ℕ) → o < length T → (o ≡ i → ⊥) → f (get_or T o no_entry) ≡ g (get_or T o no_entry)) → map f (set T i x) ≡ set (map g T) i (f x)
map_changed f g [] i x h = refl
map_changed f g (y ∷ T) zero x h = ap (λ l. f x ∷ l) (map_same f g T (λ o l. h (suc o) (omega arith) (omega arith)))
map_changed f g (y ∷ T) (suc i) x h = let a : f y ≡ g y = h 0 (omega arith) (omega arith) in let ih = map_changed f g T i x (λ o l n. h (suc o) (omega arith) (omega arith)) in cc

pub boards_kept : (bank : List Store) (k : ℕ) (τ : Store) → τ.board ≡ (store_at bank k).board → map board_of (set bank k τ) ≡ map board_of bank
boards_kept bank k τ e = map-set board_of bank k τ ∙ rw (e, ← (get_or-map board_of bank k no_store)) (set-get_or (map board_of bank) k [])

-- what holds of the numbers from 1 on, by places from 0 on
pub at_number : (P : ℕ → Type 0) (o : ℕ) → P (suc o - 1) → P o
at_number P o h = let e : suc o - 1 ≡ o = omega arith in subst P e h
