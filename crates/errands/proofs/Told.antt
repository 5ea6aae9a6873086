-- The own writes of a place, told one by one: those told and those left give the whole, and each front of them is a write set.
use Rattle.std.proofs.Common.{◌≡◌, ℕ, zero, suc, ◌+◌, ◌-◌, ◌<◌, ◌≤◌, Bool, true, false, cond, ltb, leb, List, [], ◌∷◌, ◌++◌, length, is_some, Some, None, Ok, Err, Option, Result, sym, refl, ap, ◌∙◌, subst, arith}
use Rattle.std.proofs.lemmas.List.{append-nil, append_assoc, length-append}
use Rattle.std.proofs.lemmas.Bool.{and_from, and_parts, le-leb, lt-ltb, ltb-true, cond-true}
use Rattle.tickets.specs.declared.pair.Pair.{Pair}
use Rattle.tickets.specs.WriteSets.{Pairs, rising}
use Rattle.tickets.specs.Meaning.{pair_of, built}
use Rattle.stores.specs.declared.fault.StoreFault.{StoreFault}
use Rattle.stores.specs.Model.{StoreModel, Place, Lawful, OwnLawful, bind, place_at, told_or, first_from, told_answer, count_below, own_count}
use Rattle.stores.proofs.Steps.{seat_has}
use Rattle.banks.specs.declared.fault.BankFault.{BankFault}
use Rattle.banks.specs.declared.fault.BankFault.TheVariants.{NoReplica}
use Rattle.banks.specs.Model.{asked, lifted, store_at}
use Rattle.errands.specs.Own.{told_pair, pairs_from, some_pairs, own_set, own_answer}

-- ---- a question to a place, as the bank answers it

abbrev pub place_asked : List StoreModel → ℕ → ℕ → Result Place BankFault
place_asked ms k p = asked ms k (λ m. place_at m p)

abbrev over : {A : Type 0} → Result Place BankFault → (Place → A) → Result A BankFault
over (Ok pl) f = Ok (f pl)
over (Err e) f = Err e

at_place : {A : Type 0} (ms : List StoreModel) (k p : ℕ) (f : Place → A) → asked ms k (λ m. bind (place_at m p) (λ pl. Ok (f pl))) ≡ over (place_asked ms k p) f
unfolding asked
at_place ms k p f = by (ltb k (length ms)) (place_at (store_at ms k) p)
  where
    by : (b : Bool) (r : Result Place StoreFault) → cond b (lifted k (bind r (λ pl. Ok (f pl)))) (Err (NoReplica k)) ≡ over (cond b (lifted k r) (Err (NoReplica k))) f
    by true (Ok pl) = refl
    by true (Err e) = refl
    by false r = refl

over_err : {A : Type 0} (r : Result Place BankFault) (f : Place → A) (d : BankFault) → over r f ≡ Err d → r ≡ Err d
over_err (Ok pl) f d e = let z : ◌≡◌ {A = ℕ} 0 1 = cc in absurd (omega arith)
over_err (Err x) f d e = cc

over_ok : {A : Type 0} (r : Result Place BankFault) (f : Place → A) (x : A) → over r f ≡ Ok x → (pl : Place) × ((r ≡ Ok pl) × (f pl ≡ x))
over_ok (Ok pl) f x e = (pl, (refl, cc))
over_ok (Err d) f x e = let z : ◌≡◌ {A = ℕ} 0 1 = cc in absurd (omega arith)

over_at : {A : Type 0} (r : Result Place BankFault) (f : Place → A) (x : A) (pl : Place) → r ≡ Ok pl → over r f ≡ Ok x → f pl ≡ x
over_at (Ok pl') f x pl e o = let s : pl' ≡ pl = cc in sym (ap f s) ∙ (let t : f pl' ≡ x = cc in t)
over_at (Err d) f x pl e o = let z : ◌≡◌ {A = ℕ} 0 1 = cc in absurd (omega arith)

-- a place that answers has at most eight own writes
pub few_own : (ms : List StoreModel) → ((k : ℕ) → k < length ms → Lawful (store_at ms k)) → (k p : ℕ) (pl : Place) → place_asked ms k p ≡ Ok pl → own_count pl ≤ 8
unfolding asked
few_own ms lawful k p pl e = by (ltb k (length ms)) (place_at (store_at ms k) p) refl refl e
  where
    by : (b : Bool) (r : Result Place StoreFault) → ltb k (length ms) ≡ b → place_at (store_at ms k) p ≡ r → cond b (lifted k r) (Err (NoReplica k)) ≡ Ok pl → own_count pl ≤ 8
    by true (Ok x) l at o =
        let s : x ≡ pl = cc in
        let seat = seat_has (store_at ms k) p pl (at ∙ ap Ok s) in
        (subst OwnLawful seat ((lawful k (ltb-true k (length ms) l)).own p)).0
    by true (Err d) l at o = let z : ◌≡◌ {A = ℕ} 0 1 = cc in absurd (omega arith)
    by false r l at o = let z : ◌≡◌ {A = ℕ} 0 1 = cc in absurd (omega arith)

-- ---- the own writes from an object on

record Next (own : ℕ → Option ℕ) (j n : ℕ) (w : Pair) (ps : Pairs) : Type 0 where
  from : j ≤ w.object
  below : w.object < j + n
  is : ps ≡ pair_of w ∷ pairs_from own (w.object + 1) (j + n - (w.object + 1))

next_of : (own : ℕ → Option ℕ) (j n : ℕ) (w : Pair) (o : Option ℕ) → ((w : Pair) → first_from own (j + 1) n ≡ Some w → Next own (j + 1) n w (pairs_from own (j + 1) n)) → told_or j o (first_from own (j + 1) n) ≡ Some w → Next own j (suc n) w (told_pair j o (pairs_from own (j + 1) n))
next_of own j n w (Some v) hyp e =
    let o : ◌≡◌ {A = Pair} (record { object = j; value = v }) w = cc in
    let a : j ≡ w.object = ap (λ (u : Pair). u.object) o in
    let b : v ≡ w.value = ap (λ (u : Pair). u.value) o in
    let z : n ≡ j + suc n - (w.object + 1) = omega arith in
    record { from = omega arith; below = omega arith; is = (λ i. (a i, b i) ∷ pairs_from own (a i + 1) (z i)) }
next_of own j n w None hyp e =
    let t = hyp w e in
    let z : j + 1 + n ≡ j + suc n = omega arith in
    record { from = omega (arith, t.from); below = omega (arith, t.below); is = t.is ∙ ap (λ m. pair_of w ∷ pairs_from own (w.object + 1) (m - (w.object + 1))) z }

next : (own : ℕ → Option ℕ) (j n : ℕ) (w : Pair) → first_from own j n ≡ Some w → Next own j n w (pairs_from own j n)
unfolding first_from pairs_from
next own j zero w e = let z : ◌≡◌ {A = ℕ} 0 1 = cc in absurd (omega arith)
next own j (suc n) w e = next_of own j n w (own j) (next own (j + 1) n) e

no_more_of : (own : ℕ → Option ℕ) (j n : ℕ) (o : Option ℕ) → (first_from own (j + 1) n ≡ None → pairs_from own (j + 1) n ≡ []) → told_or j o (first_from own (j + 1) n) ≡ None → told_pair j o (pairs_from own (j + 1) n) ≡ []
no_more_of own j n (Some v) hyp e = let z : ◌≡◌ {A = ℕ} 0 1 = cc in absurd (omega arith)
no_more_of own j n None hyp e = hyp e

no_more : (own : ℕ → Option ℕ) (j n : ℕ) → first_from own j n ≡ None → pairs_from own j n ≡ []
unfolding first_from pairs_from
no_more own j zero e = refl
no_more own j (suc n) e = no_more_of own j n (own j) (no_more own (j + 1) n) e

-- ---- they are a write set

told_rises : (low j : ℕ) (o : Option ℕ) (rest : Pairs) → low ≤ j → j < 128 → rising (suc j) rest ≡ true → rising low rest ≡ true → rising low (told_pair j o rest) ≡ true
told_rises low j (Some v) rest l h above all = and_from _ _ (le-leb low j l) (and_from _ _ (lt-ltb j 128 h) above)
told_rises low j None rest l h above all = all

pub own_rises : (own : ℕ → Option ℕ) (low j n : ℕ) → low ≤ j → j + n ≤ 128 → rising low (pairs_from own j n) ≡ true
unfolding pairs_from
own_rises own low j zero l h = refl
own_rises own low j (suc n) l h = told_rises low j (own j) (pairs_from own (j + 1) n) l (omega arith) (own_rises own (suc j) (j + 1) n (omega arith) (omega arith)) (own_rises own low (j + 1) n (omega arith) (omega arith))

length-told : (j : ℕ) (o : Option ℕ) (rest : Pairs) → length (told_pair j o rest) ≡ cond (is_some o) 1 0 + length rest
length-told j (Some v) rest = omega arith
length-told j None rest = omega arith

-- one more object at the end
length_more : (own : ℕ → Option ℕ) (j n : ℕ) → length (pairs_from own j (suc n)) ≡ cond (is_some (own (j + n))) 1 0 + length (pairs_from own j n)
unfolding pairs_from
length_more own j zero = let z : j ≡ j + zero = omega arith in length-told j (own j) [] ∙ ap (λ i. cond (is_some (own i)) 1 0 + 0) z
length_more own j (suc n) =
    let z : j + 1 + n ≡ j + suc n = omega arith in
    let t = length-told j (own j) (pairs_from own (j + 1) (suc n)) in
    let u = length-told j (own j) (pairs_from own (j + 1) n) in
    let m = length_more own (j + 1) n ∙ ap (λ i. cond (is_some (own i)) 1 0 + length (pairs_from own (j + 1) n)) z in
    omega arith

length_none : (own : ℕ → Option ℕ) → length (pairs_from own 0 zero) ≡ 0
unfolding pairs_from
length_none own = refl

pub length-own : (own : ℕ → Option ℕ) (n : ℕ) → length (pairs_from own 0 n) ≡ count_below (λ j. is_some (own j)) n
unfolding count_below
length-own own zero = length_none own
length-own own (suc n) =
    let z : 0 + n ≡ n = omega arith in
    length_more own 0 n ∙ (λ i. cond (is_some (own (z i))) 1 0 + length-own own n i)

rising_front : (low : ℕ) (xs : Pairs) (y : ℕ × ℕ) (ys : Pairs) → rising low (xs ++ y ∷ ys) ≡ true → rising low (xs ++ y ∷ []) ≡ true
rising_front low [] (j, v) ys r =
    let a = and_parts (leb low j) _ r in
    let b = and_parts (ltb j 128) _ a.1 in
    and_from _ _ a.0 (and_from _ _ b.0 refl)
rising_front low ((i, u) ∷ xs) y ys r =
    let a = and_parts (leb low i) _ r in
    let b = and_parts (ltb i 128) _ a.1 in
    and_from _ _ a.0 (and_from _ _ b.0 (rising_front (suc i) xs y ys b.1))

-- a front of them is a write set
pub front_built : (pl : Place) (xs : Pairs) (y : ℕ × ℕ) (ys : Pairs) → own_count pl ≤ 8 → xs ++ y ∷ ys ≡ pairs_from pl.own 0 128 → built (xs ++ y ∷ []) ≡ Some (xs ++ y ∷ [])
front_built pl xs y ys few e =
    let r = ap (rising 0) e ∙ own_rises pl.own 0 0 128 (omega arith) (omega arith) in
    let n = ap length e ∙ length-own pl.own 128 in
    let front = xs ++ y ∷ [] in
    let short : length front ≤ 8 = omega (arith, length-append xs (y ∷ ys), length-append xs (y ∷ [])) in
    let some : 0 < length front = omega (arith, length-append xs (y ∷ [])) in
    cond-true _ _ _ (and_from _ _ (lt-ltb 0 (length front) some) (and_from _ _ (le-leb (length front) 8 short) (rising_front 0 xs y ys r)))

-- ---- the turns

abbrev pub told_at : ℕ → Place → Option Pair
told_at j pl = first_from pl.own j (128 - j)

-- those told and those left, from object j on, give the whole
abbrev pub GiveWhole : List StoreModel → ℕ → ℕ → ℕ → Pairs → Type 0
GiveWhole ms k p j ps = (pl : Place) → place_asked ms k p ≡ Ok pl → ps ++ pairs_from pl.own j (128 - j) ≡ pairs_from pl.own 0 128

pub record Turn (ms : List StoreModel) (k p j : ℕ) (ps : Pairs) (w : Pair) : Type 0 where
  pub from : j ≤ w.object
  pub below : w.object < 128
  pub set : built (ps ++ pair_of w ∷ []) ≡ Some (ps ++ pair_of w ∷ [])
  pub left : GiveWhole ms k p (w.object + 1) (ps ++ pair_of w ∷ [])

module _ (ms : List StoreModel) (k p j : ℕ) (ps : Pairs) (inv : GiveWhole ms k p j ps) where
  one_more : (pl : Place) (w : Pair) → j ≤ 128 → place_asked ms k p ≡ Ok pl → told_at j pl ≡ Some w → ps ++ pair_of w ∷ pairs_from pl.own (w.object + 1) (128 - (w.object + 1)) ≡ pairs_from pl.own 0 128
  one_more pl w h at q =
      let t = next pl.own j (128 - j) w q in
      let z : j + (128 - j) - (w.object + 1) ≡ 128 - (w.object + 1) = omega arith in
      ap (λ l. ps ++ l) (ap (λ m. pair_of w ∷ pairs_from pl.own (w.object + 1) m) (sym z) ∙ sym t.is) ∙ inv pl at

  turn_over : ((i : ℕ) → i < length ms → Lawful (store_at ms i)) → (w : Pair) → j ≤ 128 → over (place_asked ms k p) (told_at j) ≡ Ok (Some w) → Turn ms k p j ps w
  turn_over lawful w h e =
      let here = over_ok (place_asked ms k p) (told_at j) (Some w) e in
      let pl = here.0 in
      let t = next pl.own j (128 - j) w here.1.1 in
      record {
        from = t.from;
        below = omega (arith, t.below);
        set = front_built pl ps (pair_of w) _ (few_own ms lawful k p pl here.1.0) (one_more pl w h here.1.0 here.1.1);
        left = λ x at. append_assoc ps (pair_of w ∷ []) _ ∙ one_more x w h at (over_at (place_asked ms k p) (told_at j) (Some w) x at e);
      }

  -- one more is told
  pub turn : ((i : ℕ) → i < length ms → Lawful (store_at ms i)) → (w : Pair) → j ≤ 128 → asked ms k (λ m. told_answer m p j) ≡ Ok (Some w) → Turn ms k p j ps w
  turn lawful w h e = turn_over lawful w h (sym (at_place ms k p (told_at j)) ∙ e)

  -- none is left
  pub turn_none : asked ms k (λ m. told_answer m p j) ≡ Ok None → asked ms k (λ m. own_answer m p) ≡ Ok (some_pairs ps)
  turn_none e =
      let here = over_ok (place_asked ms k p) (told_at j) None (sym (at_place ms k p (told_at j)) ∙ e) in
      let pl = here.0 in
      let whole = sym (inv pl here.1.0) ∙ ap (λ l. ps ++ l) (no_more pl.own j (128 - j) here.1.1) ∙ append-nil ps in
      at_place ms k p own_set ∙ ap (λ r. over r own_set) here.1.0 ∙ ap (λ l. Ok (some_pairs l)) whole

-- the place does not answer
pub turn_refused : (ms : List StoreModel) (k p j : ℕ) (d : BankFault) → asked ms k (λ m. told_answer m p j) ≡ Err d → asked ms k (λ m. own_answer m p) ≡ Err d
turn_refused ms k p j d e =
    let none = over_err (place_asked ms k p) (told_at j) d (sym (at_place ms k p (told_at j)) ∙ e) in
    at_place ms k p own_set ∙ ap (λ r. over r own_set) none

pub some_push : (xs : Pairs) (x : ℕ × ℕ) → some_pairs (xs ++ x ∷ []) ≡ Some (xs ++ x ∷ [])
some_push [] x = refl
some_push (q ∷ xs) x = refl
