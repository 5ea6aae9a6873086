-- What reads is a run, and is written back as the same bytes.
use Rattle.std.proofs.Common.{◌≡◌, ℕ, zero, suc, ◌+◌, ◌*◌, ◌<◌, ◌≤◌, true, false, eqb, ltb, leb, List, [], ◌∷◌, ◌++◌, length, get_or, take, drop, None, Ok, Err, Result, sym, refl, ap, ◌∙◌, subst, inl, inr, arith}
use Rattle.std.specs.List.{flat_map}
use Rattle.std.proofs.lemmas.Bool.{and_parts, or_parts, eqb-true, leb-true, ltb-false, cond-true, cond-false, cases_Bool}
use Rattle.std.proofs.ByRecursion.{All-drop}
use Rattle.std.proofs.lemmas.List.{length-drop, take-append-drop}
use Rattle.record_format.specs.Items.{Item, fits, first_unfit, Run}
use Rattle.record_format.specs.Written.{two, pair_bytes, body, entry, contents, bodies, first_body, encoded}
use Rattle.record_format.specs.Reading.{two_of, pairs_in, item_in, size_in, stands, before, decoded_from, headless, decoded}
use Rattle.record_format.specs.Laws.{Bytes}
use Rattle.record_format.proofs.Numbers.{two_forth, four_forth}
use Rattle.record_format.proofs.Fitting.{all_fit, run_from}
use Rattle.record_format.proofs.Lengths.{length-body}

pub length-pairs_in : (k : ℕ) (bs : List ℕ) → length (pairs_in k bs) ≡ k
length-pairs_in zero bs = refl
length-pairs_in (suc k) bs = ap suc (length-pairs_in k (drop 5 bs))

pub pairs_forth : (k : ℕ) (bs : List ℕ) → Bytes bs → 5 * k ≤ length bs → flat_map pair_bytes (pairs_in k bs) ≡ take (5 * k) bs
pairs_forth zero bs h long = refl
pairs_forth (suc k) [] h long = absurd (omega arith)
pairs_forth (suc k) (a ∷ []) h long = absurd (omega arith)
pairs_forth (suc k) (a ∷ b ∷ []) h long = absurd (omega arith)
pairs_forth (suc k) (a ∷ b ∷ c ∷ []) h long = absurd (omega arith)
pairs_forth (suc k) (a ∷ b ∷ c ∷ d ∷ []) h long = absurd (omega arith)
pairs_forth (suc k) (a ∷ b ∷ c ∷ d ∷ e ∷ bs) h long =
    let f = four_forth b c d e h.1.0 h.1.1.0 h.1.1.1.0 h.1.1.1.1.0 in
    let r = pairs_forth k bs h.1.1.1.1.1 (omega arith) in
    let n : 5 * suc k ≡ suc (suc (suc (suc (suc (5 * k))))) = omega arith in
    (λ i. a ∷ (f i ++ r i)) ∙ ap (λ m. take m (a ∷ b ∷ c ∷ d ∷ e ∷ bs)) (sym n)

-- a body is the bytes that it was read from
pub body_forth : (es rs : List ℕ) → Bytes rs → size_in es ≤ length rs → body (item_in es rs) ≡ take (size_in es) rs
body_forth es [] h long = absurd (omega arith)
body_forth es (x ∷ []) h long = absurd (omega arith)
body_forth es (x ∷ y ∷ rs) h long =
    let k = get_or es 1 0 in
    let s = two_forth x y h.0 h.1.0 in
    let u = pairs_forth k rs h.1.1 (omega arith) in
    let q : 2 + 5 * k ≡ suc (suc (5 * k)) = omega arith in
    (λ i. s i ++ u i) ∙ ap (λ m. take m (x ∷ y ∷ rs)) (sym q)

pub record Stands (n at : ℕ) (es rs : List ℕ) : Type 0 where
  pub offset : two_of (drop 2 es) ≡ at
  pub long : size_in es ≤ length rs
  pub fine : fits n (item_in es rs) ≡ true

pub stands_parts : (n at : ℕ) (es rs : List ℕ) → stands n at es rs ≡ true → Stands n at es rs
stands_parts n at es rs t =
    let p = and_parts (eqb (two_of (drop 2 es)) at) _ t in
    let q = and_parts (leb (size_in es) (length rs)) _ p.1 in
    record { offset = eqb-true _ _ p.0; long = leb-true _ _ q.0; fine = q.1 }

entry_forth : (at a b c d : ℕ) (es rs : List ℕ) → Bytes (a ∷ b ∷ c ∷ d ∷ es) → c * 256 + d ≡ at → entry at (item_in (a ∷ b ∷ c ∷ d ∷ es) rs) ≡ a ∷ b ∷ c ∷ d ∷ []
entry_forth at a b c d es rs h off =
    let k = length-pairs_in b (drop 2 rs) in
    let p = ap two (sym off) ∙ two_forth c d h.1.1.0 h.1.1.1.0 in
    (λ i. a ∷ k i ∷ p i)

-- what is left of the record, as it is written of what is left of the items
pub record Same (k n at : ℕ) (es rs : List ℕ) (its : List Item) : Type 0 where
  pub count : length its ≡ k
  pub front : contents at its ≡ take (4 * k) es
  pub back : bodies its ≡ rs
  pub all : first_unfit n its ≡ None

-- the first item, put before the others
first_forth : (k n at : ℕ) (es rs : List ℕ) (rest : List Item) → Bytes es → Bytes rs → 4 * suc k ≤ length es → Stands n at es rs → Same k (n + 1) (at + size_in es) (drop 4 es) (drop (size_in es) rs) rest → Same (suc k) n at es rs (item_in es rs ∷ rest)
first_forth k n at [] rs rest he hr long t w = absurd (omega arith)
first_forth k n at (a ∷ []) rs rest he hr long t w = absurd (omega arith)
first_forth k n at (a ∷ b ∷ []) rs rest he hr long t w = absurd (omega arith)
first_forth k n at (a ∷ b ∷ c ∷ []) rs rest he hr long t w = absurd (omega arith)
first_forth k n at (a ∷ b ∷ c ∷ d ∷ es) rs rest he hr long t w =
    let all = a ∷ b ∷ c ∷ d ∷ es in
    let m : 4 * suc k ≡ suc (suc (suc (suc (4 * k)))) = omega arith in
    let e = entry_forth at a b c d es rs he t.offset in
    let whole = body_forth all rs hr t.long in
    let size : length (body (item_in all rs)) ≡ size_in all = omega (arith, length-body (item_in all rs), length-pairs_in b (drop 2 rs)) in
    record {
      count = ap suc w.count;
      front = (λ i. e i ++ contents (at + size i) rest) ∙ ap (λ l. a ∷ b ∷ c ∷ d ∷ l) w.front ∙ ap (λ x. take x all) (sym m);
      back = (λ i. whole i ++ w.back i) ∙ take-append-drop (size_in all) rs;
      all = all_fit n (item_in all rs) rest t.fine w.all;
    }

-- where an item before the others reads, the others do
pub others_read : (it : Item) (r : Result (List Item) ℕ) (its : List Item) → before it r ≡ Ok its → (rest : List Item) × ((r ≡ Ok rest) × (it ∷ rest ≡ its))
others_read it (Ok rest) its e = (rest, (refl, cc))
others_read it (Err n) its e = absurd (let z : ◌≡◌ {A = ℕ} 0 1 = cc in omega arith)

pub items_forth : (k n at : ℕ) (es rs : List ℕ) (its : List Item) → Bytes es → Bytes rs → 4 * k ≤ length es → decoded_from k n at es rs ≡ Ok its → Same k n at es rs its
items_forth zero n at es [] [] he hr long e = record { count = refl; front = refl; back = refl; all = refl }
items_forth zero n at es [] (it ∷ its) he hr long e = absurd (let z : ◌≡◌ {A = ℕ} 0 1 = cc in omega arith)
items_forth zero n at es (r ∷ rs) its he hr long e = absurd (let z : ◌≡◌ {A = ℕ} 0 1 = cc in omega arith)
items_forth (suc k) n at es rs its he hr long e =
    elim (cases_Bool (stands n at es rs)) [
      | inl t ↦
          let f = others_read _ _ its (sym (cond-true _ _ _ t) ∙ e) in
          let l = length-drop 4 es in
          let w = items_forth k (n + 1) (at + size_in es) (drop 4 es) (drop (size_in es) rs) f.0 (All-drop (λ b. b < 256) 4 es he) (All-drop (λ b. b < 256) (size_in es) rs hr) (omega arith) f.1.0 in
          subst (Same (suc k) n at es rs) f.1.1 (first_forth k n at es rs f.0 he hr long (stands_parts n at es rs t) w)
      | inr t ↦ let u = sym (cond-false (stands n at es rs) _ _ t) ∙ e in absurd (let z : ◌≡◌ {A = ℕ} 0 1 = cc u in omega arith)
    ]

-- the head of a record that reads
pub record Head (bs : List ℕ) : Type 0 where
  pub few : two_of bs ≤ 256
  pub long : first_body (two_of bs) ≤ length bs

pub head : (bs : List ℕ) → headless bs ≡ false → Head bs
head bs h =
    let o = or_parts (ltb (length bs) 2) _ h in
    let p = or_parts (ltb 256 (two_of bs)) _ o.1 in
    record { few = ltb-false _ _ p.0; long = ltb-false _ _ p.1 }

pub head_forth : (bs : List ℕ) (its : List Item) → Bytes bs → Head bs → Same (two_of bs) 1 (first_body (two_of bs)) (drop 2 bs) (drop (first_body (two_of bs)) bs) its → encoded its ≡ bs
head_forth [] its h d w = absurd (omega (arith, d.long))
head_forth (x ∷ []) its h d w = absurd (omega (arith, d.long))
head_forth (x ∷ y ∷ bs) its h d w =
    let n = x * 256 + y in
    let all = x ∷ y ∷ bs in
    let p = two_forth x y h.0 h.1.0 in
    let q : 2 + 4 * n ≡ suc (suc (4 * n)) = omega arith in
    let tail = w.back ∙ ap (λ m. drop m all) q in
    ap (λ m. two m ++ (contents (first_body m) its ++ bodies its)) w.count
    ∙ (λ i. p i ++ (w.front i ++ tail i))
    ∙ ap (λ l. x ∷ y ∷ l) (take-append-drop (4 * n) bs)

pub record Read (bs : List ℕ) (its : List Item) : Type 0 where
  pub head : Head bs
  pub same : Same (two_of bs) 1 (first_body (two_of bs)) (drop 2 bs) (drop (first_body (two_of bs)) bs) its

pub read_parts : (bs : List ℕ) (its : List Item) → Bytes bs → decoded bs ≡ Ok its → Read bs its
read_parts bs its h e =
    elim (cases_Bool (headless bs)) [
      | inl t ↦ let u = sym (cond-true (headless bs) _ _ t) ∙ e in absurd (let z : ◌≡◌ {A = ℕ} 0 1 = cc u in omega arith)
      | inr t ↦
          let d = head bs t in
          let long = d.long in
          let l = length-drop 2 bs in
          record {
            head = d;
            same = items_forth (two_of bs) 1 (first_body (two_of bs)) (drop 2 bs) (drop (first_body (two_of bs)) bs) its (All-drop (λ b. b < 256) 2 bs h) (All-drop (λ b. b < 256) (first_body (two_of bs)) bs h) (omega arith) (sym (cond-false _ _ _ t) ∙ e);
          }
    ]

pub writes_back : (bs : List ℕ) (its : List Item) → Bytes bs → decoded bs ≡ Ok its → encoded its ≡ bs
writes_back bs its h e = let r = read_parts bs its h e in head_forth bs its h r.head r.same

pub is_a_run : (bs : List ℕ) (its : List Item) → Bytes bs → decoded bs ≡ Ok its → Run its
is_a_run bs its h e =
    let r = read_parts bs its h e in
    let few = r.head.few in
    run_from its (record { few = omega (arith, r.same.count); all = r.same.all })
