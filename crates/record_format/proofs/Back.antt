-- What is written of a run reads back as the same items.
use Rattle.std.proofs.Common.{◌≡◌, ℕ, ◌+◌, ◌*◌, ◌/◌, ◌%◌, ◌<◌, ◌≤◌, true, false, ltb, List, [], ◌∷◌, ◌++◌, length, drop, None, Ok, refl, ap, ◌∙◌, arith}
use Rattle.std.specs.List.{flat_map}
use Rattle.std.proofs.lemmas.Bool.{and_from, or_from, eq-eqb, le-leb, le-ltb, cond-true, cond-false}
use Rattle.std.proofs.lemmas.List.{length-append, drop_at}
use Rattle.tickets.specs.WriteSets.{Pairs}
use Rattle.record_format.specs.Items.{Item, within_tops, fits, first_unfit, Run}
use Rattle.record_format.specs.Written.{pair_bytes, body, entry, contents, bodies, first_body, encoded}
use Rattle.record_format.specs.Reading.{two_of, pairs_in, item_in, stands, before, decoded_from, decoded}
use Rattle.record_format.proofs.Numbers.{two_back, four_back}
use Rattle.record_format.proofs.Fitting.{Fit, fit, first_value, first_fits, run_parts}
use Rattle.record_format.proofs.Lengths.{length-body, length-contents}

pub pairs_back : (ps : Pairs) (rest : List ℕ) → within_tops ps ≡ true → pairs_in (length ps) (flat_map pair_bytes ps ++ rest) ≡ ps
pairs_back [] rest w = refl
pairs_back ((j, v) ∷ ps) rest w =
    let f = first_value j v ps w in
    let e = four_back v f.narrow in
    let r = pairs_back ps rest f.others in
    (λ i. (j, e i) ∷ r i)

item_back : (n at : ℕ) (it : Item) (es rs : List ℕ) → Fit n it → n ≤ 256 → item_in (entry at it ++ es) (body it ++ rs) ≡ it
item_back n at it es rs f few =
    let s = two_back it.s (omega (arith, f.older)) in
    let p = pairs_back it.pairs rs f.within in
    (λ i. record { home = it.home; s = s i; pairs = p i })

-- the offset is of two bytes, since what is left of the run is short enough
items_back : (its : List Item) (n at : ℕ) (x : List ℕ) → first_unfit n its ≡ None → n + length its ≤ 257 → at + 42 * length its < 65536 → decoded_from (length its) n at (contents at its ++ x) (bodies its) ≡ Ok its
items_back [] n at x h hn ha = refl
items_back (it ∷ its) n at x h hn ha =
    let f = first_fits n it its h in
    let t = fit n it f.first in
    let few = t.few in
    let long = length-body it in
    let next = at + length (body it) in
    let es = contents at (it ∷ its) ++ x in
    let rs = bodies (it ∷ its) in
    let e = item_back n at it (contents next its ++ x) (bodies its) t (omega arith) in
    let s : stands n at es rs ≡ true =
    and_from _ _ (eq-eqb _ _ (two_back at (omega arith)))
    (and_from _ _ (le-leb _ _ (omega (arith, length-append (body it) (bodies its)))) (ap (fits n) e ∙ f.first)) in
    let size : 2 + 5 * length it.pairs ≡ length (body it) = omega arith in
    let d : drop (2 + 5 * length it.pairs) rs ≡ bodies its = drop_at (body it) (bodies its) _ long in
    let ih = items_back its (n + 1) next x f.others (omega arith) (omega arith) in
    cond-true _ _ _ s ∙ (λ i. before (e i) (decoded_from (length its) (n + 1) (at + size i) (contents next its ++ x) (d i))) ∙ ap (before it) ih

-- a record with its count and its contents
pub decoded_at : (bs : List ℕ) (n : ℕ) → two_of bs ≡ n → first_body n ≤ length bs → n ≤ 256 → decoded bs ≡ decoded_from n 1 (first_body n) (drop 2 bs) (drop (first_body n) bs)
decoded_at bs n e long few =
    let a : ltb (length bs) 2 ≡ false = le-ltb _ _ (omega arith) in
    let b : ltb 256 (two_of bs) ≡ false = le-ltb _ _ (omega arith) in
    let c : ltb (length bs) (first_body (two_of bs)) ≡ false = le-ltb _ _ (omega arith) in
    cond-false _ _ _ (or_from _ _ a (or_from _ _ b c)) ∙ ap (λ m. decoded_from m 1 (first_body m) (drop 2 bs) (drop (first_body m) bs)) e

pub reads_back : (its : List Item) → Run its → decoded (encoded its) ≡ Ok its
reads_back its run =
    let n = length its in
    let at = first_body n in
    let p = run_parts its run in
    let few = p.few in
    let c = length-contents at its in
    let l = length-append (contents at its) (bodies its) in
    let d : drop at (encoded its) ≡ bodies its = drop_at (n / 256 % 256 ∷ n % 256 ∷ contents at its) (bodies its) at (omega arith) in
    decoded_at (encoded its) n (two_back n (omega arith)) (omega arith) few
    ∙ ap (λ rs. decoded_from n 1 at (contents at its ++ bodies its) rs) d
    ∙ items_back its 1 at (bodies its) p.all (omega arith) (omega arith)
