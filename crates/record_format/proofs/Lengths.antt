-- How long the parts of a record are, and why every offset fits its two bytes.
use Rattle.std.proofs.Common.{◌≡◌, ℕ, ◌+◌, ◌*◌, ◌<◌, ◌≤◌, List, [], ◌∷◌, length, None, refl, arith}
use Rattle.std.specs.List.{flat_map, AllByRecursion}
use Rattle.std.proofs.lemmas.List.{length-append}
use Rattle.tickets.specs.WriteSets.{Pairs}
use Rattle.record_format.specs.Items.{Item, first_unfit}
use Rattle.record_format.specs.Written.{pair_bytes, body, contents, bodies, first_body, encoded}
use Rattle.record_format.specs.Laws.{offsets, SizeLaws}
use Rattle.record_format.proofs.Fitting.{fit, first_fits, run_parts}

pub length-pair_bytes : (ps : Pairs) → length (flat_map pair_bytes ps) ≡ 5 * length ps
length-pair_bytes [] = refl
length-pair_bytes (p ∷ ps) = omega (arith, length-pair_bytes ps)

pub length-body : (it : Item) → length (body it) ≡ 2 + 5 * length it.pairs
length-body it = omega (arith, length-pair_bytes it.pairs)

pub length-contents : (at : ℕ) (its : List Item) → length (contents at its) ≡ 4 * length its
length-contents at [] = refl
length-contents at (it ∷ its) = omega (arith, length-contents (at + length (body it)) its)

pub length-encoded : (its : List Item) → length (encoded its) ≡ first_body (length its) + length (bodies its)
length-encoded its =
    let c = length-contents (first_body (length its)) its in
    omega (arith, length-append (contents (first_body (length its)) its) (bodies its))

-- a body of at most eight pairs has at most 42 bytes
bodies_at_most : (n : ℕ) (its : List Item) → first_unfit n its ≡ None → length (bodies its) ≤ 42 * length its
bodies_at_most n [] h = omega arith
bodies_at_most n (it ∷ its) h =
    let f = first_fits n it its h in
    let few = (fit n it f.first).few in
    omega (arith, length-append (body it) (bodies its), length-body it, bodies_at_most (n + 1) its f.others)

bodies_full : (its : List Item) → AllByRecursion (λ it. length it.pairs ≡ 8) its → length (bodies its) ≡ 42 * length its
bodies_full [] h = refl
bodies_full (it ∷ its) h =
    let full = h.0 in
    omega (arith, length-append (body it) (bodies its), length-body it, bodies_full its h.1)

offsets_fit_from : (n at : ℕ) (its : List Item) → first_unfit n its ≡ None → at + 42 * length its < 65536 → AllByRecursion (λ o. o < 65536) (offsets at its)
offsets_fit_from n at [] h room = tt
offsets_fit_from n at (it ∷ its) h room =
    let f = first_fits n it its h in
    let few = (fit n it f.first).few in
    let size = length-body it in
    (omega arith, offsets_fit_from (n + 1) (at + length (body it)) its f.others (omega arith))

-- 2 + 4 · 256 + 42 · 256 = 11778, and that is below 65536
pub size_laws : SizeLaws
size_laws = record {
  longest = λ its run. let p = run_parts its run in let few = p.few in omega (arith, length-encoded its, bodies_at_most 1 its p.all);
  reached = λ its many full. omega (arith, length-encoded its, bodies_full its full);
  offsets_fit = λ its run. let p = run_parts its run in let few = p.few in offsets_fit_from 1 (first_body (length its)) its p.all (omega arith);
}
