-- A run written as a whole: what is answered, what the buffer holds, and what reads back.
use Rattle.std.proofs.Common.{◌≡◌, ℕ, ◌+◌, ◌-◌, ◌*◌, ◌<◌, ◌≤◌, List, ◌++◌, length, take, drop, Some, None, Ok, Option, sym, refl, ap, ◌∙◌, arith}
use Rattle.std.proofs.lemmas.Bool.{le-leb, cond-true}
use Rattle.std.proofs.lemmas.List.{take_at}
use Rattle.record_format.specs.Items.{Item, Run, unfit}
use Rattle.record_format.specs.Written.{two, contents, bodies, first_body, encoded}
use Rattle.record_format.specs.Reading.{decoded}
use Rattle.record_format.specs.Buffers.{Wrote}
use Rattle.record_format.specs.Calls.{sized, within_room, size_answer, write_answer, laid, write_bytes}
use Rattle.record_format.proofs.Fitting.{run_parts}
use Rattle.record_format.proofs.Lengths.{length-contents, length-encoded, size_laws}
use Rattle.record_format.proofs.Back.{reads_back}
use Rattle.record_format.proofs.Writing.{then}

-- ---- the parts of a run's record

-- the items of a run are few, there is room for each part, and every offset fits its two bytes
pub record Fitting (its : List Item) (room : ℕ) : Type 0 where
  pub few : length its ≤ 256
  pub contents_fit : 2 + 4 * length its ≤ room
  pub all_fit : first_body (length its) + length (bodies its) ≤ room
  pub offsets_fit : first_body (length its) + length (bodies its) < 65536

pub fitting : (its : List Item) (room : ℕ) → Run its → length (encoded its) ≤ room → Fitting its room
fitting its room run h =
    let l = length-encoded its in
    let few = (run_parts its run).few in
    let longest = size_laws.longest its run in
    record { few = omega arith; contents_fit = omega arith; all_fit = omega arith; offsets_fit = omega arith }

pub parts_written : (its : List Item) {b b1 b2 b3 : List ℕ} {at head middle end : ℕ} → Run its → at + length (encoded its) ≤ length b → Wrote b at (two (length its)) b1 head → Wrote b1 head (contents (first_body (length its)) its) b2 middle → Wrote b2 middle (bodies its) b3 end → Wrote b at (encoded its) b3 end
parts_written its {b} {b1} {b2} {b3} {at} run h u v w =
    let f = fitting its (length b - at) run (omega (arith, h)) in
    let c = length-contents (first_body (length its)) its in
    then (omega (arith, f.contents_fit, h)) (then (omega (arith, f.contents_fit, h)) u v) w

-- ---- the whole

run_sized : (o : Option ℕ) (long needed : ℕ) → Ok needed ≡ sized o long → (o ≡ None) × (needed ≡ long)
run_sized None long needed e = (refl, let f = e in cc)
run_sized (Some item) long needed e = absurd (let z : ◌≡◌ {A = ℕ} 0 1 = cc in omega arith)

pub record Recorded (its : List Item) (b b' : List ℕ) (end : ℕ) : Type 0 where
  pub answer : Ok end ≡ write_answer its (length b)
  pub bytes : b' ≡ write_bytes its b
  pub reads_back : decoded (take end b') ≡ Ok its

pub recorded : (its : List Item) (needed : ℕ) {b b' : List ℕ} {end : ℕ} → Ok needed ≡ size_answer its → needed ≤ length b → Wrote b 0 (encoded its) b' end → Recorded its b b' end
recorded its needed {b} {b'} {end} e h w =
    let r = run_sized (unfit its) (length (encoded its)) needed e in
    let long = length (encoded its) in
    let ends : end ≡ needed = omega (arith, w.ends, r.1) in
    let zero_on : 0 + long ≡ long = omega arith in
    let is : b' ≡ encoded its ++ drop long b = w.after ∙ ap (λ k. encoded its ++ drop k b) zero_on in
    let answer : write_answer its (length b) ≡ Ok needed = ap (λ o. within_room o (length b)) (sym e) ∙ cond-true _ _ _ (le-leb needed (length b) h) in
    record {
      answer = ap Ok ends ∙ sym answer;
      bytes = is ∙ sym (ap (λ o. laid o (encoded its) b) answer);
      reads_back = ap decoded ((λ i. take (ends i) (is i)) ∙ take_at (encoded its) (drop long b) needed (sym r.1)) ∙ reads_back its r.0;
    }
