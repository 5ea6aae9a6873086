-- The edges, proved from the definitions.
use Rattle.std.proofs.Common.{◌≡◌, ℕ, zero, suc, ◌<◌, ◌≤◌, min, Bool, true, false, cond, ltb, leb, [], length, sym, refl, ap, ◌∙◌, inl, inr, arith, lit<, lit≤}
use Rattle.std.proofs.lemmas.Bool.{and_parts, lt-ltb, le-leb, le-ltb, or_left, or_from, cond-false, leb-true, ltb-true, cases_eq}
use Rattle.calls.specs.declared.call.Call.{Call}
use Rattle.calls.specs.declared.call.Call.TheVariants.{Read, Write, Commit, Apply, Drain}
use Rattle.tickets.specs.Boards.{Board, top}
use Rattle.tickets.specs.WriteSets.{Pairs, stands}
use Rattle.law.specs.Numbers.{up_to, lowest, or_else, count}
use Rattle.law.specs.Writes.{room, is_empty}
use Rattle.law.specs.History.Answer.{done, told, read_only, aborts, refused}
use Rattle.law.specs.Plain.{Plain, TransactionState, Outcome, transaction, check, on_live}
use Rattle.law.specs.Transactions.{clashes, read_of, write_of, commit_of, verdict}
use Rattle.law.specs.Applications.{lacks}
use Rattle.law.specs.Steps.{step}
use Rattle.law.specs.Opening.{board_step}
use Rattle.law.specs.Opening.PlainBoard.{opened}
use Rattle.edges.specs.Edges.{OpenWith, answer, Refused, Edges}

passes : (c : Bool) (n : ℕ) (p : Plain) (o : Outcome) → c ≡ true → check c n p o ≡ o
unfolding check
passes true n p o e = refl
passes false n p o e = let z : ◌≡◌ {A = ℕ} 0 1 = cc in absurd (omega arith)

fails : (c : Bool) (n : ℕ) (p : Plain) (o : Outcome) → c ≡ false → check c n p o ≡ (refused n [], p)
unfolding check
fails false n p o e = refl
fails true n p o e = let z : ◌≡◌ {A = ℕ} 0 1 = cc in absurd (omega arith)

-- a step's outcome, seen on the opened board
seen_step : (c : Call) (p : Plain) (o : Outcome) → step c p ≡ o → board_step c (opened p) ≡ (o.0, opened o.1)
seen_step c p o e = ap (λ (x : Outcome). (x.0, opened x.1)) e

module _ (p : Plain) (t : ℕ) (b : Board) (u : Pairs) (o : OpenWith p t b u) where
  -- the checks 2 and 29 pass
  on_open : (f : Board → Pairs → Outcome) → check (up_to (length p.transactions) t) 2 p (on_live (transaction p t).state p f) ≡ f b u
  on_open f = passes _ 2 p _ o.given ∙ ap (λ (s : TransactionState). on_live s p f) o.state

  read_is : (j : ℕ) → step (Read t j) p ≡ read_of j p b u
  unfolding step
  read_is j = on_open (read_of j p)

  write_is : (j v : ℕ) → step (Write t j v) p ≡ write_of t j v p b u
  unfolding step
  write_is j v = on_open (write_of t j v p)

  commit_is : step (Commit t) p ≡ commit_of t p b u
  unfolding step
  commit_is = on_open (commit_of t p)

  writes : (j v : ℕ) → j < 128 → v ≤ top j → room j u ≡ true → answer (Write t j v) p ≡ done
  writes j v h k r =
      let e = write_is j v ∙ passes _ 3 p _ (lt-ltb j 128 h) ∙ passes _ 5 p _ (le-leb v (top j) k) ∙ passes _ 30 p _ r in
      ap (λ (x : Outcome). x.0) e

  too_many : (j v : ℕ) → j < 128 → v ≤ top j → length u ≡ 8 → stands u j ≡ false → Refused (Write t j v) p 30
  too_many j v h k e n =
      seen_step (Write t j v) p _
      (write_is j v ∙ passes _ 3 p _ (lt-ltb j 128 h) ∙ passes _ 5 p _ (le-leb v (top j) k) ∙ fails (room j u) 30 p _ (or_from _ _ n (le-ltb (length u) 8 (omega arith))))

  thirteen : Refused (Write t 8 13) p 5
  thirteen = seen_step (Write t 8 13) p _ (write_is 8 13 ∙ passes (ltb 8 128) 3 p _ refl ∙ fails (leb 13 (top 8)) 5 p _ refl)

  read_128 : Refused (Read t 128) p 3
  read_128 = seen_step (Read t 128) p _ (read_is 128 ∙ fails (ltb 128 128) 3 p _ refl)

  write_128 : (v : ℕ) → Refused (Write t 128 v) p 3
  write_128 v = seen_step (Write t 128 v) p _ (write_is 128 v ∙ fails (ltb 128 128) 3 p _ refl)

-- ---- the lowest number that passes

next_at_most : (x n : ℕ) (c : Bool) → x ≤ n → or_else x (cond c (suc n) 0) ≤ suc n
next_at_most zero n true h = omega arith
next_at_most zero n false h = omega arith
next_at_most (suc x) n c h = omega arith

lowest_at_most : (f : ℕ → Bool) (n : ℕ) → lowest f n ≤ n
lowest_at_most f zero = omega arith
lowest_at_most f (suc n) = next_at_most (lowest f n) n (f (suc n)) (lowest_at_most f n)

here : (x n : ℕ) (c : Bool) → x ≤ n → c ≡ true → (k : ℕ) × ((or_else x (cond c (suc n) 0) ≡ suc k) × (suc k ≤ suc n))
here zero n true h e = (n, (refl, omega arith))
here (suc x) n true h e = (x, (refl, omega arith))
here x n false h e = let z : ◌≡◌ {A = ℕ} 0 1 = cc in absurd (omega arith)

lowest_found : (f : ℕ → Bool) (n m : ℕ) → 1 ≤ m → m ≤ n → f m ≡ true → (k : ℕ) × ((lowest f n ≡ suc k) × (suc k ≤ m))
lowest_found f zero m l h e = absurd (omega arith)
lowest_found f (suc n) m l h e =
    elim (cases_eq m (suc n)) [
      | inl q ↦
          let r = here (lowest f n) n (f (suc n)) (lowest_at_most f n) (ap f (sym q) ∙ e) in
          (r.0, (r.1.0, omega (arith, r.1.1)))
      | inr d ↦
          let r = lowest_found f n m l (omega arith) e in
          (r.0, (ap (λ x. or_else x (cond (f (suc n)) (suc n) 0)) r.1.0, r.1.1))
    ]

clash_aborts : (p : Plain) (t m : ℕ) (b : Board) (u : Pairs) → OpenWith p t b u → is_empty u ≡ false → length p.sets ≡ 256 → up_to 256 m ≡ true → clashes p.sets (transaction p t).s u m ≡ true → (n : ℕ) × ((answer (Commit t) p ≡ aborts n) × (n ≤ m))
clash_aborts p t m b u o some full given c =
    let g = and_parts (ltb 0 m) (leb m 256) given in
    let low = ltb-true 0 m g.0 in
    let high = leb-true m 256 g.1 in
    let r = lowest_found (clashes p.sets (transaction p t).s u) (length p.sets) m (omega arith) (omega arith) c in
    let e = commit_is p t b u o ∙ cond-false _ _ _ some ∙ ap (λ n. verdict n t u p) r.1.0 in
    (suc r.0, (ap (λ (x : Outcome). x.0) e, r.1.1))

reading_commits : (p : Plain) (t : ℕ) (b : Board) → OpenWith p t b [] → length p.sets ≡ 256 → answer (Commit t) p ≡ read_only
reading_commits p t b o full = ap (λ (x : Outcome). x.0) (commit_is p t b [] o)

-- ---- applications

apply_0_is : (p : Plain) (k : ℕ) → k < length p.boards → step (Apply k 0) p ≡ (refused 4 [], p)
unfolding step
apply_0_is p k h = passes _ 1 p _ (lt-ltb k (length p.boards) h) ∙ fails (up_to (length p.sets) 0) 4 p _ refl

drain_0_is : (p : Plain) (k : ℕ) → k < length p.boards → step (Drain k 0) p ≡ (told 0, p)
unfolding step
drain_0_is p k h =
    let none : min 0 (count (lacks (p.applied k)) (length p.sets)) ≡ 0 = omega arith in
    passes _ 1 p _ (lt-ltb k (length p.boards) h) ∙ ap (λ n. (told n, p)) none

pub edges : Edges
edges =
    record {
      object_8_takes_12 = λ p t b u o r. writes p t b u o 8 12 (lit< tt) (lit≤ tt) r;
      object_8_refuses_13 = thirteen;
      no_object_128_to_read = read_128;
      no_object_128_to_write = λ p t v b u o. write_128 p t b u o v;
      ninth_object_is_refused = λ p t j v b u o. too_many p t b u o j v;
      second_write_to_the_eighth_passes = λ p t j v b u o h k e s. writes p t b u o j v h k (or_left _ _ s);
      no_write_set_0_to_apply = λ p k h. seen_step (Apply k 0) p _ (apply_0_is p k h);
      drain_of_none_answers_0 = λ p k h. seen_step (Drain k 0) p _ (drain_0_is p k h);
      clash_aborts_with_all_numbers_given = clash_aborts;
      reading_commits_with_all_numbers_given = reading_commits;
      record_of_no_write_sets = refl;
      byte_left_over_is_item_1 = refl;
      record_of_one_write_set = refl;
    }
