-- The numbered write sets of a sound middleware are a run, and its record is the plain board's.
use Rattle.std.proofs.Common.{◌≡◌, ℕ, suc, ◌+◌, ◌-◌, ◌<◌, ◌≤◌, Bool, true, false, cond, ltb, leb, List, [], ◌∷◌, ◌++◌, map, length, get_or, take, drop, IfOk, Some, None, Ok, Err, Option, Result, sym, refl, ap, ◌∙◌, subst, arith}
use Rattle.std.proofs.lemmas.List.{length-map}
use Rattle.std.proofs.lemmas.Bool.{and_from, le-leb, leb-true, lt-ltb}
use Rattle.tickets.specs.WriteSets.{is_write_set}
use Rattle.record_format.specs.Items.{Item, within_tops, fits, first_unfit, unfit, Run}
use Rattle.record_format.specs.Written.{encoded}
use Rattle.record_format.specs.Reading.{decoded}
use Rattle.record_format.specs.Calls.{sized, within_room, laid, written_as, write_result, write_bytes}
use Rattle.record_format.specs.declared.fault.RecordFault.TheVariants.{BufferShort}
use Rattle.record_format.proofs.Fitting.{all_fit, run_from}
use Rattle.ledger.specs.Sets.{SetModel}
use Rattle.ledger.specs.Records.{items_of_sets}
use Rattle.machine.specs.declared.reason.Reason.{Reason}
use Rattle.machine.specs.declared.reason.Reason.TheVariants.{NotOpened}
use Rattle.machine.specs.Machine.{Machine}
use Rattle.machine.specs.Recording.{carried, recording, recorded}
use Rattle.law.specs.History.Answer.{told, refused}
use Rattle.law.specs.Plain.{Numbered, Plain, no_set, numbered}
use Rattle.law.specs.Orderly.{Orderly}
use Rattle.law.specs.Opening.{PlainBoard}
use Rattle.law.specs.World.{World, board_of, world_plain}
use Rattle.law.specs.Coupled.{Coupled}
use Rattle.law.specs.Sound as law
use Rattle.law.specs.Sound.{Middle}
use Rattle.refinement.specs.Answers.{answered}
use Rattle.refinement.specs.Worlds.{numbered_of, world_of}
use Rattle.refinement.specs.Tops.{Within, BoardWithin}
use Rattle.middleware.specs.declared.fault.Asked.{Asked}
use Rattle.middleware.specs.Listing.{asked_to}
use Rattle.middleware.proofs.Served.{listed_as}
use Rattle.middleware.specs.Records.{item_of_numbered, items_of_plain, in_room, laid_over, Records, WritesRecord}

-- ---- the numbered write sets of an orderly board are a run

-- where each may stand at its number, counted from n, there is no first that may not
none_unfit : (N : List Numbered) (n : ℕ) → ((i : ℕ) → i < length N → fits (n + i) (item_of_numbered (get_or N i no_set)) ≡ true) → first_unfit n (map item_of_numbered N) ≡ None
none_unfit [] n h = refl
none_unfit (y ∷ N) n h =
    let here : n + 0 ≡ n = omega arith in
    all_fit n (item_of_numbered y) (map item_of_numbered N) (ap (λ k. fits k (item_of_numbered y)) (sym here) ∙ h 0 (omega arith))
    (none_unfit N (n + 1) (λ i l. let on : n + 1 + i ≡ n + suc i = omega arith in ap (λ k. fits k (item_of_numbered (get_or N i no_set))) on ∙ h (suc i) (omega arith)))

module _ (p : Plain) (q : Orderly p) (eight : length p.boards ≤ 8) (low : Within p) where
  may_stand : (n : ℕ) → 1 ≤ n → n ≤ length p.sets → fits n (item_of_numbered (numbered p.sets n)) ≡ true
  may_stand n l h =
      let y = numbered p.sets n in
      let f = q.sets n l h in
      and_from (leb y.home 7) _ (le-leb y.home 7 (omega (arith, f.home)))
      (and_from (ltb y.s n) _ (lt-ltb y.s n f.below) (and_from (is_write_set y.pairs) (within_tops y.pairs) f.fits (low.sets (n - 1))))

  orderly_run : Run (items_of_plain (PlainBoard.opened p))
  orderly_run =
      run_from (map item_of_numbered p.sets) (record {
        few = omega (arith, length-map p.sets item_of_numbered, q.few);
        all = none_unfit p.sets 1 (λ i h.
            let on : 1 + i - 1 ≡ i = omega arith in
            ap (λ k. fits (1 + i) (item_of_numbered (get_or p.sets k no_set))) (sym on) ∙ may_stand (1 + i) (omega arith) (omega arith));
      })

-- the items are the machine's own
same_items : (us : List SetModel) → items_of_sets us ≡ map item_of_numbered (map numbered_of us)
same_items [] = refl
same_items (u ∷ us) = ap (λ (its : List Item). item_of_numbered (numbered_of u) ∷ its) (same_items us)

-- ---- what is answered and written of a run

module _ (its : List Item) (run : Run its) where
  told_in_room : (b : Bool) (needed : ℕ) → answered told (carried (cond b (Ok needed) (Err (BufferShort needed)))) ≡ cond b (told needed) (refused 9 (needed ∷ []))
  told_in_room true needed = refl
  told_in_room false needed = refl

  answer_of_run : (room : ℕ) → answered told (carried (write_result its room)) ≡ in_room (length (encoded its)) room
  answer_of_run room =
      ap (λ (o : Option ℕ). answered told (carried (written_as o (length (encoded its)) room))) run ∙ told_in_room (leb (length (encoded its)) room) (length (encoded its))

  laid_in_room : (b : Bool) (needed : ℕ) (xs bytes : List ℕ) → laid (cond b (Ok needed) (Err (Some 9, needed ∷ []))) xs bytes ≡ cond b (xs ++ drop (length xs) bytes) bytes
  laid_in_room true needed xs bytes = refl
  laid_in_room false needed xs bytes = refl

  bytes_of_run : (b : List ℕ) → write_bytes its b ≡ laid_over (encoded its) b
  bytes_of_run b =
      ap (λ (o : Option ℕ). laid (within_room (sized o (length (encoded its))) (length b)) (encoded its) b) run
      ∙ laid_in_room (leb (length (encoded its)) (length b)) (length (encoded its)) (encoded its) b

-- ---- the call

made_to : (what : Asked) (P R : ℕ → Type 0) (q : Result ℕ Reason) → ((n : ℕ) → P n → R n) → IfOk q P → IfOk (asked_to what q) R
made_to what P R (Ok n) f h = f n h
made_to what P R (Err e) f h = tt

-- a world that is opened, or not
module _ (w : World) (us : List SetModel) (is : items_of_sets us ≡ map item_of_numbered w.sets) (what : Asked) (b b' : List ℕ) (q : Result ℕ Reason) (reads : IfOk q (λ n. decoded (take n b') ≡ Ok (items_of_sets us))) where
  of_opened : Coupled w → Within (world_plain w) → q ≡ carried (write_result (items_of_sets us) (length b)) → b' ≡ write_bytes (items_of_sets us) b → Records (PlainBoard.opened (world_plain w)) b (asked_to what q) b'
  of_opened c low answer bytes =
      let its = map item_of_numbered w.sets in
      let run = orderly_run (world_plain w) c.orderly (omega (arith, length-map w.bank board_of, c.eight)) low in
      record {
        answer = listed_as told what q ∙ ap (answered told) (answer ∙ ap (λ (xs : List Item). carried (write_result xs (length b))) is) ∙ answer_of_run its run (length b);
        bytes = bytes ∙ ap (λ (xs : List Item). write_bytes xs b) is ∙ bytes_of_run its run b;
        reads_back = made_to what (λ n. decoded (take n b') ≡ Ok (items_of_sets us)) (λ n. decoded (take n b') ≡ Ok its) q (λ n e. e ∙ ap Ok is) reads;
      }

  of_unopened : q ≡ Err NotOpened → b' ≡ b → Records PlainBoard.unopened b (asked_to what q) b'
  of_unopened answer bytes =
      record {
        answer = listed_as told what q ∙ ap (answered told) answer;
        bytes = bytes;
        reads_back = subst (λ (x : Result ℕ Reason). IfOk (asked_to what x) (λ n. decoded (take n b') ≡ Ok [])) (sym answer) tt;
      }

  of_board : (opened : Bool) → law.Sound (cond opened (Middle.opened w) (Middle.unopened w)) → BoardWithin (law.plain_of (cond opened (Middle.opened w) (Middle.unopened w))) → q ≡ cond opened (carried (write_result (items_of_sets us) (length b))) (Err NotOpened) → b' ≡ cond opened (write_bytes (items_of_sets us) b) b → Records (law.plain_of (cond opened (Middle.opened w) (Middle.unopened w))) b (asked_to what q) b'
  of_board true c low answer bytes = of_opened c low answer bytes
  of_board false c low answer bytes = of_unopened answer bytes

pub writes_record : (m : Machine) (what : Asked) (b b' : List ℕ) (q : Result ℕ Reason) → q ≡ recording m (length b) → b' ≡ recorded m b → IfOk q (λ n. decoded (take n b') ≡ Ok (items_of_sets m.sets)) → WritesRecord m b (asked_to what q) b'
writes_record m what b b' q answer bytes reads sound low = of_board (world_of m) m.sets (same_items m.sets) what b b' q reads m.opened sound.coupled low answer bytes

-- what is answered is never more than the buffer has
in_the_room : (needed room : ℕ) (b : Bool) → leb needed room ≡ b → IfOk (carried (cond b (Ok needed) (Err (BufferShort needed)))) (λ n. n ≤ room)
in_the_room needed room true e = leb-true needed room e
in_the_room needed room false e = tt

written_in_room : (o : Option ℕ) (needed room : ℕ) → IfOk (carried (written_as o needed room)) (λ n. n ≤ room)
written_in_room (Some item) needed room = tt
written_in_room None needed room = in_the_room needed room (leb needed room) refl

recorded_in_room : (opened : Bool) (r : Result ℕ Reason) (room : ℕ) → IfOk r (λ n. n ≤ room) → IfOk (cond opened r (Err NotOpened)) (λ n. n ≤ room)
recorded_in_room true r room h = h
recorded_in_room false r room h = tt

pub within_buffer : (m : Machine) (what : Asked) (room : ℕ) (q : Result ℕ Reason) → q ≡ recording m room → IfOk (asked_to what q) (λ n. n ≤ room)
within_buffer m what room q e =
    let its = items_of_sets m.sets in
    made_to what (λ n. n ≤ room) (λ n. n ≤ room) q (λ n h. h)
    (subst (λ (r : Result ℕ Reason). IfOk r (λ k. k ≤ room)) (sym e)
    (recorded_in_room m.opened (carried (write_result its room)) room (written_in_room (unfit its) (length (encoded its)) room)))
