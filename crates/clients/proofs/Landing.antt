-- A write set committed in a place of its own. Assumes nothing.
use Rattle.std.proofs.Common.{◌≡◌, ℕ, zero, suc, ◌<◌, Bool, true, false, cond, ◌&&◌, ◌||◌, eqb, map, length, get_or, Some, None, Ok, Err, sym, refl, ap, ◌∙◌, ⊎_elim, arith}
use Rattle.std.proofs.lemmas.List.{length-map, get_or-map, get_or_past}
use Rattle.std.proofs.lemmas.Bool.{ne_eqb, cases_lt}
use Rattle.tickets.specs.WriteSets.{Pairs, stands}
use Rattle.stores.specs.declared.fault.StoreFault.TheVariants.{Overtaken}
use Rattle.stores.specs.Model.{StoreModel, nothing, clashes, any_below, with_place, begin_answer, commit_answer, overtaken_by, bind, leaves}
use Rattle.clients.specs.Committed.{Closed, room, written_place, opened_after, committed, write_set_answer, write_set_after, Landed}
use Rattle.banks.specs.Steps.{settled_after}
use Rattle.clients.proofs.Pairs.{Fit}
use Rattle.clients.proofs.Writes.{begin_closed, closed_begin}
use Rattle.clients.proofs.Settles.{settle_answer, settle_after}

and_false : (b : Bool) → (b && false) ≡ false
and_false true = refl
and_false false = refl

pub any_none : (f : ℕ → Bool) (n : ℕ) → any_below (λ j. f j && false) n ≡ false
unfolding any_below
any_none f zero = refl
any_none f (suc n) = λ i. and_false (f n) i || any_none f n i

module _ (m : StoreModel) (p : ℕ) (ps : Pairs) (fit : Fit ps) (free : begin_answer m p ≡ Ok tt) where
  opened_is : opened_after m p ps ≡ with_place m p (Some (written_place m.board ps))
  opened_is = ap (λ r. leaves r (λ _. with_place m p (Some (written_place m.board ps))) m) free

  no_clash : clashes (written_place m.board ps) ≡ false
  no_clash = any_none (stands ps) 128

  pub lands_answer : commit_answer (opened_after m p ps) p ≡ write_set_answer m p
  lands_answer =
      ap (λ n. commit_answer n p) opened_is ∙ settle_answer m p (begin_closed m p free) m.board nothing ps fit
      ∙ ap (λ b. cond b (Err Overtaken) (room m)) no_clash ∙ ap (λ r. bind r (λ _. room m)) (sym free)

  pub lands_after : settled_after (opened_after m p ps) p ≡ write_set_after m p ps
  lands_after =
      ap (λ n. settled_after n p) opened_is ∙ settle_after m p (begin_closed m p free) m.board nothing ps fit
      ∙ ap (λ b. leaves (cond b (Err Overtaken) (room m)) (λ _. committed m ps) m) no_clash ∙ ap (λ r. leaves (bind r (λ _. room m)) (λ _. committed m ps) m) (sym free)

-- ---- where nothing refuses it

pub committed_lands : (m : StoreModel) (ps : Pairs) → Landed m ps (committed m ps)
committed_lands m ps = record {
  board = refl;
  commits = refl;
  most = refl;
  as_many = length-map m.places (overtaken_by (stands ps));
  places = λ q. at q;
}
  where
    at : (q : ℕ) → get_or (map (overtaken_by (stands ps)) m.places) q None ≡ overtaken_by (stands ps) (get_or m.places q None)
    at q =
        ⊎_elim
        (λ h. get_or-map (overtaken_by (stands ps)) m.places q None None h)
        (λ h. get_or_past (map (overtaken_by (stands ps)) m.places) q None (omega (arith, length-map m.places (overtaken_by (stands ps)))) ∙ ap (overtaken_by (stands ps)) (sym (get_or_past m.places q None h)))
        (cases_lt q (length m.places))

pub roomy : (m : StoreModel) → m.commits < m.most → room m ≡ Ok tt
roomy m h = let f : eqb m.commits m.most ≡ false = ne_eqb _ _ (λ e. omega arith) in rw f

module _ (m : StoreModel) (p : ℕ) (ps : Pairs) (closed : Closed m p) (less : m.commits < m.most) where
  pub lands : write_set_answer m p ≡ Ok tt
  lands = ap (λ r. bind r (λ _. room m)) (closed_begin m p closed) ∙ roomy m less

  pub landed : {m' : StoreModel} → m' ≡ write_set_after m p ps → Landed m ps m'
  landed e = rw (e ∙ ap (λ r. leaves r (λ _. committed m ps) m) lands) (committed_lands m ps)
