-- A numbered write set played, at home and elsewhere.
use Rattle.std.proofs.Common.{◌≡◌, ℕ, true, length, Ok, sym, ap, ◌∙◌}
use Rattle.std.proofs.lemmas.Bool.{eq-eqb, ne_eqb, cond-true, cond-false}
use Rattle.ledger.specs.Words.{up_to}
use Rattle.ledger.specs.Sets.{SetModel, nth_set}
use Rattle.machine.specs.Machine.{Machine, set_at}
use Rattle.machine.specs.Applying.{play_home, play_away, play_set, playing}

module _ (b : Machine) (k n : ℕ) (given : up_to (length b.sets) n ≡ true) where
  there : set_at b n ≡ Ok (nth_set b.sets n)
  there = cond-true _ _ _ given

  module _ (x : SetModel) (told : Ok x ≡ set_at b n) where
    is : x ≡ nth_set b.sets n
    is = let t = there in cc

    pub plays_home : x.home ≡ k → play_home b k n x.transaction ≡ playing b k n
    unfolding playing
    plays_home e = sym (cond-true _ (play_home b k n x.transaction) (play_away b k n x.pairs) (eq-eqb x.home k e)) ∙ ap (play_set b k n) is

    pub plays_away : (x.home ≡ k → ⊥) → play_away b k n x.pairs ≡ playing b k n
    unfolding playing
    plays_away e = sym (cond-false _ (play_home b k n x.transaction) (play_away b k n x.pairs) (ne_eqb x.home k e)) ∙ ap (play_set b k n) is
