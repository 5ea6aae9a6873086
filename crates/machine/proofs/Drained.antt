-- The turns of draining: what the rest of them comes to from here is what all of them come to.
use Rattle.std.proofs.Common.{◌≡◌, ℕ, suc, ◌+◌, ◌-◌, ◌<◌, ◌≤◌, Some, None, Ok, Err, Result, sym, ap, ◌∙◌, arith}
use Rattle.errands.specs.Outcomes.{done, refused, step, go_on}
use Rattle.ledger.specs.Sets.{lowest_unapplied}
use Rattle.machine.specs.declared.reason.Reason.{Reason}
use Rattle.machine.specs.Machine.{Machine, Came}
use Rattle.machine.specs.Applying.{playing, on_lowest, drained}

module _ (k m made : ℕ) (b : Machine) where
  abbrev rest : Machine → Came ℕ
  rest = drained k (m - (made + 1)) (made + 1)

  pub drained_end : m ≤ made → drained k (m - made) made b ≡ done made b
  unfolding drained
  drained_end h = let z : m - made ≡ 0 = omega arith in ap (λ f. drained k f made b) z

  turn : made < m → drained k (m - made) made b ≡ on_lowest (lowest_unapplied b.sets k) made b (λ n. step (playing b k n) (λ _. rest))
  unfolding drained
  turn h = let z : m - made ≡ suc (m - (made + 1)) = omega arith in ap (λ f. drained k f made b) z

  pub drained_none : made < m → lowest_unapplied b.sets k ≡ None → drained k (m - made) made b ≡ done made b
  drained_none h e = turn h ∙ ap (λ o. on_lowest o made b (λ n. step (playing b k n) (λ _. rest))) e

  module _ (h : made < m) (n : ℕ) (e : lowest_unapplied b.sets k ≡ Some n) (r : Result (Unit {0}) Reason) (b' : Machine) (answer : r ≡ (playing b k n).answer) (after : b' ≡ (playing b k n).after) where
    played : drained k (m - made) made b ≡ go_on r b' (λ _. rest)
    played = turn h ∙ ap (λ o. on_lowest o made b (λ n. step (playing b k n) (λ _. rest))) e ∙ (λ i. go_on (sym answer i) (sym after i) (λ _. rest))

    pub drained_more : (u : Unit {0}) → r ≡ Ok u → drained k (m - made) made b ≡ rest b'
    drained_more u ok = played ∙ ap (λ q. go_on q b' (λ _. rest)) ok

    pub drained_err : (d : Reason) → r ≡ Err d → drained k (m - made) made b ≡ refused d b'
    drained_err d bad = played ∙ ap (λ q. go_on q b' (λ _. rest)) bad
