-- The machine's words on numbers and lists are the law's.
use Rattle.std.proofs.Common.{◌≡◌, ℕ, zero, suc, Bool, cond, List, [], ◌∷◌, map, refl, ap, ◌∙◌}
use Rattle.ledger.specs.Words as words
use Rattle.law.specs.Numbers.{count, exactly, whole, or_else, lowest, tally}

pub same_count : (f g : ℕ → Bool) (n : ℕ) → ((i : ℕ) → f (suc i) ≡ g (suc i)) → words.count f n ≡ count g n
unfolding words.count
same_count f g zero h = refl
same_count f g (suc n) h = rw (h n, same_count f g n h)

pub same_exactly : (f g : ℕ → Bool) (p n : ℕ) → ((i : ℕ) → f (suc i) ≡ g (suc i)) → words.exactly f p n ≡ exactly g p n
unfolding words.exactly
same_exactly f g p zero h = refl
same_exactly f g p (suc n) h = rw (h n, same_exactly f g p n h)

pub same_whole : (f g : ℕ → Bool) (n : ℕ) → ((i : ℕ) → f (suc i) ≡ g (suc i)) → words.whole f n ≡ whole g n
same_whole f g n h = ap (λ p. words.exactly f p n) (same_count f g n h) ∙ same_exactly f g (count g n) n h

pub same_lowest : (f g : ℕ → Bool) (n : ℕ) → ((i : ℕ) → f (suc i) ≡ g (suc i)) → words.lowest f n ≡ lowest g n
unfolding words.lowest
same_lowest f g zero h = refl
same_lowest f g (suc n) h = rw (h n, same_lowest f g n h) (both (lowest g n) (cond (g (suc n)) (suc n) 0))
  where
    both : (a c : ℕ) → words.or_else a c ≡ or_else a c
    both zero c = refl
    both (suc a) c = refl

pub same_tally : {X Y : Type 0} (h : X → Y) (f : X → Bool) (g : Y → Bool) → ((x : X) → f x ≡ g (h x)) → (l : List X) → words.tally f l ≡ tally g (map h l)
unfolding words.tally
same_tally h f g e [] = refl
same_tally h f g e (x ∷ l) = rw (e x, same_tally h f g e l)
