-- Reading the numbers of a line one by one.
use Rattle.std.proofs.Common.{◌≡◌, ℕ, suc, ◌+◌, ◌-◌, ◌<◌, eqb, List, [], ◌∷◌, ◌++◌, length, take, set, Some, None, Option, sym, refl, ap, ◌∙◌, arith}
use Rattle.std.specs.Bool.{then_some}
use Rattle.std.proofs.lemmas.Bool.{ne_eqb}
use Rattle.std.proofs.lemmas.List.{append_assoc, append-nil, take_more_set}
use Rattle.lines.specs.Reading.{number_in, before, numbers_in}
use Rattle.lines.specs.Tokens.{token_in_front, behind_token}

-- numbers before others, if all of those are there
abbrev pub after : List ℕ → Option (List ℕ) → Option (List ℕ)
after ns None = None
after ns (Some others) = Some (ns ++ others)

nothing_before : (o : Option (List ℕ)) → after [] o ≡ o
nothing_before None = refl
nothing_before (Some others) = refl

one_before_others : (ns : List ℕ) (n : ℕ) (o : Option (List ℕ)) → after ns (before (Some n) o) ≡ after (ns ++ n ∷ []) o
one_before_others ns n None = refl
one_before_others ns n (Some others) = ap Some (sym (append_assoc ns (n ∷ []) others))

pub no_numbers_yet : (rest : List ℕ) (k : ℕ) → after [] (numbers_in (k - 0) rest) ≡ numbers_in k rest
no_numbers_yet rest k = let same : k - 0 ≡ k = omega arith in ap (λ n. after [] (numbers_in n rest)) same ∙ nothing_before (numbers_in k rest)

-- the numbers so far and what is left of the line give all of them; k are to come
module _ (rest : List ℕ) (all : Option (List ℕ)) (k k' : ℕ) (one : k ≡ suc k') where
  pub one_number_more : (rest' found : List ℕ) (i n : ℕ) → i < length found → Some n ≡ number_in (token_in_front rest) → rest' ≡ behind_token rest → after (take i found) (numbers_in k rest) ≡ all → after (take (i + 1) (set found i n)) (numbers_in k' rest') ≡ all
  unfolding numbers_in
  one_number_more rest' found i n room is on h =
      let others = numbers_in k' (behind_token rest) in
      (λ j. after (take_more_set found i n room j) (numbers_in k' (on j)))
      ∙ sym (one_before_others (take i found) n others)
      ∙ ap (λ o. after (take i found) (before o others)) is
      ∙ ap (λ m. after (take i found) (numbers_in m rest)) (sym one)
      ∙ h

  pub no_number_there : (ns : List ℕ) → None ≡ number_in (token_in_front rest) → after ns (numbers_in k rest) ≡ all → all ≡ None
  unfolding numbers_in
  no_number_there ns is h = sym h ∙ ap (λ m. after ns (numbers_in m rest)) one ∙ ap (λ o. after ns (before o (numbers_in k' (behind_token rest)))) (sym is)

-- none is to come, so all depends on whether something is left
pub all_or_none : (rest ns : List ℕ) (all : Option (List ℕ)) (k : ℕ) → k ≡ 0 → after ns (numbers_in k rest) ≡ all → then_some (eqb (length rest) 0) ns ≡ all
unfolding numbers_in
all_or_none [] ns all k none h = ap Some (sym (append-nil ns)) ∙ ap (λ m. after ns (numbers_in m [])) (sym none) ∙ h
all_or_none (b ∷ bs) ns all k none h =
    ap (λ e. then_some e ns) (ne_eqb (length (b ∷ bs)) 0 (λ e. omega arith)) ∙ ap (λ m. after ns (numbers_in m (b ∷ bs))) (sym none) ∙ h
