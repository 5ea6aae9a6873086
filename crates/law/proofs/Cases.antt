-- What holds of every outcome of a check holds of the check.
use Rattle.std.proofs.Common.{◌≡◌, ℕ, ◌≤◌, Bool, true, false, [], length, refl}
use Rattle.tickets.specs.Boards.{Board}
use Rattle.tickets.specs.WriteSets.{Pairs}
use Rattle.law.specs.History.Answer.{refused}
use Rattle.law.specs.Numbers.{up_to}
use Rattle.law.specs.Plain.{Outcome, Plain, TransactionState, check, on_live, on_transaction, transaction}
use Rattle.law.specs.Plain.TransactionState.{aborted, committed, given_up, live, pending}
use Rattle.law.proofs.Numbers.{up_to_bounds}

module _ (P : Outcome → Type 0) where
  pub by_check : (b : Bool) (n : ℕ) (p : Plain) (o : Outcome) → (b ≡ false → P (refused n [], p)) → (b ≡ true → P o) → P (check b n p o)
  unfolding check
  by_check true n p o x y = y refl
  by_check false n p o x y = x refl

  by_live : (e : TransactionState) (p : Plain) (f : Board → Pairs → Outcome) → P (refused 29 [], p) → ((b : Board) (u : Pairs) → e ≡ live b u → P (f b u)) → P (on_live e p f)
  by_live (live b u) p f x y = y b u refl
  by_live (pending n) p f x y = x
  by_live committed p f x y = x
  by_live aborted p f x y = x
  by_live given_up p f x y = x

  pub by_open : (t : ℕ) (p : Plain) (f : Board → Pairs → Outcome) → P (refused 2 [], p) → P (refused 29 [], p) →
      ((b : Board) (u : Pairs) → 1 ≤ t → t ≤ length p.transactions → (transaction p t).state ≡ live b u → P (f b u)) → P (on_transaction t p f)
  by_open t p f x z y =
      by_check (up_to (length p.transactions) t) 2 p (on_live (transaction p t).state p f) (λ _. x)
      (λ e. let l = up_to_bounds (length p.transactions) t e in by_live (transaction p t).state p f z (λ b u d. y b u l.0 l.1 d))

  pub by_transaction : (t : ℕ) (p : Plain) (f : Board → Pairs → Outcome) → ((n : ℕ) → P (refused n [], p)) →
      ((b : Board) (u : Pairs) → 1 ≤ t → t ≤ length p.transactions → (transaction p t).state ≡ live b u → P (f b u)) → P (on_transaction t p f)
  by_transaction t p f x y = by_open t p f (x 2) (x 29) y
