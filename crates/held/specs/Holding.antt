-- What the calls on a held transaction answer, in the board's own terms.
use Rattle.std.specs.Prelude.{◌≡◌, ℕ, Ok, Err, Result}
use Rattle.ledger.specs.declared.verdict.Verdict.{Verdict}
use Rattle.middleware.specs.declared.fault.BoardFault.{BoardFault}
use Rattle.held.specs.declared.held.Held.{Held}
use Rattle.held.specs.declared.held.Refused.{Refused}

-- the number that the board gave the transaction
abbrev pub number_of : Held → ℕ
number_of h = h.number

-- what the board answered to the begin: the number that is held, or its refusal
abbrev pub begun : Result Held BoardFault → Result ℕ BoardFault
begun (Ok h) = Ok (number_of h)
begun (Err f) = Err f

-- what the board answered to the commit: its verdict or its refusal
abbrev pub verdict_of : Result Verdict Refused → Result Verdict BoardFault
verdict_of (Ok v) = Ok v
verdict_of (Err r) = Err r.fault

-- a refused commit hands back the transaction that was to be committed
abbrev pub HandsBack : Held → Result Verdict Refused → Type 0
HandsBack h (Ok v) = Unit {0}
HandsBack h (Err r) = r.back ≡ h
