-- What a host in C is promised: the run of a shop's script, its outcome as numbers.
use Rattle.std.specs.Prelude.{◌≡◌, ℕ, List, Ok, Err, Result}
use Rattle.script.specs.declared.fault.Unfit.TheVariants.{TooLong, BufferShort}
use Rattle.shop_script.specs.declared.fault.ShopFault.{ShopFault}
use Rattle.shop_script.specs.declared.fault.ShopFault.TheVariants.{NoMemory, Unfit}
use Rattle.shop_script.specs.Promise.{ShopPromise}
use Rattle.host.specs.declared.outcome.Outcome.{Outcome}

abbrev pub outcome : ℕ → ℕ → Outcome
outcome status length = record { status = status; length = length }

-- per case its status and its length; 7 and 9 are the refusals of a script, and want of memory has a number that no refusal has
abbrev pub outcome_of : Result ℕ ShopFault → Outcome
outcome_of (Ok n) = outcome 0 n
outcome_of (Err NoMemory) = outcome 1000 0
outcome_of (Err (Unfit TooLong)) = outcome 7 0
outcome_of (Err (Unfit (BufferShort needed))) = outcome 9 needed

-- what the program's call promises, in every byte, with its answer as an outcome
abbrev pub HostPromise : List ℕ → List ℕ → Outcome → List ℕ → Type 0
HostPromise script buffer o filled = (r : Result ℕ ShopFault) × (ShopPromise script buffer r filled × (o ≡ outcome_of r))
