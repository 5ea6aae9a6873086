-- What own writes mean, and what setting one does.
use Rattle.std.specs.Prelude.{ℕ, cond, ◌||◌, List, take, is_some, Ok, Err, Option, Result, nat_lt}
use Rattle.stores.specs.declared.fault.StoreFault.{StoreFault}
use Rattle.stores.specs.declared.fault.StoreFault.TheVariants.{NoObject, NinthObject}
use Rattle.stores.specs.Model.{with_write, count_below}
use Rattle.tickets.specs.declared.pair.Pair.{Pair}
use Rattle.versions.specs.declared.own_writes.OwnWrites.{OwnWrites}
use Rattle.versions.specs.Pairs.{own_in}

-- the pairs below the count
abbrev pub held : OwnWrites → List Pair
held w = take w.count w.pairs

-- own writes mean what their pairs write
abbrev pub own_of : OwnWrites → ℕ → Option ℕ
own_of w = own_in (held w)

-- how many objects are written
abbrev pub count_of : (ℕ → Option ℕ) → ℕ
count_of own = count_below (λ j. is_some (own j)) 128

-- own writes with object j at v, or the refusal
abbrev pub set_own : (ℕ → Option ℕ) → ℕ → ℕ → Result (ℕ → Option ℕ) StoreFault
set_own own j v = cond (nat_lt j 128) (cond (is_some (own j) || nat_lt (count_of own) 8) (Ok (with_write own j v)) (Err NinthObject)) (Err NoObject)

-- own writes after a change: the new ones, or as they were where the change is refused
abbrev pub own_left : Result (ℕ → Option ℕ) StoreFault → (ℕ → Option ℕ) → ℕ → Option ℕ
own_left (Ok new) old = new
own_left (Err e) old = old
