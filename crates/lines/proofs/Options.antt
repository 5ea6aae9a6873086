-- None is no Some, and what is in a Some is one thing.
use Rattle.std.proofs.Common.{◌≡◌, ℕ, Some, None, arith}

pub none_is_not_some : {A B : Type 0} {x : A} → None ≡ Some x → B
none_is_not_some e = absurd (let z : ◌≡◌ {A = ℕ} 0 1 = cc in omega arith)

pub same_in_some : {A : Type 0} {x y : A} → Some x ≡ Some y → x ≡ y
same_in_some e = cc
