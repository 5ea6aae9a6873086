-- What a reader's verdict tells of its record.
use Rattle.std.proofs.Common.{◌≡◌, ℕ, suc, ◌<◌, List, [], ◌∷◌, length, get_or, Ok, Err, Result, refl, arith}
use Rattle.record_format.specs.Items.{Item}
use Rattle.record_format.specs.Written.{encoded}
use Rattle.record_format.specs.Reading.{decoded, count_of, items_read, items_in}
use Rattle.record_format.specs.Laws.{Bytes}
use Rattle.record_format.proofs.Forth.{writes_back}
use Rattle.record_format.specs.Calls.{or_malformed, verdict_of, MadeOf}
use Rattle.record_format.specs.Faults.{listed}
use Rattle.record_format.specs.declared.fault.RecordFault.{RecordFault}

pub listed_verdict : (r : Result ℕ ℕ) → listed (verdict_of r) ≡ or_malformed r
listed_verdict (Ok n) = refl
listed_verdict (Err item) = refl

pub counted : (r : Result ℕ ℕ) (n : ℕ) → verdict_of r ≡ Ok n → Ok n ≡ r
counted (Ok m) n e = cc
counted (Err item) n e = absurd (let z : ◌≡◌ {A = ℕ} 0 1 = cc in omega arith)

pub refused : (r : Result ℕ ℕ) (e : RecordFault) → verdict_of r ≡ Err e → (item : ℕ) × (Err item ≡ r)
refused (Ok m) e f = absurd (let z : ◌≡◌ {A = ℕ} 0 1 = cc in omega arith)
refused (Err item) e f = (item, refl)

pub bytes_by : (bs : List ℕ) → ((i : ℕ) → get_or bs i 0 < 256) → Bytes bs
bytes_by [] h = tt
bytes_by (b ∷ bs) h = (h 0, bytes_by bs (λ i. h (suc i)))

-- how many items there are, from the answer
pub items_counted : (r : Result (List Item) ℕ) (n : ℕ) → Ok n ≡ or_malformed (count_of r) → length (items_read r) ≡ n
items_counted (Ok its) n e = cc
items_counted (Err item) n e = absurd (let z : ◌≡◌ {A = ℕ} 0 1 = cc in omega arith)

-- what is made of the items
pub made_of : {A : Type 0} (Holds : List Item → A → Type 0) (r : Result (List Item) ℕ) (n : ℕ) (a : A) → Ok n ≡ or_malformed (count_of r) → Holds (items_read r) a → MadeOf Holds r (Ok a)
made_of Holds (Ok its) n a e h = h
made_of Holds (Err item) n a e h = absurd (let z : ◌≡◌ {A = ℕ} 0 1 = cc in omega arith)

read_items : (r : Result (List Item) ℕ) (n : ℕ) → Ok n ≡ or_malformed (count_of r) → r ≡ Ok (items_read r)
read_items (Ok its) n e = refl
read_items (Err item) n e = absurd (let z : ◌≡◌ {A = ℕ} 0 1 = cc in omega arith)

-- what was read is written back as the same bytes
pub written_back : (bs : List ℕ) (n : ℕ) → ((i : ℕ) → get_or bs i 0 < 256) → Ok n ≡ or_malformed (count_of (decoded bs)) → encoded (items_in bs) ≡ bs
written_back bs n small e = writes_back bs (items_in bs) (bytes_by bs small) (read_items (decoded bs) n e)
