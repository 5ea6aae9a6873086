-- The edges of the rules, each under a name that says it.
use Rattle.std.specs.Prelude.{◌≡◌, ℕ, ◌<◌, ◌≤◌, true, false, List, [], ◌∷◌, length, Err}
use Rattle.calls.specs.declared.call.Call.{Call}
use Rattle.calls.specs.declared.call.Call.TheVariants.{Read, Write, Commit, Apply, Drain}
use Rattle.tickets.specs.Boards.{Board, top}
use Rattle.tickets.specs.WriteSets.{Pairs, stands}
use Rattle.law.specs.Numbers.{up_to}
use Rattle.law.specs.Writes.{room, is_empty}
use Rattle.law.specs.History.{Answer}
use Rattle.law.specs.History.Answer.{done, told, read_only, aborts, refused}
use Rattle.law.specs.Plain.{Plain, transaction}
use Rattle.law.specs.Plain.TransactionState.{live}
use Rattle.law.specs.Transactions.{clashes}
use Rattle.law.specs.Opening.{board_step}
use Rattle.law.specs.Opening.PlainBoard.{opened}
use Rattle.std.specs.List.{AllByRecursion}
use Rattle.record_format.specs.Items.{Item, Run}
use Rattle.record_format.specs.Written.{encoded}
use Rattle.record_format.specs.Reading.{decoded}
use Rattle.record_format.specs.Laws.{one_item}

-- t is open on the board p, with the snapshot b and the own writes u
pub record OpenWith (p : Plain) (t : ℕ) (b : Board) (u : Pairs) : Type 0 where
  pub given : up_to (length p.transactions) t ≡ true
  pub state : (transaction p t).state ≡ live b u

-- what the opened board p answers to a call
abbrev pub answer : Call → Plain → Answer
answer c p = (board_step c (opened p)).0

-- the call is refused with the number, which names nothing, and the board stays
abbrev pub Refused : Call → Plain → ℕ → Type 0
Refused c p n = board_step c (opened p) ≡ (refused n [], opened p)

pub record Edges : Type 0 where
  -- object 8 is a stage, whose top is 12
  pub object_8_takes_12 : (p : Plain) (t : ℕ) (b : Board) (u : Pairs) → OpenWith p t b u → room 8 u ≡ true → answer (Write t 8 12) p ≡ done
  pub object_8_refuses_13 : (p : Plain) (t : ℕ) (b : Board) (u : Pairs) → OpenWith p t b u → Refused (Write t 8 13) p 5
  pub no_object_128_to_read : (p : Plain) (t : ℕ) (b : Board) (u : Pairs) → OpenWith p t b u → Refused (Read t 128) p 3
  pub no_object_128_to_write : (p : Plain) (t v : ℕ) (b : Board) (u : Pairs) → OpenWith p t b u → Refused (Write t 128 v) p 3
  pub ninth_object_is_refused : (p : Plain) (t j v : ℕ) (b : Board) (u : Pairs) → OpenWith p t b u → j < 128 → v ≤ top j → length u ≡ 8 → stands u j ≡ false → Refused (Write t j v) p 30
  pub second_write_to_the_eighth_passes : (p : Plain) (t j v : ℕ) (b : Board) (u : Pairs) → OpenWith p t b u → j < 128 → v ≤ top j → length u ≡ 8 → stands u j ≡ true → answer (Write t j v) p ≡ done
  pub no_write_set_0_to_apply : (p : Plain) (k : ℕ) → k < length p.boards → Refused (Apply k 0) p 4
  pub drain_of_none_answers_0 : (p : Plain) (k : ℕ) → k < length p.boards → board_step (Drain k 0) (opened p) ≡ (told 0, opened p)
  -- the verdict comes before the want of a number; it names the lowest clash
  pub clash_aborts_with_all_numbers_given : (p : Plain) (t m : ℕ) (b : Board) (u : Pairs) → OpenWith p t b u → is_empty u ≡ false → length p.sets ≡ 256 → up_to 256 m ≡ true → clashes p.sets (transaction p t).s u m ≡ true → (n : ℕ) × ((answer (Commit t) p ≡ aborts n) × (n ≤ m))
  pub reading_commits_with_all_numbers_given : (p : Plain) (t : ℕ) (b : Board) → OpenWith p t b [] → length p.sets ≡ 256 → answer (Commit t) p ≡ read_only
  -- the record
  pub record_of_no_write_sets : encoded [] ≡ 0 ∷ 0 ∷ []
  pub byte_left_over_is_item_1 : decoded (0 ∷ 0 ∷ 0 ∷ []) ≡ Err 1
  pub record_of_one_write_set : encoded (one_item ∷ []) ≡ 0 ∷ 1 ∷ 0 ∷ 1 ∷ 0 ∷ 6 ∷ 0 ∷ 0 ∷ 0 ∷ 0 ∷ 0 ∷ 0 ∷ 5 ∷ []

-- no record of a run has more bytes, and one of 256 write sets of eight pairs has as many
pub record Longest (n : ℕ) : Type 0 where
  pub most : (its : List Item) → Run its → length (encoded its) ≤ n
  pub reached : (its : List Item) → length its ≡ 256 → AllByRecursion (λ it. length it.pairs ≡ 8) its → length (encoded its) ≡ n
