-- What is promised of a whole run, over what a bank means.
use Rattle.std.specs.Prelude.{◌≡◌, List, [], Ok, Err, vec_items, Result}
use Rattle.calls.specs.declared.call.Call.{Call}
use Rattle.stores.specs.Model.{StoreModel}
use Rattle.law.specs.History.Answer.{done}
use Rattle.law.specs.Promise.{Promised}
use Rattle.refinement.specs.Stores.{law_bank}
use Rattle.middleware.specs.declared.run.Run.{Run}
use Rattle.middleware.specs.declared.run.Unrun.{Unrun}
use Rattle.middleware.specs.declared.run.Unrun.TheVariants.{NoMemory, Refused}
use Rattle.middleware.specs.declared.fault.Asked.TheVariants.{Open}
use Rattle.middleware.specs.Listing.{fault_listed, past}
use Rattle.middleware.specs.Serving.{AllCarry}

-- an accepted opening: the law over the queue with its answers, and over the stores of the bank that comes back;
-- a refused one: its number and what it names, and the bank as it was; without memory: the bank itself
abbrev pub RunPromise : {X : Type 0} → (X → List StoreModel) → X → List Call → Result (Run X) (Unrun X) → Type 0
RunPromise stores bank queue (Ok run) = Promised (law_bank (stores bank)) queue done (past queue (vec_items run.answers) []) (law_bank (stores run.bank))
RunPromise stores bank queue (Err (NoMemory b)) = b ≡ bank
RunPromise stores bank queue (Err (Refused f b)) = Promised (law_bank (stores bank)) queue (fault_listed f) [] (law_bank (stores b)) × (stores b ≡ stores bank)

-- each refusal among the answers carries its call, and a refused opening says that it is one
abbrev pub RunCarries : {X : Type 0} → List Call → Result (Run X) (Unrun X) → Type 0
RunCarries queue (Ok run) = AllCarry queue (vec_items run.answers)
RunCarries queue (Err (NoMemory b)) = Unit {0}
RunCarries queue (Err (Refused f b)) = f.asked ≡ Open
