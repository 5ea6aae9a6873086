-- What is promised of a script that is run over the bank of a shop.
use Rattle.std.specs.Prelude.{◌≡◌, ℕ, List, [], ◌∷◌, ◌++◌, length, drop, replicate, Some, None, Ok, Err, Result}
use Rattle.stores.specs.Model.{StoreModel}
use Rattle.shop.specs.Shop.{empty_store}
use Rattle.lines.specs.Scripts.{lines_of}
use Rattle.law.specs.History.{History}
use Rattle.law.specs.History.Answer.{done}
use Rattle.law.specs.Opening.PlainBoard.{opened}
use Rattle.law.specs.Plain.{just_opened}
use Rattle.law.specs.Promise.{Promised}
use Rattle.law.specs.Store.{Store}
use Rattle.refinement.specs.Stores.{law_bank}
use Rattle.script.specs.Replies.{calls_of, text}
use Rattle.script.specs.Promise.{unfit}
use Rattle.shop_script.specs.declared.fault.ShopFault.{ShopFault}
use Rattle.shop_script.specs.declared.fault.ShopFault.TheVariants.{NoMemory, Unfit}

-- a version store, a copy store, a version store and a copy store, all zeros
abbrev pub shop_stores : List StoreModel
shop_stores = empty_store 256 ∷ empty_store 65535 ∷ empty_store 256 ∷ empty_store 65535 ∷ []

-- what the plain board of four replicas of zeros prints, line by line
abbrev pub shop_answers : List ℕ → List ℕ
shop_answers script = text 1 (lines_of script) (opened (just_opened (replicate 128 0) 4))

-- a script that was run: n bytes of answers at the front of the buffer, the others as they were, and the law of whole queues for its calls
pub record ShopRuns (script buffer : List ℕ) (n : ℕ) (filled : List ℕ) : Type 0 where
  pub fit : unfit script (length buffer) ≡ None
  pub ends : n ≡ length (shop_answers script)
  pub bytes : filled ≡ shop_answers script ++ drop n buffer
  pub law : (h : History) × ((left : List Store) × Promised (law_bank shop_stores) (calls_of (lines_of script)) done h left)

-- a script that is not run leaves every byte of the buffer
abbrev pub ShopPromise : List ℕ → List ℕ → Result ℕ ShopFault → List ℕ → Type 0
ShopPromise script buffer (Ok n) filled = ShopRuns script buffer n filled
ShopPromise script buffer (Err NoMemory) filled = filled ≡ buffer
ShopPromise script buffer (Err (Unfit f)) filled = (unfit script (length buffer) ≡ Some f) × (filled ≡ buffer)
