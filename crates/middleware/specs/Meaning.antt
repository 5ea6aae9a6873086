-- What a middleware means, over what its bank means.
use Rattle.std.specs.Prelude.{List}
use Rattle.stores.specs.Model.{StoreModel}
use Rattle.machine.specs.Machine.{Machine}
use Rattle.engine.specs.Seen.{seen}
use Rattle.middleware.specs.declared.middleware.Middleware.{Middleware}

-- stores: what a bank means. Each clause hands it over, since it is a member of the bound of whatever function has a bank.
-- A `Model` would spare that, but a store's own writes mean a function, and no `Model` has a function in its value
abbrev pub held : {X : Type 0} → (X → List StoreModel) → Middleware X → Machine
held stores m = seen stores m.engine
