-- A call at one store leaves every other store as it was. Assumes nothing.
use Rattle.std.proofs.Common.{◌≡◌, ℕ, List, sym, subst}
use Rattle.std.proofs.lemmas.List.{length-set, get_or-set_other}
use Rattle.stores.specs.Model.{StoreModel}
use Rattle.banks.specs.Model.{no_store, store_at, changed, Others}

pub changed_others : (ms : List StoreModel) (k : ℕ) (g : StoreModel → StoreModel) → Others k ms (changed ms k g)
unfolding changed
changed_others ms k g = record {
  as_many = length-set ms k (g (store_at ms k));
  same = λ i ne. get_or-set_other ms k i (g (store_at ms k)) no_store ne;
}

pub others_by : (ms : List StoreModel) {ns : List StoreModel} (k : ℕ) (g : StoreModel → StoreModel) → ns ≡ changed ms k g → Others k ms ns
others_by ms k g e = subst (λ (l : List StoreModel). Others k ms l) (sym e) (changed_others ms k g)
