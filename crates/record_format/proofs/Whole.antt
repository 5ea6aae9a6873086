-- The items of a record one after the other, played over a board.
use Rattle.std.proofs.Common.{◌≡◌, ℕ, ◌+◌, ◌<◌, ◌≤◌, List, length, drop, Some, None, sym, ap, ◌∙◌, arith}
use Rattle.std.proofs.lemmas.List.{drop_all}
use Rattle.tickets.specs.Boards.{Board}
use Rattle.tickets.specs.WriteSets.{play}
use Rattle.record_format.specs.Items.{Item, play_all}
use Rattle.record_format.specs.Reading.{items_in, numbered}
use Rattle.record_format.proofs.Numbering.{next_item, no_next}

-- the item is told of the record that the reader has
pub same_record : {bs cs : List ℕ} {it : Item} (i k : ℕ) → k ≡ i + 1 → bs ≡ cs → Some it ≡ numbered (items_in bs) k → Some it ≡ numbered (items_in cs) (i + 1)
same_record {bs} {cs} {it} i k next e h = h ∙ (λ j. numbered (items_in (e j)) (next j))

-- there is an item for each number up to the count
pub never_none : {bs cs : List ℕ} (i k : ℕ) {n : ℕ} → k ≡ i + 1 → bs ≡ cs → None ≡ numbered (items_in bs) k → length (items_in cs) ≡ n → i < n → ⊥
never_none {bs} {cs} i k {n} next e h l below =
    let past = no_next (items_in cs) i (h ∙ (λ j. numbered (items_in (e j)) (next j))) in
    omega arith

pub play_next : (its : List Item) (i : ℕ) (it : Item) (b x : Board) → Some it ≡ numbered its (i + 1) → play_all (drop i its) b ≡ x → play_all (drop (i + 1) its) (play it.pairs b) ≡ x
play_next its i it b x e h = sym (ap (λ l. play_all l b) (next_item its i it e)) ∙ h

pub all_played : (its : List Item) (i : ℕ) (b x : Board) → length its ≤ i → play_all (drop i its) b ≡ x → b ≡ x
all_played its i b x l h = sym (ap (λ k. play_all k b) (drop_all i its l)) ∙ h
