-- The versions that the chains hold: reading them, and a new one in front of a chain. Assumes nothing.
use Rattle.std.proofs.Common.{◌≡◌, ℕ, zero, suc, ◌+◌, ◌<◌, Bool, true, false, cond, eqb, leb, List, [], ◌∷◌, ◌++◌, reverse, map, length, get_or, set, replicate, Some, None, vec_items, Option, sym, refl, ap, ◌∙◌, subst, ⊎_elim, arith}
use Rattle.std.specs.List.{find}
use Rattle.std.specs.Option.{unwrap_or, option_map}
use Rattle.std.proofs.lemmas.List.{reverse-append, length-reverse, get_or-set_same, get_or-set_other}
use Rattle.std.proofs.lemmas.Bool.{lt-ltb, eq-eqb, ne_eqb, cond-true, cond-false, cases_eq}
use Rattle.versions.specs.declared.version.Version.{Version}
use Rattle.versions.specs.declared.chains.Chains.{Chains}
use Rattle.versions.specs.Histories.{first, seen, with_version}
use Rattle.versions.specs.Links.{before, falling, dated, chain}
use Rattle.versions.specs.Chained.{versions_of, size_of, linked_from}
use Rattle.versions.proofs.Links.{before_more, falling_more, chain_below, chain_top, chain_is}
use Rattle.versions.proofs.Histories.{seen_first}

-- where no object has a link
pub no_link : (n j : ℕ) → ◌≡◌ {A = Option ℕ} (get_or (replicate n None) j None) None
no_link zero j = refl
no_link (suc n) zero = refl
no_link (suc n) (suc j) = no_link n j

-- ---- reading an object's versions

-- they are those of the pool, and the value at the start behind them
pub read_as : (s : Chains) (j : ℕ) (vs : List Version) → linked_from s j ≡ vs → versions_of s j ≡ map dated vs ++ first (get_or s.start j 0)
read_as s j vs e = chain_is (get_or s.start j 0) (reverse (vec_items s.pool)) (get_or s.newest j None) ∙ ap (λ l. map dated l ++ first (get_or s.start j 0)) e

-- what is seen is the first of them that is not past the count, else the value at the start
value_or : ℕ → Option Version → ℕ
value_or x o = unwrap_or (option_map (λ v. v.value) o) x

seen_or_older : (x y : ℕ) (v : Version) (o : Option Version) (b : Bool) → y ≡ value_or x o → cond b v.value y ≡ value_or x (cond b (Some v) o)
unfolding value_or
seen_or_older x y v o true e = refl
seen_or_older x y v o false e = e

seen_is : (x c : ℕ) (vs : List Version) → seen (map dated vs ++ first x) c ≡ value_or x (find (λ v. leb v.commit c) vs)
unfolding seen value_or
seen_is x c [] = seen_first x c
seen_is x c (v ∷ vs) = seen_or_older x (seen (map dated vs ++ first x) c) v (find (λ v. leb v.commit c) vs) (leb v.commit c) (seen_is x c vs)

pub seen_as : (s : Chains) (j c : ℕ) → seen (versions_of s j) c ≡ unwrap_or (option_map (λ v. v.value) (find (λ v. leb v.commit c) (linked_from s j))) (get_or s.start j 0)
unfolding value_or
seen_as s j c = ap (λ vs. seen vs c) (read_as s j (linked_from s j) refl) ∙ seen_is (get_or s.start j 0) c (linked_from s j)

-- ---- a new version in front of a chain

-- version v has come in behind the pool, at index n, and heads the chain of object j
pub record Added (s : Chains) (j n : ℕ) (v : Version) (items : List Version) (size : ℕ) : Type 0 where
  pub linked : (k : ℕ) → before (get_or (set s.newest j (Some n)) k None) size ≡ true
  pub falls : falling (reverse items) ≡ true
  pub versions : (k : ℕ) → chain (get_or s.start k 0) (reverse items) (get_or (set s.newest j (Some n)) k None) ≡ with_version (versions_of s) j v.commit v.value k

module _ (s : Chains) (j n : ℕ) (v : Version) (items : List Version) (size : ℕ) (h : j < 128) (e : n ≡ size_of s) (o : v.older ≡ get_or s.newest j None) (more : items ≡ vec_items s.pool ++ v ∷ []) (longer : size ≡ size_of s + 1) where
  pool : List Version
  pool = reverse (vec_items s.pool)

  top : length pool ≡ size_of s
  unfolding pool
  top = length-reverse (vec_items s.pool) ∙ sym s.pool.ok.0

  front : reverse items ≡ v ∷ pool
  unfolding pool
  front = ap reverse more ∙ reverse-append (vec_items s.pool) (v ∷ [])

  below : (k : ℕ) → before (get_or s.newest k None) (length pool) ≡ true
  below k = subst (λ m. before (get_or s.newest k None) m ≡ true) (sym top) (s.linked k)

  -- the object's link leads to the new version, and the others lead where they did
  link_new : (k : ℕ) → k ≡ j → get_or (set s.newest j (Some n)) k None ≡ Some n
  link_new k q = ap (λ i. get_or (set s.newest j (Some n)) i None) q ∙ get_or-set_same s.newest j (Some n) None (omega (arith, s.heads))

  link_old : (k : ℕ) → (k ≡ j → ⊥) → get_or (set s.newest j (Some n)) k None ≡ get_or s.newest k None
  link_old k ne = get_or-set_other s.newest j k (Some n) None ne

  linked_more : (k : ℕ) → before (get_or (set s.newest j (Some n)) k None) size ≡ true
  linked_more k =
      ⊎_elim
      (λ q. ap (λ l. before l size) (link_new k q) ∙ lt-ltb n size (omega arith))
      (λ ne. ap (λ l. before l size) (link_old k ne) ∙ before_more (get_or s.newest k None) (size_of s) size (omega arith) (s.linked k))
      (cases_eq k j)

  versions_more : (x k : ℕ) → chain x (v ∷ pool) (get_or (set s.newest j (Some n)) k None) ≡ cond (eqb k j) (dated v ∷ chain x pool (get_or s.newest k None)) (chain x pool (get_or s.newest k None))
  versions_more x k =
      ⊎_elim
      (λ q.
      ap (chain x (v ∷ pool)) (link_new k q) ∙ chain_top x v pool n (e ∙ sym top)
      ∙ ap (λ l. dated v ∷ chain x pool l) (o ∙ ap (λ i. get_or s.newest i None) (sym q)) ∙ sym (cond-true (eqb k j) _ _ (eq-eqb k j q)))
      (λ ne. ap (chain x (v ∷ pool)) (link_old k ne) ∙ chain_below x v pool (get_or s.newest k None) (below k) ∙ sym (cond-false (eqb k j) _ _ (ne_eqb k j ne)))
      (cases_eq k j)

  pub added : Added s j n v items size
  unfolding pool
  added =
      record {
        linked = linked_more;
        falls = ap falling front ∙ falling_more v pool (ap (λ l. before l (length pool)) o ∙ below j) s.falls;
        versions = λ k. ap (λ l. chain (get_or s.start k 0) l (get_or (set s.newest j (Some n)) k None)) front ∙ versions_more (get_or s.start k 0) k;
      }
