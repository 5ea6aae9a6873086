-- Chains of versions: one version more in the pool, and the version at an index. Assumes nothing.
use Rattle.std.proofs.Common.{◌≡◌, ℕ, ◌<◌, ◌≤◌, Bool, true, false, cond, eqb, List, [], ◌∷◌, ◌++◌, reverse, map, length, get_or, Some, None, Option, sym, refl, ap, ◌∙◌, subst, ⊎_elim, arith}
use Rattle.std.proofs.lemmas.List.{reverse-append, reverse-reverse, length-reverse, get_or_push, get_or_append_left}
use Rattle.std.proofs.lemmas.Bool.{lt-ltb, ltb-true, eq-eqb, ne_eqb, and_parts, and_from, cases_eq}
use Rattle.versions.specs.declared.version.Version.{Version}
use Rattle.versions.specs.Histories.{Dated, first}
use Rattle.versions.specs.Links.{before, falling, dated, linked, chain, height}

pub before_more : (link : Option ℕ) (m n : ℕ) → m ≤ n → before link m ≡ true → before link n ≡ true
before_more None m n h e = refl
before_more (Some i) m n h e = lt-ltb i n (omega (arith, ltb-true i m e))

pub height_less : (link : Option ℕ) (i : ℕ) → before link i ≡ true → height link < height (Some i)
height_less None i e = omega arith
height_less (Some k) i e = omega (arith, ltb-true k i e)

pub falling_more : (v : Version) (pool : List Version) → before v.older (length pool) ≡ true → falling pool ≡ true → falling (v ∷ pool) ≡ true
unfolding falling
falling_more v pool b f = and_from _ _ b f

falling_parts : (v : Version) (pool : List Version) → falling (v ∷ pool) ≡ true → (before v.older (length pool) ≡ true) × (falling pool ≡ true)
unfolding falling
falling_parts v pool f = and_parts _ _ f

pub chain_none : (x : ℕ) (pool : List Version) → chain x pool None ≡ first x
unfolding chain
chain_none x [] = refl
chain_none x (v ∷ pool) = refl

-- a link below the new version does not lead to it
pub chain_below : (x : ℕ) (v : Version) (pool : List Version) (link : Option ℕ) → before link (length pool) ≡ true → chain x (v ∷ pool) link ≡ chain x pool link
unfolding chain
chain_below x v pool None e = sym (chain_none x pool)
chain_below x v pool (Some i) e = let n : eqb i (length pool) ≡ false = ne_eqb i _ (λ q. omega (arith, ltb-true i (length pool) e)) in rw n

-- a link to the new version
pub chain_top : (x : ℕ) (v : Version) (pool : List Version) (i : ℕ) → i ≡ length pool → chain x (v ∷ pool) (Some i) ≡ dated v ∷ chain x pool v.older
unfolding chain
chain_top x v pool i e = let n : eqb i (length pool) ≡ true = eq-eqb i _ e in rw n

-- ---- the versions of the pool alone

pub linked_none : (pool : List Version) → linked pool None ≡ []
unfolding linked
linked_none [] = refl
linked_none (v ∷ pool) = refl

pub linked_past : (pool : List Version) (i : ℕ) → length pool ≤ i → linked pool (Some i) ≡ []
unfolding linked
linked_past [] i h = refl
linked_past (v ∷ pool) i h = let n : eqb i (length pool) ≡ false = ne_eqb i _ (λ q. omega arith) in rw n (linked_past pool i (omega arith))

linked_below : (v : Version) (pool : List Version) (link : Option ℕ) → before link (length pool) ≡ true → linked (v ∷ pool) link ≡ linked pool link
unfolding linked
linked_below v pool None e = sym (linked_none pool)
linked_below v pool (Some i) e = let n : eqb i (length pool) ≡ false = ne_eqb i _ (λ q. omega (arith, ltb-true i (length pool) e)) in rw n

linked_top : (v : Version) (pool : List Version) (i : ℕ) → i ≡ length pool → linked (v ∷ pool) (Some i) ≡ v ∷ linked pool v.older
unfolding linked
linked_top v pool i e = let n : eqb i (length pool) ≡ true = eq-eqb i _ e in rw n

in_either : (x : ℕ) (v : Version) (l m : List Version) (c d : List Dated) (b : Bool) → c ≡ map dated l ++ first x → d ≡ map dated m ++ first x → cond b (dated v ∷ c) d ≡ map dated (cond b (v ∷ l) m) ++ first x
in_either x v l m c d true e f = ap (λ t. dated v ∷ t) e
in_either x v l m c d false e f = f

-- a chain is the versions of the pool, and the value at the start behind them
pub chain_is : (x : ℕ) (pool : List Version) (link : Option ℕ) → chain x pool link ≡ map dated (linked pool link) ++ first x
unfolding chain linked
chain_is x [] link = refl
chain_is x (v ∷ pool) None = refl
chain_is x (v ∷ pool) (Some i) = in_either x v (linked pool v.older) (linked pool (Some i)) _ _ (eqb i (length pool)) (chain_is x pool v.older) (chain_is x pool (Some i))

-- the version at an index heads those that a link there leads to, and its own link leads below it
pub record Heads (pool : List Version) (i : ℕ) (v : Version) : Type 0 where
  pub leads : linked pool (Some i) ≡ v ∷ linked pool v.older
  pub links : before v.older i ≡ true

heads_at : (pool : List Version) (i : ℕ) (d : Version) → falling pool ≡ true → i < length pool → Heads pool i (get_or (reverse pool) i d)
heads_at [] i d f h = absurd (omega arith)
heads_at (u ∷ pool) i d f h =
    let p = falling_parts u pool f in
    let flip : reverse (u ∷ pool) ≡ reverse pool ++ u ∷ [] = reverse-append (u ∷ []) pool in
    ⊎_elim
    (λ q.
    let at : u ≡ get_or (reverse (u ∷ pool)) i d = sym (ap (λ l. get_or l i d) flip ∙ get_or_push (reverse pool) u d i (length-reverse pool ∙ sym q)) in
    subst (Heads (u ∷ pool) i) at
    (record { leads = linked_top u pool i q ∙ ap (λ l. u ∷ l) (sym (linked_below u pool u.older p.0)); links = subst (λ n. before u.older n ≡ true) (sym q) p.0 }))
    (λ ne.
    let l : i < length pool = omega (arith, ne) in
    let v = get_or (reverse pool) i d in
    let at : v ≡ get_or (reverse (u ∷ pool)) i d = sym (ap (λ l. get_or l i d) flip ∙ get_or_append_left (reverse pool) (u ∷ []) d i (omega (arith, length-reverse pool))) in
    let r = heads_at pool i d p.1 l in
    subst (Heads (u ∷ pool) i) at
    (record {
      leads = linked_below u pool (Some i) (lt-ltb i _ l) ∙ r.leads ∙ ap (λ l. v ∷ l) (sym (linked_below u pool v.older (before_more v.older i _ (omega arith) r.links)));
      links = r.links;
    }))
    (cases_eq i (length pool))

-- the same, where the pool is given oldest first
pub heads : (items : List Version) (i : ℕ) (v : Version) → falling (reverse items) ≡ true → i < length items → v ≡ get_or items i v → Heads (reverse items) i v
heads items i v f h at =
    subst (Heads (reverse items) i) (ap (λ l. get_or l i v) (reverse-reverse items) ∙ sym at) (heads_at (reverse items) i v f (omega (arith, length-reverse items)))
