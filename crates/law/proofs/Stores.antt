-- What a store answers where its meaning allows it.
use Rattle.std.proofs.Common.{◌≡◌, ℕ, suc, ◌+◌, ◌<◌, ◌≤◌, Bool, true, false, cond, eqb, ltb, [], ◌∷◌, length, get_or, set, is_some, Some, None, Option, refl, ap, ◌∙◌, ⊎_elim, arith, length-set}
use Rattle.std.proofs.lemmas.List.{get_or-set_other, get_or-set_same, set-set}
use Rattle.std.proofs.lemmas.Bool.{cases_Bool, eq-eqb, eqb-true, lt-ltb, ne_eqb, or_from, or_right}
use Rattle.tickets.specs.WriteSets.{Pairs, lookup, play, rising, stands}
use Rattle.law.specs.Orderly.{Fine}
use Rattle.law.specs.Store.{Place, Store, fresh, is_open, is_overtaken, open_count, overtake_all, overtake_in, place, store_begin, store_commit, store_play, store_write, store_write_all, with_place, writes}
use Rattle.law.specs.Store.Done.{fine}
use Rattle.law.specs.Writes.{is_empty, room}
use Rattle.law.proofs.Numbers.{bit}
use Rattle.law.proofs.Places.{get_or-overtaken, length-overtaken, open_overtaken, open_set, some_within}
use Rattle.law.proofs.Writes.{lookup_put, object_full, play_same, put_length, rising_object, rising_parts, some_object, stands_more}

pub begins : (σ : Store) (i : ℕ) → i < length σ.places → place σ i ≡ None → store_begin σ i ≡ fine (with_place σ i (Some (fresh σ.board)))
begins σ i l e = rw (lt-ltb i (length σ.places) l, e)

abbrev pub written_all : Pairs → Place → Place
written_all [] x = x
written_all ((j, v) ∷ w) x = written_all w (writes j v x)

first_of : Option ℕ → Option ℕ → Option ℕ
first_of None b = b
first_of (Some v) b = Some v

written_lookup : (low : ℕ) (w : Pairs) (x : Place) → rising low w ≡ true → (o : ℕ) → lookup (written_all w x).own o ≡ first_of (lookup w o) (lookup x.own o)
unfolding first_of
written_lookup low [] x r o = refl
written_lookup low ((j, v) ∷ w) x r o = written_lookup (suc j) w (writes j v x) (rising_parts low j v w r).2 o ∙ (rw (lookup_put j v x.own o) (go (eqb o j) (lookup w o) refl refl))
  where
    go : (a : Bool) (b : Option ℕ) → eqb o j ≡ a → lookup w o ≡ b → first_of b (cond a (Some v) (lookup x.own o)) ≡ first_of (cond a (Some v) b) (lookup x.own o)
    go true None p q = refl
    go true (Some c) p q = absurd (omega (arith, (rising_object (suc j) w (rising_parts low j v w r).2 o (ap is_some q)).0, eqb-true o j p))
    go false b p q = refl

pub writes_one : (σ : Store) (i : ℕ) (x : Place) (j v : ℕ) → place σ i ≡ Some x → j < 128 → room j x.own ≡ true →
    store_write σ i j v ≡ fine (with_place σ i (Some (writes j v x)))
writes_one σ i x j v e b n = rw (lt-ltb i (length σ.places) (some_within σ.places i x e), e, lt-ltb j 128 b, n)

pub writes_all : (σ : Store) (i : ℕ) → i < length σ.places → (low : ℕ) (w : Pairs) (x : Place) → rising low w ≡ true →
    length x.own + length w ≤ 8 → store_write_all w i (with_place σ i (Some x)) ≡ fine (with_place σ i (Some (written_all w x)))
writes_all σ i l low [] x r n = refl
writes_all σ i l low ((j, v) ∷ w) x r n =
    let parts = rising_parts low j v w r in
    let here : place (with_place σ i (Some x)) i ≡ Some x = get_or-set_same σ.places i (Some x) None l in
    let small : j < 128 = parts.1 in
    let space : room j x.own ≡ true = or_right (is_some (lookup x.own j)) (ltb (length x.own) 8) (lt-ltb (length x.own) 8 (omega arith)) in
    let one : store_write (with_place σ i (Some x)) i j v ≡ fine (with_place (with_place σ i (Some x)) i (Some (writes j v x))) = writes_one (with_place σ i (Some x)) i x j v here small space in
    rw (one, set-set σ.places i (Some x) (Some (writes j v x)))
    (writes_all σ i l (suc j) w (writes j v x) parts.2 (omega (arith, put_length j v x.own)))

-- a store with w played over its board, from the place i, which is not open afterwards
pub record Played (σ : Store) (w : Pairs) (i : ℕ) (τ : Store) : Type 0 where
  pub board : τ.board ≡ play w σ.board
  pub commits : τ.commits ≡ suc σ.commits
  pub most : τ.most ≡ σ.most
  pub places : length τ.places ≡ length σ.places
  pub opens : open_count τ.places + bit (is_open (place σ i)) ≡ open_count σ.places
  pub by : Pairs
  pub same : (o : ℕ) → lookup by o ≡ lookup w o
  pub other : (o : ℕ) → (o ≡ i → ⊥) → place τ o ≡ overtake_in by (place σ o)

commits_one : (σ : Store) (i : ℕ) (x : Place) → place σ i ≡ Some x → is_empty x.own ≡ false → is_overtaken x.own x.overtaken ≡ false → σ.commits < σ.most → store_commit σ i ≡ fine (record { board = play x.own σ.board; commits = suc σ.commits; most = σ.most; places = set (overtake_all x.own σ.places) i None })
commits_one σ i x e f c l = rw (lt-ltb i (length σ.places) (some_within σ.places i x e), e, f, c, ne_eqb σ.commits σ.most (omega arith))

-- a place's own commit
pub commits : (σ : Store) (i : ℕ) (x : Place) → place σ i ≡ Some x → is_empty x.own ≡ false → is_overtaken x.own x.overtaken ≡ false →
    σ.commits < σ.most → (τ : Store) × (store_commit σ i ≡ fine τ) × Played σ x.own i τ
commits σ i x e f c l = (
  record { board = play x.own σ.board; commits = suc σ.commits; most = σ.most; places = set (overtake_all x.own σ.places) i None },
  commits_one σ i x e f c l,
  record {
    board = refl;
    commits = refl;
    most = refl;
    places = length-set (overtake_all x.own σ.places) i None ∙ length-overtaken x.own σ.places;
    opens = counted;
    by = x.own;
    same = λ o. refl;
    other = λ o d. get_or-set_other (overtake_all x.own σ.places) i o None None d ∙ get_or-overtaken x.own σ.places o;
  },
)
  where
    counted : open_count (set (overtake_all x.own σ.places) i None) + bit (is_open (place σ i)) ≡ open_count σ.places
    counted =
        let l : i < length σ.places = some_within σ.places i x e in
        let a = open_set (overtake_all x.own σ.places) i None (omega (arith, length-overtaken x.own σ.places)) in
        let b : is_open (get_or (overtake_all x.own σ.places) i None) ≡ true = rw (get_or-overtaken x.own σ.places i, e) in
        let d : is_open (place σ i) ≡ true = rw e in
        rw d (omega (arith, rw b at a, open_overtaken x.own σ.places))

pub overtaken_free : (w : Pairs) (f : ℕ → Bool) → ((o : ℕ) → stands w o ≡ true → f o ≡ true → ⊥) → is_overtaken w f ≡ false
overtaken_free [] f h = refl
overtaken_free ((j, v) ∷ w) f h = or_from (f j) (is_overtaken w f) (⊎_elim (λ (e : f j ≡ true). absurd (h j (rw (eq-eqb j j refl)) e)) (λ (e : f j ≡ false). e) (cases_Bool (f j))) (overtaken_free w f (λ o e. h o (stands_more o j v w e)))

overtaken_none : (w : Pairs) → is_overtaken w (λ _. false) ≡ false
overtaken_none [] = refl
overtaken_none ((j, v) ∷ w) = overtaken_none w

-- a write set from elsewhere
pub plays : (σ : Store) (i : ℕ) (w : Pairs) → i < length σ.places → place σ i ≡ None → Fine w → is_empty w ≡ false → σ.commits < σ.most →
    (τ : Store) × (store_play w i σ ≡ fine τ) × Played σ w i τ
unfolding first_of
plays σ i w l e g f c =
    let y = commits ρ i x there_x own_full (rw (taken w (fresh σ.board)) (overtaken_none x.own)) c in (
      y.0,
      rw (begins σ i l e, writes_all σ i l 0 w (fresh σ.board) g.rising (omega (arith, g.few))) y.1,
      record {
        board = y.2.board ∙ play_same x.own w σ.board look;
        commits = y.2.commits;
        most = y.2.most;
        places = y.2.places ∙ length-set σ.places i (Some x);
        opens = counted y.0 y.2.opens;
        by = y.2.by;
        same = λ o. y.2.same o ∙ look o;
        other = λ o d. y.2.other o d ∙ ap (overtake_in y.2.by) (get_or-set_other σ.places i o (Some x) None d);
      },
    )
  where
    x : Place
    x = written_all w (fresh σ.board)

    ρ : Store
    ρ = with_place σ i (Some x)

    there_x : place ρ i ≡ Some x
    there_x = get_or-set_same σ.places i (Some x) None l

    first_none : (o : Option ℕ) → first_of o None ≡ o
    first_none None = refl
    first_none (Some v) = refl

    look : (o : ℕ) → lookup x.own o ≡ lookup w o
    look o = written_lookup 0 w (fresh σ.board) g.rising o ∙ first_none (lookup w o)

    taken : (u : Pairs) (z : Place) → (written_all u z).overtaken ≡ z.overtaken
    taken [] z = refl
    taken ((j, v) ∷ u) z = taken u (writes j v z)

    own_full : is_empty x.own ≡ false
    own_full = let d = some_object w f in object_full x.own d.0 (ap is_some (look d.0) ∙ d.1)

    counted : (τ : Store) → open_count τ.places + bit (is_open (place ρ i)) ≡ open_count ρ.places →
        open_count τ.places + bit (is_open (place σ i)) ≡ open_count σ.places
    counted τ a =
        let d : is_open (place ρ i) ≡ true = rw there_x in
        let g : is_open (place σ i) ≡ false = rw e in
        let k = open_set σ.places i (Some x) l in
        rw g (omega (arith, rw d at a, rw g at k))
