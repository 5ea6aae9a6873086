-- What follows from the law.
use Rattle.std.proofs.Common.{◌≡◌, ℕ, suc, ◌<◌, ◌≤◌, Bool, true, false, cond, ◌⊎◌, [], ◌∷◌, get_or, Some, None, Option, sym, refl, ◌∙◌, subst, inl, inr, arith}
use Rattle.std.proofs.lemmas.List.{ext_get_or}
use Rattle.std.proofs.lemmas.Bool.{cases_eq, eq-eqb, ne_eqb}
use Rattle.std.specs.Option.{option_map}
use Rattle.calls.specs.declared.call.Call.TheVariants.{Applied, Apply, Begin, Commit, Drain, GiveUp, Read, State, Value, Write, WriteSet}
use Rattle.tickets.specs.Boards.{Board, value}
use Rattle.law.specs.Clashes.{Clashing}
use Rattle.law.specs.Corollaries.{AbortsExactly, SameApplied, SnapshotIsolation, WholeReplica}
use Rattle.law.specs.History.{Answer, Event, History, accepted, number_told}
use Rattle.law.specs.History.Answer.{aborts, done, fault, read_only, refused, told, values}
use Rattle.law.specs.History.Event.{event}
use Rattle.law.specs.Law.{AllRight, Clash, Right, Verdict}
use Rattle.law.specs.Words.{Fact, Facts, fact, facts, given, is_applied, last_write, noted, snapshot, snapshot_of_set, write_set}
use Rattle.law.proofs.Clashes.{clashing_same}
use Rattle.law.proofs.Layers.{layers_front, layers_same}

-- a write set gets its number where nothing clashes
abbrev Justified : Facts → Fact → Type 0
Justified h (Fact.numbered t n) = (n ≡ suc (given h)) × ((m : ℕ) → Clash h t m → ⊥)
Justified h (Fact.began k t) = Unit {0}
Justified h (Fact.wrote t j v) = Unit {0}
Justified h (Fact.applied k n) = Unit {0}
Justified h (Fact.drained k m) = Unit {0}

-- so does what an event establishes
abbrev JustifiedIf : Facts → Option Fact → Type 0
JustifiedIf h None = Unit {0}
JustifiedIf h (Some f) = Justified h f

justified_accepted : (h : Facts) (b : Bool) (f : Fact) → Justified h f → JustifiedIf h (cond b (Some f) None)
justified_accepted h true f j = j
justified_accepted h false f j = tt

justified_begun : (h : Facts) (k : ℕ) (o : Option ℕ) → JustifiedIf h (option_map (Fact.began k) o)
justified_begun h k None = tt
justified_begun h k (Some t) = tt

justified_numbered : (h : Facts) (t : ℕ) (a : Answer) → Verdict h t a → JustifiedIf h (option_map (Fact.numbered t) (number_told a))
justified_numbered h t done v = tt
justified_numbered h t (told n) v = (v.0, v.1)
justified_numbered h t (values vs) v = tt
justified_numbered h t read_only v = tt
justified_numbered h t (aborts n) v = tt
justified_numbered h t (refused n vs) v = tt
justified_numbered h t (fault n) v = tt

justified : (start : Board) (K : ℕ) (h : Facts) (e : Event) → Right start K h e → JustifiedIf h (fact e)
justified start K h (event (Begin k) a) r = justified_begun h k (number_told a)
justified start K h (event (Read t j) a) r = tt
justified start K h (event (Write t j v) a) r = justified_accepted h (accepted a) (Fact.wrote t j v) tt
justified start K h (event (Commit t) a) r = justified_numbered h t a r
justified start K h (event (GiveUp t) a) r = tt
justified start K h (event (Apply k n) a) r = justified_accepted h (accepted a) (Fact.applied k n) tt
justified start K h (event (Drain k m) a) r = justified_accepted h (accepted a) (Fact.drained k m) tt
justified start K h (event (Value k j) a) r = tt
justified start K h (event (State t) a) r = tt
justified start K h (event (WriteSet n) a) r = tt
justified start K h (event (Applied k) a) r = tt

abbrev Isolated : Facts → Type 0
Isolated h = (n : ℕ) → 1 ≤ n → n ≤ given h → (m : ℕ) → snapshot_of_set h n < m → m < n → Clashing (write_set h m) (write_set h n) → ⊥

isolated_numbered : (h : Facts) (t G : ℕ) → Justified h (Fact.numbered t G) → Isolated h → Isolated (Fact.numbered t G ∷ h)
isolated_numbered h t G j i n l m o a b s = go (cases_eq n G)
  where
    -- a number below the new one has the write set that it had
    below : (c : ℕ) → c < G → (z : ℕ) → write_set (Fact.numbered t G ∷ h) c z ≡ write_set h c z
    below c d z = rw (ne_eqb c G (omega arith))

    new : (c : ℕ) → c ≡ G → (z : ℕ) → write_set (Fact.numbered t G ∷ h) c z ≡ last_write h t z
    new c d z = rw (eq-eqb c G d)

    go : (n ≡ G) ⊎ (n ≡ G → ⊥) → ⊥
    go (inl e) =
        let saw : snapshot_of_set (Fact.numbered t G ∷ h) n ≡ snapshot h t = rw (eq-eqb n G e) in
        j.1 o (record { later = omega (arith, saw, a); given = omega (arith, j.0); clashing = clashing_same (write_set (Fact.numbered t G ∷ h) o) (write_set (Fact.numbered t G ∷ h) n) (write_set h o) (last_write h t) (below o (omega arith)) (new n e) s })
    go (inr e) =
        let c : n < G = omega (arith, j.0) in
        let saw : snapshot_of_set (Fact.numbered t G ∷ h) n ≡ snapshot_of_set h n = rw (ne_eqb n G e) in
        i n l (omega (arith, j.0)) o (omega (arith, saw, a)) b (clashing_same (write_set (Fact.numbered t G ∷ h) o) (write_set (Fact.numbered t G ∷ h) n) (write_set h o) (write_set h n) (below o (omega arith)) (below n c) s)

isolated_more : (h : Facts) (f : Fact) → Justified h f → Isolated h → Isolated (f ∷ h)
isolated_more h (Fact.began k t) j i = i
isolated_more h (Fact.wrote t o v) j i = i
isolated_more h (Fact.applied k n) j i = i
isolated_more h (Fact.drained k m) j i = i
isolated_more h (Fact.numbered t n) j i = isolated_numbered h t n j i

isolated_noted : (h : Facts) (o : Option Fact) → JustifiedIf h o → Isolated h → Isolated (noted o h)
isolated_noted h None j i = i
isolated_noted h (Some f) j i = isolated_more h f j i

isolated : (start : Board) (K : ℕ) (h : History) → AllRight start K h → Isolated (facts h)
isolated start K [] r = λ n a b. absurd (omega arith)
isolated start K (e ∷ h) r = isolated_noted (facts h) (fact e) (justified start K (facts h) e r.0) (isolated start K h r.1)

pub snapshot_isolation : SnapshotIsolation
snapshot_isolation start K h copies law = isolated start K h law.answers

pub aborts_exactly : AbortsExactly
aborts_exactly h t a v (inl (n, e)) = let d : Verdict h t (told n) = subst (Verdict h t) e v in ((λ x. absurd (let i = x.0 in let f : a ≡ aborts i = x.1 in let z : ◌≡◌ {A = ℕ} 0 1 = cc in omega arith)), (λ c. absurd (d.1 c.0 c.1)))
aborts_exactly h t a v (inr (n, e)) = let d : Verdict h t (aborts n) = subst (Verdict h t) e v in ((λ _. (n, d.0)), (λ _. (n, e)))

pub same_applied : SameApplied
same_applied start K h copies law k l a b same =
    ext_get_or 0 (get_or copies k []) (get_or copies l []) (law.objects k a ∙ sym (law.objects l b))
    (λ j c. let d : j < 128 = omega (arith, law.objects k a) in
    law.played k a j d ∙ (layers_same (is_applied (facts h) k) (is_applied (facts h) l) (write_set (facts h)) (write_set (facts h)) (value start) (given (facts h)) j same (λ i x y. refl) ∙ sym (law.played l b j d)))

pub whole_replica : WholeReplica
whole_replica start K h copies law k p a b exact j d = law.played k a j d ∙ layers_front (is_applied (facts h) k) (write_set (facts h)) (value start) p (given (facts h)) j b exact
