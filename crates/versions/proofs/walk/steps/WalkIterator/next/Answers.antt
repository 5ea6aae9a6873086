-- The version that the link leads to heads those that are left.
use Rattle.std.proofs.Common.{◌≡◌, ◌<◌, ◌≤◌, [], reverse, length, None, sym, ap, ◌∙◌, subst, arith, rules}
use Rattle.std.proofs.lemmas.List.{length-reverse}
use Rattle.versions.specs.Links.{linked, height}
use Rattle.versions.proofs.Links.{linked_none, linked_past, heads, height_less}
use Rattle.versions.proofs.walk.steps.WalkIterator.next.Goals as goal

pub returns-in_err-self-clause-steps : goal.returns-in_err-self-clause-steps
returns-in_err-self-clause-steps c =
    let w = c.args.self.now in
    let none : w.next ≡ None = search rules in
    let h : linked (reverse w.pool.now) w.next ≡ [] = ap (linked (reverse w.pool.now)) none ∙ linked_none (reverse w.pool.now) in search rules

pub returns-in_err-version-clause-steps : goal.returns-in_err-version-clause-steps
returns-in_err-version-clause-steps c =
    let w = c.args.self.now in
    let past : length w.pool.now ≤ c.in_ok-self.field-0 = search rules in
    let h : linked (reverse w.pool.now) w.next ≡ [] = ap (linked (reverse w.pool.now)) c.in_ok-self.was ∙ linked_past (reverse w.pool.now) c.in_ok-self.field-0 (omega (arith, length-reverse w.pool.now)) in search rules

pub returns-clause-steps : goal.returns-clause-steps
returns-clause-steps c =
    let w = c.args.self.now in
    let v = c.in_ok-version.version.now in
    let h = heads w.pool.now c.in_ok-self.field-0 v w.falls (search rules) (search rules) in
    ap (linked (reverse w.pool.now)) c.in_ok-self.was ∙ h.leads

pub returns-clause-goes : goal.returns-clause-goes
returns-clause-goes c =
    let w = c.args.self.now in
    let v = c.in_ok-version.version.now in
    let h = heads w.pool.now c.in_ok-self.field-0 v w.falls (search rules) (search rules) in
    let less : height v.older < height w.next = subst (λ l. height v.older < height l) (sym c.in_ok-self.was) (height_less v.older c.in_ok-self.field-0 h.links) in search rules
