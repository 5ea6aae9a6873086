use Rattle.std.proofs.Common.{◌≡◌, ℕ, ◌+◌, ◌-◌, ◌<◌, not, ◌==◌, List, [], length, get_or, ◌++◌, string_bytes, sym, ap, ◌∙◌, arith, rules}
use Rattle.std.specs.List.{list_any}
use Rattle.std.specs.Simd.{first_chunks}
use Rattle.std.proofs.lemmas.Iterator.{YieldsList-from_slice}
use Rattle.std.proofs.lemmas.Iterator.Search.{any_from_yields_List}
use Rattle.tickets.specs.Meaning.{values}
use Rattle.listing.specs.Listing.{used, ticket_of, ticket_at, ticket_text, tickets_text}
use Rattle.listing.specs.declared.ticket.Ticket.{Ticket}
use Rattle.listing.proofs.Lines.{one_more, nothing_left, used_any, ticket_is, ticket_shown, ticket_passed, no_ticket}
use Rattle.listing.proofs.ticket_lines.put_tickets.Goals as goal
use Rattle.listing.proofs.ticket_lines.put_tickets.Goals.{then-any+in_ok-put_ticket, else-any}
use borrow.Author.Tests.{tests}

pub loop-n-preserved : goal.loop-n-preserved
loop-n-preserved c =
    let b = values c.args.board.now in
    let n = c.loop-n.n in
    let all = c.tickets-fields-items.ensures.answer in
    let l : n < 16 = omega (arith, ap length all) in
    let text = string_bytes c.loop-n.text in
    let fields : List ℕ = get_or c.tickets-fields-items.result.now n [] in
    let same : fields ≡ get_or (first_chunks 8 16 b) n [] = ap (λ (xs : List (List ℕ)). get_or xs n []) all in
    let any : c.any.result ≡ list_any (λ v. not (v == 0)) fields = any_from_yields_List (λ v. not (v == 0)) _ _ c.any.result c.any.ensures.ran (YieldsList-from_slice fields cc) (λ x b q k. search (rules, tests)) in
    let tells : used b n ≡ c.any.result = used_any b n [] l c.args.board.now.whole ∙ ap (list_any (λ v. not (v == 0))) (sym same) ∙ sym any in
    elim c.if-any.branch [
      | then-any+in_ok-put_ticket w ↦
          let told : w.from.result ≡ ticket_at b n = w.from.ensures ∙ ap ticket_of same ∙ ticket_is b n [] l c.args.board.now.whole in
          one_more text _ _ (ticket_shown b n l (tells ∙ w.if-any.true)) (ap string_bytes w.text-is ∙ w.in_ok-put_ticket.ensures.bytes ∙ ap (λ (t : Ticket). text ++ ticket_text n t) told) c.loop-n.invariant
      | else-any w ↦ ap (λ t. t ++ tickets_text b (n + 1) (16 - (n + 1))) (ap string_bytes w.text-is) ∙ ap (λ t. text ++ t) (sym (ticket_passed b n l (tells ∙ w.if-any.false))) ∙ c.loop-n.invariant
    ]

pub returns : goal.returns
returns c =
    let all = c.tickets-fields-items.ensures.answer in
    record { bytes = nothing_left (string_bytes c.loop-n.text) (no_ticket (values c.args.board.now) c.loop-n.n (omega (arith, ap length all))) c.loop-n.invariant }
