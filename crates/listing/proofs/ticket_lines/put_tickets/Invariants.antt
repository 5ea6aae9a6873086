use Rattle.std.proofs.Common.{◌≡◌, ◌-◌, ◌++◌, string_bytes}
use Rattle.tickets.specs.Meaning.{values}
use Rattle.listing.specs.Listing.{tickets_text}
use Rattle.listing.proofs.ticket_lines.put_tickets.Given as goal

-- what is written and what is left stay the whole
abbrev pub invariant-loop-n : goal.invariant-loop-n
invariant-loop-n l = string_bytes l.text ++ tickets_text (values l.board) l.n (16 - l.n) ≡ string_bytes l.initial.text ++ tickets_text (values l.board) 0 16
