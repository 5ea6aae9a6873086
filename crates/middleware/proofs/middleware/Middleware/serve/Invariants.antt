use Rattle.std.proofs.Common.{◌≡◌, ◌≤◌, [], length, take, vec_items, vec_len, vec_capacity}
use Rattle.middleware.specs.Listing.{past}
use Rattle.middleware.specs.Meaning.{held}
use Rattle.middleware.specs.Serving.{AllCarry, RunsOn}
use Rattle.middleware.proofs.middleware.Middleware.serve.Given as goal

abbrev pub invariant-loop-call : goal.invariant-loop-call
invariant-loop-call g l =
    (vec_len l.answers ≡ l.call-index) × (length l.queue ≤ vec_capacity l.answers)
    × RunsOn (held g.B.Bank.stores l.initial.self) (take l.call-index l.queue) (past (take l.call-index l.queue) (vec_items l.answers) []) (held g.B.Bank.stores l.self)
    × AllCarry (take l.call-index l.queue) (vec_items l.answers)
