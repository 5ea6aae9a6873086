-- What a pen writes.
use Rattle.std.specs.Prelude.{◌≡◌, ℕ, ◌+◌, ◌≤◌, List, length}
use Rattle.record_format.specs.Buffers.{Wrote}
use Rattle.record_writer.specs.declared.pen.Pen.{Pen}

-- the buffer has room for so many bytes more
abbrev pub HasRoom : Pen → ℕ → Type 0
HasRoom p n = p.at + n ≤ length p.buffer.now

-- both pens write in one buffer, which keeps its length
abbrev pub SameBuffer : Pen → Pen → Type 0
SameBuffer p q = (q.buffer.ghost_name ≡ p.buffer.ghost_name) × (length q.buffer.now ≡ length p.buffer.now)

-- the bytes were written where the pen p stood, and q stands behind them
abbrev pub Puts : Pen → List ℕ → Pen → Type 0
Puts p xs q = Wrote p.buffer.now p.at xs q.buffer.now q.at
