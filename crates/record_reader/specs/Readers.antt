-- What a reader and the bodies that it hands out mean.
use Rattle.std.specs.Prelude.{◌≡◌, ℕ, ◌-◌, List, length, take, drop, Some, None, Option}
use Rattle.std.specs.declared.ops.Range.{Range}
use Rattle.record_reader.specs.declared.reader.Reader.{Reader}
use Rattle.record_reader.specs.declared.reader.Body.{Body}

-- the record that a reader reads
abbrev pub read_from : Reader → List ℕ
read_from r = r.bytes.now

-- a body: its bytes, and its place
abbrev pub part_of : Body → List ℕ × ℕ
part_of b = (b.bytes.now, b.at)

-- a body's place, and its length
abbrev pub span_of : Range ℕ → ℕ × ℕ
span_of r = (r.start, r.end - r.start)

-- what is handed out is the part of the record at its place
abbrev pub PartOf : List ℕ → Option Body → Type 0
PartOf bs None = Unit {0}
PartOf bs (Some b) = b.bytes.now ≡ take (length b.bytes.now) (drop b.at bs)
