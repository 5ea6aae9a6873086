-- What a record tells, as text: a line for each write set, and then a line for each ticket that the run left other than empty.
use Rattle.std.specs.Prelude.{◌≡◌, ℕ, zero, suc, ◌+◌, ◌*◌, Bool, false, cond, not, ◌||◌, List, [], ◌∷◌, ◌++◌, replicate, slice_index, string_bytes, codes, decimal, String, ◌==◌}
use Rattle.std.specs.List.{flat_map}
use Rattle.std.specs.declared.alloc.Global.{Global}
use Rattle.tickets.specs.Boards.{Board, value}
use Rattle.record_format.specs.Items.{Item, play_all}
use Rattle.listing.specs.declared.ticket.Ticket.{Ticket}

-- object and value of a pair, behind a space
abbrev pub pair_text : ℕ × ℕ → List ℕ
pair_text p = codes " " ++ (decimal p.0 ++ (codes "=" ++ decimal p.1))

-- what stands before the pairs of a write set: number, home and s
abbrev pub head_text : ℕ → ℕ → ℕ → List ℕ
head_text n home s = decimal n ++ (codes " home " ++ (decimal home ++ (codes " s " ++ (decimal s ++ codes ":"))))

-- the line of a write set
abbrev pub item_text : ℕ → Item → List ℕ
item_text n it = head_text n it.home it.s ++ (flat_map pair_text it.pairs ++ 10 ∷ [])

-- the lines of the write sets from number n on
unfoldable pub items_text : ℕ → List Item → List ℕ
items_text n [] = []
items_text n (it ∷ its) = item_text n it ++ items_text (n + 1) its

-- field k of ticket t
abbrev pub field : Board → ℕ → ℕ → ℕ
field b t k = value b (8 * t + k)

abbrev pub ticket_at : Board → ℕ → Ticket
ticket_at b t = record {
  stage = field b t 0;
  pages = field b t 1;
  sheets = field b t 2;
  plates = field b t 3;
  fold = field b t 4;
  press = field b t 5;
  paper = field b t 6;
  waste = field b t 7;
}

-- the ticket of eight fields
abbrev pub ticket_of : List ℕ → Ticket
ticket_of fields = record {
  stage = slice_index fields 0;
  pages = slice_index fields 1;
  sheets = slice_index fields 2;
  plates = slice_index fields 3;
  fold = slice_index fields 4;
  press = slice_index fields 5;
  paper = slice_index fields 6;
  waste = slice_index fields 7;
}

-- the fields of a ticket by name, as a program prints them
abbrev pub fields_text : Ticket → List ℕ
fields_text t =
    codes "stage " ++ (decimal t.stage
    ++ (codes " pages " ++ (decimal t.pages
    ++ (codes " sheets " ++ (decimal t.sheets
    ++ (codes " plates " ++ (decimal t.plates
    ++ (codes " fold " ++ (decimal t.fold
    ++ (codes " press " ++ (decimal t.press ++ (codes " paper " ++ (decimal t.paper ++ (codes " waste " ++ decimal t.waste))))))))))))))

-- the line of ticket n: its number, and its fields by name
abbrev pub front_text : ℕ → Ticket → List ℕ
front_text n t =
    codes "ticket " ++ (decimal n
    ++ (codes ": stage " ++ (decimal t.stage
    ++ (codes " pages " ++ (decimal t.pages ++ (codes " sheets " ++ (decimal t.sheets ++ (codes " plates " ++ decimal t.plates))))))))

abbrev pub back_text : Ticket → List ℕ
back_text t =
    codes " fold " ++ (decimal t.fold
    ++ (codes " press " ++ (decimal t.press ++ (codes " paper " ++ (decimal t.paper ++ (codes " waste " ++ (decimal t.waste ++ 10 ∷ [])))))))

abbrev pub ticket_text : ℕ → Ticket → List ℕ
ticket_text n t = front_text n t ++ back_text t

-- some of the n fields from field k on is not 0
unfoldable pub used_from : Board → ℕ → ℕ → ℕ → Bool
used_from b t k zero = false
used_from b t k (suc n) = not (field b t k == 0) || used_from b t (k + 1) n

-- a ticket is empty where all its eight fields are 0
abbrev pub used : Board → ℕ → Bool
used b t = used_from b t 0 8

-- the lines of the n tickets from ticket t on
unfoldable pub tickets_text : Board → ℕ → ℕ → List ℕ
tickets_text b t zero = []
tickets_text b t (suc n) = cond (used b t) (ticket_text t (ticket_at b t)) [] ++ tickets_text b (t + 1) n

-- the board that the write sets leave, from one of all zeros
abbrev pub left_by : List Item → Board
left_by its = play_all its (replicate 128 0)

abbrev pub listing : List Item → List ℕ
listing its = items_text 1 its ++ tickets_text (left_by its) 0 16

-- the listing of the items, as a text
abbrev pub ListingOf : List Item → String Global → Type 0
ListingOf its text = string_bytes text ≡ listing its
