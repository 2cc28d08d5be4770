-- What functions of our crates are handed and find on the words of a table alone. Only their contracts cite it; nobody has to believe
-- anything here.
--   uncounted cs ws                       tables of the components cs and the wires ws, all else empty
--   fields_in, id_in, first_input_in, ..      what the definitions of specs/Tables say of such tables
--   row_place i, wire_place k               where the words of component i and of wire k start
--   RowInside, WireInside                 the words of component i, of wire k stand in their table; RowsInside, WiresInside: of the first n
--   fields_fit f                           the fields f are no larger than a drawing can hold
-- Assumes nothing.
use Rattle.std.specs.Prelude.{ℕ, ◌+◌, ◌*◌, ◌≤◌, Bool, ◌&&◌, List, [], length}
use Rattle.value.specs.Value.{below}
use Rattle.kinds.specs.declared.table.Fields.{Fields}
use Rattle.tables.specs.declared.Counts.{Counts}
use Rattle.tables.specs.declared.Wire.{Wire}
use Rattle.tables.specs.Tables.{Tables, tables_of, counts_of, fields_at, id_at, first_input, first_output, wire_at}

-- No entry of any table.
abbrev pub no_counts : Counts
no_counts = counts_of 0 0 0 0 0 0 0

-- The components and the wires.
abbrev pub uncounted : List ℕ → List ℕ → Tables
uncounted cs ws = tables_of cs [] [] ws [] [] [] no_counts

-- The fields of component i, its id, and where its inputs and its outputs start.
abbrev pub fields_in : List ℕ → ℕ → Fields
fields_in cs i = fields_at (uncounted cs []) i

abbrev pub id_in : List ℕ → ℕ → ℕ
id_in cs i = id_at (uncounted cs []) i

abbrev pub first_input_in : List ℕ → ℕ → ℕ
first_input_in cs i = first_input (uncounted cs []) i

abbrev pub first_output_in : List ℕ → ℕ → ℕ
first_output_in cs i = first_output (uncounted cs []) i

-- Wire k.
abbrev pub wire_in : List ℕ → ℕ → Wire
wire_in ws k = wire_at (uncounted [] ws) k

-- Where the words of component i start, and those of wire k.
abbrev pub row_place : ℕ → ℕ
row_place i = 8 * i

abbrev pub wire_place : ℕ → ℕ
wire_place k = 4 * k

-- The words of component i stand in the table of components, and those of wire k in the table of wires.
abbrev pub RowInside : List ℕ → ℕ → Type 0
RowInside cs i = row_place i + 8 ≤ length cs

abbrev pub WireInside : List ℕ → ℕ → Type 0
WireInside ws k = wire_place k + 4 ≤ length ws

-- Those of the first n do.
abbrev pub RowsInside : List ℕ → ℕ → Type 0
RowsInside cs n = row_place n ≤ length cs

abbrev pub WiresInside : List ℕ → ℕ → Type 0
WiresInside ws n = wire_place n ≤ length ws

-- A kind of one byte, and numbers of two. A word of the table may be larger.
unfoldable pub fields_fit : Fields → Bool
fields_fit f = below f.kind 8 && below f.inputs 16 && below f.outputs 16 && below f.width 16
