-- The lines of the listing, byte for byte. docs/SPECIFICATION.md, "The lamp drawing and marked cases".
--   components_text, wires_text, round_line, refused_line   the parts of the listing
-- Assumes nothing.
use Rattle.std.specs.Prelude.{ℕ, cond, List, [], ◌++◌}
use Rattle.lists.specs.Lists.{from, joined}
use Rattle.kinds.specs.declared.answers.Refusal.{Refusal}
use Rattle.kinds.specs.Given.{tells_of_two}
use Rattle.kinds.specs.Kinds.{kind_of}
use Rattle.tables.specs.declared.Wire.{Wire}
use Rattle.tables.specs.Tables.{Tables, fields_at, id_at, wire_at, indexes}
use Rattle.text.specs.Text.{numeral, spaced, ascii}
use Rattle.names.specs.Names.{name_of}

-- A component: its index, the name of its kind's number and its id.
unfoldable pub component_line : ℕ → ℕ → ℕ → List ℕ
component_line i kind id = numeral i ++ ascii " " ++ name_of (kind_of kind) ++ ascii " " ++ numeral id ++ ascii "\n"

-- A wire: the component and the port that it leaves, and those that it enters.
unfoldable pub wire_line : Wire → List ℕ
wire_line w =
    numeral w.src.comp.0 ++ ascii "." ++ numeral w.src.port ++ ascii " "
    ++ numeral w.dst.comp.0 ++ ascii "." ++ numeral w.dst.port ++ ascii "\n"

-- The components: how many, and a line for each.
abbrev pub components_text : Tables → List ℕ
components_text T =
    ascii "components " ++ numeral T.counts.components ++ ascii "\n"
    ++ joined (λ i. component_line i (fields_at T i).kind (id_at T i)) (indexes T)

-- The wires, likewise.
abbrev pub wires_text : Tables → List ℕ
wires_text T = ascii "wires " ++ numeral T.counts.wires ++ ascii "\n" ++ joined (λ k. wire_line (wire_at T k)) (from 0 T.counts.wires)

-- Round r, and the current list that it leaves.
abbrev pub round_line : ℕ → List ℕ → List ℕ
round_line r xs = ascii "round " ++ numeral r ++ ascii " next" ++ spaced xs ++ ascii "\n"

-- The earlier record of two that meet: "`against` for these three numbers only".
abbrev pub against_text : Refusal → List ℕ
against_text x = cond (tells_of_two x.number) (ascii " against " ++ numeral x.earlier) []

-- A refused file: what, where, and against which record.
abbrev pub refused_line : Refusal → List ℕ
refused_line x = ascii "refused " ++ numeral x.number ++ ascii " at " ++ numeral x.position ++ against_text x ++ ascii "\n"
