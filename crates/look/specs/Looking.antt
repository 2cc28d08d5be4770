-- What the functions of src/ are handed and find on their way. Nobody has to believe anything here: each word only shortens what a definition
-- of specs/Look.antt says.
--   RowsHeld at n cs is os the entry of each primitive of the drawing has its fields, and its ports stand in their tables
--   value_shown, numbers_on, widths_on   what a port shows, and a side, of the tables of components and ports
-- Assumes nothing.
use Rattle.std.specs.Prelude.{◌≡◌, ℕ, true, List, [], map}
use Rattle.value.specs.declared.Value.{Value}
use Rattle.component.specs.declared.Record.{Record}
use Rattle.component.specs.Record.{fields_of, is_primitive}
use Rattle.flatten.specs.Descent.{flat}
use Rattle.tables.specs.Tables.{Tables}
use Rattle.tables.specs.Words.{no_counts, fields_in}
use Rattle.net.specs.Parts.{lent}
use Rattle.questions.specs.declared.Side.{Side}
use Rattle.questions.specs.Questions.{value_at}
use Rattle.questions.specs.Asked.{RowRight}
use Rattle.boxes.specs.Boxes.{port_shown}
use Rattle.look.specs.Look.{shown_on}

pub record RowsHeld (at : ℕ → Record) (n : ℕ) (cs is os : List ℕ) : Type 0 where
  pub row : (c : ℕ) → is_primitive (at c) ≡ true → RowRight cs is os (flat at n c)
  pub fields : (c : ℕ) → is_primitive (at c) ≡ true → fields_in cs (flat at n c) ≡ fields_of (at c)

-- The tables of components and ports.
abbrev pub ported : List ℕ → List ℕ → List ℕ → Tables
ported cs is os = lent cs is os [] no_counts

-- The value that port i of component c shows on a side.
abbrev pub value_shown : (ℕ → Record) → ℕ → Tables → Side → ℕ → ℕ → Value
value_shown at n T side c i = value_at T side (flat at n (port_shown at n side c i).comp) (port_shown at n side c i).port

-- The numbers that component c shows on a side, and their widths.
abbrev pub numbers_on : (ℕ → Record) → ℕ → Tables → Side → ℕ → List ℕ
numbers_on at n T side c = map (λ (v : Value). v.number) (shown_on at n T side c)

abbrev pub widths_on : (ℕ → Record) → ℕ → Tables → Side → ℕ → List ℕ
widths_on at n T side c = map (λ (v : Value). v.width) (shown_on at n T side c)
