-- What wider values owe to the files and the readers of earlier days. docs/SPECIFICATION.md, "The drawing file" (the table of kinds).
--   wider w f                   a port of a component has more than w bits
--   file_within, tables_within    a file, and the tables of a net, as a reader takes them to whom widths end at w
--   NarrowChecks                its check 9 fails at a wider port as well
--   NarrowLoads, NarrowRuns     a file that it accepts is accepted, loads to the same tables and behaves as before
--   WideFiles                   any other file that is accepted gets 9 from it, at its first component with a wider port
-- Assumes nothing.
use Rattle.std.specs.Prelude.{ℕ, ◌/◌, Bool, ◌&&◌, ◌||◌, List, eqb, ltb}
use Rattle.kinds.specs.declared.table.Fields.{Fields}
use Rattle.kinds.specs.Kinds.{input_width, output_width}
use Rattle.component.specs.Drawing.{fails9}
use Rattle.tables.specs.Tables.{Tables}
use Rattle.earlier.specs.Reader.{file_taken, tables_taken, ChecksNewer, LoadsAlike, RunsAlike, AnswersFirst}

-- A port of a component has more than w bits.
abbrev pub wider : ℕ → Fields → Bool
wider w f = (ltb 0 f.inputs && ltb w (input_width f)) || (ltb 0 f.outputs && ltb w (output_width f))

-- To a reader to whom widths end at w such a component breaks the table of kinds: C, which is bytes 8 and 9 of its record, is none;
abbrev pub file_within : ℕ → List ℕ → List ℕ
file_within w = file_taken (λ i. eqb (i / 2) 4) (wider w)

-- nor is word 2 of its entry.
abbrev pub tables_within : ℕ → Tables → Tables
tables_within w = tables_taken 2 (wider w)

-- So its check 9, "a component breaks the table of kinds", fails at every port of more than w bits.
abbrev pub NarrowChecks : Type 0
NarrowChecks = (w : ℕ) → ChecksNewer (file_within w) fails9 (wider w)

-- "Every file accepted before" is accepted, and loads to the same tables.
abbrev pub NarrowLoads : Type 0
NarrowLoads = (w : ℕ) → LoadsAlike (file_within w)

-- It "behaves as before".
abbrev pub NarrowRuns : Type 0
NarrowRuns = (w : ℕ) → RunsAlike (file_within w) (tables_within w)

-- "Refusals: 9 .. move with the limit": of any other file accepted now, a reader to whom widths end at w answers 9 at the first component that is wider.
abbrev pub WideFiles : Type 0
WideFiles = (w : ℕ) → AnswersFirst (file_within w) 9 (wider w)
