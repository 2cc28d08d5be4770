-- What appending a kind owes to the files and the readers of earlier days. docs/SPECIFICATION.md, "The drawing file".
--   later last f                a component's kind is past `last`
--   file_to, tables_to            a file, and the tables of a net, as a reader takes them to whom the kinds end at `last`
--   EarlierChecks               its check 8 fails at a later kind as well
--   EarlierLoads, EarlierRuns   a file that it accepts is accepted, loads to the same tables and runs alike
--   LaterFiles                  any other file that is accepted gets 8 from a reader without Majority, at its first Majority
-- Assumes nothing.
use Rattle.std.specs.Prelude.{ℕ, Bool, List, eqb, ltb}
use Rattle.kinds.specs.declared.Kind.TheVariants.{Majority}
use Rattle.kinds.specs.declared.table.Fields.{Fields}
use Rattle.kinds.specs.Kinds.{is}
use Rattle.component.specs.Drawing.{fails8}
use Rattle.tables.specs.Tables.{Tables}
use Rattle.earlier.specs.Reader.{file_taken, tables_taken, ChecksNewer, LoadsAlike, RunsAlike, AnswersFirst}

-- The kind of a component is past the last.
abbrev pub later : ℕ → Fields → Bool
later last f = ltb last f.kind

-- To a reader to whom the kinds end at `last` byte 1 of such a component's record is no kind;
abbrev pub file_to : ℕ → List ℕ → List ℕ
file_to last = file_taken (λ i. eqb i 1) (later last)

-- nor is word 0 of its entry.
abbrev pub tables_to : ℕ → Tables → Tables
tables_to last = tables_taken 0 (later last)

-- So its check 8, "the kind is none", fails at every later kind.
abbrev pub EarlierChecks : Type 0
EarlierChecks = (last : ℕ) → ChecksNewer (file_to last) fails8 (later last)

-- "Every file accepted before" is accepted, and "loads to the same net".
abbrev pub EarlierLoads : Type 0
EarlierLoads = (last : ℕ) → LoadsAlike (file_to last)

-- It "runs alike".
abbrev pub EarlierRuns : Type 0
EarlierRuns = (last : ℕ) → RunsAlike (file_to last) (tables_to last)

-- "of any other file accepted now, a reader without kind 15 answers 8 at its first Majority record": its kinds end at 14.
abbrev pub LaterFiles : Type 0
LaterFiles = AnswersFirst (file_to 14) 8 (is Majority)
