-- The text of the listing, for every file. docs/SPECIFICATION.md, "The lamp drawing and marked cases".
--   listing file   the whole text
-- Assumes nothing.
use Rattle.std.specs.Prelude.{ℕ, List, ◌++◌, replicate}
use Rattle.tables.specs.Tables.{Tables, tables_of, counts_of}
use Rattle.load.specs.Load.{load_verdict, load_tables}
use Rattle.lines.specs.Lines.{components_text, wires_text, refused_line}
use Rattle.running.specs.Running.{round_lines}
use Rattle.kinds.specs.Given.{Verdict}
use Rattle.std.specs.Prelude.{Ok, Err}

-- Tables of full size, every word and every count 0.
abbrev pub fresh : Tables
fresh =
    tables_of (replicate 2048 0) (replicate 1024 0) (replicate 1024 0) (replicate 4096 0) (replicate 256 0) (replicate 256 0) (replicate 256 0)
    (counts_of 0 0 0 0 0 0 0)

-- The components and wires of a loaded drawing, and its rounds, at most 16; or the line of a refused file.
abbrev pub listed_text : Verdict → Tables → List ℕ
listed_text (Ok _) T =
    components_text T ++ wires_text T ++ round_lines 16 1 T
listed_text (Err x) T = refused_line x

-- The listing of a file.
unfoldable pub listing : List ℕ → List ℕ
listing file = listed_text (load_verdict file fresh) (load_tables file fresh)
