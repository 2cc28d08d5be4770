-- The tables of the lamp drawing, for cases that are computed. docs/SPECIFICATION.md, "The lamp drawing and marked cases".
-- Assumes nothing.
use Prim.Native.Nat.{ℕ, zero, suc}
use lib.ListN.{replicate}
use Rattle.tables.specs.Tables.{Tables, tables_of, counts_of}
use Rattle.load.specs.Load.{load_tables}
use Rattle.simulator.specs.Edit.{Way}
use Rattle.simulator.specs.Calls.{round_tables, edit_tables}
use Rattle.component.proofs.Drawings.{lamp}

-- Tables of full size, every word 7, every count 0.
abbrev pub sevens : Tables
sevens =
    tables_of (replicate 2048 7) (replicate 1024 7) (replicate 1024 7) (replicate 4096 7) (replicate 256 7) (replicate 256 7) (replicate 256 7)
    (counts_of 0 0 0 0 0 0 0)

-- The tables after the load.
abbrev pub lamp_loaded : Tables
lamp_loaded = load_tables lamp sevens

-- Before round k + 3, where Switch 0 is set after round 2: in the timing case, the old way.
abbrev pub lamp_set : Way → ℕ → Tables
lamp_set way zero = edit_tables way (round_tables (round_tables lamp_loaded 0) 0) 0 1
lamp_set way (suc k) = round_tables (lamp_set way k) 0
