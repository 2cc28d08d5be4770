-- A box in a box, as bytes, and its tables, for looks that are computed.
--   boxed        a Switch enters box 2, whose input 0 is mapped to an Or and then, through box 3, to a Not
--   boxed_once    the same, input 1 of box 2 without a map
-- Assumes nothing.
use Prim.Native.Nat.{ℕ}
use mathlib.Core.List.{List, ◌++◌}
use Rattle.lists.specs.Lists.{overlay}
use Rattle.component.proofs.Drawings.{component_bytes, connection_bytes, input_map_bytes, output_map_bytes}
use Rattle.tables.specs.Tables.{Tables, tables_of}
use Rattle.load.specs.Load.{load_tables}
use Rattle.demands.proofs.Lamp.{sevens}

-- Components: 0 root; 1 Switch; 2 a box of two inputs and one output; 3 a box in it, of one and one; 4 Not in that; 5 Or in box 2. Their ids are
-- 100, 1, 20, 30, 40 and 50.
abbrev box : List ℕ → List ℕ
box maps =
    component_bytes 0 0 0 0 100 0 ++ component_bytes 7 0 0 1 1 0 ++ component_bytes 0 0 2 1 20 0
    ++ component_bytes 0 2 1 1 30 0 ++ component_bytes 3 3 1 1 40 0 ++ component_bytes 2 2 2 1 50 0
    ++ connection_bytes 0 0 0 1 0 ++ maps ++ output_map_bytes 2 1 0 ++ output_map_bytes 3 0 0

-- Input 0 of box 2 to the Or, then to box 3; input 1 to the Or; box 3's input to the Not.
abbrev pub boxed : List ℕ
boxed = box (input_map_bytes 2 0 1 0 ++ input_map_bytes 2 0 0 0 ++ input_map_bytes 2 1 1 1 ++ input_map_bytes 3 0 0 0)

abbrev pub boxed_once : List ℕ
boxed_once = box (input_map_bytes 2 0 1 0 ++ input_map_bytes 2 0 0 0 ++ input_map_bytes 3 0 0 0)

-- The tables after a load, with input numbers put at the front.
abbrev pub with_inputs : List ℕ → List ℕ → Tables
with_inputs file xs =
    let T = load_tables file sevens in
    tables_of T.components (overlay xs T.inputs) T.outputs T.wires T.current T.following T.standing T.counts
