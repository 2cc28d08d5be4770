-- `lay_wire`: the words are stored one behind the other.
-- Assumes nothing.
use mathlib.Core.List.{[], ◌∷◌}
use Prim.Native.Nat.{◌*◌}
use native.Mathlib.Omega.{arith}
use lib.ListN.{length-set}
use Rattle.tables.proofs.RowsLaws.{stores_entry}
use Rattle.tables.proofs.wires.lay_wire.Goals as goal

pub bounds-wires-at-2 : goal.bounds-wires-at-2
bounds-wires-at-2 c = simp length-set (omega arith)

pub bounds-wires-at-3 : goal.bounds-wires-at-3
bounds-wires-at-3 c = simp length-set (omega arith)

pub bounds-wires-at-4 : goal.bounds-wires-at-4
bounds-wires-at-4 c = simp length-set (omega arith)

pub returns : goal.returns
returns c =
    let a = c.args in
    stores_entry a.wires.now (4 * a.k) a.wire.src.comp.0 (a.wire.src.port ∷ a.wire.dst.comp.0 ∷ a.wire.dst.port ∷ [])
