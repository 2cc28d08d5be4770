-- `lay_row`: the words are stored one behind the other.
-- Assumes nothing.
use mathlib.Core.List.{[], ◌∷◌}
use Prim.Native.Nat.{◌*◌}
use native.Mathlib.Omega.{arith}
use lib.ListN.{length-set}
use Rattle.tables.proofs.RowsLaws.{stores_entry}
use Rattle.tables.proofs.rows.lay_row.Goals as goal

pub bounds-components-at-2 : goal.bounds-components-at-2
bounds-components-at-2 c = simp length-set (omega arith)

pub bounds-components-at-3 : goal.bounds-components-at-3
bounds-components-at-3 c = simp length-set (omega arith)

pub bounds-components-at-4 : goal.bounds-components-at-4
bounds-components-at-4 c = simp length-set (omega arith)

pub bounds-components-at-5 : goal.bounds-components-at-5
bounds-components-at-5 c = simp length-set (omega arith)

pub bounds-components-at-6 : goal.bounds-components-at-6
bounds-components-at-6 c = simp length-set (omega arith)

pub bounds-components-at-7 : goal.bounds-components-at-7
bounds-components-at-7 c = simp length-set (omega arith)

pub bounds-components-at-8 : goal.bounds-components-at-8
bounds-components-at-8 c = simp length-set (omega arith)

pub shape_of-components : goal.shape_of-components
shape_of-components c = simp length-set

pub returns : goal.returns
returns c =
    let a = c.args in
    let f = a.fields in
    stores_entry a.components.now (8 * a.i) f.kind
    (a.id.0 ∷ f.width ∷ f.parameter ∷ f.inputs ∷ f.outputs ∷ a.inputs ∷ a.outputs ∷ [])
