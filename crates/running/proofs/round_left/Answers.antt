-- `round_left`: a round of a net is made, and leaves a net, so that calm is answered.
-- Assumes nothing.
use native.Mathlib.Omega.{arith}
use Rattle.tables.specs.Tables.{tables_of}
use Rattle.running.proofs.RoundsLaws.{rounded}
use Rattle.running.proofs.round_left.Goals as goal

pub returns : goal.returns
returns c =
    let a = c.args in
    let r = c.round-made in
    let m = c.counts_of-new in
    let q = c.is_calm in
    let b = c.calm_of in
    let T =
    tables_of a.components.now a.inputs.now a.outputs.now a.wires.now a.current.now a.following.now
    a.standing.now a.counts in
    let U =
    tables_of a.components.now r.new.inputs r.new.outputs a.wires.now r.new.current
    r.new.following r.new.standing m.result in
    rounded T U c.requires _ _ r.result m.result q.result b.result (omega arith) r.ensures m.ensures (rw c.new-lent.ensures at q.ensures)
    b.ensures
