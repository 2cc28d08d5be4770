-- `put_wires`: the first line, then a line for each.
-- Assumes nothing.
use native.Mathlib.Omega.{arith}
use Rattle.lines.proofs.LinesLaws.{both, begun_lines, next_line, no_line}
use Rattle.lines.proofs.put_wires.Goals as goal
use Rattle.lines.proofs.put_wires.Invariants.{line}

pub loop-k-init : goal.loop-k-init
loop-k-init c =
    let a = c.args in
    let h = c.put_counted-next in
    (omega arith, begun_lines (line a.wires.now) a.count h.ensures)

pub loop-k-preserved : goal.loop-k-preserved
loop-k-preserved c =
    let a = c.args in
    let s = c.loop-k in
    let r = c.put_wire-next in
    (omega arith, next_line (line a.wires.now) s.k a.count (omega arith) s.invariant.1 (rw c.wire_at.ensures at r.ensures))

pub returns : goal.returns
returns c =
    let a = c.args in
    let h = c.put_counted-next in
    let s = c.loop-k in
    both h.ensures (no_line (line a.wires.now) s.k a.count (omega arith) s.invariant.1)
