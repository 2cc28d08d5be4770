-- `is_circuit`: each pass is that of its clauses, and the second rests on the first.
-- Assumes nothing.
use mathlib.Core.Path.{◌≡◌, sym, ◌∙◌, ap}
use mathlib.Core.Bool.{Bool}
use native.Mathlib.Omega.{arith}
use Rattle.tables.specs.declared.Counts.{Counts}
use Rattle.tables.proofs.SizesLaws.{full_size-sound}
use Rattle.net.specs.Net.{counts_within}
use Rattle.net.proofs.ClausesLaws.{counts_within-sound}
use Rattle.net.proofs.PassLaws.{widths_start, rows_follow}
use Rattle.net.proofs.CircuitLaws.{circuit_counts, circuit_rows, circuit_wires}
use Rattle.net.proofs.whole.is_circuit.Goals as goal

few : {m k : Counts} {b : Bool} → m ≡ k → b ≡ counts_within m → counts_within k ≡ b
few e f = ap counts_within (sym e) ∙ sym f

pub returns-then-not-counts_within : goal.returns-then-not-counts_within
returns-then-not-counts_within c = circuit_counts c.args.lent.now (few c.counts-counts.ensures c.if-not-counts_within.ensures)

pub rows_right-requires : goal.rows_right-requires
rows_right-requires c =
    let T = c.args.lent.now in
    let f = full_size-sound T c.requires in
    let w = counts_within-sound T.counts (few c.counts-counts.ensures c.if-not-counts_within.ensures) in
    rw (c.counts-counts.ensures, c.components-components.ensures, c.inputs.ensures, c.outputs.ensures) (
      w.components,
      w.inputs,
      w.outputs,
      omega (arith, w.components, f.components),
      f.inputs,
      f.outputs,
      widths_start T.components,
    )

pub returns-then-not-rows_right : goal.returns-then-not-rows_right
returns-then-not-rows_right c =
    circuit_rows c.args.lent.now (few c.counts-counts.ensures c.if-not-counts_within.ensures)
    (rw (← c.counts-counts.ensures, ← c.components-components.ensures, ← c.inputs.ensures, ← c.outputs.ensures) (sym c.if-not-rows_right.ensures.0))

pub wires_right-requires : goal.wires_right-requires
wires_right-requires c =
    let T = c.args.lent.now in
    let f = full_size-sound T c.requires in
    let w = counts_within-sound T.counts (few c.counts-counts.ensures c.if-not-counts_within.ensures) in
    rw (c.counts-counts.ensures, c.components-components.ensures, c.wires.ensures) (
      w.components,
      w.inputs,
      omega (arith, w.components, f.components),
      omega (arith, w.wires, f.wires),
      rw (← c.counts-counts.ensures, ← c.components-components.ensures) (c.rows_right.ensures.1 c.if-not-rows_right.false),
      rows_follow T.components T.inputs T.outputs T.counts
          (rw (← c.counts-counts.ensures, ← c.components-components.ensures, ← c.inputs.ensures, ← c.outputs.ensures) (sym c.if-not-rows_right.ensures.0)),
    )

pub returns : goal.returns
returns c =
    rw (c.wires_right.ensures, c.counts-counts.ensures, c.components-components.ensures, c.wires.ensures)
    (circuit_wires c.args.lent.now (few c.counts-counts.ensures c.if-not-counts_within.ensures)
    (rw (← c.counts-counts.ensures, ← c.components-components.ensures, ← c.inputs.ensures, ← c.outputs.ensures) (sym c.if-not-rows_right.ensures.0)))
