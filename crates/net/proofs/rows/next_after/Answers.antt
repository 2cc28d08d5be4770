-- `next_after`: a component that obeys the table of kinds has few ports.
-- Assumes nothing.
use mathlib.Core.Path.{ap}
use Prim.Native.Nat.{ℕ, ◌+◌}
use native.Mathlib.Omega.{arith}
use Rattle.tables.specs.Words.{fields_in}
use Rattle.tables.proofs.RowsLaws.{obeyed_fit, fields_fit-inputs, fields_fit-outputs}
use Rattle.net.proofs.rows.next_after.Goals as goal

pub input_count-requires : goal.input_count-requires
input_count-requires c = c.requires.0

pub overflow_add-input : goal.overflow_add-input
overflow_add-input c =
    omega (arith, c.requires.2, c.input_count.ensures, fields_fit-inputs (fields_in c.args.components.now c.args.i) (obeyed_fit _ c.requires.1))

pub output_count-requires : goal.output_count-requires
output_count-requires c = c.requires.0

pub overflow_add-output : goal.overflow_add-output
overflow_add-output c =
    omega (arith, c.requires.3, c.output_count.ensures, fields_fit-outputs (fields_in c.args.components.now c.args.i) (obeyed_fit _ c.requires.1))

pub returns : goal.returns
returns c =
    let a = c.args in
    (ap (λ (x : ℕ). a.next.input + x) c.input_count.ensures, ap (λ (x : ℕ). a.next.output + x) c.output_count.ensures)
