-- `row_fits`: the values of its inputs, then those of its outputs.
-- Assumes nothing.
use mathlib.Core.Path.{◌≡◌, sym, ◌∙◌}
use mathlib.Core.List.{[]}
use native.Mathlib.Omega.{arith}
use Rattle.value.specs.Value.{all_fit}
use Rattle.tables.specs.Tables.{inputs_at}
use Rattle.tables.specs.Words.{uncounted}
use Rattle.net.proofs.values.row_fits.Goals as goal
use Rattle.net.proofs.values.row_fits.Lts as lts
use Rattle.net.proofs.values.row_fits.Tie as tie
use Rattle.net.proofs.values.row_fits.Reads as reads

abbrev AfterAllFit : Type 0
AfterAllFit = lts.After-all_fit tie.the-claims reads.Pre reads.Post

entering : (c : AfterAllFit) →
    c.all_fit.result ≡ all_fit c.args.inward (inputs_at (uncounted c.args.components.now []) c.args.inputs.now c.args.i)
entering c =
    rw (← c.input_count-input_count.ensures, ← c.first_input-first_input.ensures) c.all_fit.ensures

pub first_input-first_input-requires : goal.first_input-first_input-requires
first_input-first_input-requires c = c.requires.0

pub input_count-input_count-requires : goal.input_count-input_count-requires
input_count-input_count-requires c = c.requires.0

pub all_fit-requires : goal.all_fit-requires
all_fit-requires c = omega (arith, c.requires.1, c.input_count-input_count.ensures, c.first_input-first_input.ensures)

pub returns-then-not-all_fit : goal.returns-then-not-all_fit
returns-then-not-all_fit c = rw (sym (entering c.before.before) ∙ c.if-not-all_fit.true)

pub first_output-first_output-requires : goal.first_output-first_output-requires
first_output-first_output-requires c = c.requires.0

pub output_count-output_count-requires : goal.output_count-output_count-requires
output_count-output_count-requires c = c.requires.0

pub all_fit-requires-2 : goal.all_fit-requires-2
all_fit-requires-2 c = omega (arith, c.requires.2, c.output_count-output_count.ensures, c.first_output-first_output.ensures)

pub returns : goal.returns
returns c =
    rw (sym (entering c.before.before.before.before.before) ∙ c.if-not-all_fit.false, ← c.output_count-output_count.ensures, ← c.first_output-first_output.ensures)
    c.all_fit-2.ensures
