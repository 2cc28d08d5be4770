-- `value_at`: what the side says.
-- Assumes nothing.
use mathlib.Core.Path.{ap, ◌∙◌}
use Prim.Native.Nat.{ℕ, ◌+◌}
use mathlib.Core.List.{[]}
use lib.ListN.{get_or}
use native.Mathlib.Omega.{arith}
use Rattle.tables.specs.Tables.{Tables}
use Rattle.tables.specs.Words.{no_counts}
use Rattle.net.specs.Parts.{lent}
use Rattle.questions.proofs.QuestionsLaws.{count_words_lem, count_input, count_output, value_input, value_output}
use Rattle.questions.proofs.value_at.Goals as goal
use Rattle.questions.proofs.value_at.Lts as lts
use Rattle.questions.proofs.value_at.Tie as tie
use Rattle.questions.proofs.value_at.Reads as reads

abbrev Start : Type 0
Start = lts.Start tie.the-claims reads.Pre reads.Post

abbrev came : Start → Tables
came s = lent s.args.components.now s.args.inputs.now s.args.outputs.now [] no_counts

pub port_number-requires : goal.port_number-requires
port_number-requires c =
    omega (arith, c.requires.0.inputs_in, c.requires.1, count_words_lem (came c.before.before.before.before.before.before.before) c.args.side c.args.i, count_input (came c.before.before.before.before.before.before.before) c.args.side c.args.i c.in-Inputs.is, c.first_input.ensures)

pub port_number-requires-in-Outputs : goal.port_number-requires-in-Outputs
port_number-requires-in-Outputs c =
    omega (arith, c.requires.0.outputs_in, c.requires.1, count_words_lem (came c.before.before.before.before.before.before.before) c.args.side c.args.i, count_output (came c.before.before.before.before.before.before.before) c.args.side c.args.i c.in-Outputs.is, c.first_output.ensures)

pub returns-in-Inputs : goal.returns-in-Inputs
returns-in-Inputs c =
    value_input (came c.before.before.before.before.before.before.before.before.before) c.args.side c.args.i c.args.port _ _ _ c.fields_at-fields.ensures c.in-Inputs.is
    (c.port_number.ensures ∙ ap (λ (x : ℕ). get_or c.args.inputs.now (x + c.args.port) 0) c.first_input.ensures)
    c.input_width.ensures

pub returns-in-Outputs : goal.returns-in-Outputs
returns-in-Outputs c =
    value_output (came c.before.before.before.before.before.before.before.before.before) c.args.side c.args.i c.args.port _ _ _ c.fields_at-fields.ensures c.in-Outputs.is
    (c.port_number-in-Outputs.ensures ∙ ap (λ (x : ℕ). get_or c.args.outputs.now (x + c.args.port) 0) c.first_output.ensures)
    c.output_width.ensures
