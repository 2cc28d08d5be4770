-- `port_count`: what the side says.
-- Assumes nothing.
use mathlib.Core.Path.{◌∙◌}
use mathlib.Core.List.{[]}
use Rattle.tables.specs.Words.{uncounted}
use Rattle.questions.proofs.QuestionsLaws.{count_input, count_output}
use Rattle.questions.proofs.port_count.Goals as goal

pub returns-in-Inputs : goal.returns-in-Inputs
returns-in-Inputs c =
    let a = c.args in
    c.input_count.ensures ∙ count_input (uncounted a.components.now []) a.side a.i c.in-Inputs.is

pub returns-in-Outputs : goal.returns-in-Outputs
returns-in-Outputs c =
    let a = c.args in
    c.output_count.ensures ∙ count_output (uncounted a.components.now []) a.side a.i c.in-Outputs.is
