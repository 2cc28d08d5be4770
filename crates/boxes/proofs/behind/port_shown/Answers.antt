-- `port_shown`: what the side says.
-- Assumes nothing.
use mathlib.Core.Path.{ap, ◌∙◌}
use Prim.Native.Nat.{ℕ}
use Rattle.component.specs.Record.{record_at, record_count}
use Rattle.flatten.specs.Descent.{output_below}
use Rattle.boxes.proofs.BehindLaws.{shown_input, shown_output, shown_inputs}
use Rattle.boxes.proofs.behind.port_shown.Goals as goal

pub last_behind-requires : goal.last_behind-requires
last_behind-requires c =
    (c.requires.0, c.requires.1, shown_inputs (record_at c.args.file.now c.args.c) c.args.i c.args.side c.in-Inputs.is c.requires.2)

pub returns-in-Inputs : goal.returns-in-Inputs
returns-in-Inputs c =
    let a = c.args in
    shown_input (record_at a.file.now) (record_count a.file.now) a.c a.i a.side _ c.in-Inputs.is c.last_behind.ensures

pub returns-in-Outputs : goal.returns-in-Outputs
returns-in-Outputs c =
    let a = c.args in
    shown_output (record_at a.file.now) (record_count a.file.now) a.c a.i a.side _ c.in-Outputs.is
    (c.source_of.ensures ∙ ap (λ (m : ℕ). output_below (record_at a.file.now) (record_count a.file.now) m a.c a.i) c.deepest.ensures)
