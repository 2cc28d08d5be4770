-- `update`: the rule of the kind that is read. A primitive's number is read as one, so the other arm is never taken, which the check sees itself.
-- Assumes nothing.
use mathlib.Core.Path.{◌∙◌}
use Rattle.primitive.proofs.MovedLaws.{moved_outputs_lem}
use Rattle.primitive.proofs.rules.update.Goals as goal

pub returns-in-Ok : goal.returns-in-Ok
returns-in-Ok c =
    let a = c.args in
    let u = c.update_as.ensures in
    (u.0 ∙ moved_outputs_lem a.f a.inputs.now a.outputs.now _ a.time u.1, u.1)
