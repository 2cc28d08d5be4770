-- `outputs_are`: two parts of tables are the same exactly if they are at each place.
-- Assumes nothing.
use mathlib.Core.Path.{◌∙◌}
use Rattle.judging.proofs.JudgingLaws.{parts_compared}
use Rattle.judging.proofs.components.outputs_are.Goals as goal

pub returns : goal.returns
returns c =
    let a = c.args in
    c.eq.ensures ∙ parts_compared a.outputs.now a.should.now a.first a.count c.requires.0 c.requires.1
