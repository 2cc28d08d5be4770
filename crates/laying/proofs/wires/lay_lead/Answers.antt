-- `lay_lead`: the wire's end is what the indexes say of the target.
-- Assumes nothing.
use mathlib.Core.Path.{ap, ◌∙◌}
use lib.Seq.{sets}
use Rattle.tables.specs.declared.End.{End}
use Rattle.tables.specs.Tables.{wire_words}
use Rattle.tables.specs.Words.{wire_place}
use Rattle.laying.proofs.wires.lay_lead.Goals as goal

pub returns : goal.returns
returns c =
    let a = c.args in
    c.lay_wire.ensures
    ∙ ap (λ (y : End). sets a.wires.now (wire_place a.k) (wire_words (record { src = a.from; dst = y }))) c.flat_pin-to.ensures.0
