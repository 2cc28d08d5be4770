-- `lay_component`: the entry of a primitive is written; any other record has none.
-- Assumes nothing.
use Rattle.laying.proofs.PassesLaws.{row_room, row_laid}
use Rattle.laying.proofs.rows.lay_component.Goals as goal

pub lay_row-requires : goal.lay_row-requires
lay_row-requires c =
    row_room _ c.args.before c.args.drawn c.in-Some.is
    c.args.components.now c.requires.0

pub returns : goal.returns
returns c =
    row_laid _ c.args.before c.args.drawn c.in-Some.is
    c.args.components.now _ _ _
    c.lay_row.ensures c.wide.ensures.0 c.wide-2.ensures.0
