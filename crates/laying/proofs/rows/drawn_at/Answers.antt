-- `drawn_at`: a record is a primitive if it is a component of such a kind.
-- Assumes nothing.
use Rattle.laying.proofs.PassesLaws.{drawn_none, drawn_primitive, drawn_composite}
use Rattle.laying.proofs.rows.drawn_at.Goals as goal

-- no component
pub returns-in_default : goal.returns-in_default
returns-in_default c = search (drawn_none)

-- a primitive
pub returns-then-is_primitive : goal.returns-then-is_primitive
returns-then-is_primitive c = search (drawn_primitive)

-- a composite, or of no kind
pub returns : goal.returns
returns c = search (drawn_composite)
