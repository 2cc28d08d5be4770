-- `row_obeyed`: a component whose words do not fit obeys nothing; of one whose words fit, the fields are tested.
-- Assumes nothing.
use mathlib.Core.Path.{sym, ◌∙◌}
use Rattle.tables.proofs.RowsLaws.{unfit_obeys}
use Rattle.net.proofs.rows.row_obeyed.Goals as goal

pub returns-then-not-fields_fit : goal.returns-then-not-fields_fit
returns-then-not-fields_fit c = sym (unfit_obeys _ (sym c.fields_fit.ensures ∙ c.if-not-fields_fit.true))

pub fields_at-f-requires : goal.fields_at-f-requires
fields_at-f-requires c = (c.requires, sym c.fields_fit.ensures ∙ c.if-not-fields_fit.false)

pub returns : goal.returns
returns c = rw (c.is_primitive.ensures, c.obeys.ensures, c.fields_at-f.ensures)
