use Rattle.kinds.specs.Kinds.{obeys}
use Rattle.kinds.proofs.table.obeys.Goals as goal

pub returns : goal.returns
unfolding obeys
returns c =
    rw (
      c.spans-4.ensures,
      c.spans-3.ensures,
      c.spans-2.ensures,
      c.spans.ensures,
      c.is_unknown.ensures,
      c.is_kept.ensures,
      c.row_of-row.ensures,
    )
