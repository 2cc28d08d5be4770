-- `row_follows`: the sums so far are where the ports must start, and with the component's own where they end.
-- Assumes nothing.
use Rattle.net.proofs.rows.row_follows.Goals as goal

pub next_after-after-requires : goal.next_after-after-requires
next_after-after-requires c = (c.requires.0, c.requires.1, c.requires.2, c.requires.3)

pub first_input-first_input-requires : goal.first_input-first_input-requires
first_input-first_input-requires c = c.requires.0

pub first_output-first_output-requires : goal.first_output-first_output-requires
first_output-first_output-requires c = c.requires.0

pub returns : goal.returns
returns c =
    rw (
      c.first_output-first_output.ensures,
      c.first_input-first_input.ensures,
      c.next_after-after.ensures.0,
      c.next_after-after.ensures.1,
      c.requires.4,
      c.requires.5,
    )
