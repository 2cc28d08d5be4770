-- `row_stands`: the first test that fails decides.
-- Assumes nothing.
use mathlib.Core.Path.{◌≡◌, sym, ◌∙◌}
use mathlib.Core.Bool.{true}
use Rattle.net.specs.Parts.{obeyed_at}
use Rattle.net.proofs.rows.row_stands.Goals as goal
use Rattle.net.proofs.rows.row_stands.Lts as lts
use Rattle.net.proofs.rows.row_stands.Tie as tie
use Rattle.net.proofs.rows.row_stands.Reads as reads

abbrev ElseNotRowObeyed : Type 0
ElseNotRowObeyed = lts.Else1 tie.the-claims reads.Pre reads.Post

obeyed : (c : ElseNotRowObeyed) → obeyed_at c.args.components.now c.args.i ≡ true
obeyed c = sym c.row_obeyed.ensures ∙ c.if-not-row_obeyed.false

pub row_obeyed-requires : goal.row_obeyed-requires
row_obeyed-requires c = c.requires.0

pub returns-then-not-row_obeyed : goal.returns-then-not-row_obeyed
returns-then-not-row_obeyed c = rw (sym c.row_obeyed.ensures ∙ c.if-not-row_obeyed.true)

pub id_fits-requires : goal.id_fits-requires
id_fits-requires c = c.requires.0

pub row_follows-requires : goal.row_follows-requires
row_follows-requires c = (c.requires.0, obeyed c.before.before, c.requires.1, c.requires.2, c.requires.3, c.requires.4)

pub returns : goal.returns
returns c = rw (obeyed c.before.before.before, c.id_fits.ensures, c.row_follows.ensures)
