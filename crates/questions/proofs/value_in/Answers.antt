-- `value_in`: no such component, no such port, or the value of it.
-- Assumes nothing.
use borrow.Author.Tests.{le-leb, lt-leb}
use mathlib.Core.Path.{◌≡◌, refl}
use mathlib.Core.Bool.{false, ◌||◌}
use mathlib.Core.List.{[]}
use lib.Dec.{leb}
use Rattle.tables.specs.Tables.{Tables}
use Rattle.net.specs.Parts.{lent}
use Rattle.questions.proofs.QuestionsLaws.{value_none, value_port, value_here}
use Rattle.questions.proofs.value_in.Goals as goal
use Rattle.questions.proofs.value_in.Lts as lts
use Rattle.questions.proofs.value_in.Tie as tie
use Rattle.questions.proofs.value_in.Reads as reads

abbrev Start : Type 0
Start = lts.Start tie.the-claims reads.Pre reads.Post

abbrev ElsePortCountPort : Type 0
ElsePortCountPort = lts.Else2 tie.the-claims reads.Pre reads.Post

abbrev came : Start → Tables
came s = lent s.args.components.now s.args.inputs.now s.args.outputs.now [] s.args.counts

-- Both are there.
there : (c : ElsePortCountPort)
    →
    (leb c.args.counts.components c.args.i || leb c.port_count.result c.args.port) ≡ false
there c =
    rw (lt-leb _ _ c.if-counts-i.false, lt-leb _ _ c.if-port_count-port.false)

pub returns-then-counts-i : goal.returns-then-counts-i
returns-then-counts-i c =
    rw c.refused_by.ensures
    (value_none (came c.before.before.before.before.before.before.before) c.args.side c.args.i c.args.port _ refl (rw (le-leb _ _ c.if-counts-i.true)))

pub port_count-requires : goal.port_count-requires
port_count-requires c = (c.requires c.if-counts-i.false).row

pub returns-then-port_count-port : goal.returns-then-port_count-port
returns-then-port_count-port c =
    rw c.refused_by-then-port_count-port.ensures
    (value_none (came c.before.before.before.before.before.before.before.before.before) c.args.side c.args.i c.args.port _ c.port_count.ensures
    (rw (lt-leb _ _ c.if-counts-i.false, le-leb _ _ c.if-port_count-port.true)))

pub value_at-requires : goal.value_at-requires
value_at-requires c =
    (c.requires c.if-counts-i.false, value_port (came c.before.before.before.before.before.before.before.before) c.args.side c.args.i c.args.port _ c.port_count.ensures (there c.before))

pub returns : goal.returns
returns c =
    value_here (came c.before.before.before.before.before.before.before.before.before) c.args.side c.args.i c.args.port _ c.port_count.ensures (there c.before.before)
    c.value_at.result c.value_at.ensures
