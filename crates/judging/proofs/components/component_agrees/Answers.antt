-- `component_agrees`: Switches and Clocks aside, a Const has its value and any other is evaluated.
-- Assumes nothing.
use mathlib.Core.Path.{sym, ◌∙◌}
use mathlib.Core.List.{[]}
use Rattle.tables.specs.Tables.{Tables}
use Rattle.tables.specs.Words.{no_counts}
use Rattle.net.specs.Parts.{lent}
use Rattle.judging.proofs.JudgingLaws.{const_agrees, switch_aside, clock_aside, judged_other}
use Rattle.judging.proofs.components.component_agrees.Goals as goal
use Rattle.judging.proofs.components.component_agrees.Lts as lts
use Rattle.judging.proofs.components.component_agrees.Tie as tie
use Rattle.judging.proofs.components.component_agrees.Reads as reads

abbrev Start : Type 0
Start = lts.Start tie.the-claims reads.Pre reads.Post

abbrev T : Start → Tables
T s = lent s.args.components.now s.args.inputs.now s.args.outputs.now [] no_counts

pub returns-then-is_kind : goal.returns-then-is_kind
returns-then-is_kind c =
    switch_aside (T c.before.before.before.before.before.before.before) c.args.i (sym c.is_kind.ensures ∙ c.if-is_kind.true)

pub returns-then-is_kind-2 : goal.returns-then-is_kind-2
returns-then-is_kind-2 c =
    clock_aside (T c.before.before.before.before.before.before.before.before.before) c.args.i (sym c.is_kind-2.ensures ∙ c.if-is_kind-2.true)

pub returns-then-is_kind-3 : goal.returns-then-is_kind-3
returns-then-is_kind-3 c =
    const_agrees (T c.before.before.before.before.before.before.before.before.before.before.before) c.args.i c.requires.1 (sym c.is_kind-3.ensures ∙ c.if-is_kind-3.true)

pub has_outputs-requires : goal.has_outputs-requires
has_outputs-requires c = (
  c.requires.0,
  c.requires.1,
  sym c.is_kind.ensures ∙ c.if-is_kind.false,
  sym c.is_kind-3.ensures ∙ c.if-is_kind-3.false,
)

pub returns : goal.returns
returns c =
    c.has_outputs.ensures
    ∙ judged_other (T c.before.before.before.before.before.before.before.before.before.before.before.before.before.before.before) c.args.i (sym c.is_kind.ensures ∙ c.if-is_kind.false) (sym c.is_kind-2.ensures ∙ c.if-is_kind-2.false)
