-- `judge_once`: one that is marked agrees; another is marked and judged.
-- Assumes nothing.
use mathlib.Core.Path.{sym, ◌∙◌}
use mathlib.Core.List.{[]}
use Rattle.tables.specs.Tables.{Tables}
use Rattle.tables.specs.Words.{no_counts}
use Rattle.net.specs.Parts.{lent}
use Rattle.rounds.proofs.ListedLaws.{listed_more}
use Rattle.judging.proofs.JudgingLaws.{agree_more, listed_again}
use Rattle.judging.proofs.components.judge_once.Goals as goal
use Rattle.judging.proofs.components.judge_once.Lts as lts
use Rattle.judging.proofs.components.judge_once.Tie as tie
use Rattle.judging.proofs.components.judge_once.Reads as reads

abbrev Start : Type 0
Start = lts.Start tie.the-claims reads.Pre reads.Post

abbrev T : Start → Tables
T s = lent s.args.components.now s.args.inputs.now s.args.outputs.now [] no_counts

pub returns-then-marks-i-ne0 : goal.returns-then-marks-i-ne0
returns-then-marks-i-ne0 c =
    let p = c.requires in (
      sym (p.2 c.args.i p.1.evaluable.few c.if-marks-i-ne0.true),
      λ e. p.2,
      λ xs l. listed_again c.args.marks.now xs c.args.i p.1.evaluable.few l c.if-marks-i-ne0.true,
    )

pub returns : goal.returns
returns c =
    let p = c.requires in
    let r = c.component_agrees in (
      r.ensures,
      λ e. agree_more (T c.before.before.before.before.before.before.before.before.before.before.before.before) c.args.marks.now c.args.i p.2 (sym r.ensures ∙ e),
      λ xs l. listed_more c.args.marks.now xs c.args.i p.1.evaluable.few l,
    )
