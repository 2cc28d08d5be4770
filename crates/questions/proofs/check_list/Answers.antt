-- `check_list`: the numbers in their order.
-- Assumes nothing.
use mathlib.Core.Path.{ap}
use Rattle.kinds.specs.Given.{refusing}
use Rattle.kinds.proofs.GivenLaws.{handed_on}
use Rattle.net.proofs.NetLaws.{passed_net}
use Rattle.questions.proofs.QuestionsLaws.{list_short, list_refused, list_none, list_passed}
use Rattle.questions.proofs.check_list.Goals as goal

pub returns-then-list-lt-NAMES : goal.returns-then-list-lt-NAMES
returns-then-list-lt-NAMES c =
    rw c.refused_by.ensures (ap refusing (list_short c.args.lent.now c.args.i c.args.list.now c.if-list-lt-NAMES.true))

pub returns-in_err-check_net : goal.returns-in_err-check_net
returns-in_err-check_net c =
    rw (handed_on c.from_residual.result _ c.from_residual.ensures.1)
    (list_refused c.args.lent.now c.args.i c.args.list.now c.if-list-lt-NAMES.false _ _ c.check_net.ensures c.in_err-check_net.was)

pub returns-then-counts-i : goal.returns-then-counts-i
returns-then-counts-i c =
    let T = c.args.lent.now in
    rw c.refused_by-then-counts-i.ensures
    (ap refusing (list_none T c.args.i c.args.list.now c.if-list-lt-NAMES.false (passed_net T _ c.check_net.ensures c.in_ok-check_net.was)
    (rw c.counts.ensures at c.if-counts-i.true)))

pub returns : goal.returns
returns c =
    let T = c.args.lent.now in
    ap refusing (list_passed T c.args.i c.args.list.now c.if-list-lt-NAMES.false (passed_net T _ c.check_net.ensures c.in_ok-check_net.was)
    (rw c.counts.ensures at c.if-counts-i.false))
