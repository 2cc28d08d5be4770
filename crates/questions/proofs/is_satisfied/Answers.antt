-- `is_satisfied`: refused by the check of the net, or what is judged.
-- Assumes nothing.
use Rattle.kinds.proofs.GivenLaws.{handed_on}
use Rattle.net.proofs.NetLaws.{passed_net}
use Rattle.judging.specs.Judged.{judged_named}
use Rattle.questions.proofs.QuestionsLaws.{whether_refused, whether_is}
use Rattle.questions.proofs.is_satisfied.Goals as goal

pub returns-in_err-check_net : goal.returns-in_err-check_net
returns-in_err-check_net c =
    rw (handed_on c.from_residual.result _ c.from_residual.ensures.1)
    (whether_refused c.args.lent.now (judged_named c.args.lent.now) _ _ c.check_net.ensures c.in_err-check_net.was)

pub net_satisfied-requires : goal.net_satisfied-requires
net_satisfied-requires c = passed_net c.args.lent.now _ c.check_net.ensures c.in_ok-check_net.was

pub returns : goal.returns
returns c =
    let T = c.args.lent.now in
    whether_is T (judged_named T) _ (passed_net T _ c.check_net.ensures c.in_ok-check_net.was) c.net_satisfied.ensures
