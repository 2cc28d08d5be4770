-- `value_of`: refused by the check of the net, or the value on the net.
-- Assumes nothing.
use Rattle.kinds.proofs.GivenLaws.{handed_on}
use Rattle.net.proofs.NetLaws.{passed_net}
use Rattle.questions.proofs.QuestionsLaws.{net_row, value_refused, value_there}
use Rattle.questions.proofs.value_of.Goals as goal

pub returns-in_err-check_net : goal.returns-in_err-check_net
returns-in_err-check_net c =
    let a = c.args in
    rw (handed_on c.from_residual.result _ c.from_residual.ensures.1)
    (value_refused a.lent.now a.side a.index.0 a.port _ _ c.check_net.ensures c.in_err-check_net.was)

pub value_in-requires : goal.value_in-requires
value_in-requires c =
    let T = c.args.lent.now in
    rw (c.components.ensures, c.inputs.ensures, c.outputs.ensures, c.counts.ensures)
    (net_row T (passed_net T _ c.check_net.ensures c.in_ok-check_net.was) c.args.index.0)

pub returns : goal.returns
returns c =
    let a = c.args in
    let T = a.lent.now in
    value_there T a.side a.index.0 a.port c.value_in.result (passed_net T _ c.check_net.ensures c.in_ok-check_net.was)
    (rw (c.components.ensures, c.inputs.ensures, c.outputs.ensures, c.counts.ensures) at c.value_in.ensures)
