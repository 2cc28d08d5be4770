-- `list_joined`: refused by the checks, or what the wires of the net join.
-- Assumes nothing.
use Rattle.kinds.proofs.GivenLaws.{handed_on, refusing_ok}
use Rattle.questions.specs.Questions.{list_number}
use Rattle.rounds.proofs.Sound.{net_within}
use Rattle.rounds.proofs.RoundLaws.{net_wires}
use Rattle.questions.proofs.QuestionsLaws.{net_end, list_full, list_net, joined_refused, joined_listed}
use Rattle.questions.proofs.list_joined.Goals as goal

pub returns-in_err-check_list : goal.returns-in_err-check_list
returns-in_err-check_list c =
    rw (handed_on c.from_residual.result _ c.from_residual.ensures.1)
    (joined_refused _ _ c.args.list.now _ _ c.check_list.ensures c.in_err-check_list.was)

pub list_ends-requires : goal.list_ends-requires
list_ends-requires c =
    let a = c.args in
    let T = a.lent.now in
    let passed = refusing_ok (list_number T a.i a.list.now) _ c.check_list.ensures c.in_ok-check_list.was in
    let z = list_net T a.i a.list.now passed in
    rw (c.wires.ensures, c.counts.ensures) ((net_within T z).components, list_full T a.i a.list.now passed, net_end T z a.far, net_wires T z)

pub returns : goal.returns
returns c =
    let a = c.args in
    joined_listed (list_number a.lent.now a.i a.list.now) _ a.list.now _ _
    (refusing_ok (list_number a.lent.now a.i a.list.now) _ c.check_list.ensures c.in_ok-check_list.was)
    (rw (c.wires.ensures, c.counts.ensures) at c.list_ends.ensures)
