-- `index_of`: refused by the check of the net, or what the search finds.
-- Assumes nothing.
use Rattle.kinds.proofs.GivenLaws.{handed_on}
use Rattle.net.proofs.NetLaws.{passed_net}
use Rattle.questions.proofs.QuestionsLaws.{index_refused, index_found_lem}
use Rattle.rounds.proofs.RoundLaws.{net_rows}
use Rattle.questions.proofs.index_of.Goals as goal

pub returns-in_err-check_net : goal.returns-in_err-check_net
returns-in_err-check_net c =
    rw (handed_on c.from_residual.result _ c.from_residual.ensures.1)
    (index_refused c.args.lent.now c.args.id.0 _ _ c.check_net.ensures c.in_err-check_net.was)

pub search_id-requires : goal.search_id-requires
search_id-requires c =
    let T = c.args.lent.now in
    rw (c.components.ensures, c.counts.ensures) (net_rows T (passed_net T _ c.check_net.ensures c.in_ok-check_net.was))

pub returns : goal.returns
returns c =
    let T = c.args.lent.now in
    index_found_lem T c.args.id.0 c.search_id.result (passed_net T _ c.check_net.ensures c.in_ok-check_net.was)
    (rw (c.components.ensures, c.counts.ensures) at c.search_id.ensures)
