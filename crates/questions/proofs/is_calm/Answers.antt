-- `is_calm`: refused by the check of the net, or what the three lists name.
-- Assumes nothing.
use mathlib.Core.Path.{◌∙◌}
use Rattle.kinds.proofs.GivenLaws.{handed_on}
use Rattle.net.proofs.NetLaws.{passed_net}
use Rattle.rounds.specs.Round.{calm}
use Rattle.rounds.proofs.RoundLaws.{net_listed, calm_lists}
use Rattle.questions.proofs.QuestionsLaws.{whether_refused, whether_is}
use Rattle.questions.proofs.is_calm.Goals as goal

pub returns-in_err-check_net : goal.returns-in_err-check_net
returns-in_err-check_net c =
    rw (handed_on c.from_residual.result _ c.from_residual.ensures.1)
    (whether_refused c.args.lent.now (calm c.args.lent.now) _ _ c.check_net.ensures c.in_err-check_net.was)

pub net_calm-requires : goal.net_calm-requires
net_calm-requires c =
    let T = c.args.lent.now in
    rw (c.components.ensures, c.current.ensures, c.following.ensures, c.standing.ensures, c.counts.ensures)
    (net_listed T (passed_net T _ c.check_net.ensures c.in_ok-check_net.was))

pub returns : goal.returns
returns c =
    let T = c.args.lent.now in
    whether_is T (calm T) _ (passed_net T _ c.check_net.ensures c.in_ok-check_net.was)
    (rw (c.components.ensures, c.current.ensures, c.following.ensures, c.standing.ensures, c.counts.ensures) at c.net_calm.ensures ∙ calm_lists T)
