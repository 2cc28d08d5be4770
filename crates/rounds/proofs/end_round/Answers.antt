-- `end_round`: the three copies are the tables that are left.
-- Assumes nothing.
use Rattle.rounds.proofs.RoundLaws.{round_ended}
use Rattle.rounds.proofs.end_round.Goals as goal

pub returns : goal.returns
returns c =
    round_ended _ _ _ _ _ _ _ _ c.args.counts c.args.sizes c.requires.0 c.requires.1 c.copy.ensures
    c.copy-2.ensures c.copy-3.ensures
