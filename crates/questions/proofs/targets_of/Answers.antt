-- `targets_of`: what the wires join at their far ends.
-- Assumes nothing.
use Rattle.questions.proofs.QuestionsLaws.{targets_joined}
use Rattle.questions.proofs.targets_of.Goals as goal

pub returns : goal.returns
returns c = targets_joined c.args.lent.now c.args.index.0 c.args.list.now c.list_joined.result _ c.list_joined.ensures
