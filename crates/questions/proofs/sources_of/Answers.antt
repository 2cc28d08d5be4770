-- `sources_of`: what the wires join at their far ends.
-- Assumes nothing.
use Rattle.questions.proofs.QuestionsLaws.{sources_joined}
use Rattle.questions.proofs.sources_of.Goals as goal

pub returns : goal.returns
returns c = sources_joined c.args.lent.now c.args.index.0 c.args.list.now c.list_joined.result _ c.list_joined.ensures
