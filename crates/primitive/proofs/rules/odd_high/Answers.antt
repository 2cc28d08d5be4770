use Rattle.primitive.proofs.rules.odd_high.Goals as goal

pub returns : goal.returns
returns c = rw c.count_high.ensures
