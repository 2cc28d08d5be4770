-- `fill_ends`: the invariant is `Widening`: the stretches hold the input maps passed so far.
-- Assumes nothing.
use Rattle.index.proofs.WideningLaws.{Widening}
use Rattle.index.proofs.fill_ends.Given as goal

abbrev pub invariant-loop-q : goal.invariant-loop-q
invariant-loop-q l = Widening l.file l.n l.q l.ends
