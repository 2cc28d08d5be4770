-- `fill_numbers`: the invariant is `Numbering`: the words say what the records passed so far say.
-- Assumes nothing.
use Rattle.index.proofs.NumberingLaws.{Numbering}
use Rattle.index.proofs.fill_numbers.Given as goal

abbrev pub invariant-loop-q : goal.invariant-loop-q
invariant-loop-q l = Numbering l.file l.n l.w l.form l.first l.q l.table
