-- `number`: each way out is one of the cases of the step.
-- Assumes nothing.
use lib.ListN.{length-set}
use native.Mathlib.Omega.{arith}
use Rattle.index.proofs.NumberingLaws.{number_refused, number_other, number_far, number_placed, number_counted}
use Rattle.index.proofs.number.Goals as goal

pub returns-in_default : goal.returns-in_default
returns-in_default c = search (number_refused)

pub returns-then-not-is_of : goal.returns-then-not-is_of
returns-then-not-is_of c = search (number_other)

pub returns-then-o-ge256 : goal.returns-then-o-ge256
returns-then-o-ge256 c = search (number_far)

pub overflow_add-table : goal.overflow_add-table
overflow_add-table c = omega (arith, c.requires.3 c.in-Taken.owner)

pub bounds-table-q : goal.bounds-table-q
bounds-table-q c = rw length-set (omega arith)

pub returns-then-q-w : goal.returns-then-q-w
returns-then-q-w c = search (number_placed)

pub returns-else-q-w : goal.returns-else-q-w
returns-else-q-w c = search (number_counted)
