-- `widen`: each way out is one of the cases of the step.
-- Assumes nothing.
use Rattle.index.proofs.WideningLaws.{widen_refused, widen_other, widen_far, widen_later, widen_first}
use native.Mathlib.Omega.{arith}
use lib.ListN.{length-set}
use borrow.Author.Rules.{rules}
use Rattle.index.proofs.widen.Goals as goal

pub returns-in_default : goal.returns-in_default
returns-in_default c =
    let a = c.args in
    widen_refused a.r a.q a.ends.now c.in_default.is

pub returns-in_default-says : goal.returns-in_default-says
returns-in_default-says c =
    let a = c.args in
    widen_other a.r a.q a.ends.now _ _ c.in-Taken.is (search rules)

pub returns-then-c-ge256 : goal.returns-then-c-ge256
returns-then-c-ge256 c =
    let a = c.args in
    widen_far a.r a.q a.ends.now _ _ c.in-Taken.is
    c.in-InputMap.is c.if-c-ge256.true

pub bounds-ends-c-2 : goal.bounds-ends-c-2
bounds-ends-c-2 c = rw length-set (omega arith)

pub bounds-ends-c-then-q-ends : goal.bounds-ends-c-then-q-ends
bounds-ends-c-then-q-ends c = rw length-set (omega arith)

pub returns-then-q-ends : goal.returns-then-q-ends
returns-then-q-ends c =
    let a = c.args in
    widen_first a.r a.q a.ends.now _ _ c.in-Taken.is
    c.in-InputMap.is c.if-c-ge256.false c.if-q-ends.true

pub returns-else-q-ends : goal.returns-else-q-ends
returns-else-q-ends c =
    let a = c.args in
    widen_later a.r a.q a.ends.now _ _ c.in-Taken.is
    c.in-InputMap.is c.if-c-ge256.false c.if-q-ends.false
