-- `deeper`: the invariant: what is asked of the present component, with the depth left, is the answer.
-- Assumes nothing.
use mathlib.Core.Path.{◌≡◌}
use Prim.Native.Nat.{◌+◌, ◌-◌, ◌≤◌, ◌<◌}
use native.Mathlib.Nat.{sub-zero}
use native.Mathlib.Omega.{arith}
use Rattle.checks.proofs.ChecksLaws.{deeper_root, deeper_unseen, deeper_outer, deeper_none}
use Rattle.checks.proofs.deeper.Goals as goal

pub loop-init : goal.loop-init
loop-init c = rw (sub-zero)

-- the root
pub returns-then-inner-eq0 : goal.returns-then-inner-eq0
returns-then-inner-eq0 c =
    let left : 0 < c.args.d - c.loop.counter = omega arith in
    search (deeper_root c.args.file.now)

-- no component
pub returns-in_default : goal.returns-in_default
returns-in_default c =
    let left : 0 < c.args.d - c.loop.counter = omega arith in
    search (deeper_unseen)

pub loop-preserved : goal.loop-preserved
loop-preserved c =
    let left : 0 < c.args.d - c.loop.counter = omega arith in
    let next : c.args.d - (c.loop.counter + 1) ≡ c.args.d - c.loop.counter - 1 = omega arith in
    rw next (search (deeper_outer))

-- no depth left
pub returns : goal.returns
returns c =
    let none : c.args.d - c.loop.counter ≤ 0 = omega arith in
    search (deeper_none c.args.file.now)
