-- `holds`: the invariant: what is asked of the present component, with the owners left, is the answer.
-- Assumes nothing.
use mathlib.Core.Path.{◌≡◌}
use Prim.Native.Nat.{◌+◌, ◌-◌, ◌≤◌, ◌<◌}
use native.Mathlib.Nat.{sub-zero}
use native.Mathlib.Omega.{arith}
use Rattle.checks.proofs.ChecksLaws.{holds_root, holds_unseen, holds_owner, holds_outer, holds_none}
use Rattle.checks.proofs.holds.Goals as goal

pub loop-init : goal.loop-init
loop-init c = rw (sub-zero)

-- the root
pub returns-then-inner-eq0 : goal.returns-then-inner-eq0
returns-then-inner-eq0 c =
    let left : 0 < c.args.f - c.loop.counter = omega arith in
    search (holds_root c.args.file.now)

-- no component
pub returns-in_default : goal.returns-in_default
returns-in_default c =
    let left : 0 < c.args.f - c.loop.counter = omega arith in
    search (holds_unseen)

-- its owner is the one asked for
pub returns-then-outer-o : goal.returns-then-outer-o
returns-then-outer-o c =
    let left : 0 < c.args.f - c.loop.counter = omega arith in
    search (holds_owner)

pub loop-preserved : goal.loop-preserved
loop-preserved c =
    let left : 0 < c.args.f - c.loop.counter = omega arith in
    let next : c.args.f - (c.loop.counter + 1) ≡ c.args.f - c.loop.counter - 1 = omega arith in
    rw next (search (holds_outer))

-- no owner left to look at
pub returns : goal.returns
returns c =
    let none : c.args.f - c.loop.counter ≤ 0 = omega arith in
    search (holds_none c.args.file.now)
