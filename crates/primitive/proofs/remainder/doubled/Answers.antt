use native.Mathlib.Omega.{arith}
use borrow.Author.Rules.{rules}
use Rattle.primitive.proofs.RemainderLaws.{once, more, shifted}
use Rattle.primitive.proofs.remainder.doubled.Goals as goal

pub loop-multiple-init : goal.loop-multiple-init
loop-multiple-init c = (once c.args.divisor, c.requires)

pub loop-multiple-smaller : goal.loop-multiple-smaller
loop-multiple-smaller c =
    let s = c.loop-multiple in
    let n = c.args.number in
    omega (arith, shifted s.multiple n (omega arith) (search rules), s.invariant.1)

pub loop-multiple-preserved : goal.loop-multiple-preserved
loop-multiple-preserved c =
    let s = c.loop-multiple in
    let n = c.args.number in
    let e = shifted s.multiple n (omega arith) (search rules) in
    rw e (more s.invariant.0, omega (arith, s.invariant.1))

pub returns : goal.returns
returns c = (c.loop-multiple.invariant.0, omega arith)
