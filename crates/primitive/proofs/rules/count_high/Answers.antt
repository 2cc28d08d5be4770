-- `count_high`: what was counted, and the high ports still to come, are all high ports.
-- Assumes nothing.
use native.Mathlib.Nat.{zero-add}
use native.Mathlib.Omega.{arith}
use Rattle.primitive.specs.Evaluate.{highs}
use Rattle.primitive.proofs.RulesLaws.{highs_high, highs_low, highs_end}
use Rattle.primitive.proofs.rules.count_high.Goals as goal
use Rattle.primitive.proofs.rules.count_high.Goals.{else-port-gt0, then-port-gt0}

pub loop-port-init : goal.loop-port-init
loop-port-init c = (omega arith, omega arith, zero-add (highs c.args.ports.now))

pub loop-port-preserved : goal.loop-port-preserved
loop-port-preserved c =
    let s = c.loop-port in
    let xs = c.args.ports.now in
    elim c.if-port-gt0.branch [
      | then-port-gt0 w ↦ (
        omega arith,
        omega arith,
        omega (arith, highs_high xs s.count s.port-index (highs xs) (omega arith) s.invariant.2 (omega arith)),
      )
      | else-port-gt0 w ↦ (
        omega arith,
        omega arith,
        omega (arith, highs_low xs s.count s.port-index (highs xs) (omega arith) s.invariant.2 (omega arith)),
      )
    ]

pub returns : goal.returns
returns c =
    let s = c.loop-port in
    let xs = c.args.ports.now in
    highs_end xs s.count s.port-index (highs xs) s.invariant.0 (omega arith) s.invariant.2
