-- `first15`: the invariant: no record before p fails.
-- Assumes nothing.
use mathlib.Core.Path.{refl}
use Prim.Native.Nat.{◌/◌}
use native.Mathlib.Omega.{arith}
use lib.ListN.{length}
use Rattle.component.specs.Record.{record_at}
use Rattle.checks.proofs.PassesLaws.{none_start, none_next, first_this, first_none}
use Rattle.flatten.specs.Descent.{fails15}
use Rattle.flatten.proofs.widths.first15.Goals as goal

pub loop-p-init : goal.loop-p-init
loop-p-init c = (none_start (fails15 (record_at c.args.file.now) (length c.args.file.now / 24)), refl)

pub returns-then-yields_unlike : goal.returns-then-yields_unlike
returns-then-yields_unlike c =
    first_this (fails15 (record_at c.args.file.now) (length c.args.file.now / 24)) _ _ c.loop-p.invariant.0 _ c.yields_unlike.ensures.0 c.if-yields_unlike.true c.loop-p-test.true

pub loop-p-preserved : goal.loop-p-preserved
loop-p-preserved c = (
  none_next (fails15 (record_at c.args.file.now) (length c.args.file.now / 24)) c.loop-p.p 0 c.loop-p.invariant.0 _ c.yields_unlike.ensures.0
      c.if-yields_unlike.false,
  c.yields_unlike.ensures.1,
)

pub returns : goal.returns
returns c =
    first_none (fails15 (record_at c.args.file.now) (length c.args.file.now / 24)) _ _ (λ j h. c.loop-p.invariant.0 j (omega (arith, h))) (omega arith) (omega arith)
