-- `copy`: the entries passed are laid over the other table.
-- Assumes nothing.
use mathlib.Core.Path.{◌≡◌, refl}
use Prim.Native.Nat.{◌<◌}
use native.Mathlib.Omega.{arith}
use lib.ListN.{length-set}
use lib.Seq.{get_or-take, length-take-le}
use Rattle.tables.proofs.NamedLaws.{overlay_start, overlay_step}
use Rattle.tables.proofs.named.copy.Goals as goal

pub loop-i-init : goal.loop-i-init
loop-i-init c = (omega arith, refl, overlay_start _)

pub loop-i-preserved : goal.loop-i-preserved
loop-i-preserved c =
    let a = c.args in
    let l = c.loop-i in
    let h : l.i < a.count = omega (arith, length-take-le a.count a.list.now) in (
      omega arith,
      simp length-set l.invariant.1,
      rw (get_or-take a.count a.list.now l.i 0 h, l.invariant.2)
          (overlay_step a.list.now a.into.now l.i (omega arith) (omega arith)),
    )

pub returns : goal.returns
returns c =
    let e : c.loop-i.i ≡ c.args.count = omega (arith, length-take-le c.args.count c.args.list.now) in
    rw e at c.loop-i.invariant.2
