-- `connect_all`: the wires of the records passed so far are laid.
-- Assumes nothing.
use mathlib.Core.Path.{refl}
use native.Mathlib.Omega.{arith}
use Rattle.lists.proofs.LayingLaws.{laid_start, laid_length}
use Rattle.laying.proofs.WiresLaws.{wires_requires, wires_step, wires_end}
use Rattle.laying.proofs.wires.connect_all.Goals as goal

pub loop-p-init : goal.loop-p-init
loop-p-init c = (omega arith, refl, laid_start _ _)

pub connect-at-requires : goal.connect-at-requires
connect-at-requires c =
    let l = c.loop-p in
    record {
      ready = (c.requires.ready, l.invariant.1);
      p_bound = wires_requires c.args.file.now _ _ c.requires.ready c.args.wires.now c.requires.in_bounds l.p
          l.wires l.at l.invariant.2
          c.loop-p-test.true;
    }

pub loop-p-preserved : goal.loop-p-preserved
loop-p-preserved c =
    let l = c.loop-p in (
      omega (arith, c.loop-p-test.true),
      c.connect-at.ensures.targets_len,
      wires_step c.args.file.now _ _ c.requires.ready c.args.wires.now c.requires.in_bounds l.p
          l.wires l.at l.invariant.2
          _ _ c.connect-at.ensures.written,
    )

pub shape_of-wires : goal.shape_of-wires
shape_of-wires c = laid_length _ _ _ _ _ c.loop-p.invariant.2

pub returns : goal.returns
returns c =
    let l = c.loop-p in
    wires_end c.args.file.now _ _ c.requires.ready c.args.wires.now c.requires.in_bounds l.p
    l.wires l.at l.invariant.2 (omega arith)
