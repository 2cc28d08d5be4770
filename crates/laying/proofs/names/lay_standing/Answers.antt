-- `lay_standing`: the Consts and Clocks passed so far are named by their flat indexes.
-- Assumes nothing.
use Rattle.flatten.proofs.Accepted.{accepted_readable}
use mathlib.Core.Path.{refl}
use native.Mathlib.Omega.{arith}
use Rattle.lists.proofs.LayingLaws.{laid_start, laid_length}
use Rattle.laying.proofs.StandingLaws.{standing_requires, standing_components, standing_step, standing_end}
use Rattle.laying.proofs.names.lay_standing.Goals as goal

pub loop-p-init : goal.loop-p-init
loop-p-init c = (omega arith, refl, laid_start _ _)

pub drawn_at-requires : goal.drawn_at-requires
drawn_at-requires c = search (accepted_readable)

pub stand-stood-requires : goal.stand-stood-requires
stand-stood-requires c =
    let l = c.loop-p in
    standing_requires c.args.file.now c.requires.0 c.args.standing.now c.requires.1 l.p l.standing
    l.stood l.invariant.1 l.invariant.2
    _ c.drawn_at.ensures c.loop-p-test.true

pub loop-p-preserved : goal.loop-p-preserved
loop-p-preserved c =
    let l = c.loop-p in (
      omega arith,
      standing_components c.args.file.now c.requires.0 c.args.standing.now c.requires.1 l.p l.standing
          l.stood l.invariant.1 l.invariant.2
          _ c.drawn_at.ensures _ _ c.stand-stood.ensures.0 c.stand-stood.ensures.1,
      standing_step c.args.file.now c.requires.0 c.args.standing.now c.requires.1 l.p l.standing
          l.stood l.invariant.1 l.invariant.2
          _ c.drawn_at.ensures _ _ c.stand-stood.ensures.0 c.stand-stood.ensures.1,
    )

pub shape_of-standing : goal.shape_of-standing
shape_of-standing c = laid_length _ _ _ _ _ c.loop-p.invariant.2

pub returns : goal.returns
returns c =
    let l = c.loop-p in
    let e = standing_end c.args.file.now c.requires.0 c.args.standing.now c.requires.1 l.p l.standing l.stood
    l.invariant.1 l.invariant.2 (omega arith) in
    record { standing_after = e.0; value = e.1 }
