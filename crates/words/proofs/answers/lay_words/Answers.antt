-- `lay_words`: the words passed are laid over the lent ones.
-- Assumes nothing.
use mathlib.Core.Path.{refl}
use native.Mathlib.Omega.{arith}
use lib.ListN.{length-set}
use Rattle.tables.proofs.NamedLaws.{overlay_start, overlay_step}
use Rattle.words.proofs.answers.lay_words.Goals as goal

pub loop-at-init : goal.loop-at-init
loop-at-init g c = (omega arith, refl, overlay_start _)

pub loop-at-preserved : goal.loop-at-preserved
loop-at-preserved g c =
    let a = c.args in
    let l = c.loop-at in (
      omega arith,
      simp length-set l.invariant.1,
      rw l.invariant.2 (overlay_step a.words a.lent.now l.at (omega arith) (omega arith)),
    )
