-- `fill_ends`: the invariant is `Widening`: the stretches hold the input maps passed so far.
-- Assumes nothing.
use Rattle.index.proofs.WideningLaws.{widening_cleared, widening_step, widening_end}
use Rattle.index.proofs.fill_ends.Goals as goal

pub loop-q-init : goal.loop-q-init
loop-q-init c =
    widening_cleared c.args.file.now c.args.n c.args.ends.now c.clear.new.table c.clear-2.new.table c.requires.2 c.clear.ensures.size
    c.clear-2.ensures.size c.clear-2.ensures.word

pub loop-q-preserved : goal.loop-q-preserved
loop-q-preserved c =
    let a = c.args in
    widening_step a.file.now a.n c.loop-q.q c.loop-q.ends c.loop-q.invariant _ c.known_at.ensures _
    c.loop-q-test.true c.widen.ensures

pub returns : goal.returns
returns c =
    let a = c.args in
    widening_end a.file.now a.n c.loop-q.q c.loop-q.ends c.loop-q.invariant c.loop-q-test.false
