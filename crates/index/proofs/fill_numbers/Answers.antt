-- `fill_numbers`: the invariant is `Numbering`: the words say what the records passed so far say.
-- Assumes nothing.
use mathlib.Core.Path.{◌∙◌}
use Rattle.index.proofs.NumberingLaws.{numbering_start, numbering_counts, numbering_step, numbering_end}
use Rattle.index.proofs.fill_numbers.Goals as goal

pub loop-q-init : goal.loop-q-init
loop-q-init c =
    numbering_start c.args.file.now c.args.n c.args.w c.args.form c.args.first c.clear.new.table
    (c.clear.ensures.size ∙ c.requires.4) c.clear.ensures.word

pub number-requires : goal.number-requires
number-requires c =
    let l = c.loop-q in (
      l.invariant.size,
      c.requires.2,
      c.requires.3,
      numbering_counts c.args.file.now c.args.n c.args.w c.args.form c.args.first l.q l.table l.invariant c.requires.1,
    )

pub loop-q-preserved : goal.loop-q-preserved
loop-q-preserved c =
    let a = c.args in
    let l = c.loop-q in
    numbering_step a.file.now a.n a.w a.form a.first l.q l.table l.invariant _ c.known_at.ensures _
    c.loop-q-test.true c.number.ensures

pub returns : goal.returns
returns c =
    let a = c.args in
    let l = c.loop-q in
    numbering_end a.file.now a.n a.w a.form a.first l.q l.table l.invariant c.loop-q-test.false
