-- `has_outputs`: the component's own inputs are lent to `update`, and what it makes is compared with the outputs in their table.
-- Assumes nothing.
use mathlib.Core.Path.{◌∙◌}
use mathlib.Core.List.{[]}
use Rattle.tables.specs.Tables.{Tables}
use Rattle.tables.specs.Words.{no_counts}
use Rattle.tables.proofs.RowsLaws.{obeyed_fit}
use Rattle.net.specs.Parts.{lent}
use Rattle.rounds.proofs.StepsLaws.{lent_inputs, lent_outputs}
use Rattle.judging.proofs.JudgingLaws.{should_room, should_length, should_own, should_kept, should_compared}
use Rattle.judging.proofs.components.has_outputs.Goals as goal
use Rattle.judging.proofs.components.has_outputs.Lts as lts
use Rattle.judging.proofs.components.has_outputs.Tie as tie
use Rattle.judging.proofs.components.has_outputs.Reads as reads

abbrev Start : Type 0
Start = lts.Start tie.the-claims reads.Pre reads.Post

abbrev T : Start → Tables
T s = lent s.args.components.now s.args.inputs.now s.args.outputs.now [] no_counts

pub fields_at-f-requires : goal.fields_at-f-requires
fields_at-f-requires c = let p = c.requires.1 in (p.evaluable.row, obeyed_fit _ p.evaluable.obeyed)

pub slice_bounds-update-end : goal.slice_bounds-update-end
slice_bounds-update-end c =
    let a = c.args in
    lent_inputs (T c.before.before.before.before.before.before.before.before.before.before) a.inputs.now a.outputs.now a.i c.requires.1.evaluable _ _ _
    c.fields_at-f.ensures c.first_input-input.ensures
    c.first_output-output.ensures

pub slice_bounds-update-end-2 : goal.slice_bounds-update-end-2
slice_bounds-update-end-2 c =
    should_room (T c.before.before.before.before.before.before.before.before.before.before.before) c.args.i c.requires.1 _ _ c.fields_at-f.ensures
    c.first_input-input.ensures c.args.should.now c.requires.0

pub slice_bounds-update-end-3 : goal.slice_bounds-update-end-3
slice_bounds-update-end-3 c =
    should_length (T c.before.before.before.before.before.before.before.before.before.before.before.before) c.args.i c.requires.1 _ _ c.fields_at-f.ensures
    c.first_input-input.ensures c.args.should.now c.requires.0

pub update-requires : goal.update-requires
update-requires c =
    should_own (T c.before.before.before.before.before.before.before.before.before.before.before.before) c.args.i c.requires.1 _ _ c.fields_at-f.ensures
    c.first_input-input.ensures c.args.should.now c.requires.0

pub outputs_are-requires : goal.outputs_are-requires
outputs_are-requires c =
    let a = c.args in (
      lent_outputs (T c.before.before.before.before.before.before.before.before.before.before.before.before.before.before.before) a.inputs.now a.outputs.now a.i c.requires.1.evaluable _ _ _ c.fields_at-f.ensures
          c.first_input-input.ensures c.first_output-output.ensures,
      should_kept (T c.before.before.before.before.before.before.before.before.before.before.before.before.before.before.before) a.i c.requires.1 _ _ c.fields_at-f.ensures c.first_input-input.ensures a.should.now c.requires.0 _
          c.update.ensures.1,
    )

pub returns : goal.returns
returns c =
    c.outputs_are.ensures
    ∙ should_compared (T c.before.before.before.before.before.before.before.before.before.before.before.before.before.before.before.before) c.args.i c.requires.1 _ _ c.fields_at-f.ensures c.first_input-input.ensures c.args.should.now
    c.requires.0 _ c.first_output-output.ensures c.requires.2 c.requires.3 _ c.update.ensures.1
