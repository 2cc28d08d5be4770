-- `evaluate`: the checks decide; where none refuses the component's ports are there and `update` may have them.
-- Assumes nothing.
use mathlib.Core.Path.{sym, ◌∙◌}
use Rattle.kinds.proofs.GivenLaws.{handed_on, refusing_ok}
use Rattle.primitive.specs.Evaluate.{evaluate_number}
use Rattle.primitive.proofs.EvaluateLaws.{there_outputs, passed_there, passed_own, refused_answer, refused_outputs, done_answer, done_outputs}
use Rattle.primitive.proofs.single.evaluate.Goals as goal

-- refused
pub returns-in_err-check_evaluation : goal.returns-in_err-check_evaluation
returns-in_err-check_evaluation c =
    let a = c.args in
    let e = c.check_evaluation.ensures in
    rw (handed_on c.from_residual.result _ c.from_residual.ensures.1) (
      refused_answer a.f a.inputs.now a.entering.now a.outputs.now a.leaving.now _ e _ c.in_err-check_evaluation.was _,
      refused_outputs a.f a.inputs.now a.entering.now a.outputs.now a.leaving.now _ e _ c.in_err-check_evaluation.was a.time,
    )

pub slice_bounds-update-end : goal.slice_bounds-update-end
slice_bounds-update-end c =
    let a = c.args in
    let z = refusing_ok (evaluate_number a.f a.inputs.now a.entering.now a.outputs.now a.leaving.now) _ c.check_evaluation.ensures c.in_ok-check_evaluation.was in
    sym (passed_own a.f a.inputs.now a.entering.now a.outputs.now a.leaving.now z).all_inputs

pub slice_bounds-update-end-2 : goal.slice_bounds-update-end-2
slice_bounds-update-end-2 c =
    let a = c.args in
    let z = refusing_ok (evaluate_number a.f a.inputs.now a.entering.now a.outputs.now a.leaving.now) _ c.check_evaluation.ensures c.in_ok-check_evaluation.was in
    there_outputs a.f a.inputs.now a.entering.now a.outputs.now a.leaving.now (passed_there a.f a.inputs.now a.entering.now a.outputs.now a.leaving.now z)

pub slice_bounds-update-end-3 : goal.slice_bounds-update-end-3
slice_bounds-update-end-3 c =
    let a = c.args in
    let z = refusing_ok (evaluate_number a.f a.inputs.now a.entering.now a.outputs.now a.leaving.now) _ c.check_evaluation.ensures c.in_ok-check_evaluation.was in
    sym (passed_own a.f a.inputs.now a.entering.now a.outputs.now a.leaving.now z).all_outputs

pub update-moved-requires : goal.update-moved-requires
update-moved-requires c =
    let a = c.args in
    let z = refusing_ok (evaluate_number a.f a.inputs.now a.entering.now a.outputs.now a.leaving.now) _ c.check_evaluation.ensures c.in_ok-check_evaluation.was in
    passed_own a.f a.inputs.now a.entering.now a.outputs.now a.leaving.now z

-- done
pub returns : goal.returns
returns c =
    let a = c.args in
    let z = refusing_ok (evaluate_number a.f a.inputs.now a.entering.now a.outputs.now a.leaving.now) _ c.check_evaluation.ensures c.in_ok-check_evaluation.was in (
      done_answer a.f a.inputs.now a.entering.now a.outputs.now a.leaving.now z _ _ c.update-moved.ensures.0,
      done_outputs a.f a.inputs.now a.entering.now a.outputs.now a.leaving.now z c.update-moved.new.outputs a.time c.update-moved.ensures.1
          (c.update-moved.auto.outputs ∙ (passed_own a.f a.inputs.now a.entering.now a.outputs.now a.leaving.now z).all_outputs),
    )
