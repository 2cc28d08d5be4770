-- `load`: each way out is one of the cases of the definition.
-- Assumes nothing.
use Rattle.kinds.proofs.GivenLaws.{handed_on}
use Rattle.load.proofs.LoadLaws.{load_refused, load_ready, load_done}
use Rattle.load.proofs.load.Goals as goal

pub returns-in_err-judge_load : goal.returns-in_err-judge_load
returns-in_err-judge_load c m =
    let a = c.args in
    rw (handed_on c.from_residual.result _ c.from_residual.ensures.1)
    (load_refused a.file.now a.components.now a.inputs.now a.outputs.now a.wires.now a.current.now a.following.now a.standing.now _ _
    (rw c.new-lent.ensures at c.judge_load.ensures.value) _ c.in_err-judge_load.was m)

pub fill-requires : goal.fill-requires
fill-requires c =
    let a = c.args in record {
      index = c.judge_load.ensures.index c.in_ok-judge_load.was;
      file_value = load_ready a.file.now a.components.now a.inputs.now a.outputs.now a.wires.now a.current.now
          a.following.now a.standing.now _ _ (rw c.new-lent.ensures at c.judge_load.ensures.value) c.in_ok-judge_load.was;
    }

pub returns : goal.returns
returns c =
    let a = c.args in
    load_done a.file.now a.components.now a.inputs.now a.outputs.now a.wires.now a.current.now a.following.now a.standing.now _ _
    (rw c.new-lent.ensures at c.judge_load.ensures.value) c.in_ok-judge_load.was _ _ _ _ _ _ _ _ c.fill.ensures
