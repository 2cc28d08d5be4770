-- `visit`: the evaluation leaves the lengths of the tables, and the wires the standing list.
-- Assumes nothing.
use mathlib.Core.Path.{refl, ◌∙◌}
use Rattle.rounds.specs.Steps.{bare}
use Rattle.rounds.proofs.StepsLaws.{evaluated_bare, visited}
use Rattle.rounds.proofs.visit.Goals as goal

pub evaluate_at-evaluation-requires : goal.evaluate_at-evaluation-requires
evaluate_at-evaluation-requires g c = (c.requires.3, c.requires.0)

pub send_leaving-filled-requires : goal.send_leaving-filled-requires
send_leaving-filled-requires g c =
    (g.met.W.Wiring.kept _ _ _ _ _ _ _ c.requires.1 refl c.evaluate_at-evaluation.auto.outputs, c.requires.2)

pub returns : goal.returns
returns g c =
    let e = c.evaluate_at-evaluation in
    let w = c.send_leaving-filled in (
      visited (bare c.args.components.now) (g.W.Wiring.leaving c.args.wiring.now) c.args.time c.args.i c.args.inputs.now c.args.outputs.now
          _ _ _ _ _ _
          (e.ensures.0.state ∙ evaluated_bare c.args.components.now _ _ _) w.ensures.0,
      w.ensures.1,
      e.ensures.1,
      e.ensures.2,
    )
