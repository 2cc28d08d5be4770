-- The marked cases hold: one proof, by computing the definitions.
-- Assumes nothing.
use mathlib.Core.Path.{◌≡◌, refl}
use mathlib.Core.List.{map}
use Rattle.kinds.specs.Kinds.{obeys}
use Rattle.primitive.specs.Evaluate.{function_of, outputs_after, fitting, evaluate_number, evaluate_outputs}
use Rattle.component.specs.Drawing.{deepest}
use Rattle.flatten.specs.Descent.{output_below, inputs_below, comes_from, goes_to}
use Rattle.flatten.specs.Verdict.{verdict}
use Rattle.meeting.specs.Meeting.{judgement}
use Rattle.demands.proofs.Marked.{Case, marked}

pub marked_hold : map (λ (c : Case). c.computed) marked ≡ map (λ (c : Case). c.wanted) marked
unfolding evaluate_number evaluate_outputs outputs_after function_of fitting obeys deepest output_below inputs_below comes_from goes_to verdict judgement
marked_hold = refl
