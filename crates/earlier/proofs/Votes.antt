-- Cases, by computing the definitions: three masts that vote, and a Majority of one to four inputs.
-- Assumes nothing.
use mathlib.Core.Path.{◌≡◌, refl}
use mathlib.Core.List.{List, [], ◌∷◌, ◌++◌}
use Prim.Native.Nat.{ℕ}
use Rattle.kinds.specs.declared.Kind.TheVariants.{Majority}
use Rattle.kinds.specs.Kinds.{obeys}
use Rattle.primitive.specs.Evaluate.{function_of, outputs_after, fitting, evaluate_number, evaluate_outputs}
use Rattle.component.specs.Drawing.{deepest}
use Rattle.component.proofs.Drawings.{component_bytes, connection_bytes, lamp}
use Rattle.flatten.specs.Descent.{output_below, inputs_below, comes_from, goes_to}
use Rattle.flatten.specs.Verdict.{refused, verdict}
use Rattle.meeting.specs.Meeting.{judgement}
use Rattle.demands.proofs.Marked.{evaluating}
use Rattle.earlier.specs.Earlier.{file_to}
use Rattle.std.specs.Prelude.{Ok}

-- Three masts: the Switches 1 to 3 vote through a Majority, component 4, on an Output.
abbrev pub masts : List ℕ
masts =
    component_bytes 0 0 0 0 100 0 ++ component_bytes 7 0 0 1 1 0 ++ component_bytes 7 0 0 1 2 0 ++ component_bytes 7 0 0 1 3 0
    ++ component_bytes 15 0 3 1 4 0 ++ component_bytes 9 0 1 1 5 1
    ++ connection_bytes 0 0 0 3 0 ++ connection_bytes 0 1 0 3 1 ++ connection_bytes 0 2 0 3 2 ++ connection_bytes 0 3 0 4 0

-- They are accepted, and 8 at 4 where the kinds end at 14, or at any number before 15; the lamp drawing is accepted by both.
pub masts_judged : judgement masts ∷ judgement (file_to 14 masts) ∷ judgement (file_to 13 masts) ∷ judgement lamp ∷ judgement (file_to 14 lamp) ∷ []
    ≡ Ok tt ∷ refused 8 4 ∷ refused 8 4 ∷ (Ok tt) ∷ (Ok tt) ∷ []
unfolding judgement verdict deepest obeys output_below inputs_below comes_from goes_to
masts_judged = refl

-- One of one is most of them, one of two is not; two of three are, two of four are not, three of four are; of none there is no vote.
pub votes :
    evaluating Majority 0 (1 ∷ []) 1 1 1 0 ∷ evaluating Majority 0 (1 ∷ 0 ∷ []) 1 1 1 0 ∷ evaluating Majority 0 (1 ∷ 1 ∷ 0 ∷ []) 1 1 1 0
    ∷ evaluating Majority 0 (1 ∷ 0 ∷ 0 ∷ []) 1 1 1 0 ∷ evaluating Majority 0 (1 ∷ 1 ∷ 0 ∷ 0 ∷ []) 1 1 1 0
    ∷ evaluating Majority 0 (1 ∷ 1 ∷ 0 ∷ 1 ∷ []) 1 1 1 0 ∷ evaluating Majority 0 [] 1 1 1 0 ∷ []
    ≡ (0 ∷ 1 ∷ []) ∷ (0 ∷ 0 ∷ []) ∷ (0 ∷ 1 ∷ []) ∷ (0 ∷ 0 ∷ []) ∷ (0 ∷ 0 ∷ []) ∷ (0 ∷ 1 ∷ []) ∷ (9 ∷ 0 ∷ []) ∷ []
unfolding evaluate_number evaluate_outputs outputs_after function_of fitting obeys
votes = refl
