-- The number of an evaluation is at most 28, at position 0; a load's number and position fit the answer.
-- Assumes nothing.
use mathlib.Core.Path.{◌≡◌, refl, sym, ap, ◌∙◌, subst}
use mathlib.Core.Bool.{cond, not, ◌&&◌, ◌||◌}
use mathlib.Core.List.{List, [], ◌∷◌}
use Prim.Native.Nat.{ℕ, ◌≤◌, ◌<◌}
use native.Mathlib.Omega.{arith}
use lib.ListN.{length}
use lib.Dec.{ltb}
use Rattle.lists.specs.Lists.{◌if◌}
use Rattle.kinds.specs.declared.table.Fields.{Fields}
use Rattle.kinds.specs.Kinds.{for_custom, unknown, primitive, obeys, input_width, output_width}
use Rattle.kinds.specs.Given.{Given, giving, spoken, verdict_gives}
use Rattle.primitive.specs.Evaluate.{fitting, evaluate_number}
use Rattle.component.specs.Record.{sized}
use Rattle.flatten.specs.Verdict.{refused}
use Rattle.meeting.specs.Meeting.{judgement}
use Rattle.meeting.proofs.SpokenLaws.{spoken_of, judged_small, cond_small, by_verdict}
use Rattle.tables.specs.Tables.{Tables, full_size}
use Rattle.load.specs.Load.{load_verdict}
use Rattle.words.proofs.PlainLaws.{refusal_small, Plain, giving_plain, plain_as}

evaluate_number_small : (f : Fields) (xs vs ys ws : List ℕ) → evaluate_number f xs vs ys ws ≤ 28
unfolding evaluate_number
evaluate_number_small f xs vs ys ws =
    refusal_small
    ((7 if for_custom f.kind) ∷ (8 if unknown f.kind) ∷ (9 if not (primitive f && obeys f))
    ∷ (2 if ltb (length xs) f.inputs || ltb (length vs) f.inputs || ltb (length ys) f.outputs || ltb (length ws) f.outputs)
    ∷ (19 if not (fitting (input_width f) f.inputs xs vs && fitting (output_width f) f.outputs ys ws)) ∷ [])
    (omega arith, (omega arith, (omega arith, (omega arith, (omega arith, omega arith)))))

pub evaluate_plain : (f : Fields) (xs vs ys ws : List ℕ) (g : Given) (bs : List ℕ) → g ≡ giving (evaluate_number f xs vs ys ws) bs → Plain g
evaluate_plain f xs vs ys ws g bs e =
    plain_as g (giving (evaluate_number f xs vs ys ws) bs) e
    (giving_plain (evaluate_number f xs vs ys ws) bs (evaluate_number_small f xs vs ys ws))

-- A load's number and position fit the answer.
pub load_verdict_small : (file : List ℕ) (T : Tables) → spoken_of (load_verdict file T) < 4294967296
unfolding load_verdict
load_verdict_small file T =
    cond_small (sized file) (cond (full_size T) (judgement file) (refused 2 0)) (refused 1 0)
    (cond_small (full_size T) (judgement file) (refused 2 0) (judged_small file (judgement file) refl) (omega arith)) (omega arith)

pub load_small : (file : List ℕ) (T : Tables) (g : Given) (xs : List ℕ) → g ≡ verdict_gives (load_verdict file T) xs → spoken g < 4294967296
load_small file T g xs e =
    let same : spoken g ≡ spoken_of (load_verdict file T) = ap spoken e ∙ by_verdict (load_verdict file T) xs in
    let small = load_verdict_small file T in
    subst (λ (k : ℕ). k < 4294967296) (sym same) small
