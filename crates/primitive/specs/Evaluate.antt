-- Evaluating a single component. docs/SPECIFICATION.md, "Rounds" and "Numbers given back".
--   function_of f xs t        "its function of its inputs", at a time
--   outputs_after f xs ys t   its outputs after an evaluation
--   moved_outputs f xs ys t   which of them an evaluation changes, a bit for each
--   Evaluates                the public call, on any fields and values
-- Ports' numbers are lists; xs and ys are a component's own inputs and outputs.
-- Assumes nothing.
use Rattle.std.specs.Prelude.{ℕ, ◌+◌, ◌*◌, ◌%◌, ◌≡◌, Bool, cond, not, ◌&&◌, ◌||◌, List, [], ◌∷◌, map, length, get_or, take, replicate, eqb, ltb}
use Rattle.std.proofs.lemmas.List.Edits.{sets}
use Rattle.lists.specs.Lists.{from, every, total, refusal, ◌if◌}
use Rattle.value.specs.Value.{level, bit_of, complement, of_width, fits_in}
use Rattle.kinds.specs.declared.Kind.{Kind}
use Rattle.kinds.specs.declared.Kind.TheVariants.{Composite, And, Or, Not, Nand, Nor, Xor, Switch, Input, Output, Splitter, Joiner, Clock, Const, Majority}
use Rattle.kinds.specs.declared.table.Fields.{Fields}
use Rattle.kinds.specs.Given.{Given, done, declined, giving}
use Rattle.kinds.specs.Kinds.{kind_of, for_custom, unknown, is, primitive, obeys, input_width, output_width}
use Rattle.std.specs.Prelude.{Result, Ok, Err}
use Rattle.kinds.specs.declared.answers.Refusal.{Refusal}

-- How many ports are high: not 0.
abbrev pub highs : List ℕ → ℕ
highs xs = total (λ x. level (ltb 0 x)) xs

-- "Joiner bit i is input i"
abbrev pub join : List ℕ → ℕ
join [] = 0
join (x ∷ xs) = level (ltb 0 x) + 2 * join xs

-- "Splitter output i is bit i", of n outputs.
abbrev pub split : ℕ → ℕ → List ℕ
split x n = map (bit_of x) (from 0 n)

-- "Clock is high when time mod (2 * period) > period"
abbrev pub clock_high : ℕ → ℕ → Bool
clock_high p t = ltb p (t % (2 * p))

-- The one output of a gate.
abbrev pub one : Bool → List ℕ
one b = level b ∷ []

-- The function of a kind, at its parameter p, of its inputs and the time: And is high where as many inputs are high as there are, Or where one is,
-- Xor where an odd number is; Majority "when twice the number of high inputs exceeds the number of inputs". A Switch has none: its output is free.
abbrev pub rule : Kind → ℕ → List ℕ → ℕ → List ℕ
rule Composite p xs t = []
rule And p xs t = one (eqb (highs xs) (length xs))
rule Or p xs t = one (ltb 0 (highs xs))
rule Not p xs t = (complement (of_width 1 (get_or xs 0 0))).number ∷ []
rule Nand p xs t = one (not (eqb (highs xs) (length xs)))
rule Nor p xs t = one (not (ltb 0 (highs xs)))
rule Xor p xs t = one (eqb (highs xs % 2) 1)
rule Switch p xs t = []
rule Input p xs t = get_or xs 0 0 ∷ []
rule Output p xs t = get_or xs 0 0 ∷ []
rule Splitter p xs t = split (get_or xs 0 0) p
rule Joiner p xs t = join xs ∷ []
rule Clock p xs t = one (clock_high p t)
rule Const p xs t = p ∷ []
rule Majority p xs t = one (ltb (length xs) (2 * highs xs))

-- "its function of its inputs", at a time.
unfoldable pub function_of : Fields → List ℕ → ℕ → List ℕ
function_of f xs t = rule (kind_of f.kind) f.parameter xs t

-- "Const and Switch leave their outputs"; all else takes its function of its inputs.
unfoldable pub outputs_after : Fields → List ℕ → List ℕ → ℕ → List ℕ
outputs_after f xs ys t = cond (is Switch f || is Const f) ys (function_of f xs t)

-- "which of its outputs changed, one bit for each port": bit i is output i, of the outputs ys before and zs after.
abbrev pub moved : List ℕ → List ℕ → ℕ
moved [] zs = 0
moved (y ∷ ys) [] = 0
moved (y ∷ ys) (z ∷ zs) = level (not (eqb y z)) + 2 * moved ys zs

-- Those of an evaluation.
unfoldable pub moved_outputs : Fields → List ℕ → List ℕ → ℕ → ℕ
moved_outputs f xs ys t = moved ys (outputs_after f xs ys t)

-- "At load all ports are 0, a Const's output its value."
abbrev pub starting : Fields → List ℕ
starting f = cond (is Const f) (f.parameter ∷ []) (replicate f.outputs 0)

-- The values of the first k ports, with these numbers and widths, fit ports of w bits.
unfoldable pub fitting : ℕ → ℕ → List ℕ → List ℕ → Bool
fitting w k ns ws = every (λ i. fits_in w (of_width (get_or ws i 0) (get_or ns i 0))) (from 0 k)

-- "Evaluating a single component .. checks 7, 8, 9 (kind 0 gives 9), 2 (fewer values than its ports), 19":
-- input numbers xs of widths vs, output numbers ys of widths ws.
unfoldable pub evaluate_number : Fields → List ℕ → List ℕ → List ℕ → List ℕ → ℕ
evaluate_number f xs vs ys ws =
    refusal
    ((7 if for_custom f.kind)
    ∷ (8 if unknown f.kind)
    ∷ (9 if not (primitive f && obeys f))
    ∷ (2 if ltb (length xs) f.inputs || ltb (length vs) f.inputs || ltb (length ys) f.outputs || ltb (length ws) f.outputs)
    ∷ (19 if not (fitting (input_width f) f.inputs xs vs && fitting (output_width f) f.outputs ys ws))
    ∷ [])

-- The output numbers after the call: a refusal changes none, and numbers past the component's own are kept.
unfoldable pub evaluate_outputs : Fields → List ℕ → List ℕ → List ℕ → List ℕ → ℕ → List ℕ
evaluate_outputs f xs vs ys ws t =
    cond (eqb (evaluate_number f xs vs ys ws) 0) (sets ys 0 (outputs_after f (take f.inputs xs) (take f.outputs ys) t)) ys

-- What each answer gives: which outputs changed.
abbrev pub evaluated_gives : Result ℕ Refusal → Given
evaluated_gives (Ok bits) = done (bits ∷ [])
evaluated_gives (Err r) = declined r

-- The promise of `evaluate`: its answer r, and the output numbers zs afterwards.
abbrev pub Evaluates : Fields → List ℕ → List ℕ → List ℕ → List ℕ → ℕ → Result ℕ Refusal → List ℕ → Type 0
Evaluates f xs vs ys ws t r zs =
    (evaluated_gives r ≡ giving (evaluate_number f xs vs ys ws) (moved_outputs f (take f.inputs xs) (take f.outputs ys) t ∷ []))
    × (zs ≡ evaluate_outputs f xs vs ys ws t)
