-- What `update` is handed, what its gates ask of their inputs, and what its Clock's remainder goes by. Only contracts of functions inside our
-- crates cite it; nobody has to believe anything here.
-- Assumes nothing.
use Rattle.std.specs.Prelude.{ℕ, ◌*◌, ◌%◌, ◌^◌, ◌≡◌, Bool, true, ◌&&◌, List, length, eqb, ltb}
use Rattle.kinds.specs.declared.table.Fields.{Fields}
use Rattle.kinds.specs.Kinds.{primitive, obeys}
use Rattle.primitive.specs.Evaluate.{highs}

-- What an evaluation is handed: a primitive that obeys the table of kinds, with its own inputs xs and outputs ys and no others.
pub record Own (f : Fields) (xs ys : List ℕ) : Type 0 where
  pub obeyed : (primitive f && obeys f) ≡ true
  pub all_inputs : length xs ≡ f.inputs
  pub all_outputs : length ys ≡ f.outputs

-- A port is high.
abbrev pub high : ℕ → Bool
high x = ltb 0 x

-- All inputs are high; one is; an odd number of them is; most of them are.
abbrev pub all_high : List ℕ → Bool
all_high xs = eqb (highs xs) (length xs)

abbrev pub any_high : List ℕ → Bool
any_high xs = ltb 0 (highs xs)

abbrev pub odd_high : List ℕ → Bool
odd_high xs = eqb (highs xs % 2) 1

abbrev pub most_high : List ℕ → Bool
most_high xs = ltb (length xs) (2 * highs xs)

-- The divisor d, doubled some times.
pub record Doubled (d m : ℕ) : Type 0 where
  pub times : ℕ
  pub multiple : m ≡ d * 2 ^ times
