-- Counts, values and sides as the host's calls have them: words of 64 bits. docs/SPECIFICATION.md, "Numbers given back".
--   counts_in ws   the counts that words hold
--   values_in g    the values of what a call gives: a refused call has none to lay
--   words_give r   what an answer gives that has its words
--   run_words_give r   what an answer of a run gives but for its counts
--   side_of s      a side by its number
-- Assumes nothing.
use Rattle.std.specs.Prelude.{ℕ, cond, List, [], ◌∷◌, get_or, eqb}
use Rattle.std.proofs.Math.Option.{Option, none, some}
use Rattle.std.specs.Prelude.{Result, Ok, Err}
use Rattle.kinds.specs.declared.answers.Refusal.{Refusal}
use Rattle.kinds.specs.Given.{Given, done, declined}
use Rattle.tables.specs.declared.Counts.{Counts}
use Rattle.tables.specs.Tables.{counts_of}
use Rattle.simulator.specs.declared.Ran.{Ran}
use Rattle.questions.specs.declared.Side.{Side}
use Rattle.questions.specs.declared.Side.TheVariants.{Inputs, Outputs}

-- The counts that words hold.
unfoldable pub counts_in : List ℕ → Counts
counts_in ws = counts_of (get_or ws 0 0) (get_or ws 1 0) (get_or ws 2 0) (get_or ws 3 0) (get_or ws 4 0) (get_or ws 5 0) (get_or ws 6 0)

-- The values of what a call gives; a refused one has none.
abbrev pub values_of : Option (List ℕ) → List ℕ
values_of (some xs) = xs
values_of none = []

abbrev pub values_in : Given → List ℕ
values_in g = values_of g.values

-- What an answer gives that has its words themselves.
abbrev pub words_give : Result (List ℕ) Refusal → Given
words_give (Ok words) = done words
words_give (Err r) = declined r

-- The three words of a run: rounds, evaluations, and how many times an output changed.
abbrev pub run_words_give : {C : Type 0} → Result (Ran C) Refusal → Given
run_words_give (Ok a) = done (a.rounds ∷ a.evaluations ∷ a.moved ∷ [])
run_words_give (Err r) = declined r

-- Side 0 is a component's inputs, any other its outputs.
abbrev pub side_of : ℕ → Side
side_of s = cond (eqb s 0) Inputs Outputs
