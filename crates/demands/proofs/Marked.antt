-- The marked cases: one table. docs/SPECIFICATION.md, "The lamp drawing and marked cases".
--   marked   what the definitions find in each case, and what the document wants
-- Assumes nothing.
use Prim.Native.Nat.{ℕ, ◌+◌, ◌*◌}
use mathlib.Core.List.{List, [], ◌∷◌}
use lib.ListN.{length, replicate}
use Rattle.lists.specs.Lists.{joined}
use Rattle.kinds.specs.declared.table.Fields.{Fields}
use Rattle.kinds.specs.declared.Kind.{Kind}
use Rattle.kinds.specs.declared.Kind.TheVariants.{And, Or, Nor, Xor, Splitter, Joiner, Clock}
use Rattle.kinds.specs.Kinds.{number_of}
use Rattle.primitive.specs.Evaluate.{evaluate_number, evaluate_outputs}
use Rattle.component.specs.Record.{record_at, record_count}
use Rattle.kinds.specs.Given.{spoken_pair, verdict_gives}
use Rattle.meeting.specs.Meeting.{judgement}
use Rattle.laying.specs.Laid.{flat_wires}
use Rattle.component.proofs.Drawings.{lamp, lamp_twice}
use Rattle.tables.specs.Tables.{wire_words}

-- What the definitions find, and what the document wants.
pub record Case : Type 0 where
  pub computed : List ℕ
  pub wanted : List ℕ

infix 4 ◌gives◌
abbrev pub ◌gives◌ : List ℕ → List ℕ → Case
xs gives ys = record { computed = xs; wanted = ys }

-- The number given back by evaluating one component, and its outputs afterwards: its kind, its parameter, its inputs' numbers of
-- v bits, o outputs of w bits that hold 0, the time.
abbrev pub evaluating : Kind → ℕ → List ℕ → ℕ → ℕ → ℕ → ℕ → List ℕ
evaluating k p xs v o w t =
    let f : Fields = record { kind = number_of k; inputs = length xs; outputs = o; width = 0; parameter = p } in
    let vs : List ℕ = replicate (length xs) v in
    evaluate_number f xs vs (replicate o 0) (replicate o w)
    ∷ evaluate_outputs f xs vs (replicate o 0) (replicate o w) t

-- The cases (a) to (l), in their order. In (a) to (j) the leading 0 says that the call is not refused; (k) has the words of the
-- lamp drawing's wires, (l) the host's second number of the lamp drawing with a second connection into 2.0: 13 at 9, against 6.
abbrev pub marked : List Case
marked =
    (evaluating And 0 [] 1 1 1 0 gives 0 ∷ 1 ∷ [])
    ∷ (evaluating Nor 0 [] 1 1 1 0 gives 0 ∷ 1 ∷ [])
    ∷ (evaluating Or 0 [] 1 1 1 0 gives 0 ∷ 0 ∷ [])
    ∷ (evaluating Xor 0 (1 ∷ 1 ∷ 1 ∷ []) 1 1 1 0 gives 0 ∷ 1 ∷ [])
    ∷ (evaluating Splitter 3 (5 ∷ []) 3 3 1 0 gives 0 ∷ 1 ∷ 0 ∷ 1 ∷ [])
    ∷ (evaluating Joiner 3 (0 ∷ 1 ∷ 1 ∷ []) 1 1 3 0 gives 0 ∷ 6 ∷ [])
    ∷ (evaluating Clock 10 [] 1 1 1 10 gives 0 ∷ 0 ∷ [])
    ∷ (evaluating Clock 10 [] 1 1 1 11 gives 0 ∷ 1 ∷ [])
    ∷ (evaluating Clock 10 [] 1 1 1 20 gives 0 ∷ 0 ∷ [])
    ∷ (evaluating Clock 1 [] 1 1 1 1 gives 0 ∷ 0 ∷ [])
    ∷ (joined wire_words (flat_wires (record_at lamp) (record_count lamp)) gives 0 ∷ 0 ∷ 2 ∷ 0 ∷ 1 ∷ 0 ∷ 2 ∷ 1 ∷ 2 ∷ 0 ∷ 3 ∷ 0 ∷ [])
    ∷ (spoken_pair (verdict_gives (judgement lamp_twice) []) ∷ [] gives (4294967296 * 13 + 65536 * 9 + 6) ∷ [])
    ∷ []
