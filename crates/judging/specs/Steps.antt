-- What the steps of judging are handed. Only contracts of functions of this crate cite it.
--   CanJudge T i      component i can be evaluated; where it is a Const, it holds its value
--   CanCompare T w    the ends of a wire and the words of their components, which are of full size, stand in the tables
--   MarkedAgree       what is marked has been judged, and agrees
-- Assumes nothing.
use Rattle.std.specs.Prelude.{ℕ, ◌<◌, ◌≡◌, true, List, length, get_or}
use Rattle.kinds.specs.declared.Kind.TheVariants.{Const}
use Rattle.kinds.specs.Kinds.{is}
use Rattle.tables.specs.declared.Wire.{Wire}
use Rattle.tables.specs.Tables.{Tables, fields_at, first_output, input_place, output_place}
use Rattle.tables.specs.Words.{RowInside}
use Rattle.rounds.specs.Steps.{CanEvaluate}
use Rattle.judging.specs.Judged.{component_agrees}

pub record CanJudge (T : Tables) (i : ℕ) : Type 0 where
  pub evaluable : CanEvaluate T T.inputs T.outputs i
  pub held : is Const (fields_at T i) ≡ true → get_or T.outputs (first_output T i) 0 ≡ (fields_at T i).parameter

pub record CanCompare (T : Tables) (w : Wire) : Type 0 where
  pub source_few : w.src.comp.0 < 256
  pub target_few : w.dst.comp.0 < 256
  pub source_row : RowInside T.components w.src.comp.0
  pub target_row : RowInside T.components w.dst.comp.0
  pub source : output_place T w.src < length T.outputs
  pub target : input_place T w.dst < length T.inputs

-- Components are marked once they are judged.
abbrev pub MarkedAgree : Tables → List ℕ → Type 0
MarkedAgree T marks = (x : ℕ) → x < 256 → (get_or marks x 0 ≡ 0 → ⊥) → component_agrees T x ≡ true
