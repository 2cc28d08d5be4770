-- Satisfied or not. docs/SPECIFICATION.md, "Rounds" (satisfied or not). What is judged of one wire and of one component, and two ways to judge the
-- values of a net. "their wires" are those that leave a component.
use Rattle.std.specs.Prelude.{ℕ, Bool, not, ◌&&◌, ◌||◌, List, get_or, eqb}
use Rattle.lists.specs.Lists.{from, every}
use Rattle.kinds.specs.declared.Kind.TheVariants.{Switch, Clock}
use Rattle.kinds.specs.Kinds.{is}
use Rattle.primitive.specs.Evaluate.{function_of}
use Rattle.tables.specs.declared.Wire.{Wire}
use Rattle.tables.specs.Tables.{Tables, fields_at, end_at, input_place, output_place, inputs_at, indexes, wires_in, named}

module _ (T : Tables) where
  -- A wire agrees: its output and its input hold the same number.
  abbrev pub wire_agrees : Wire → Bool
  wire_agrees w = eqb (get_or T.outputs (output_place T w.src) 0) (get_or T.inputs (input_place T w.dst) 0)

  -- Each output of component i is its function's of its inputs. No kind but a Clock looks at the time.
  abbrev pub has_outputs : ℕ → Bool
  has_outputs i =
      let should : List ℕ = function_of (fields_at T i) (inputs_at T T.inputs i) 0 in
      every (λ p. eqb (get_or T.outputs (output_place T (end_at i p)) 0) (get_or should p 0)) (from 0 (fields_at T i).outputs)

  -- A component "other than a Switch or Clock has the outputs of its function".
  abbrev pub component_agrees : ℕ → Bool
  component_agrees i = is Switch (fields_at T i) || is Clock (fields_at T i) || has_outputs i

  -- "every wire agrees and every component" does: all are judged.
  unfoldable pub judged_all : Bool
  judged_all = every wire_agrees (wires_in T) && every component_agrees (indexes T)

  -- Values are judged "only at components named in the three lists and at their wires".
  unfoldable pub judged_named : Bool
  judged_named =
      every (λ (w : Wire). not (named T w.src.comp.0) || wire_agrees w) (wires_in T)
      && every (λ i. not (named T i) || component_agrees i) (indexes T)
