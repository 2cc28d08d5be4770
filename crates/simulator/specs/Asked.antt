-- What edits ask and set, on the lists of words that a function inside this crate is handed: `driven`, `edit_number` and `port_set` are these on a net
-- (proofs/EditsLaws); only contracts of such functions cite them.
--   entered ws m i                    one of m wires enters component i
--   edit_refusal cs n d i v            the number of an edit, on a net of n components
--   inputs_set cs i v, outputs_set ..   the table of inputs, and that of outputs, after component i's port is set to v
-- Assumes nothing.
use Rattle.std.specs.Prelude.{ℕ, Bool, cond, List, set, eqb}
use Rattle.lists.specs.Lists.{from, any, refusal}
use Rattle.kinds.specs.declared.Kind.TheVariants.{Switch}
use Rattle.kinds.specs.Kinds.{is}
use Rattle.tables.specs.Words.{fields_in, first_input_in, first_output_in, wire_in}
use Rattle.simulator.specs.Calls.{edit_checks}

-- One of m wires enters component i.
abbrev pub entered : List ℕ → ℕ → ℕ → Bool
entered ws m i = any (λ k. eqb (wire_in ws k).dst.comp.0 i) (from 0 m)

-- An edit of component i to the number v, d being whether a wire enters it: 17, 18, 19.
unfoldable pub edit_refusal : List ℕ → ℕ → Bool → ℕ → ℕ → ℕ
edit_refusal cs n d i v = refusal (edit_checks n (fields_in cs i) d i v)

-- A Switch's output is set, or else an Input's input.
abbrev pub inputs_set : List ℕ → ℕ → ℕ → List ℕ → List ℕ
inputs_set cs i v ins = cond (is Switch (fields_in cs i)) ins (set ins (first_input_in cs i) v)

abbrev pub outputs_set : List ℕ → ℕ → ℕ → List ℕ → List ℕ
outputs_set cs i v outs = cond (is Switch (fields_in cs i)) (set outs (first_output_in cs i) v) outs
