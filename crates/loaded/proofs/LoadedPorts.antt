-- What the tables of ports hold after a load: all inputs 0, the outputs of each primitive its starting values.
-- docs/SPECIFICATION.md, "Rounds".
-- Assumes nothing.
use mathlib.Core.Path.{◌≡◌, sym, ◌∙◌}
use mathlib.Core.Bool.{true}
use mathlib.Core.List.{List, ◌++◌}
use Prim.Native.Nat.{ℕ, suc, ◌-◌, ◌≤◌, ◌<◌}
use native.Mathlib.Omega.{arith}
use lib.ListN.{length, get_or, drop, replicate, length-append, length-replicate, get_or-replicate}
use Rattle.lists.specs.Lists.{from, keep, joined, overlay}
use Rattle.lists.proofs.OverlayLaws.{overlay_at, slice_replicate, joined_part}
use Rattle.primitive.specs.Evaluate.{starting}
use Rattle.component.specs.declared.Record.{Record}
use Rattle.component.specs.Record.{fields_of, inputs_of, is_primitive}
use Rattle.component.specs.Drawing.{primitives_before, inputs_before}
use Rattle.flatten.specs.Descent.{flat}
use Rattle.flatten.proofs.Accepted.{Passed}
use Rattle.flatten.proofs.Primitives.{primitive_below, primitive_obeyed, primitives_before-split, ports_before-within}
use Rattle.tables.specs.Tables.{Tables, numbers, inputs_at, outputs_at}
use Rattle.laying.specs.Laid.{primitives}
use Rattle.load.specs.Load.{drawing_tables}
use Rattle.laying.specs.Laying.{starting_of}
use Rattle.laying.proofs.PortsLaws.{starting_length, starting_before}
use Rattle.loaded.proofs.Entries.{loaded_fields, loaded-first_input, loaded-first_output}

-- Every input that there is is 0.
pub loaded_input : (at : ℕ → Record) (n : ℕ) (T : Tables) (i : ℕ) → i < inputs_before at n
    → get_or (drawing_tables at n T).inputs i 0 ≡ 0
unfolding drawing_tables
loaded_input at n T i h =
    overlay_at (replicate (inputs_before at n) 0) T.inputs i 0
    (omega (arith, length-replicate {A = ℕ} (inputs_before at n) 0))
    ∙ get_or-replicate (inputs_before at n) i 0 0 h

inputs_room : (at : ℕ → Record) (n : ℕ) (T : Tables) → inputs_before at n ≤ length (drawing_tables at n T).inputs
unfolding drawing_tables overlay
inputs_room at n T =
    let all : List ℕ = replicate (inputs_before at n) 0 in
    omega (arith, length-append all (drop (length all) T.inputs), length-replicate {A = ℕ} (inputs_before at n) 0)

module _ (at : ℕ → Record) (n : ℕ) (d : Passed at n) (T : Tables) where
  -- The inputs of each primitive are 0.
  pub loaded_inputs : (c : ℕ) → is_primitive (at c) ≡ true
      → inputs_at (drawing_tables at n T) (drawing_tables at n T).inputs (flat at n c) ≡ replicate (inputs_of (at c)) 0
  loaded_inputs c e =
      let first = loaded-first_input at n d T c e in
      let own = loaded_fields at n d T c e in
      let room = ports_before-within at n inputs_of c n e (primitive_below at n d c e) in
      let ins = (drawing_tables at n T).inputs in
      (λ j. numbers ins (first j) (own j).inputs)
      ∙ slice_replicate 0 (inputs_before at c) (inputs_of (at c)) ins (omega (arith, inputs_room at n T))
      (λ i l u. loaded_input at n T i (omega arith))

  -- The outputs of each primitive are its starting values: 0, a Const's output its value.
  pub loaded_outputs : (c : ℕ) → is_primitive (at c) ≡ true
      → outputs_at (drawing_tables at n T) (drawing_tables at n T).outputs (flat at n c) ≡ starting (fields_of (at c))
  unfolding drawing_tables overlay
  loaded_outputs c e =
      let before = primitives_before at c in
      let behind = keep (λ q. is_primitive (at q)) (from (suc c) (n - suc c)) in
      let split = primitives_before-split at n c n e (primitive_below at n d c e) in
      let rest = drop (length (joined (starting_of at) (primitives at n))) T.outputs in
      let first = loaded-first_output at n d T c e ∙ sym (starting_before at n d c) in
      let own = loaded_fields at n d T c e in
      let many = sym (starting_length (fields_of (at c)) (primitive_obeyed at n d c e)) in
      (λ j. numbers (drawing_tables at n T).outputs (first j) (own j).outputs)
      ∙ (λ j. numbers (joined (starting_of at) (split j) ++ rest) (length (joined (starting_of at) before)) (many j))
      ∙ joined_part (starting_of at) before behind c rest
