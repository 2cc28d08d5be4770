-- What the component table and the wire table hold after a load: at the flat index of each primitive its record's
-- fields, its id and where its ports start; and the wires in order. docs/SPECIFICATION.md, "Flattening".
-- Entries of 8 and of 4 words are read back by the one law `overlay_entry` of crate lists.
-- Assumes nothing.
use mathlib.Core.Path.{◌≡◌, refl, ap, ◌∙◌}
use mathlib.Core.Bool.{true}
use Prim.Native.Nat.{ℕ, ◌+◌, ◌*◌, ◌<◌}
use native.Mathlib.Omega.{arith}
use lib.ListN.{length, get_or}
use Rattle.lists.proofs.OverlayLaws.{overlay_entry, map_indexes}
use Rattle.component.specs.declared.Record.{Record}
use Rattle.component.specs.Record.{fields_of, is_primitive}
use Rattle.component.specs.Reading.{id_of}
use Rattle.component.specs.Drawing.{inputs_before, outputs_before}
use Rattle.flatten.specs.Descent.{flat}
use Rattle.flatten.proofs.Accepted.{Passed}
use Rattle.flatten.proofs.Primitives.{primitive_below, flat_below, flat_place}
use Rattle.tables.specs.declared.Wire.{Wire}
use Rattle.tables.specs.Tables.{Tables, word_in, end_at, fields_at, id_at, first_input, first_output, wire_at, wires_in, wire_words}
use Rattle.laying.specs.Laid.{primitives, primitive_words, flat_wires}
use Rattle.load.specs.Load.{drawing_tables}
use Rattle.laying.proofs.FlatWires.{wire}

-- What stands past the last wire; no law depends on it.
abbrev no_wire : Wire
no_wire = wire (end_at 0 0) (end_at 0 0)

-- The wire table.
module _ (at : ℕ → Record) (n : ℕ) (T : Tables) where
  -- Word k of wire i.
  wire_word : (i k : ℕ) → i < length (flat_wires at n) → k < 4
      → get_or (drawing_tables at n T).wires (4 * i + k) 0 ≡ get_or (wire_words (get_or (flat_wires at n) i no_wire)) k 0
  unfolding drawing_tables
  wire_word i k h l =
      overlay_entry wire_words 4 (λ w. refl) (flat_wires at n) T.wires i k no_wire h l

  loaded_wire : (i : ℕ) → i < length (flat_wires at n)
      → wire_at (drawing_tables at n T) i ≡ get_or (flat_wires at n) i no_wire
  loaded_wire i h =
      let a = wire_word i 0 h (omega arith) in
      let b = wire_word i 1 h (omega arith) in
      let c = wire_word i 2 h (omega arith) in
      let e = wire_word i 3 h (omega arith) in
      λ j. wire (end_at (a j) (b j)) (end_at (c j) (e j))

  -- The wires of the tables are those of the drawing, by flat indexes and in order.
  pub loaded_wires : wires_in (drawing_tables at n T) ≡ flat_wires at n
  unfolding drawing_tables
  loaded_wires = map_indexes (wire_at (drawing_tables at n T)) no_wire (flat_wires at n) loaded_wire

-- The component table of a drawing that passes every check.
module _ (at : ℕ → Record) (n : ℕ) (d : Passed at n) (T : Tables) where
  -- The eight words of a primitive's entry are those that its record says.
  pub loaded_word : (c k : ℕ) → is_primitive (at c) ≡ true → k < 8
      → word_in (drawing_tables at n T).components (flat at n c) k ≡ get_or (primitive_words at n c) k 0
  unfolding drawing_tables
  loaded_word c k e h =
      overlay_entry (primitive_words at n) 8 (λ x. refl) (primitives at n) T.components (flat at n c) k n
      (flat_below at n d c e) h
      ∙ ap (λ (x : ℕ). get_or (primitive_words at n x) k 0) (flat_place at n c n n e (primitive_below at n d c e))

  -- At the flat index of a primitive stand its record's fields,
  pub loaded_fields : (c : ℕ) → is_primitive (at c) ≡ true → fields_at (drawing_tables at n T) (flat at n c) ≡ fields_of (at c)
  loaded_fields c e =
      let kind = loaded_word c 0 e (omega arith) in
      let width = loaded_word c 2 e (omega arith) in
      let parameter = loaded_word c 3 e (omega arith) in
      let inputs = loaded_word c 4 e (omega arith) in
      let outputs = loaded_word c 5 e (omega arith) in
      λ j. record { kind = kind j; inputs = inputs j; outputs = outputs j; width = width j; parameter = parameter j }

  -- its id,
  pub loaded_id : (c : ℕ) → is_primitive (at c) ≡ true → id_at (drawing_tables at n T) (flat at n c) ≡ id_of (at c)
  loaded_id c e = loaded_word c 1 e (omega arith)

  -- and its ports start behind those of the primitives before it.
  pub loaded-first_input : (c : ℕ) → is_primitive (at c) ≡ true
      → first_input (drawing_tables at n T) (flat at n c) ≡ inputs_before at c
  loaded-first_input c e = loaded_word c 6 e (omega arith)

  pub loaded-first_output : (c : ℕ) → is_primitive (at c) ≡ true
      → first_output (drawing_tables at n T) (flat at n c) ≡ outputs_before at c
  loaded-first_output c e = loaded_word c 7 e (omega arith)
