-- What a load lays: primitives' words, wires, the standing list. docs/SPECIFICATION.md, "Flattening" and "Rounds" (the state at load).
use Rattle.std.specs.Prelude.{ℕ, ◌||◌, List, map}
use Rattle.lists.specs.Lists.{keep}
use Rattle.kinds.specs.declared.Kind.TheVariants.{Clock, Const}
use Rattle.kinds.specs.Kinds.{is}
use Rattle.component.specs.declared.Record.{Record}
use Rattle.component.specs.Record.{fields_of}
use Rattle.component.specs.Drawing.{primitives_before, inputs_before, outputs_before}
use Rattle.flatten.specs.declared.Pin.{Pin}
use Rattle.flatten.specs.declared.Lead.{Lead}
use Rattle.flatten.specs.Descent.{flat, wires}
use Rattle.tables.specs.declared.End.{End}
use Rattle.tables.specs.declared.Wire.{Wire}
use Rattle.tables.specs.Tables.{component_words, end_at}

module _ (at : ℕ → Record) (n : ℕ) where
  -- The primitives, in file order.
  abbrev pub primitives : List ℕ
  primitives = primitives_before at n

  -- The words of a primitive's entry; its ports follow those of the primitives before.
  abbrev pub primitive_words : ℕ → List ℕ
  primitive_words x = component_words (at x).id (fields_of (at x)) (inputs_before at x) (outputs_before at x)

  -- A port of the drawing as the net has it, its component by flat index.
  abbrev pub flat_pin : Pin → End
  flat_pin s = end_at (flat at n s.comp) s.port

  -- The wires of the net, in the order of the drawing's.
  abbrev pub flat_wires : List Wire
  flat_wires = map (λ (l : Lead). record { src = flat_pin l.src; dst = flat_pin l.dst }) (wires at n)

  -- The standing list at load: every Const and Clock, ascending.
  abbrev pub standing_at_load : List ℕ
  standing_at_load = map (flat at n) (keep (λ x. is Const (fields_of (at x)) || is Clock (fields_of (at x))) primitives)
