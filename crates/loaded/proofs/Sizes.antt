-- The lists and the lengths of the tables after a load. docs/SPECIFICATION.md, "Rounds" (the lists at load) and
-- "Numbers given back" (full size).
-- Assumes nothing.
use mathlib.Core.Path.{◌≡◌, refl, sym, ap, ◌∙◌}
use mathlib.Core.Bool.{true}
use Prim.Native.Nat.{ℕ}
use native.Mathlib.Omega.{arith}
use lib.ListN.{length, take, replicate, length-replicate}
use Rattle.lists.specs.Lists.{from, joined, overlay}
use Rattle.lists.proofs.MembersLaws.{from_length}
use Rattle.lists.proofs.OverlayLaws.{overlay_length, overlay_front, joined_width}
use Rattle.component.specs.declared.Record.{Record}
use Rattle.component.specs.Drawing.{inputs_before}
use Rattle.flatten.proofs.Accepted.{Passed}
use Rattle.flatten.proofs.Primitives.{primitives_bound, inputs_bound, outputs_bound}
use Rattle.tables.proofs.SizesLaws.{full_size-sound}
use Rattle.tables.proofs.SameLaws.{SameLengths}
use Rattle.tables.specs.Tables.{Tables, full_size, current_list, following_list, standing_list, wire_words}
use Rattle.laying.specs.Laid.{primitives, primitive_words, flat_wires, standing_at_load}
use Rattle.load.specs.Load.{drawing_tables}
use Rattle.laying.proofs.FlatWires.{flat_wires-bound}
use Rattle.laying.specs.Laying.{starting_of}
use Rattle.laying.proofs.StandingLaws.{standing_bound}
use Rattle.laying.proofs.PortsLaws.{starting_before}

-- The three lists.
module _ (at : ℕ → Record) (n : ℕ) (T : Tables) where
  -- The current list names all components;
  pub loaded_current : current_list (drawing_tables at n T) ≡ from 0 (length (primitives at n))
  unfolding drawing_tables
  loaded_current =
      let all = from 0 (length (primitives at n)) in
      ap (λ (k : ℕ). take k (overlay all T.current)) (sym (from_length 0 (length (primitives at n))))
      ∙ overlay_front all T.current

  -- the following and the standing list name every Const and Clock, ascending.
  pub loaded_following : following_list (drawing_tables at n T) ≡ standing_at_load at n
  unfolding drawing_tables
  loaded_following = overlay_front (standing_at_load at n) T.following

  pub loaded_standing : standing_list (drawing_tables at n T) ≡ standing_at_load at n
  unfolding drawing_tables
  loaded_standing = overlay_front (standing_at_load at n) T.standing

-- What the load of a drawing that passes every check writes has room in tables of full size, so that they keep their
-- lengths.
module _ (at : ℕ → Record) (n : ℕ) (d : Passed at n) where
  pub loaded_lengths : (T : Tables) → full_size T ≡ true → SameLengths T (drawing_tables at n T)
  unfolding drawing_tables
  loaded_lengths T full =
      let s = full_size-sound T full in
      let few = primitives_bound at n d in
      let stand = standing_bound at n d in
      record {
        components =
            overlay_length (joined (primitive_words at n) (primitives at n)) T.components
            (omega (arith, joined_width (primitive_words at n) 8 (λ c. refl) (primitives at n), s.components));
        inputs =
            overlay_length (replicate (inputs_before at n) 0) T.inputs
            (omega (arith, length-replicate {A = ℕ} (inputs_before at n) 0, inputs_bound at n d, s.inputs));
        outputs =
            overlay_length (joined (starting_of at) (primitives at n)) T.outputs
            (omega (arith, starting_before at n d n, outputs_bound at n d, s.outputs));
        wires =
            overlay_length (joined wire_words (flat_wires at n)) T.wires
            (omega (arith, joined_width wire_words 4 (λ w. refl) (flat_wires at n), flat_wires-bound at n d, s.wires));
        current =
            overlay_length (from 0 (length (primitives at n))) T.current
            (omega (arith, from_length 0 (length (primitives at n)), s.current));
        following = overlay_length (standing_at_load at n) T.following (omega (arith, stand, s.following));
        standing = overlay_length (standing_at_load at n) T.standing (omega (arith, stand, s.standing));
      }
