-- The clauses of a net that speak of components and wires hold in all tables whose components and wires are those of a
-- drawing that passes every check. docs/SPECIFICATION.md, "Numbers given back", after the table.
-- A clause over all indexes is shown at the flat index of each primitive (`drawn_every`).
-- Assumes nothing.
use mathlib.Core.Path.{◌≡◌, sym, ap, ◌∙◌, subst}
use mathlib.Core.Bool.{Bool, true, ◌&&◌}
use mathlib.Core.List.{List, map, map-map}
use Prim.Native.Nat.{ℕ, ◌^◌, ◌<◌}
use borrow.Author.Tests.{lt-ltb, eq-eqb}
use lib.Dec.{eqb}
use Rattle.lists.specs.Lists.{from, every, total, distinct}
use Rattle.lists.proofs.MembersLaws.{In, Distinct, every_complete, map_sound, from0_sound, distinct_from, distinct_map}
use Rattle.lists.proofs.MembersLaws.{distinct_complete}
use Rattle.lists.proofs.OverlayLaws.{total_indexes}
use Rattle.value.specs.Value.{below}
use Rattle.kinds.specs.declared.table.Fields.{Fields}
use Rattle.kinds.specs.Kinds.{primitive, obeys, input_width, output_width}
use Rattle.component.specs.declared.Record.{Record}
use Rattle.component.specs.Record.{fields_of, is_primitive}
use Rattle.component.specs.Reading.{id_of}
use Rattle.component.specs.Drawing.{primitives_before, inputs_before, outputs_before}
use Rattle.flatten.specs.declared.Pin.{Pin}
use Rattle.flatten.specs.Descent.{flat}
use Rattle.flatten.proofs.Accepted.{Passed}
use Rattle.flatten.proofs.Components.{primitive_component}
use Rattle.flatten.proofs.Ends.{IsInput, SameWidths, wires_leave, wires_enter}
use Rattle.flatten.proofs.Primitives.{primitive_obeyed, flat_onto, id_inj}
use Rattle.tables.specs.declared.End.{End}
use Rattle.tables.specs.declared.Wire.{Wire}
use Rattle.tables.specs.Tables.{Tables, fields_at, id_at, first_input, first_output, input_place, indexes}
use Rattle.laying.specs.Laid.{flat_pin, flat_wires}
use Rattle.laying.proofs.FlatWires.{entered_ends, flat_wires-sound, flat_wires-distinct}
use Rattle.net.specs.Net.{kinds_obeyed, ids_distinct, input_sum, output_sum, ports_follow, wires_fit}
use Rattle.net.specs.Net.{inputs_once, wire_fits}
use Rattle.loaded.proofs.Drawn.{IsDrawn, drawn_primitive, drawn_every, drawn-is_output, drawn-is_input}
use Rattle.loaded.proofs.Drawn.{drawn-input_place-inj}

module _ (at : ℕ → Record) (n : ℕ) (p : Passed at n) (U : Tables) (d : IsDrawn at n U) where
  -- Components are primitives and obey the table of kinds.
  pub drawn-kinds_obeyed : kinds_obeyed U ≡ true
  unfolding kinds_obeyed
  drawn-kinds_obeyed =
      drawn_every at n U d (λ i. primitive (fields_at U i) && obeys (fields_at U i))
      (λ c e. ap (λ (f : Fields). primitive f && obeys f) (d.fields c e) ∙ primitive_obeyed at n p c e)

  -- No two components have one id.
  drawn_ids_apart : Distinct (map (id_at U) (indexes U))
  drawn_ids_apart =
      distinct_map (id_at U) (indexes U)
      (λ i j u v s.
      let x = drawn_primitive at n U d i (from0_sound U.counts.components i u) in
      let y = drawn_primitive at n U d j (from0_sound U.counts.components j v) in
      let one = id_inj at n p x.number y.number (primitive_component (at x.number) x.of_primitive)
      (primitive_component (at y.number) y.of_primitive) (sym x.id_is ∙ s ∙ y.id_is) in
      sym x.flat_is ∙ ap (flat at n) one ∙ y.flat_is)
      (distinct_from 0 U.counts.components)

  -- They have distinct ids, and an id has 32 bits, if it has so in the drawing.
  pub drawn-ids_distinct : ((c : ℕ) → is_primitive (at c) ≡ true → id_of (at c) < 2 ^ 32) → ids_distinct U ≡ true
  unfolding ids_distinct
  drawn-ids_distinct narrow =
      let fit : every (λ i. below (id_at U i) 32) (indexes U) ≡ true =
      drawn_every at n U d (λ i. below (id_at U i) 32)
      (λ c e. ap (λ (x : ℕ). below x 32) (d.id c e) ∙ lt-ltb (id_of (at c)) (2 ^ 32) (narrow c e)) in
      rw (fit, distinct_complete (map (id_at U) (indexes U)) drawn_ids_apart)

  -- What the components below a flat index have of ports, f being the inputs or the outputs of fields.
  ports_below : (f : Fields → ℕ) (m : ℕ) → total (λ i. f (fields_at U i)) (from 0 (flat at n m))
      ≡ total (λ q. f (fields_of (at q))) (primitives_before at m)
  ports_below f m =
      total_indexes (λ i. f (fields_at U i)) (λ q. f (fields_of (at q))) m (primitives_before at m)
      (λ i u. let r = flat_onto at n i m m u in
      ap (λ (k : ℕ). f (fields_at U k)) (sym r.2) ∙ ap f (d.fields _ r.0))

  -- Ports follow each other without gaps.
  pub drawn-ports_follow : ports_follow U ≡ true
  unfolding ports_follow
  drawn-ports_follow =
      let inputs : (m : ℕ) → input_sum U (flat at n m) ≡ inputs_before at m = ports_below (λ f. f.inputs) in
      let outputs : (m : ℕ) → output_sum U (flat at n m) ≡ outputs_before at m = ports_below (λ f. f.outputs) in
      let follows : ℕ → Bool =
      λ i. eqb (first_input U i) (input_sum U i) && eqb (first_output U i) (output_sum U i) in
      let each : every follows (indexes U) ≡ true =
      drawn_every at n U d follows
      (λ c e. rw (
        eq-eqb _ _ (d.first_input_is c e ∙ sym (inputs c)),
        eq-eqb _ _ (d.first_output_is c e ∙ sym (outputs c)),
      )) in
      let all_inputs : U.counts.inputs ≡ input_sum U U.counts.components =
      d.input_count_lem ∙ sym (inputs n) ∙ ap (input_sum U) (sym d.component_count) in
      let all_outputs : U.counts.outputs ≡ output_sum U U.counts.components =
      d.output_count_lem ∙ sym (outputs n) ∙ ap (output_sum U) (sym d.component_count) in
      rw (each, eq-eqb _ _ all_inputs, eq-eqb _ _ all_outputs)

  -- Wires have ends that exist and equal widths, if they have so in the drawing.
  pub drawn-wires_fit : SameWidths at n → wires_fit U ≡ true
  unfolding wires_fit
  drawn-wires_fit widths = ap (every (wire_fits U)) d.wires ∙ every_complete (wire_fits U) (flat_wires at n) each
    where
      each : (v : Wire) → In v (flat_wires at n) → wire_fits U v ≡ true
      each v h =
          let r = flat_wires-sound at n v h in
          let w = r.0 in
          let leaves = wires_leave at n p w r.1 in
          let enters = wires_enter at n p w r.1 in
          let out = drawn-is_output at n p U d w.src leaves in
          let into = drawn-is_input at n p U d w.dst enters in
          let output_below = d.fields w.src.comp leaves.of_primitive in
          let target = d.fields w.dst.comp enters.of_primitive in
          ap (wire_fits U) r.2
          ∙ (λ j. out j && into j && eqb (output_width (output_below j)) (input_width (target j)))
          ∙ eq-eqb _ _ (widths w r.1)

  -- What a wire enters, by flat index, is an input of a primitive.
  entered_input : (t : End) → In t (entered_ends (flat_wires at n)) → (x : Pin) × IsInput at x × (t ≡ flat_pin at n x)
  entered_input t h =
      let r = map_sound (λ (w : Wire). w.dst) t (flat_wires at n) h in
      let s = flat_wires-sound at n r.0 r.1 in
      (s.0.dst, wires_enter at n p s.0 s.1, r.2 ∙ ap (λ (w : Wire). w.dst) s.2)

  -- No input has two wires.
  pub drawn-inputs_once : inputs_once U ≡ true
  unfolding inputs_once
  drawn-inputs_once =
      ap (λ (ws : List Wire). distinct (map (λ (w : Wire). input_place U w.dst) ws)) d.wires
      ∙ distinct_complete (map (λ (w : Wire). input_place U w.dst) (flat_wires at n))
      (subst Distinct (map-map (input_place U) (λ (w : Wire). w.dst) (flat_wires at n))
      (distinct_map (input_place U) (entered_ends (flat_wires at n)) same (flat_wires-distinct at n p)))
    where
      same : (s t : End) → In s (entered_ends (flat_wires at n)) → In t (entered_ends (flat_wires at n))
          → input_place U s ≡ input_place U t → s ≡ t
      same s t u v e =
          let x = entered_input s u in
          let y = entered_input t v in
          x.2
          ∙ ap (flat_pin at n) (drawn-input_place-inj at n U d x.0 y.0 x.1 y.1
          (ap (input_place U) (sym x.2) ∙ e ∙ ap (input_place U) y.2))
          ∙ sym y.2
