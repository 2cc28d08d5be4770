-- Tables whose components and wires are those of a drawing, as a load leaves them and as every call keeps them that
-- writes neither. docs/SPECIFICATION.md, "Flattening".
--   IsDrawn at n U         the components and wires of U are those of the drawing
--   PrimitiveAt at n U i   the one primitive of the drawing that is component i of U
-- First that a load leaves such tables and that `SameWiring` keeps them; then what is known of any such tables.
-- Assumes nothing.
use mathlib.Core.Path.{◌≡◌, refl, sym, ap, ◌∙◌}
use mathlib.Core.Bool.{Bool, true, ◌&&◌}
use Prim.Native.Nat.{ℕ, ◌+◌, ◌<◌}
use native.Mathlib.Omega.{arith}
use borrow.Author.Tests.{lt-ltb}
use lib.ListN.{get_or}
use lib.Dec.{ltb}
use Rattle.lists.specs.Lists.{every, total}
use Rattle.lists.proofs.MembersLaws.{In, every_complete, from0_sound}
use Rattle.component.specs.declared.Record.{Record}
use Rattle.component.specs.Record.{fields_of, inputs_of, outputs_of, is_primitive}
use Rattle.component.specs.Reading.{id_of}
use Rattle.component.specs.Drawing.{primitives_before, inputs_before, outputs_before}
use Rattle.flatten.specs.declared.Pin.{Pin}
use Rattle.flatten.specs.Descent.{pin, flat}
use Rattle.flatten.specs.Leads.{Leads}
use Rattle.flatten.proofs.Accepted.{Passed}
use Rattle.flatten.proofs.Wires.{wires_lead}
use Rattle.flatten.proofs.Ends.{IsOutput, IsInput}
use Rattle.flatten.proofs.Primitives.{flat_below, flat_inj, flat_onto, ports_before-within}
use Rattle.tables.specs.declared.Wire.{Wire}
use Rattle.tables.specs.Tables.{Tables, fields_at, id_at, first_input, first_output, input_place}
use Rattle.tables.specs.Tables.{indexes, wires_in}
use Rattle.laying.specs.Laid.{primitives, flat_pin, flat_wires}
use Rattle.load.specs.Load.{drawing_tables}
use Rattle.laying.proofs.FlatWires.{wire, flat_wires-sound, leads-flat_wires}
use Rattle.net.specs.Net.{is_output, is_input}
use Rattle.loaded.proofs.Entries.{loaded_wires, loaded_fields, loaded_id, loaded-first_input, loaded-first_output}
use Rattle.tables.proofs.SameLaws.{SameWiring, same_wiring-word, same_wiring-fields, same_wiring-wires}

-- The components and wires of U are those of the drawing: each primitive stands at its flat index.
pub record IsDrawn (at : ℕ → Record) (n : ℕ) (U : Tables) : Type 0 where
  pub component_count : U.counts.components ≡ flat at n n
  pub input_count_lem : U.counts.inputs ≡ inputs_before at n
  pub output_count_lem : U.counts.outputs ≡ outputs_before at n
  pub fields : (c : ℕ) → is_primitive (at c) ≡ true → fields_at U (flat at n c) ≡ fields_of (at c)
  pub id : (c : ℕ) → is_primitive (at c) ≡ true → id_at U (flat at n c) ≡ id_of (at c)
  pub first_input_is : (c : ℕ) → is_primitive (at c) ≡ true → first_input U (flat at n c) ≡ inputs_before at c
  pub first_output_is : (c : ℕ) → is_primitive (at c) ≡ true → first_output U (flat at n c) ≡ outputs_before at c
  pub wires : wires_in U ≡ flat_wires at n

-- A load of a drawing that passes every check leaves such tables.
pub loaded_drawn : (at : ℕ → Record) (n : ℕ) → Passed at n → (T : Tables) → IsDrawn at n (drawing_tables at n T)
unfolding drawing_tables
loaded_drawn at n d T =
    record {
      component_count = refl;
      input_count_lem = refl;
      output_count_lem = refl;
      fields = loaded_fields at n d T;
      id = loaded_id at n d T;
      first_input_is = loaded-first_input at n d T;
      first_output_is = loaded-first_output at n d T;
      wires = loaded_wires at n T;
    }

-- Tables with the net of a drawing's tables are the drawing's too.
pub drawn_kept : (at : ℕ → Record) (n : ℕ) (L U : Tables) → SameWiring L U → IsDrawn at n L → IsDrawn at n U
drawn_kept at n L U s d =
    record {
      component_count = s.component_count ∙ d.component_count;
      input_count_lem = s.input_count_lem ∙ d.input_count_lem;
      output_count_lem = s.output_count_lem ∙ d.output_count_lem;
      fields = λ c e. same_wiring-fields L U s (flat at n c) ∙ d.fields c e;
      id = λ c e. same_wiring-word L U s (flat at n c) 1 ∙ d.id c e;
      first_input_is = λ c e. same_wiring-word L U s (flat at n c) 6 ∙ d.first_input_is c e;
      first_output_is = λ c e. same_wiring-word L U s (flat at n c) 7 ∙ d.first_output_is c e;
      wires = same_wiring-wires L U s ∙ d.wires;
    }

-- Ports of primitives, f being `inputs_of` or `outputs_of`: two that have one place among all are one.
pub place_inj : (at : ℕ → Record) (n : ℕ) (f : Record → ℕ) (s t : Pin)
    → is_primitive (at s.comp) ≡ true → is_primitive (at t.comp) ≡ true
    → s.port < f (at s.comp) → t.port < f (at t.comp)
    → total (λ q. f (at q)) (primitives_before at s.comp) + s.port
    ≡ total (λ q. f (at q)) (primitives_before at t.comp) + t.port
    → s ≡ t
place_inj at n f s t i j h l e =
    let below : s.comp < t.comp → ⊥ = λ u. omega (arith, ports_before-within at n f s.comp t.comp i u) in
    let above : t.comp < s.comp → ⊥ = λ u. omega (arith, ports_before-within at n f t.comp s.comp j u) in
    let c : s.comp ≡ t.comp = omega arith in
    let p : s.port ≡ t.port =
    omega (arith, ap (λ (x : ℕ). total (λ q. f (at q)) (primitives_before at x)) c) in
    λ k. pin (c k) (p k)

-- The primitive of the drawing that is component i of U: there is one and no other.
pub record PrimitiveAt (at : ℕ → Record) (n : ℕ) (U : Tables) (i : ℕ) : Type 0 where
  pub number : ℕ
  pub in_file : number < n
  pub of_primitive : is_primitive (at number) ≡ true
  pub flat_is : flat at n number ≡ i
  pub fields_are : fields_at U i ≡ fields_of (at number)
  pub id_is : id_at U i ≡ id_of (at number)
  pub only : (c : ℕ) → is_primitive (at c) ≡ true → flat at n c ≡ i → c ≡ number

module _ (at : ℕ → Record) (n : ℕ) (U : Tables) (d : IsDrawn at n U) where
  -- Each component of the tables is one primitive of the drawing, with its fields.
  pub drawn_primitive : (i : ℕ) → i < U.counts.components → PrimitiveAt at n U i
  drawn_primitive i h =
      let c = get_or (primitives at n) i n in
      let r = flat_onto at n i n n (omega (arith, d.component_count)) in
      record {
        number = c;
        in_file = r.1;
        of_primitive = r.0;
        flat_is = r.2;
        fields_are = ap (fields_at U) (sym r.2) ∙ d.fields c r.0;
        id_is = ap (id_at U) (sym r.2) ∙ d.id c r.0;
        only = λ b e s. flat_inj at n b c e r.0 (s ∙ sym r.2);
      }

  -- A test that passes at the flat index of each primitive passes at each index of the tables.
  pub drawn_every : (test : ℕ → Bool) → ((c : ℕ) → is_primitive (at c) ≡ true → test (flat at n c) ≡ true)
      → every test (indexes U) ≡ true
  drawn_every test h =
      every_complete test (indexes U)
      (λ i u. let x = drawn_primitive i (from0_sound U.counts.components i u) in
      ap test (sym x.flat_is) ∙ h x.number x.of_primitive)

  -- Ports of a primitive stand behind those of the primitives before it,
  pub drawn-input_place : (t : Pin) → is_primitive (at t.comp) ≡ true
      → input_place U (flat_pin at n t) ≡ inputs_before at t.comp + t.port
  drawn-input_place t e = ap (λ (q : ℕ). q + t.port) (d.first_input_is t.comp e)

  -- so no two inputs share a place, and no two outputs.
  pub drawn-input_place-inj : (s t : Pin) → IsInput at s → IsInput at t
      → input_place U (flat_pin at n s) ≡ input_place U (flat_pin at n t) → s ≡ t
  drawn-input_place-inj s t i j e =
      place_inj at n inputs_of s t i.of_primitive j.of_primitive i.there j.there
      (sym (drawn-input_place s i.of_primitive) ∙ e ∙ drawn-input_place t j.of_primitive)

module _ (at : ℕ → Record) (n : ℕ) (p : Passed at n) (U : Tables) (d : IsDrawn at n U) where
  -- Each primitive of the drawing is a component of the tables.
  pub drawn_below : (c : ℕ) → is_primitive (at c) ≡ true → flat at n c < U.counts.components
  drawn_below c e = omega (arith, flat_below at n p c e, d.component_count)

  -- Where the drawing leads from an output to an input, the tables have a wire;
  pub leads_wired : (s t : Pin) → Leads at n s t → In (wire (flat_pin at n s) (flat_pin at n t)) (wires_in U)
  leads_wired s t r = rw d.wires (leads-flat_wires at n p s t r)

  -- and each of their wires is one that the drawing leads along.
  pub wire_drawn : (v : Wire) → In v (wires_in U)
      → (s : Pin) × (t : Pin) × Leads at n s t × (v ≡ wire (flat_pin at n s) (flat_pin at n t))
  wire_drawn v h =
      let r = flat_wires-sound at n v (rw d.wires at h) in
      (r.0.src, r.0.dst, wires_lead at n p r.0 r.1, r.2)

  -- The outputs and inputs of primitives are ports of the tables,
  pub drawn-is_output : (s : Pin) → IsOutput at s → is_output U (flat_pin at n s) ≡ true
  drawn-is_output s o =
      let own = d.fields s.comp o.of_primitive in
      let there = lt-ltb (flat at n s.comp) U.counts.components (drawn_below s.comp o.of_primitive) in
      (λ j. there j && ltb s.port (own j).outputs) ∙ lt-ltb s.port (outputs_of (at s.comp)) o.there

  pub drawn-is_input : (t : Pin) → IsInput at t → is_input U (flat_pin at n t) ≡ true
  drawn-is_input t i =
      let own = d.fields t.comp i.of_primitive in
      let there = lt-ltb (flat at n t.comp) U.counts.components (drawn_below t.comp i.of_primitive) in
      (λ j. there j && ltb t.port (own j).inputs) ∙ lt-ltb t.port (inputs_of (at t.comp)) i.there
