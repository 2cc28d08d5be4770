-- From the drawing to the tables and back, for tables with the components and wires of an accepted load: chains, Clocks, what stands at load, and the port
-- values that are compared.
--   position i   the primitive at flat index i
-- Assumes nothing.
use mathlib.Core.Path.{◌≡◌, sym, ap, ◌∙◌, subst}
use mathlib.Core.Logic.{⊎_elim}
use mathlib.Core.Bool.{Bool, true, false, true≢false, ◌||◌}
use mathlib.Core.List.{List}
use Prim.Native.Nat.{ℕ, ◌+◌, ◌<◌}
use native.Mathlib.Omega.{arith}
use lib.ListN.{get_or}
use Rattle.lists.specs.Lists.{keep}
use Rattle.lists.proofs.TestsLaws.{or_cases}
use Rattle.lists.proofs.MembersLaws.{In, map_sound, keep_sound}
use Rattle.kinds.specs.declared.Kind.TheVariants.{Switch, Clock, Const}
use Rattle.kinds.specs.declared.table.Fields.{Fields}
use Rattle.kinds.specs.Kinds.{is}
use Rattle.component.specs.declared.Record.{Record}
use Rattle.component.specs.Record.{record_at, record_count, fields_of, is_primitive}
use Rattle.flatten.specs.Descent.{pin, flat}
use Rattle.flatten.proofs.Primitives.{flat_inj, flat_onto, primitives_before-sound}
use Rattle.tables.specs.declared.Wire.{Wire}
use Rattle.tables.specs.Tables.{Tables, fields_at, first_input, first_output, input_place, numbers, outputs_at, wires_in, standing_list}
use Rattle.tables.proofs.SameLaws.{SameWiring, same_wiring-none}
use Rattle.laying.specs.Laid.{primitives, flat_pin}
use Rattle.laying.proofs.FlatWires.{wire}
use Rattle.load.specs.Load.{load_verdict, load_tables}
use Rattle.loaded.proofs.Drawn.{IsDrawn}
use Rattle.loaded.proofs.LoadTheorems.{accepted_drawn, accepted_standing, accepted_primitive, accepted_below, accepted_leads_wired, accepted_wire_drawn}
use Rattle.rounds.proofs.Sound.{input_count}
use Rattle.quiet.proofs.Invariant.{clocked}
use Rattle.chains.specs.Chains.{Chain, Cycle, Most, Values, IsIndex, Joins}
use Rattle.chains.proofs.Joints.{chain_map, wire_joins, joins_wire}
use Rattle.demands.proofs.Demand3.{from_primitive, into_primitive}
use Rattle.settled.specs.Settled.{There, Joined, HasCycle, IsMost, Clockless, Among}
use Rattle.std.specs.Prelude.{Ok}

module _ (file : List ℕ) (T₀ : Tables) (a : load_verdict file T₀ ≡ Ok tt) (T : Tables) (same : SameWiring (load_tables file T₀) T) where
  abbrev at : ℕ → Record
  at = record_at file

  abbrev n : ℕ
  n = record_count file

  drawn : IsDrawn at n T
  drawn = accepted_drawn file T₀ a T same

  abbrev position : ℕ → ℕ
  position i = get_or (primitives at n) i n

  -- It is one, and the only one that stands there.
  position_there : (i : ℕ) → IsIndex T i → There at n (position i)
  position_there i h = let r = flat_onto at n i n n (omega (arith, drawn.component_count)) in (r.1, r.0)

  position_flat : (x : ℕ) → is_primitive (at x) ≡ true → position (flat at n x) ≡ x
  position_flat x e =
      let r = flat_onto at n (flat at n x) n n (omega (arith, drawn.component_count, accepted_below file T₀ a T same x e)) in
      flat_inj at n (position (flat at n x)) x r.0 e r.2

  -- What the drawing joins, a wire of the tables joins at the flat indexes,
  joined_joins : (x y : ℕ) → Joined at n x y → Joins T (flat at n x) (flat at n y)
  joined_joins x y (s, d, l, p, q) =
      subst (λ (z : ℕ). Joins T (flat at n z) (flat at n y)) p
      (subst (λ (z : ℕ). Joins T (flat at n s.comp) (flat at n z)) q
      (wire_joins T (wire (flat_pin at n s) (flat_pin at n d)) (accepted_leads_wired file T₀ a T same s d l)))

  -- and the other way.
  joins_joined : (i j : ℕ) → Joins T i j → Joined at n (position i) (position j)
  joins_joined i j e =
      let r = joins_wire T i j e in
      let w = accepted_wire_drawn file T₀ a T same r.0 r.1 in
      let l = w.2 in (
        w.0,
        w.1,
        l,
        sym (position_flat w.0.comp (from_primitive at n l.source_is))
            ∙ ap position (sym (ap (λ (v : Wire). v.src.comp.0) w.3) ∙ r.2),
        sym (position_flat w.1.comp (into_primitive at n l.target_is))
            ∙ ap position (sym (ap (λ (v : Wire). v.dst.comp.0) w.3) ∙ r.3),
      )

  -- So the two have the same chains,
  chain_flat : {k x y : ℕ} → Chain (There at n) (Joined at n) k x y → Chain (IsIndex T) (Joins T) k (flat at n x) (flat at n y)
  chain_flat = chain_map (flat at n) (λ x h. accepted_below file T₀ a T same x h.1) joined_joins

  chain_position : {k i j : ℕ} → Chain (IsIndex T) (Joins T) k i j → Chain (There at n) (Joined at n) k (position i) (position j)
  chain_position = chain_map position position_there joins_joined

  -- the same cycles,
  pub cycle_drawn : Cycle (IsIndex T) (Joins T) → HasCycle (record_at file) (record_count file)
  cycle_drawn (k, i, c) = (k, position i, chain_position c)

  pub cycle_tables : HasCycle (record_at file) (record_count file) → Cycle (IsIndex T) (Joins T)
  cycle_tables (k, x, c) = (k, flat at n x, chain_flat c)

  -- and the same longest chain.
  pub most_drawn : (D : ℕ) → Most (IsIndex T) (Joins T) D → IsMost (record_at file) (record_count file) D
  most_drawn D m =
      record {
        bound = λ k x y c. m.bound k (flat at n x) (flat at n y) (chain_flat c);
        attained = λ h. let r = m.attained h in (position r.0, position r.1, chain_position r.2);
      }

  -- A drawing without Clocks has none in its tables.
  pub clockless_tables : Clockless (record_at file) (record_count file) → (i : ℕ) → i < T.counts.components → clocked T i ≡ false
  clockless_tables none i h =
      let p = accepted_primitive file T₀ a T same i h in
      ap (is Clock) p.fields_are ∙ none p.number (p.in_file, p.of_primitive)

  -- Values that keep the switch outputs of the drawing keep those of the tables,
  module _ (v : Values) (m : Among (record_at file) (record_count file) T v) where
    pub among_switches : (i : ℕ) → i < T.counts.components → is Switch (fields_at T i) ≡ true
        → outputs_at T v.outputs i ≡ outputs_at T T.outputs i
    among_switches i h e =
        let p = accepted_primitive file T₀ a T same i h in
        let x = p.number in
        let first = ap (first_output T) (sym p.flat_is) ∙ drawn.first_output_is x p.of_primitive in
        let f = p.fields_are in
        (λ k. numbers v.outputs (first k) (f k).outputs) ∙ m.switches x (p.in_file, p.of_primitive) (ap (is Switch) (sym f) ∙ e)
        ∙ sym (λ k. numbers T.outputs (first k) (f k).outputs)

    -- and those at inputs without a wire.
    pub among_loose : (i p : ℕ) → i < T.counts.components → p < input_count T i
        → ((w : Wire) → In w (wires_in T) → input_place T w.dst ≡ first_input T i + p → ⊥)
        → get_or v.inputs (first_input T i + p) 0 ≡ get_or T.inputs (first_input T i + p) 0
    among_loose i p h u none =
        let c = accepted_primitive file T₀ a T same i h in
        let x = c.number in
        let first = ap (first_input T) (sym c.flat_is) ∙ drawn.first_input_is x c.of_primitive in
        subst (λ (l : ℕ). get_or v.inputs (l + p) 0 ≡ get_or T.inputs (l + p) 0) (sym first)
        (m.loose (pin x p) (c.in_file, c.of_primitive) (subst (λ (g : Fields). p < g.inputs) c.fields_are u)
        (λ s l. none (wire (flat_pin at n s) (flat_pin at n (pin x p))) (accepted_leads_wired file T₀ a T same s (pin x p) l)
        (ap (λ (j : ℕ). first_input T j + p) c.flat_is)))

-- What stands at load and is no Clock is a Const.
const_left : (f : Fields) → is Clock f ≡ false → (is Const f || is Clock f) ≡ true → is Const f ≡ true
const_left f e k = ⊎_elim (λ q. q) (λ q. absurd (true≢false (sym q ∙ e))) (or_cases (is Const f) (is Clock f) k)

-- So without Clocks only Consts do.
module _ (file : List ℕ) (T : Tables) (a : load_verdict file T ≡ Ok tt) (none : Clockless (record_at file) (record_count file)) where
  abbrev stands : ℕ → Bool
  stands x = is Const (fields_of (record_at file x)) || is Clock (fields_of (record_at file x))

  abbrev L : Tables
  L = load_tables file T

  stands_const : (x : ℕ) → In x (keep stands (primitives (record_at file) (record_count file)))
      → is Const (fields_at L (flat (record_at file) (record_count file) x)) ≡ true
  stands_const x m =
      let k = keep_sound stands x (primitives (record_at file) (record_count file)) m in
      let p = primitives_before-sound (record_at file) (record_count file) x (record_count file) k.1 in
      ap (is Const) ((accepted_drawn file T a L (same_wiring-none L)).fields x p.0)
      ∙ const_left (fields_of (record_at file x)) (none x (p.1, p.0)) k.0

  pub load_consts : (d : ℕ) → In d (standing_list (load_tables file T)) → is Const (fields_at (load_tables file T) d) ≡ true
  load_consts d m =
      let r = map_sound (flat (record_at file) (record_count file)) d (keep stands (primitives (record_at file) (record_count file)))
      (subst (λ (l : List ℕ). In d l) (accepted_standing file T a) m) in
      subst (λ (j : ℕ). is Const (fields_at L j) ≡ true) (sym r.2) (stands_const r.0 r.1)
