-- Demand 3 is met: the invariant that rounds and edits keep on the tables (crate quiet), carried to the drawing by what a load leaves
-- (crate loaded) and by the wires being what the drawing leads to (crate flatten). Assumes nothing.
use mathlib.Core.Path.{◌≡◌, sym, ap, ◌∙◌, subst, transport}
use mathlib.Core.Bool.{Bool, true, ◌||◌}
use mathlib.Core.List.{List}
use Prim.Native.Nat.{ℕ, ◌+◌, ◌<◌}
use lib.ListN.{get_or}
use Rattle.lists.proofs.TestsLaws.{or_second}
use Rattle.lists.specs.Lists.{has, keep}
use Rattle.lists.proofs.MembersLaws.{In, has_complete, map_complete, keep_complete}
use Rattle.kinds.specs.declared.Kind.TheVariants.{Switch, Clock, Const}
use Rattle.kinds.specs.declared.table.Fields.{Fields}
use Rattle.kinds.specs.Kinds.{is}
use Rattle.primitive.specs.Evaluate.{function_of}
use Rattle.component.specs.declared.Record.{Record}
use Rattle.component.specs.Record.{IsBytes, record_at, record_count, fields_of, is_primitive}
use Rattle.component.specs.Drawing.{primitives_before}
use Rattle.flatten.specs.declared.Pin.{Pin}
use Rattle.flatten.specs.Descent.{flat}
use Rattle.flatten.specs.Leads.{From, starts, through, Into, ends, maps, Leads}
use Rattle.flatten.proofs.Primitives.{primitives_before-complete}
use Rattle.tables.specs.Tables.{Tables, fields_at, wires_in, numbers, standing_list, named}
use Rattle.laying.specs.Laid.{flat_pin, standing_at_load}
use Rattle.load.specs.Load.{load_verdict, load_tables}
use Rattle.laying.proofs.FlatWires.{wire}
use Rattle.loaded.proofs.Drawn.{IsDrawn}
use Rattle.loaded.proofs.LoadTheorems.{accepted_net, accepted-full_size, accepted_current, accepted_standing, accepted_following, accepted_drawn, accepted_primitive, accepted_below, accepted_wire_drawn, accepted_leads_wired}
use Rattle.net.proofs.NetLaws.{net_number-0}
use Rattle.tables.proofs.SameLaws.{SameWiring, same_wiring-none}
use Rattle.quiet.proofs.Since.{Fresh}
use Rattle.quiet.proofs.Obeyed.{Equal as EqualAt, Follows as FollowsAt, ObeyedAt, SatisfiedAt, unbroken_obeyed}
use Rattle.demands.proofs.Called.{reached_kept}
use Rattle.demands.specs.Demand.{Equal, Follows, Satisfied, Obeyed, Demand3}
use Rattle.std.specs.Prelude.{Ok}

-- What the drawing leads from and to are ports of primitives.
module _ (at : ℕ → Record) (n : ℕ) where
  pub from_primitive : {c i : ℕ} {s : Pin} → From at n c i s → is_primitive (at s.comp) ≡ true
  from_primitive (starts e u) = rw u e
  from_primitive (through l e r) = from_primitive r

  pub into_primitive : {c i : ℕ} {d : Pin} → Into at n c i d → is_primitive (at d.comp) ≡ true
  into_primitive (ends e u) = rw u e
  into_primitive (maps q l e m r) = into_primitive r

-- A load leaves a net in which every call starts afresh: all components current, every Clock standing.
module _ (file : List ℕ) (T : Tables) (bytes : IsBytes file) (a : load_verdict file T ≡ Ok tt) where
  abbrev L : Tables
  L = load_tables file T

  clock_stands : (i : ℕ) → i < L.counts.components → is Clock (fields_at L i) ≡ true → has i (standing_list L) ≡ true
  clock_stands i h e =
      let p = accepted_primitive file T a L (same_wiring-none L) i h in
      let x = p.number in
      let q : (is Const (fields_of (record_at file x)) || is Clock (fields_of (record_at file x))) ≡ true =
      or_second (is Const (fields_of (record_at file x))) (is Clock (fields_of (record_at file x)))
      (ap (is Clock) (sym p.fields_are) ∙ e) in
      ap (has i) (accepted_standing file T a)
      ∙ has_complete i (standing_at_load (record_at file) (record_count file))
      (subst (λ (j : ℕ). In j (standing_at_load (record_at file) (record_count file))) p.flat_is
      (map_complete (flat (record_at file) (record_count file)) x
      (keep (λ c. is Const (fields_of (record_at file c)) || is Clock (fields_of (record_at file c)))
      (primitives_before (record_at file) (record_count file)))
      (keep_complete (λ c. is Const (fields_of (record_at file c)) || is Clock (fields_of (record_at file c))) x
      (primitives_before (record_at file) (record_count file)) q
      (primitives_before-complete (record_at file) (record_count file) x (record_count file) p.of_primitive p.in_file))))

  pub load_fresh : Fresh L
  load_fresh =
      record {
        net = sym (net_number-0 L (accepted-full_size file T a) (accepted_net file T a bytes));
        current = accepted_current file T a;
        following = accepted_following file T a;
        clocks = clock_stands;
      }

-- What holds of the tables' wires and components holds of the drawing that was loaded.
module _ (file : List ℕ) (T₀ : Tables) (a : load_verdict file T₀ ≡ Ok tt) (T : Tables) (same : SameWiring (load_tables file T₀) T) where
  abbrev at : ℕ → Record
  at = record_at file

  abbrev n : ℕ
  n = record_count file

  drawn : IsDrawn at n T
  drawn = accepted_drawn file T₀ a T same

  fields : (x : ℕ) → is_primitive (at x) ≡ true → fields_at T (flat at n x) ≡ fields_of (at x)
  fields x e = drawn.fields x e

  -- A component of the tables that follows its function is one of the drawing that does, and the other way: its ports stand where the records say.
  follows : (t x : ℕ) → is_primitive (at x) ≡ true → FollowsAt T t (flat at n x) ≡ Follows at n T t x
  follows t x e =
      let o = drawn.first_output_is x e in
      let i = drawn.first_input_is x e in
      let f = fields x e in
      λ k. numbers T.outputs (o k) (f k).outputs ≡ function_of (f k) (numbers T.inputs (i k) (f k).inputs) t

  -- Two ends that are equal in the tables are equal in the drawing, and the other way.
  places : (s d : Pin) → Leads at n s d → EqualAt T (wire (flat_pin at n s) (flat_pin at n d)) ≡ Equal at n T s d
  places s d l =
      let o = drawn.first_output_is s.comp (from_primitive at n l.source_is) in
      let i = drawn.first_input_is d.comp (into_primitive at n l.target_is) in
      λ k. get_or T.outputs (o k + s.port) 0 ≡ get_or T.inputs (i k + d.port) 0

  leads_in : (s d : Pin) → Leads at n s d → In (wire (flat_pin at n s) (flat_pin at n d)) (wires_in T)
  leads_in = accepted_leads_wired file T₀ a T same

  -- The drawing is satisfied where the tables are,
  pub satisfied : (t : ℕ) → SatisfiedAt T t → Satisfied at n T t
  satisfied t s =
      record {
        equal = λ p d l. transport (places p d l) (s.equal (wire (flat_pin at n p) (flat_pin at n d)) (leads_in p d l));
        follow = λ x h e k.
            transport (follows t x e)
            (s.follow (flat at n x) (accepted_below file T₀ a T same x e) (ap (is Switch) (fields x e) ∙ k));
      }

  -- and the tables are where the drawing is.
  pub satisfied_at : (t : ℕ) → Satisfied at n T t → SatisfiedAt T t
  satisfied_at t s =
      record {
        equal = λ w m.
            let r = accepted_wire_drawn file T₀ a T same w m in
            subst (EqualAt T) (sym r.3) (transport (sym (places r.0 r.1 r.2)) (s.equal r.0 r.1 r.2));
        follow = λ i h k.
            let p = accepted_primitive file T₀ a T same i h in
            subst (FollowsAt T t) p.flat_is
            (transport (sym (follows t p.number p.of_primitive))
            (s.follow p.number p.in_file p.of_primitive (ap (is Switch) (sym p.fields_are) ∙ k)));
      }

  module _ (ran : Bool) (t : ℕ) (o : ObeyedAt T ran t) where
    obeyed : Obeyed at n T ran t
    obeyed =
        record {
          differing = λ p d l u.
              o.differing (wire (flat_pin at n p) (flat_pin at n d)) (leads_in p d l) (λ e. u (transport (places p d l) e));
          unfollowed = λ x h e k u.
              o.unfollowed (flat at n x) (accepted_below file T₀ a T same x e)
              (ap (λ (f : Fields). is Switch f || is Clock f) (fields x e) ∙ k) (λ f. u (transport (follows t x e) f));
          settled = λ r only.
              satisfied t
              (o.settled r
              (λ i h m.
              let p = accepted_primitive file T₀ a T same i h in
              ap (is Clock) p.fields_are
              ∙ only p.number p.in_file p.of_primitive (subst (λ (j : ℕ). named T j ≡ true) (sym p.flat_is) m)));
        }

-- Demand 3. For every file that a load accepts, and any rounds at any times, edits and runs until calm after it, refused calls included: no call
-- finds the tables to be no net; wherever the drawing leads from an output to an input of another value, the output's component is in
-- one of the three lists, and so is each component, Switches and Clocks aside, whose outputs are not its function of its inputs; and
-- once a round has run and the lists name only Clocks, the whole drawing is satisfied, Clocks taken at the last round's time.
pub demand3 : Demand3
demand3 file ran t T r =
    let p = reached_kept file (load_fresh file) r in
    let o = p.0 in (
      p.1.net,
      obeyed file o.lent o.accepted T o.wiring ran t (unbroken_obeyed T ran t p.1.net p.1.unbroken),
    )
