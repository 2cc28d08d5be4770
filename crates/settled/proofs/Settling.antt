-- A drawing without Clocks and without a cycle settles: the lists of its tables are empty after max(D, 2) rounds from the load (crate chains), so it is calm,
-- so the drawing is satisfied (crate demands); and along its chains the switch outputs and the inputs without a wire fix every port value.
-- Assumes nothing.
use mathlib.Core.Path.{◌≡◌, sym, ◌∙◌}
use mathlib.Core.Bool.{true, ◌&&◌}
use mathlib.Core.List.{List, []}
use Prim.Native.Nat.{ℕ, ◌≤◌}
use native.Mathlib.Omega.{arith}
use Rattle.component.specs.Record.{record_at, record_count}
use Rattle.tables.specs.Tables.{Tables, current_list, following_list, standing_list}
use Rattle.tables.proofs.SameLaws.{SameWiring, same_wiring-none}
use Rattle.net.specs.Net.{net_number}
use Rattle.load.specs.Load.{load_tables}
use Rattle.rounds.specs.Round.{only_clocks, calm}
use Rattle.rounds.proofs.Sound.{net_sound}
use Rattle.quiet.proofs.Since.{Fresh}
use Rattle.chains.specs.Chains.{Most, Values, values_of, with_values, IsIndex, Joins, larger, longest}
use Rattle.chains.proofs.Longest.{larger_left, larger_right, longest_most}
use Rattle.chains.proofs.Settle.{ran_net, ran_wiring, settles}
use Rattle.chains.proofs.Unique.{unique}
use Rattle.chains.proofs.Cut.{cut_inputs_length, cut_outputs_length, cut_outputs, cut_input, satisfied_cut}
use Rattle.demands.specs.Demand.{Satisfied}
use Rattle.demands.proofs.Demand3.{load_fresh, satisfied_at}
use Rattle.demands.proofs.Calm.{calm_satisfied}
use Rattle.settled.specs.Settled.{HasCycle, Clockless, Among, Settling}
use Rattle.settled.proofs.Drawn.{cycle_drawn, most_drawn, clockless_tables, among_switches, among_loose, load_consts}
use Rattle.settled.proofs.Rounds.{RoundsFrom, rounds_from}

-- A bound of the larger of two bounds both.
larger_within : {a b k : ℕ} → larger a b ≤ k → (a ≤ k) × (b ≤ k)
larger_within {a} {b} h = (omega (arith, larger_left a b), omega (arith, larger_right a b))

-- Empty lists are calm.
calm_empty : (T : Tables) → current_list T ≡ [] → following_list T ≡ [] → standing_list T ≡ [] → calm T ≡ true
unfolding calm
calm_empty T c f s = λ i. only_clocks T (c i) && only_clocks T (f i) && only_clocks T (s i)

-- Other values at the ports leave the wiring.
values_wiring : (L T : Tables) (v : Values) → SameWiring L T → SameWiring L (with_values T v)
values_wiring L T v a =
    record {
      components = a.components;
      wires = a.wires;
      component_count = a.component_count;
      input_count_lem = a.input_count_lem;
      output_count_lem = a.output_count_lem;
      wire_count = a.wire_count;
    }

module _ (file : List ℕ) (k t : ℕ) (T : Tables) (f : RoundsFrom file k t T) (acyclic : HasCycle (record_at file) (record_count file) → ⊥) where
  abbrev L : Tables
  L = load_tables file f.lent

  fresh : Fresh L
  fresh = load_fresh file f.lent f.bytes f.accepted

  net : net_number T ≡ 0
  net = ran_net L fresh.net f.rounds

  wiring : SameWiring L T
  wiring = ran_wiring L f.rounds

  most : Most (IsIndex T) (Joins T) (longest T)
  most = longest_most T (net_sound T net) (λ c. acyclic (cycle_drawn file f.lent f.accepted T wiring c))

  module _ (clockless : Clockless (record_at file) (record_count file)) (long : longest T ≤ k) (two : 2 ≤ k) where
    empty : (current_list T ≡ []) × (following_list T ≡ []) × (standing_list T ≡ [])
    empty =
        settles L fresh (clockless_tables file f.lent f.accepted L (same_wiring-none L) clockless)
        (load_consts file f.lent f.accepted clockless) (longest T) f.rounds most.bound long two

    settled_calm : calm T ≡ true
    settled_calm = calm_empty T empty.0 empty.1 empty.2

    settled_satisfied : Satisfied (record_at file) (record_count file) T t
    settled_satisfied = calm_satisfied file t T (rw (f.once (omega arith)) at f.reached) settled_calm

    settled_only : (v : Values) → Among (record_at file) (record_count file) T v → Satisfied (record_at file) (record_count file) (with_values T v) t
        → v ≡ values_of T
    settled_only v m s =
        unique T net t v (values_of T) m.inputs_length m.outputs_length
        (cut_inputs_length T net) (cut_outputs_length T net)
        (satisfied_at file f.lent f.accepted (with_values T v) (values_wiring L T v wiring) t s)
        (satisfied_cut T net t (satisfied_at file f.lent f.accepted T wiring t settled_satisfied))
        (λ i h e. among_switches file f.lent f.accepted T wiring v m i h e ∙ sym (cut_outputs T net i h))
        (λ i p h u none. among_loose file f.lent f.accepted T wiring v m i p h u none ∙ sym (cut_input T net i h p u))
        (longest T) most.bound

-- For an accepted drawing without Clocks whose wires form no cycle, `longest` is the most primitives on any chain of wires; and after max(D, 2) rounds or
-- more with no edit since the load, in whatever orders, it is calm and satisfied, with the only port values that could satisfy it.
pub settling : Settling
settling file k t T r clockless acyclic =
    let f = rounds_from file r in (
      most_drawn file f.lent f.accepted T (wiring file k t T f acyclic) (longest T) (most file k t T f acyclic),
      λ enough.
          let e = larger_within enough in (
            settled_calm file k t T f acyclic clockless e.0 e.1,
            settled_satisfied file k t T f acyclic clockless e.0 e.1,
            settled_only file k t T f acyclic clockless e.0 e.1,
          ),
    )
