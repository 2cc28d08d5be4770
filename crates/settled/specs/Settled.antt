-- When a drawing settles, stated on the drawing: its records say which primitives there are and what leads where; the tables only hold the values.
-- docs/SPECIFICATION.md, "When will it settle".
--   HasCycle, IsMost         the drawing's wires form a cycle; D is the most primitives on any chain of its wires
--   Clockless                "drawings without Clocks"
--   Unedited file k t T      tables that calls other than edits reach from a load: k rounds since, the last at time t
--   Among                    "those with the same switch outputs and the same values at inputs without a wire"
--   Settling                 the statement
--   OrderStored              a round that is handed the stored order is a round
-- Assumes nothing.
use Rattle.std.specs.Prelude.{◌≡◌, ℕ, ◌+◌, ◌≤◌, ◌<◌, Bool, true, false, cond, ◌&&◌, List, length, get_or, eqb}
use Rattle.lists.specs.Lists.{from}
use Rattle.kinds.specs.declared.Kind.TheVariants.{Switch, Clock}
use Rattle.kinds.specs.Kinds.{is}
use Rattle.component.specs.declared.Record.{Record}
use Rattle.component.specs.Record.{IsBytes, record_at, record_count, fields_of, inputs_of, outputs_of, is_primitive}
use Rattle.component.specs.Drawing.{inputs_before, outputs_before}
use Rattle.flatten.specs.declared.Pin.{Pin}
use Rattle.flatten.specs.Leads.{Leads}
use Rattle.tables.specs.Tables.{Tables, numbers}
use Rattle.load.specs.Load.{load_verdict, load_tables}
use Rattle.rounds.specs.Round.{order_list, calm}
use Rattle.simulator.specs.Calls.{after, round_number, round_call, round_moved, run}
use Rattle.simulator.specs.Ordered.{ordered_number, ordered_tables, ordered_moved}
use Rattle.chains.specs.Chains.{Cycle, Most, Values, values_of, with_values, larger, longest}
use Rattle.demands.specs.Reached.{Call, rounded, edited, until_calm, ordered, call_number, call_tables, is_round, call_time}
use Rattle.demands.specs.Demand.{Satisfied}
use Rattle.std.specs.Prelude.{Ok}

module _ (at : ℕ → Record) (n : ℕ) where
  -- A primitive of the drawing.
  abbrev pub There : ℕ → Type 0
  There x = (x < n) × (is_primitive (at x) ≡ true)

  -- The drawing leads from an output of x to an input of y: that is a wire.
  abbrev pub Joined : ℕ → ℕ → Type 0
  Joined x y = (s : Pin) × (d : Pin) × Leads at n s d × (s.comp ≡ x) × (d.comp ≡ y)

  abbrev pub HasCycle : Type 0
  HasCycle = Cycle There Joined

  abbrev pub IsMost : ℕ → Type 0
  IsMost D = Most There Joined D

  abbrev pub Clockless : Type 0
  Clockless = (x : ℕ) → There x → is Clock (fields_of (at x)) ≡ false

  -- v has a number for each port, the switch outputs of T, and T's values at inputs that no wire enters.
  pub record Among (T : Tables) (v : Values) : Type 0 where
    pub inputs_length : length v.inputs ≡ T.counts.inputs
    pub outputs_length : length v.outputs ≡ T.counts.outputs
    pub switches : (x : ℕ) → There x → is Switch (fields_of (at x)) ≡ true
        → numbers v.outputs (outputs_before at x) (outputs_of (at x)) ≡ numbers T.outputs (outputs_before at x) (outputs_of (at x))
    pub loose : (d : Pin) → There d.comp → d.port < inputs_of (at d.comp) → ((s : Pin) → Leads at n s d → ⊥)
        → get_or v.inputs (inputs_before at d.comp + d.port) 0 ≡ get_or T.inputs (inputs_before at d.comp + d.port) 0

-- "With no edit since load": any other calls, refused ones too.
abbrev pub is_edit : Call → Bool
is_edit (rounded u bits) = false
is_edit (edited way i v) = true
is_edit (until_calm u limit) = false
is_edit (ordered u order bits) = false

-- The rounds that a call runs: one that is refused runs none.
abbrev pub rounds_run : Call → Tables → ℕ
rounds_run (rounded u bits) T = after (call_number (rounded u bits) T) 1 0
rounds_run (edited way i v) T = 0
rounds_run (until_calm u limit) T = after (call_number (until_calm u limit) T) (run limit u T).rounds 0
rounds_run (ordered u order bits) T = after (call_number (ordered u order bits) T) 1 0

pub data Unedited (file : List ℕ) : ℕ → ℕ → Tables → Type 0 where
  loaded : (T : Tables) → IsBytes file → load_verdict file T ≡ Ok tt → Unedited file 0 0 (load_tables file T)
  called : {k t : ℕ} {T : Tables} (c : Call) → is_edit c ≡ false → Unedited file k t T
      → Unedited file (k + rounds_run c T) (cond (is_round c && eqb (call_number c T) 0) (call_time c) t) (call_tables c T)

-- For an accepted drawing without Clocks whose wires form no cycle, D is `longest`. "With no edit since load, the state is calm .. after max(D, 2) rounds
-- and stays so": after as many or more, each in stored order or in one handed to it. "the port values then are the only ones that satisfy the drawing among
-- those with the same switch outputs and the same values at inputs without a wire".
abbrev pub Settling : Type 0
Settling =
    (file : List ℕ) (k t : ℕ) (T : Tables) → Unedited file k t T
    → Clockless (record_at file) (record_count file) → (HasCycle (record_at file) (record_count file) → ⊥)
    → IsMost (record_at file) (record_count file) (longest T)
    × (larger (longest T) 2 ≤ k
    → (calm T ≡ true) × Satisfied (record_at file) (record_count file) T t
    × ((v : Values) → Among (record_at file) (record_count file) T v → Satisfied (record_at file) (record_count file) (with_values T v) t
    → v ≡ values_of T))

-- For any tables, bits and time: an order table of 1,024 words or more that starts with 0, 1, 2 and so on, one for each wire, gives the number, the tables
-- and the bits of a round.
abbrev pub OrderStored : Type 0
OrderStored =
    (T : Tables) (order bits : List ℕ) (t : ℕ) → 1024 ≤ length order → order_list T.counts.wires order ≡ from 0 T.counts.wires
    → (ordered_number T order bits ≡ round_number T bits) × (ordered_tables T order bits t ≡ round_call T bits t)
    × (ordered_moved T order bits t ≡ round_moved T bits t)
