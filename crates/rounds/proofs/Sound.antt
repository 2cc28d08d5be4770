-- What the components and the wires of a net are: the part of "the tables are a net" that no round and no edit writes.
--   Sound T   components obey the table of kinds, their ports stand apart, wires have ends that exist, no input has two
-- Assumes nothing.
use mathlib.Core.Path.{◌≡◌, refl}
use mathlib.Core.Logic.{◌⊎◌, inl, inr}
use mathlib.Core.Bool.{Bool, true, false, ◌&&◌}
use Prim.Native.Nat.{ℕ, ◌+◌, ◌≤◌, ◌<◌}
use native.Mathlib.Omega.{arith}
use native.Mathlib.Decide.{dec_lt}
use lib.ListN.{length}
use Rattle.lists.specs.Lists.{from}
use Rattle.lists.proofs.MembersLaws.{In, map_complete, from0_complete}
use Rattle.lists.proofs.NamesLaws.{distinct_key}
use Rattle.kinds.specs.declared.Kind.TheVariants.{Clock}
use Rattle.kinds.specs.Kinds.{is, primitive, obeys, input_width, output_width}
use Rattle.tables.specs.declared.Wire.{Wire}
use Rattle.tables.specs.Tables.{Tables, full_size, fields_at, first_input, first_output, input_place, output_place, wire_at, wires_in}
use Rattle.tables.proofs.SizesLaws.{Full, full_size-sound}
use Rattle.net.specs.Net.{is_output, is_input, is_net, net_number}
use Rattle.net.proofs.ClausesLaws.{Within, counts_within-sound, kinds_obeyed-at, ports_follow-inputs, ports_follow-outputs, ports_follow-inputs_apart, ports_follow-outputs_apart}
use Rattle.net.proofs.NetLaws.{Net, is_net-sound, is_output-comp, is_output-port, is_input-comp, is_input-port, wires_fit-source, wires_fit-target, wires_fit-widths, inputs_once-sound, net_number-full, net_number-is_net, net_number-net, net_number-sizes}
use Rattle.rounds.proofs.Ports.{Off}
use Rattle.rounds.proofs.Evaluation.{clock_inputs}

-- How many outputs component i has, and how many inputs.
abbrev pub output_count : Tables → ℕ → ℕ
output_count T i = (fields_at T i).outputs

abbrev pub input_count : Tables → ℕ → ℕ
input_count T i = (fields_at T i).inputs

-- Where the outputs of component i end in their table, and its inputs in theirs.
abbrev pub outputs_end : Tables → ℕ → ℕ
outputs_end T i = first_output T i + output_count T i

abbrev pub inputs_end : Tables → ℕ → ℕ
inputs_end T i = first_input T i + input_count T i

-- Ports of components i and j stand apart, where those of component i start at `first i` and are `count i`.
abbrev pub Beside : (ℕ → ℕ) → (ℕ → ℕ) → ℕ → ℕ → Type 0
Beside first count i j = (first i + count i ≤ first j) ⊎ (first j + count j ≤ first i)

pub record Sound (T : Tables) : Type 0 where
  pub few : T.counts.components ≤ 256
  pub obeyed : (i : ℕ) → i < T.counts.components → (primitive (fields_at T i) && obeys (fields_at T i)) ≡ true
  pub inputs_apart : (i j : ℕ) → i < j → j < T.counts.components → inputs_end T i ≤ first_input T j
  pub outputs_apart : (i j : ℕ) → i < j → j < T.counts.components → outputs_end T i ≤ first_output T j
  pub inputs_in : (i : ℕ) → i < T.counts.components → inputs_end T i ≤ length T.inputs
  pub outputs_in : (i : ℕ) → i < T.counts.components → outputs_end T i ≤ length T.outputs
  pub source : (w : Wire) → In w (wires_in T) → w.src.comp.0 < T.counts.components
  pub source_port : (w : Wire) → In w (wires_in T) → w.src.port < (fields_at T w.src.comp.0).outputs
  pub target : (w : Wire) → In w (wires_in T) → w.dst.comp.0 < T.counts.components
  pub target_port : (w : Wire) → In w (wires_in T) → w.dst.port < (fields_at T w.dst.comp.0).inputs
  pub widths : (w : Wire) → In w (wires_in T)
      → output_width (fields_at T w.src.comp.0) ≡ input_width (fields_at T w.dst.comp.0)
  pub once : (w x : Wire) → In w (wires_in T) → In x (wires_in T) → input_place T w.dst ≡ input_place T x.dst → w ≡ x

-- The tables of a net are sound.
module _ (T : Tables) (full : full_size T ≡ true) (net : is_net T ≡ true) where
  sizes : Full T
  sizes = full_size-sound T full

  clauses : Net T
  clauses = is_net-sound T net

  counts : Within T.counts
  counts = counts_within-sound T.counts clauses.counts

  leaves : (w : Wire) → In w (wires_in T) → is_output T w.src ≡ true
  leaves = wires_fit-source T clauses.wires

  enters : (w : Wire) → In w (wires_in T) → is_input T w.dst ≡ true
  enters = wires_fit-target T clauses.wires

  pub is_net-wiring : Sound T
  is_net-wiring =
      record {
        few = counts.components;
        obeyed = kinds_obeyed-at T clauses.kinds;
        inputs_apart = ports_follow-inputs_apart T clauses.ports;
        outputs_apart = ports_follow-outputs_apart T clauses.ports;
        inputs_in = λ i h. omega (arith, ports_follow-inputs T clauses.ports i h, counts.inputs, sizes.inputs);
        outputs_in = λ i h. omega (arith, ports_follow-outputs T clauses.ports i h, counts.outputs, sizes.outputs);
        source = λ w h. is_output-comp T w.src (leaves w h);
        source_port = λ w h. is_output-port T w.src (leaves w h);
        target = λ w h. is_input-comp T w.dst (enters w h);
        target_port = λ w h. is_input-port T w.dst (enters w h);
        widths = wires_fit-widths T clauses.wires;
        once = λ w x.
            distinct_key (λ (v : Wire). input_place T v.dst) (wires_in T) w x (inputs_once-sound T clauses.once);
      }

-- The same of tables whose number is 0. Their counts are within the limits, and each list has room for its count.
module _ (T : Tables) (z : net_number T ≡ 0) where
  pub net_sound : Sound T
  net_sound = is_net-wiring T (net_number-full T z) (net_number-is_net T z)

  pub net_within : Within T.counts
  net_within = counts_within-sound T.counts (net_number-net T z).counts

  pub current_in : T.counts.current ≤ length T.current
  current_in = omega (arith, net_within.current, (net_number-sizes T z).current)

  pub following_in : T.counts.following ≤ length T.following
  following_in = omega (arith, net_within.following, (net_number-sizes T z).following)

  pub standing_in : T.counts.standing ≤ length T.standing
  standing_in = omega (arith, net_within.standing, (net_number-sizes T z).standing)

-- Wire k is one of the wires.
pub wire_in_lem : (T : Tables) (k : ℕ) → k < T.counts.wires → In (wire_at T k) (wires_in T)
wire_in_lem T k h = map_complete (wire_at T) k (from 0 T.counts.wires) (from0_complete T.counts.wires k h)

-- Ports of n components, those of each behind those of the one before.
module _ (first count : ℕ → ℕ) (n : ℕ) (apart : (i j : ℕ) → i < j → j < n → first i + count i ≤ first j) where
  -- Those of two components stand apart.
  beside : (i j : ℕ) → i < n → j < n → (j ≡ i → ⊥) → Beside first count i j
  beside i j h l ne = by_order (dec_lt i j) (dec_lt j i)
    where
      by_order : Dec (i < j) → Dec (j < i) → Beside first count i j
      by_order (yes a) b = inl (apart i j a l)
      by_order (no a) (yes b) = inr (apart j i b h)
      by_order (no a) (no b) = absurd (ne (omega arith))

  -- A port of one component is none of another's.
  off : (i j p : ℕ) → i < n → j < n → (j ≡ i → ⊥) → p < count j → Off (first i) (count i) (first j + p)
  off i j p h l ne q = by_side (beside i j h l ne)
    where
      by_side : Beside first count i j → Off (first i) (count i) (first j + p)
      by_side (inl a) = inr (omega arith)
      by_side (inr a) = inl (omega arith)

-- Where ports of two components stand.
module _ (T : Tables) (g : Sound T) where
  abbrev n : ℕ
  n = T.counts.components

  pub outputs_beside : (i j : ℕ) → i < n → j < n → (j ≡ i → ⊥) → Beside (first_output T) (output_count T) i j
  outputs_beside = beside (first_output T) (output_count T) n g.outputs_apart

  -- An output of one component is none of another's, and an input none of another's.
  pub output_off : (i j p : ℕ) → i < n → j < n → (j ≡ i → ⊥) → p < output_count T j
      → Off (first_output T i) (output_count T i) (first_output T j + p)
  output_off = off (first_output T) (output_count T) n g.outputs_apart

  pub input_off : (i j p : ℕ) → i < n → j < n → (j ≡ i → ⊥) → p < input_count T j
      → Off (first_input T i) (input_count T i) (first_input T j + p)
  input_off = off (first_input T) (input_count T) n g.inputs_apart

  -- So a wire's output is none of another component's, and its input none of another's.
  pub outputs_off : (i : ℕ) (w : Wire) → i < n → In w (wires_in T) → (w.src.comp.0 ≡ i → ⊥)
      → Off (first_output T i) (output_count T i) (output_place T w.src)
  outputs_off i w h m ne = output_off i w.src.comp.0 w.src.port h (g.source w m) ne (g.source_port w m)

  pub inputs_off : (i : ℕ) (w : Wire) → i < n → In w (wires_in T) → (w.dst.comp.0 ≡ i → ⊥)
      → Off (first_input T i) (input_count T i) (input_place T w.dst)
  inputs_off i w h m ne = input_off i w.dst.comp.0 w.dst.port h (g.target w m) ne (g.target_port w m)

  -- A wire's output is there to be read, and its input to be written.
  pub output_room : (w : Wire) → In w (wires_in T) → output_place T w.src < length T.outputs
  output_room w m = omega (arith, g.source_port w m, g.outputs_in w.src.comp.0 (g.source w m))

  pub input_room : (w : Wire) → In w (wires_in T) → input_place T w.dst < length T.inputs
  input_room w m = omega (arith, g.target_port w m, g.inputs_in w.dst.comp.0 (g.target w m))

  -- The target of a wire has an input, so it is no Clock.
  pub target_unclocked : (w : Wire) → In w (wires_in T) → is Clock (fields_at T w.dst.comp.0) ≡ false
  target_unclocked w m = by_test (is Clock (fields_at T w.dst.comp.0)) refl
    where
      by_test : (b : Bool) → is Clock (fields_at T w.dst.comp.0) ≡ b → b ≡ false
      by_test true e =
          let none = clock_inputs (fields_at T w.dst.comp.0) (g.obeyed w.dst.comp.0 (g.target w m)) e in
          absurd (omega (arith, g.target_port w m, none))
      by_test false e = refl
