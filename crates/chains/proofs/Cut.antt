-- The port tables of a net cut to the counts: they have a number for each port, the same at each port, and satisfy the net where its tables do.
-- Assumes nothing.
use mathlib.Core.Path.{◌≡◌, sym, ap, ◌∙◌}
use mathlib.Core.List.{List}
use Prim.Native.Nat.{ℕ, ◌+◌, ◌≤◌, ◌<◌}
use native.Mathlib.Omega.{arith}
use lib.ListN.{length, get_or, take}
use lib.Seq.{get_or-take, length-take-le}
use Rattle.primitive.specs.Evaluate.{function_of}
use Rattle.tables.specs.Tables.{Tables, fields_at, first_input, first_output, numbers, inputs_at, outputs_at}
use Rattle.net.specs.Net.{net_number}
use Rattle.net.proofs.ClausesLaws.{ports_follow-inputs, ports_follow-outputs}
use Rattle.net.proofs.NetLaws.{Net, net_number-net, net_number-sizes}
use Rattle.rounds.proofs.Ports.{numbers_cong}
use Rattle.rounds.proofs.Sound.{input_count, output_count, Sound, net_sound, net_within}
use Rattle.quiet.proofs.Obeyed.{SatisfiedAt}
use Rattle.chains.specs.Chains.{values_of, with_values}

numbers_take : (c : ℕ) (l : List ℕ) (a k : ℕ) → a + k ≤ c → c ≤ length l → numbers (take c l) a k ≡ numbers l a k
numbers_take c l a k h u =
    numbers_cong (take c l) l a k (omega (arith, length-take-le c l u)) (omega arith)
    (λ i q. get_or-take c l (a + i) 0 (omega arith))

module _ (T : Tables) (z : net_number T ≡ 0) where
  g : Sound T
  g = net_sound T z

  clauses : Net T
  clauses = net_number-net T z

  inputs_long : T.counts.inputs ≤ length T.inputs
  inputs_long = omega (arith, (net_within T z).inputs, (net_number-sizes T z).inputs)

  outputs_long : T.counts.outputs ≤ length T.outputs
  outputs_long = omega (arith, (net_within T z).outputs, (net_number-sizes T z).outputs)

  pub cut_inputs_length : length (values_of T).inputs ≡ T.counts.inputs
  cut_inputs_length = length-take-le T.counts.inputs T.inputs inputs_long

  pub cut_outputs_length : length (values_of T).outputs ≡ T.counts.outputs
  cut_outputs_length = length-take-le T.counts.outputs T.outputs outputs_long

  -- At the ports of a component, all of one side or one.
  module _ (i : ℕ) (h : i < T.counts.components) where
    pub cut_inputs : inputs_at T (values_of T).inputs i ≡ inputs_at T T.inputs i
    cut_inputs =
        numbers_take T.counts.inputs T.inputs (first_input T i) (fields_at T i).inputs (ports_follow-inputs T clauses.ports i h) inputs_long

    pub cut_outputs : outputs_at T (values_of T).outputs i ≡ outputs_at T T.outputs i
    cut_outputs =
        numbers_take T.counts.outputs T.outputs (first_output T i) (fields_at T i).outputs (ports_follow-outputs T clauses.ports i h) outputs_long

    pub cut_input : (p : ℕ) → p < input_count T i → get_or (values_of T).inputs (first_input T i + p) 0 ≡ get_or T.inputs (first_input T i + p) 0
    cut_input p u = get_or-take T.counts.inputs T.inputs (first_input T i + p) 0 (omega (arith, ports_follow-inputs T clauses.ports i h))

    pub cut_output : (p : ℕ) → p < output_count T i → get_or (values_of T).outputs (first_output T i + p) 0 ≡ get_or T.outputs (first_output T i + p) 0
    cut_output p u = get_or-take T.counts.outputs T.outputs (first_output T i + p) 0 (omega (arith, ports_follow-outputs T clauses.ports i h))

  pub satisfied_cut : (t : ℕ) → SatisfiedAt T t → SatisfiedAt (with_values T (values_of T)) t
  satisfied_cut t s =
      record {
        equal = λ w m.
            cut_output w.src.comp.0 (g.source w m) w.src.port (g.source_port w m) ∙ s.equal w m
            ∙ sym (cut_input w.dst.comp.0 (g.target w m) w.dst.port (g.target_port w m));
        follow = λ i h e.
            cut_outputs i h ∙ s.follow i h e
            ∙ ap (λ (xs : List ℕ). function_of (fields_at T i) xs t) (sym (cut_inputs i h));
      }
