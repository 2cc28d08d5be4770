-- Where no chain of wires is longer than D, the values that satisfy a net are fixed by the switch outputs and the values at inputs without a wire, Clocks taken
-- at one time: along chains each component's inputs come from components that chains reach before it.
-- Assumes nothing.
use mathlib.Core.Path.{◌≡◌, refl, sym, ap, ◌∙◌, subst}
use mathlib.Core.Bool.{Bool, true, false, true≢false}
use mathlib.Core.List.{List, [], ◌∷◌}
use Prim.Native.Nat.{ℕ, zero, suc, ◌+◌, ◌-◌, ◌≤◌, ◌<◌}
use native.Mathlib.Omega.{arith}
use native.Mathlib.Decide.{ℕ_discrete, dec_lt}
use borrow.Author.Tests.{eq-eqb, eqb-true}
use lib.ListN.{length, get_or}
use lib.Seq.{ext_get_or}
use lib.Dec.{eqb}
use Rattle.lists.specs.Lists.{from, any, total}
use Rattle.lists.proofs.MembersLaws.{In, any_none, total_append, from_last}
use Rattle.kinds.specs.declared.Kind.TheVariants.{Switch}
use Rattle.kinds.specs.Kinds.{is}
use Rattle.primitive.specs.Evaluate.{function_of}
use Rattle.tables.specs.declared.Wire.{Wire}
use Rattle.tables.specs.Tables.{Tables, fields_at, first_input, first_output, input_place, outputs_at, wires_in}
use Rattle.net.specs.Net.{net_number}
use Rattle.net.proofs.ClausesLaws.{ports_follow-input_count, ports_follow-output_count, ports_follow-first_input, ports_follow-first_output, ports_follow-inputs, ports_follow-outputs}
use Rattle.net.proofs.NetLaws.{Net, net_number-net}
use Rattle.rounds.proofs.Ports.{off_apart, numbers_at, numbers_cong}
use Rattle.rounds.proofs.Sound.{input_count, output_count, Sound, net_sound, inputs_off}
use Rattle.quiet.proofs.Obeyed.{SatisfiedAt}
use Rattle.chains.specs.Chains.{Chain, Values, with_values, IsIndex, Joins}
use Rattle.chains.proofs.Joints.{wire_found, Deep, deep_one, deep_wire}

-- Each number below a sum belongs to one of its parts.
total_part : (f : ℕ → ℕ) (n j : ℕ) → j < total f (from 0 n) → (i : ℕ) × (i < n) × (total f (from 0 i) ≤ j) × (j < total f (from 0 i) + f i)
total_part f zero j h = absurd (omega arith)
total_part f (suc n) j h = by_place (dec_lt j (total f (from 0 n))) (λ l. total_part f n j l)
  where
    Part : ℕ → Type 0
    Part m = (i : ℕ) × (i < m) × (total f (from 0 i) ≤ j) × (j < total f (from 0 i) + f i)

    more : total f (from 0 (suc n)) ≡ total f (from 0 n) + f n
    more = ap (total f) (from_last n) ∙ total_append f (from 0 n) (n ∷ []) ∙ omega arith

    by_place : Dec (j < total f (from 0 n)) → (j < total f (from 0 n) → Part n) → Part (suc n)
    by_place (yes l) later = let r = later l in (r.0, omega (arith, r.1), r.2, r.3)
    by_place (no l) later = (n, omega arith, omega arith, omega (arith, more))

module _ (T : Tables) (z : net_number T ≡ 0) where
  abbrev n : ℕ
  n = T.counts.components

  g : Sound T
  g = net_sound T z

  clauses : Net T
  clauses = net_number-net T z

  -- Each place of a table of ports, below the count, is a port.
  pub input_port : (j : ℕ) → j < T.counts.inputs → (i : ℕ) × (p : ℕ) × (i < n) × (p < input_count T i) × (j ≡ first_input T i + p)
  input_port j h =
      let r = total_part (input_count T) n j (omega (arith, ports_follow-input_count T clauses.ports)) in
      let e = ports_follow-first_input T clauses.ports r.0 r.1 in
      (r.0, j - first_input T r.0, r.1, omega (arith, r.2, r.3, e), omega (arith, r.2, e))

  pub output_port : (j : ℕ) → j < T.counts.outputs → (i : ℕ) × (p : ℕ) × (i < n) × (p < output_count T i) × (j ≡ first_output T i + p)
  output_port j h =
      let r = total_part (output_count T) n j (omega (arith, ports_follow-output_count T clauses.ports)) in
      let e = ports_follow-first_output T clauses.ports r.0 r.1 in
      (r.0, j - first_output T r.0, r.1, omega (arith, r.2, r.3, e), omega (arith, r.2, e))

  -- Values v and x that satisfy the net, with the same switch outputs and the same values at inputs that no wire enters.
  module _ (t : ℕ) (v x : Values) (vi : length v.inputs ≡ T.counts.inputs) (vo : length v.outputs ≡ T.counts.outputs)
      (xi : length x.inputs ≡ T.counts.inputs) (xo : length x.outputs ≡ T.counts.outputs)
      (sv : SatisfiedAt (with_values T v) t) (sx : SatisfiedAt (with_values T x) t)
      (switches : (i : ℕ) → i < T.counts.components → is Switch (fields_at T i) ≡ true → outputs_at T v.outputs i ≡ outputs_at T x.outputs i)
      (loose : (i p : ℕ) → i < T.counts.components → p < input_count T i
      → ((w : Wire) → In w (wires_in T) → input_place T w.dst ≡ first_input T i + p → ⊥)
      → get_or v.inputs (first_input T i + p) 0 ≡ get_or x.inputs (first_input T i + p) 0) where
    abbrev SameOutputs : ℕ → Type 0
    SameOutputs i = outputs_at T v.outputs i ≡ outputs_at T x.outputs i

    one_output : (i p : ℕ) → i < n → p < output_count T i → SameOutputs i
        → get_or v.outputs (first_output T i + p) 0 ≡ get_or x.outputs (first_output T i + p) 0
    one_output i p h u e =
        let room = ports_follow-outputs T clauses.ports i h in
        sym (numbers_at v.outputs (first_output T i) (fields_at T i).outputs (omega (arith, vo, room)) p u)
        ∙ ap (λ (l : List ℕ). get_or l p 0) e
        ∙ numbers_at x.outputs (first_output T i) (fields_at T i).outputs (omega (arith, xo, room)) p u

    -- An input, from the outputs of the wire that enters it, if any does.
    one_input : (i p : ℕ) → i < n → p < input_count T i
        → ((w : Wire) → In w (wires_in T) → w.dst.comp.0 ≡ i → SameOutputs w.src.comp.0)
        → get_or v.inputs (first_input T i + p) 0 ≡ get_or x.inputs (first_input T i + p) 0
    one_input i p h u before = by_wire (any enters (wires_in T)) refl
      where
        enters : Wire → Bool
        enters w = eqb (input_place T w.dst) (first_input T i + p)

        ends_here : (w : Wire) → In w (wires_in T) → input_place T w.dst ≡ first_input T i + p → Dec (w.dst.comp.0 ≡ i) → w.dst.comp.0 ≡ i
        ends_here w m e (yes q) = q
        ends_here w m e (no q) =
            absurd (off_apart (first_input T i) (input_count T i) (input_place T w.dst) p (inputs_off T g i w h m q) u (sym e))

        by_wire : (b : Bool) → any enters (wires_in T) ≡ b → get_or v.inputs (first_input T i + p) 0 ≡ get_or x.inputs (first_input T i + p) 0
        by_wire false e =
            loose i p h u (λ w m q. true≢false (sym (eq-eqb (input_place T w.dst) (first_input T i + p) q) ∙ any_none enters w (wires_in T) e m))
        by_wire true e =
            let r = wire_found T enters e in
            let w = r.0 in
            let q : input_place T w.dst ≡ first_input T i + p = eqb-true (input_place T w.dst) (first_input T i + p) r.2 in
            let d = ends_here w r.1 q (ℕ_discrete w.dst.comp.0 i) in
            subst (λ (j : ℕ). get_or v.inputs j 0 ≡ get_or x.inputs j 0) q
            (sym (sv.equal w r.1)
            ∙ one_output w.src.comp.0 w.src.port (g.source w r.1) (g.source_port w r.1) (before w r.1 d)
            ∙ sx.equal w r.1)

    -- By the length of the chains that end at i.
    outputs_same : (k i : ℕ) → i < n → ((r : ℕ) → Deep T r i → r ≤ k) → SameOutputs i
    outputs_same zero i h f = absurd (omega (arith, f 1 (deep_one T i h)))
    outputs_same (suc k) i h f =
        by_switch (is Switch (fields_at T i)) refl
        (λ w m e. outputs_same k w.src.comp.0 (g.source w m) (λ r q. omega (arith, f (suc r) (deep_wire T r i w m e q))))
      where
        by_switch : (b : Bool) → is Switch (fields_at T i) ≡ b
            → ((w : Wire) → In w (wires_in T) → w.dst.comp.0 ≡ i → SameOutputs w.src.comp.0) → SameOutputs i
        by_switch true e before = switches i h e
        by_switch false e before =
            let room = ports_follow-inputs T clauses.ports i h in
            sv.follow i h e
            ∙ ap (λ (l : List ℕ). function_of (fields_at T i) l t)
            (numbers_cong v.inputs x.inputs (first_input T i) (fields_at T i).inputs (omega (arith, vi, room)) (omega (arith, xi, room))
            (λ p u. one_input i p h u before))
            ∙ sym (sx.follow i h e)

    -- They are the same.
    pub unique : (D : ℕ) → ((k i j : ℕ) → Chain (IsIndex T) (Joins T) k i j → k ≤ D) → v ≡ x
    unique D most = λ k. record { inputs = same_inputs k; outputs = same_outputs k }
      where
        all : (i : ℕ) → i < n → SameOutputs i
        all i h = outputs_same D i h (λ r q. most r q.0 i q.1)

        same_inputs : v.inputs ≡ x.inputs
        same_inputs =
            ext_get_or 0 v.inputs x.inputs (vi ∙ sym xi)
            (λ j h. let r = input_port j (omega (arith, vi)) in
            subst (λ (q : ℕ). get_or v.inputs q 0 ≡ get_or x.inputs q 0) (sym r.4)
            (one_input r.0 r.1 r.2 r.3 (λ w m e. all w.src.comp.0 (g.source w m))))

        same_outputs : v.outputs ≡ x.outputs
        same_outputs =
            ext_get_or 0 v.outputs x.outputs (vo ∙ sym xo)
            (λ j h. let r = output_port j (omega (arith, vo)) in
            subst (λ (q : ℕ). get_or v.outputs q 0 ≡ get_or x.outputs q 0) (sym r.4)
            (one_output r.0 r.1 r.2 r.3 (all r.0 r.2)))
