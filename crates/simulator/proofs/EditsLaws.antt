-- The number of an edit by its checks; what a net gives an edit that none refuses; the answer and the tables after it.
-- Assumes nothing.
use mathlib.Core.Path.{◌≡◌, refl, sym, ap, ◌∙◌}
use mathlib.Core.Bool.{Bool, true, false, cond, not, ◌&&◌, ◌||◌}
use mathlib.Core.List.{List, [], ◌∷◌}
use Prim.Native.Nat.{ℕ, ◌≤◌, ◌<◌}
use native.Mathlib.Omega.{arith}
use borrow.Author.Tests.{le-leb, lt-leb, leb-false, ne_eqb, not-false}
use lib.ListN.{length, take, set, take-append-drop}
use lib.Seq.{length-take-le}
use lib.Dec.{leb, eqb}
use Rattle.lists.specs.Lists.{refusal, ◌if◌, append_new, overlay, from}
use Rattle.lists.proofs.MembersLaws.{any_map}
use Rattle.tables.specs.declared.Wire.{Wire}
use Rattle.lists.proofs.ListsLaws.{refusal_first, refusal_rest}
use Rattle.lists.proofs.TestsLaws.{and_left}
use Rattle.value.specs.Value.{fits, of_width}
use Rattle.kinds.specs.declared.Kind.TheVariants.{Switch, Input}
use Rattle.kinds.specs.declared.table.Fields.{Fields}
use Rattle.kinds.specs.Kinds.{is, primitive, obeys, input_width, output_width}
use Rattle.kinds.specs.declared.answers.Refusal.{Refusal}
use Rattle.kinds.specs.Given.{Verdict, refusing}
use Rattle.kinds.proofs.GivenLaws.{refusing_err}
use Rattle.tables.specs.declared.Counts.{Counts}
use Rattle.tables.specs.Tables.{Tables, tables_of, fields_at, first_input, first_output, current_list, standing_list, wire_at}
use Rattle.tables.specs.Words.{RowInside, fields_in}
use Rattle.net.specs.Net.{names, net_number, Checks}
use Rattle.net.proofs.NetLaws.{net_number-net, net_number-sizes}
use Rattle.rounds.specs.Round.{State, with_inputs, with_outputs, state_of, leave}
use Rattle.simulator.specs.Edit.{Way, goes_first, stands, port_set, edited_state}
use Rattle.simulator.specs.Calls.{after, driven, edit_number, edit_tables, Edits}
use Rattle.simulator.specs.Asked.{entered, edit_refusal, inputs_set, outputs_set}
use Rattle.rounds.proofs.RoundLaws.{net_rows}
use Rattle.rounds.proofs.Evaluation.{switch_outputs, input_inputs}
use Rattle.rounds.proofs.Sound.{net_sound, net_within, current_in, following_in, standing_in}
use Rattle.rounds.proofs.StepsLaws.{append_room}
use Rattle.net.proofs.NetLaws.{number_refused, number_net, number_passed}
use Rattle.std.specs.Prelude.{Ok, Err}

-- A net's component is driven where one of its wires enters it.
driven_entered : (T : Tables) (i : ℕ) → driven T i ≡ entered T.wires T.counts.wires i
driven_entered T i = any_map (λ (w : Wire). eqb w.dst.comp.0 i) (wire_at T) (from 0 T.counts.wires)

-- On a net: 17; then, of a component that is a Switch or not (s), an Input or not (q), driven or not (d), 18; then, of
-- a value that fits the port or not (b), 19; and 0 where none is given.
module _ (cs : List ℕ) (n : ℕ) (d : Bool) (i v : ℕ) where
  pub edit_17 : n ≤ i → 17 ≡ edit_refusal cs n d i v
  unfolding edit_refusal
  edit_17 h = rw (le-leb n i h)

  module _ (h : i < n) (s q : Bool) (es : s ≡ is Switch (fields_in cs i)) (eq : q ≡ is Input (fields_in cs i)) where
    pub edit_18 : not (s || (q && not d)) ≡ true → 18 ≡ edit_refusal cs n d i v
    unfolding edit_refusal
    edit_18 e = rw (lt-leb n i h, ← es, ← eq, e)

    module _ (e : not (s || (q && not d)) ≡ false) (f : Fields) (w : ℕ) (b : Bool) (ef : f ≡ fields_in cs i)
        (ew : w ≡ cond s (output_width f) (input_width f)) (eb : b ≡ fits (of_width w v)) where
      value : b ≡ fits (of_width (cond s (output_width (fields_in cs i)) (input_width (fields_in cs i))) v)
      value = eb ∙ ap (λ (u : ℕ). fits (of_width u v)) (ew ∙ ap (λ (g : Fields). cond s (output_width g) (input_width g)) ef)

      pub edit_19 : not b ≡ true → 19 ≡ edit_refusal cs n d i v
      unfolding edit_refusal
      edit_19 l = rw (lt-leb n i h, ← es, ← eq, e, ← value, l)

      pub edit_0 : not b ≡ false → 0 ≡ edit_refusal cs n d i v
      unfolding edit_refusal
      edit_0 l = rw (lt-leb n i h, ← es, ← eq, e, ← value, l)

-- On any tables.
module _ (T : Tables) (i v : ℕ) where
  abbrev settable : Bool
  settable = is Switch (fields_at T i) || (is Input (fields_at T i) && not (driven T i))

  abbrev fitting : Bool
  fitting = fits (of_width (cond (is Switch (fields_at T i)) (output_width (fields_at T i)) (input_width (fields_at T i))) v)

  abbrev from_19 : List (ℕ × Bool)
  from_19 = (19 if not fitting) ∷ []

  abbrev from_18 : List (ℕ × Bool)
  from_18 = (18 if not settable) ∷ from_19

  abbrev checks : List (ℕ × Bool)
  checks = (17 if leb T.counts.components i) ∷ from_18

  pub edit_refused : (said : Verdict) (r : Refusal) → Checks T said → said ≡ Err r → ◌≡◌ {A = Verdict} (Err r) (refusing (edit_number T i v))
  unfolding edit_number
  edit_refused said r e f =
      sym f ∙ e ∙ ap refusing (sym (number_refused T (refusal checks) (net_number T) refl (refusing_err (net_number T) said r e f).0))

  pub edit_net : net_number T ≡ 0 → (d : Bool) → d ≡ entered T.wires T.counts.wires i
      → edit_refusal T.components T.counts.components d i v ≡ edit_number T i v
  unfolding edit_number edit_refusal
  edit_net z d e = rw e (sym (number_net T (refusal checks) z ∙ rw (driven_entered T i)))

-- Where none is given: the component and its port are there, and the current and the standing list have room.
module _ (T : Tables) (i v : ℕ) (z : edit_number T i v ≡ 0) where
  pub edit_is_net : net_number T ≡ 0
  unfolding edit_number
  edit_is_net = number_passed T (refusal (checks T i v)) z

  rest : refusal (checks T i v) ≡ 0
  unfolding edit_number
  rest = sym (number_net T (refusal (checks T i v)) edit_is_net) ∙ z

  to_18 : refusal (from_18 T i v) ≡ 0
  to_18 = refusal_rest 17 (leb T.counts.components i) (from_18 T i v) (λ q. omega arith) rest

  to_19 : refusal (from_19 T i v) ≡ 0
  to_19 = refusal_rest 18 (not (settable T i v)) (from_19 T i v) (λ q. omega arith) to_18

  pub edit_there : i < T.counts.components
  edit_there =
      leb-false T.counts.components i
      (refusal_first 17 (leb T.counts.components i) (from_18 T i v) (λ q. omega arith) rest)

  pub edit_settable : (is Switch (fields_at T i) || (is Input (fields_at T i) && not (driven T i))) ≡ true
  edit_settable =
      not-false (settable T i v) (refusal_first 18 (not (settable T i v)) (from_19 T i v) (λ q. omega arith) to_18)

  pub edit_fits : fits (of_width (cond (is Switch (fields_at T i)) (output_width (fields_at T i)) (input_width (fields_at T i))) v) ≡ true
  edit_fits = not-false (fitting T i v) (refusal_first 19 (not (fitting T i v)) [] (λ q. omega arith) to_19)

  obeyed : (primitive (fields_at T i) && obeys (fields_at T i)) ≡ true
  obeyed = (net_sound T edit_is_net).obeyed i edit_there

  pub edit_output : is Switch (fields_at T i) ≡ true → first_output T i < length T.outputs
  edit_output k =
      omega (arith, switch_outputs (fields_at T i) obeyed k, (net_sound T edit_is_net).outputs_in i edit_there)

  pub edit_input : (is Switch (fields_at T i) ≡ true → ⊥) → first_input T i < length T.inputs
  edit_input n =
      let k : is Input (fields_at T i) ≡ true =
      an_input (is Switch (fields_at T i)) (is Input (fields_at T i)) (driven T i) edit_settable n in
      omega (arith, input_inputs (fields_at T i) obeyed k, (net_sound T edit_is_net).inputs_in i edit_there)
    where
      an_input : (s q d : Bool) → (s || (q && not d)) ≡ true → (s ≡ true → ⊥) → q ≡ true
      an_input true q d e h = absurd (h refl)
      an_input false q d e h = and_left q (not d) e

  pub edit_row : RowInside T.components i
  edit_row = omega (arith, edit_there, net_rows T edit_is_net)

  pub edit_index : i < 65536
  edit_index = omega (arith, edit_there, (net_within T edit_is_net).components)

  -- A list of the net has room for the component, in its table of full size.
  room : (l t : List ℕ) → names T l ≡ true → 256 ≤ length t → length (append_new i l) ≤ length t
  room l t named size = append_room T i l t named edit_there (net_within T edit_is_net).components size

  pub edit_room_first : length (append_new i (current_list T)) ≤ length T.current
  edit_room_first = room (current_list T) T.current (net_number-net T edit_is_net).current (net_number-sizes T edit_is_net).current

  pub edit_room : length (append_new i (standing_list T)) ≤ length T.standing
  edit_room = room (standing_list T) T.standing (net_number-net T edit_is_net).standing (net_number-sizes T edit_is_net).standing

-- Both tables of ports after a port is set; the lists are left.
pub port_set-ports : (T : Tables) (i v : ℕ) (s : State)
    → port_set T i v s ≡ with_inputs (cond (is Switch (fields_at T i)) s.inputs (set s.inputs (first_input T i) v))
    (with_outputs (cond (is Switch (fields_at T i)) (set s.outputs (first_output T i) v) s.outputs) s)
unfolding port_set
port_set-ports T i v s = by_kind (is Switch (fields_at T i))
  where
    by_kind : (b : Bool) → cond b (with_outputs (set s.outputs (first_output T i) v) s) (with_inputs (set s.inputs (first_input T i) v) s)
        ≡ with_inputs (cond b s.inputs (set s.inputs (first_input T i) v))
        (with_outputs (cond b (set s.outputs (first_output T i) v) s.outputs) s)
    by_kind true = refl
    by_kind false = refl

-- A refusal leaves what there was.
pub after_refused : {A : Type 0} (k : ℕ) (new old : A) → (k ≡ 0 → ⊥) → old ≡ after k new old
after_refused k new old ne = rw (ne_eqb k 0 ne)

-- A table with its own list at its front.
overlay_same : (n : ℕ) (t : List ℕ) → n ≤ length t → overlay (take n t) t ≡ t
unfolding overlay
overlay_same n t h = rw (length-take-le n t h) (take-append-drop n t)

-- The answer and the tables, of tables as a function is lent them.
module _ (cs ins outs ws cur fol std : List ℕ) (m : Counts) (i v : ℕ) where
  abbrev came : Tables
  came = tables_of cs ins outs ws cur fol std m

  -- The counts with those of the current and the standing list put anew.
  abbrev counted : ℕ → ℕ → Counts
  counted c n =
      record {
        components = m.components;
        inputs = m.inputs;
        outputs = m.outputs;
        wires = m.wires;
        current = c;
        following = m.following;
        standing = n;
      }

  -- The port is set where no check refuses.
  module _ (ins' outs' : List ℕ) (ei : ins' ≡ after (edit_number came i v) (inputs_set cs i v ins) ins)
      (eo : outs' ≡ after (edit_number came i v) (outputs_set cs i v outs) outs) where
    -- Refused: nothing was written.
    pub edit_kept : (way : Way) (said : Verdict) (r : Refusal) → said ≡ refusing (edit_number came i v) → said ≡ Err r
        → Edits way i v came (Err r) (tables_of cs ins' outs' ws cur fol std m)
    unfolding edit_tables
    edit_kept way said r e f =
        let p = refusing_err (edit_number came i v) said r e f in
        rw (p.1, ei, eo, ne_eqb (edit_number came i v) 0 p.0) (refl, refl)

    module _ (none : edit_number came i v ≡ 0) where
      net : net_number came ≡ 0
      net = edit_is_net came i v none

      -- The component goes first: the current list has it,
      module _ (cur' : List ℕ) (n : ℕ) (en : n ≡ length (append_new i (take m.current cur)))
          (es : cur' ≡ overlay (append_new i (take m.current cur)) cur) where
        pub edit_first : Edits goes_first i v came (Ok (counted n m.standing)) (tables_of cs ins' outs' ws cur' fol std (counted n m.standing))
        unfolding edit_tables leave edited_state
        edit_first =
            rw (
              none,
              port_set-ports came i v (state_of came),
              ei,
              eo,
              none,
              en,
              es,
              overlay_same m.following fol (following_in came net),
              overlay_same m.standing std (standing_in came net),
              length-take-le m.following fol (following_in came net),
              length-take-le m.standing std (standing_in came net),
            ) (refl, refl)

      -- or it stands: the standing list has it.
      module _ (std' : List ℕ) (n : ℕ) (en : n ≡ length (append_new i (take m.standing std)))
          (es : std' ≡ overlay (append_new i (take m.standing std)) std) where
        pub edit_stands : Edits stands i v came (Ok (counted m.current n)) (tables_of cs ins' outs' ws cur fol std' (counted m.current n))
        unfolding edit_tables leave edited_state
        edit_stands =
            rw (
              none,
              port_set-ports came i v (state_of came),
              ei,
              eo,
              none,
              en,
              es,
              overlay_same m.current cur (current_in came net),
              overlay_same m.following fol (following_in came net),
              length-take-le m.current cur (current_in came net),
              length-take-le m.following fol (following_in came net),
            ) (refl, refl)
