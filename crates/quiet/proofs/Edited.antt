-- An edit that is not refused: what it was asked, the state that it leaves, and that it keeps what a net holds.
--   Editable T i v   component i exists, is a Switch or an Input that no wire enters, and v fits
-- Assumes nothing.
use mathlib.Core.Path.{◌≡◌, refl, sym, ap, ◌∙◌}
use mathlib.Core.Logic.{◌⊎◌, inl, inr}
use mathlib.Core.Bool.{true, false, cond, not, ◌&&◌, true≢false}
use mathlib.Core.List.{List}
use Prim.Native.Nat.{ℕ, ◌+◌, ◌≤◌, ◌<◌}
use native.Mathlib.Omega.{arith}
use native.Mathlib.Decide.{ℕ_discrete}
use borrow.Author.Tests.{not-true, eq-eqb}
use lib.ListN.{length, get_or, set, length-set}
use lib.Seq.{get_or-set_same, get_or-set_other}
use lib.Dec.{eqb}
use Rattle.lists.proofs.TestsLaws.{and_left, and_right}
use Rattle.lists.proofs.MembersLaws.{In, any_none}
use Rattle.lists.proofs.TestsLaws.{or_cases}
use Rattle.value.specs.Value.{fits, of_width}
use Rattle.kinds.specs.declared.Kind.TheVariants.{Switch, Input, Const}
use Rattle.kinds.specs.Kinds.{is, input_width, output_width}
use Rattle.tables.specs.declared.Wire.{Wire}
use Rattle.tables.specs.Tables.{Tables, fields_at, first_input, first_output, numbers, inputs_at, outputs_at, wires_in}
use Rattle.rounds.specs.Round.{State, with_inputs, with_outputs}
use Rattle.simulator.specs.Edit.{Way, port_set, edited_state}
use Rattle.simulator.specs.Calls.{driven, edit_number}
use Rattle.simulator.proofs.EditsLaws.{edit_there, edit_settable, edit_fits}
use Rattle.rounds.proofs.Ports.{Off, off_apart, numbers_cong}
use Rattle.rounds.proofs.Evaluation.{is_other, const_outputs, switch_outputs, input_inputs}
use Rattle.rounds.proofs.Sound.{output_count, input_count, Sound, output_off, input_off}
use Rattle.rounds.proofs.Held.{Held}
use Rattle.quiet.proofs.Appended.{appended_held}

pub record Editable (T : Tables) (i v : ℕ) : Type 0 where
  pub exists : i < T.counts.components
  pub settable : (is Switch (fields_at T i) ≡ true) ⊎ ((is Input (fields_at T i) ≡ true) × (driven T i ≡ false))
  pub value : fits (of_width (cond (is Switch (fields_at T i)) (output_width (fields_at T i)) (input_width (fields_at T i))) v) ≡ true

-- What an edit that is given 0 passed.
pub edit_number-editable : (T : Tables) (i v : ℕ) → edit_number T i v ≡ 0 → Editable T i v
edit_number-editable T i v e =
    record {
      exists = edit_there T i v e;
      settable = by_kind (or_cases (is Switch (fields_at T i)) (is Input (fields_at T i) && not (driven T i))
          (edit_settable T i v e));
      value = edit_fits T i v e;
    }
  where
    by_kind : (is Switch (fields_at T i) ≡ true) ⊎ ((is Input (fields_at T i) && not (driven T i)) ≡ true)
        → (is Switch (fields_at T i) ≡ true) ⊎ ((is Input (fields_at T i) ≡ true) × (driven T i ≡ false))
    by_kind (inl q) = inl q
    by_kind (inr q) = inr (
      and_left (is Input (fields_at T i)) (not (driven T i)) q,
      not-true (driven T i) (and_right (is Input (fields_at T i)) (not (driven T i)) q),
    )

-- No wire enters an Input that is not driven.
pub driven_none : (T : Tables) (i : ℕ) (w : Wire) → driven T i ≡ false → In w (wires_in T) → w.dst.comp.0 ≡ i → ⊥
driven_none T i w e m q =
    true≢false (sym (eq-eqb w.dst.comp.0 i q) ∙ any_none (λ (v : Wire). eqb v.dst.comp.0 i) w (wires_in T) e m)

-- The state after a Switch's output was set, and after an Input's input was.
unfoldable pub switched : Tables → ℕ → ℕ → State → State
switched T i v s = with_outputs (set s.outputs (first_output T i) v) s

unfoldable pub fed : Tables → ℕ → ℕ → State → State
fed T i v s = with_inputs (set s.inputs (first_input T i) v) s

-- An edit sets the one or the other.
pub data EditCase (T : Tables) (i v : ℕ) (s : State) : Type 0 where
  switch : is Switch (fields_at T i) ≡ true → fits (of_width (output_width (fields_at T i)) v) ≡ true
      → port_set T i v s ≡ switched T i v s → EditCase T i v s
  input : is Input (fields_at T i) ≡ true → driven T i ≡ false → fits (of_width (input_width (fields_at T i)) v) ≡ true
      → port_set T i v s ≡ fed T i v s
      → EditCase T i v s

pub edit_case : (T : Tables) (i v : ℕ) (s : State) → Editable T i v → EditCase T i v s
unfolding port_set switched fed
edit_case T i v s a = by_kind a.settable a.value
  where
    by_kind : (is Switch (fields_at T i) ≡ true) ⊎ ((is Input (fields_at T i) ≡ true) × (driven T i ≡ false))
        → fits (of_width (cond (is Switch (fields_at T i)) (output_width (fields_at T i)) (input_width (fields_at T i))) v) ≡ true
        → EditCase T i v s
    by_kind (inl q) b = switch q (rw q at b) (rw q)
    by_kind (inr q) b =
        let z : is Switch (fields_at T i) ≡ false = is_other (fields_at T i) Input Switch refl q.0 in
        input q.0 q.1 (rw z at b) (rw z)

-- A table of ports, those of component d `count d` from `first d` on, after a store to the only one of component i.
module _ (n i v : ℕ) (first count : ℕ → ℕ) (one : count i ≡ 1)
    (off : (d j : ℕ) → d < n → (d ≡ i → ⊥) → j < count d → Off (first i) (count i) (first d + j)) (l : List ℕ) where
  -- It is no port of another component, and those are left.
  only_apart : (d j : ℕ) → d < n → (d ≡ i → ⊥) → j < count d → first d + j ≡ first i → ⊥
  only_apart d j q ne u e = off_apart (first i) (count i) (first d + j) 0 (off d j q ne u) (omega arith) (omega arith)

  only_others : (d j : ℕ) → d < n → (d ≡ i → ⊥) → j < count d
      → get_or (set l (first i) v) (first d + j) 0 ≡ get_or l (first d + j) 0
  only_others d j q ne u = get_or-set_other l (first i) (first d + j) v 0 (only_apart d j q ne u)

  only_left : (d : ℕ) → d < n → (d ≡ i → ⊥) → first d + count d ≤ length l
      → numbers (set l (first i) v) (first d) (count d) ≡ numbers l (first d) (count d)
  only_left d q ne room =
      numbers_cong (set l (first i) v) l (first d) (count d) (omega (arith, length-set l (first i) v)) room
      (λ j u. only_others d j q ne u)

  -- Values still fit.
  only_fits : (width : ℕ → ℕ) → first i < length l → fits (of_width (width i) v) ≡ true
      → ((d : ℕ) → d < n → (j : ℕ) → j < count d → fits (of_width (width d) (get_or l (first d + j) 0)) ≡ true)
      → (d : ℕ) → d < n → (j : ℕ) → j < count d → fits (of_width (width d) (get_or (set l (first i) v) (first d + j) 0)) ≡ true
  only_fits width room b others d q j u = by_name (ℕ_discrete d i)
    where
      by_name : Dec (d ≡ i) → fits (of_width (width d) (get_or (set l (first i) v) (first d + j) 0)) ≡ true
      by_name (yes e) =
          let p : first d + j ≡ first i = omega (arith, ap first e, ap count e) in
          rw (p, get_or-set_same l (first i) v 0 room, e) b
      by_name (no ne) = rw (only_others d j q ne u) (others d q j u)

module _ (T : Tables) (g : Sound T) (i v : ℕ) (h : i < T.counts.components) (s : State) (a : Held T s) where
  abbrev n : ℕ
  n = T.counts.components

  -- A Switch's output is its only one: a store there leaves every other component's outputs.
  module _ (k : is Switch (fields_at T i) ≡ true) where
    one_output : output_count T i ≡ 1
    one_output = switch_outputs (fields_at T i) (g.obeyed i h) k

    output_elsewhere : (d j : ℕ) → d < n → (d ≡ i → ⊥) → j < output_count T d
        → Off (first_output T i) (output_count T i) (first_output T d + j)
    output_elsewhere d j = output_off T g i d j h

    pub switch_others : (d j : ℕ) → d < n → (d ≡ i → ⊥) → j < output_count T d
        → get_or (set s.outputs (first_output T i) v) (first_output T d + j) 0
        ≡ get_or s.outputs (first_output T d + j) 0
    switch_others = only_others n i v (first_output T) (output_count T) one_output output_elsewhere s.outputs

    pub switch_left : (d : ℕ) → d < n → (d ≡ i → ⊥)
        → outputs_at T (set s.outputs (first_output T i) v) d ≡ outputs_at T s.outputs d
    switch_left d q ne =
        only_left n i v (first_output T) (output_count T) one_output output_elsewhere s.outputs d q ne
        (omega (arith, a.outputs_length, g.outputs_in d q))

    switched_held : fits (of_width (output_width (fields_at T i)) v) ≡ true → Held T (switched T i v s)
    unfolding switched
    switched_held b =
        record {
          inputs_length = a.inputs_length;
          outputs_length = length-set s.outputs (first_output T i) v ∙ a.outputs_length;
          inputs_fit = a.inputs_fit;
          outputs_fit = only_fits n i v (first_output T) (output_count T) one_output output_elsewhere s.outputs
              (λ d. output_width (fields_at T d)) room b a.outputs_fit;
          consts = λ d q e. const d q e (ℕ_discrete d i);
          current = a.current;
          following = a.following;
          standing = a.standing;
        }
      where
        room : first_output T i < length s.outputs
        room = omega (arith, one_output, a.outputs_length, g.outputs_in i h)

        const : (d : ℕ) → d < n → is Const (fields_at T d) ≡ true → Dec (d ≡ i)
            → get_or (set s.outputs (first_output T i) v) (first_output T d) 0 ≡ (fields_at T d).parameter
        const d q e (yes p) =
            let z : is Const (fields_at T d) ≡ false
            = ap (λ (x : ℕ). is Const (fields_at T x)) p ∙ is_other (fields_at T i) Switch Const refl k in
            absurd (true≢false (sym e ∙ z))
        const d q e (no ne) =
            let p : first_output T d + 0 ≡ first_output T d = omega arith in
            let u : 0 < output_count T d = omega (arith, const_outputs (fields_at T d) (g.obeyed d q) e) in
            rw p at (switch_others d 0 q ne u) ∙ a.consts d q e

  -- Likewise an Input's input.
  module _ (k : is Input (fields_at T i) ≡ true) where
    one_input : input_count T i ≡ 1
    one_input = input_inputs (fields_at T i) (g.obeyed i h) k

    input_elsewhere : (d j : ℕ) → d < n → (d ≡ i → ⊥) → j < input_count T d
        → Off (first_input T i) (input_count T i) (first_input T d + j)
    input_elsewhere d j = input_off T g i d j h

    pub input_others : (d j : ℕ) → d < n → (d ≡ i → ⊥) → j < input_count T d
        → get_or (set s.inputs (first_input T i) v) (first_input T d + j) 0 ≡ get_or s.inputs (first_input T d + j) 0
    input_others = only_others n i v (first_input T) (input_count T) one_input input_elsewhere s.inputs

    pub input_left : (d : ℕ) → d < n → (d ≡ i → ⊥)
        → inputs_at T (set s.inputs (first_input T i) v) d ≡ inputs_at T s.inputs d
    input_left d q ne =
        only_left n i v (first_input T) (input_count T) one_input input_elsewhere s.inputs d q ne
        (omega (arith, a.inputs_length, g.inputs_in d q))

    fed_held : fits (of_width (input_width (fields_at T i)) v) ≡ true → Held T (fed T i v s)
    unfolding fed
    fed_held b =
        record {
          inputs_length = length-set s.inputs (first_input T i) v ∙ a.inputs_length;
          outputs_length = a.outputs_length;
          inputs_fit = only_fits n i v (first_input T) (input_count T) one_input input_elsewhere s.inputs
              (λ d. input_width (fields_at T d)) room b a.inputs_fit;
          outputs_fit = a.outputs_fit;
          consts = a.consts;
          current = a.current;
          following = a.following;
          standing = a.standing;
        }
      where
        room : first_input T i < length s.inputs
        room = omega (arith, one_input, a.inputs_length, g.inputs_in i h)

  -- An edit, of either way, keeps what a net holds.
  pub edited_held : (way : Way) → Editable T i v → Held T (edited_state T way i v s)
  unfolding edited_state
  edited_held way ok = appended_held T i (port_set T i v s) way h (by_case (edit_case T i v s ok))
    where
      by_case : EditCase T i v s → Held T (port_set T i v s)
      by_case (switch k b e) = rw e (switched_held k b)
      by_case (input k f b e) = rw e (fed_held k b)
