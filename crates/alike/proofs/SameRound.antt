-- Tables that hold the same words of the components below a count make the same of a state that names no others: the same round, bits and edits, and
-- the same test of calm, of values and of Consts. A round reads components at what the current list names and at the ends of wires, and nowhere else.
--   SameWords T U m    the components below m have the same eight words
-- Assumes nothing.
use mathlib.Core.Path.{◌≡◌, refl, ap, ◌∙◌}
use mathlib.Core.Logic.{inl, inr}
use Prim.Native.Nat.{ℕ, ◌+◌, ◌<◌}
use native.Mathlib.Omega.{arith}
use mathlib.Core.Bool.{Bool, cond, not, ◌&&◌, ◌||◌}
use mathlib.Core.List.{List, [], ◌∷◌, foldl}
use lib.ListN.{get_or, set}
use lib.Seq.{sets}
use lib.Dec.{eqb}
use Rattle.lists.specs.Lists.{from, every, append_new, strike}
use Rattle.lists.proofs.MembersLaws.{In, every_cong, from0_sound}
use Rattle.value.specs.Value.{all_fit}
use Rattle.kinds.specs.declared.Kind.TheVariants.{Switch, Clock, Const}
use Rattle.kinds.specs.Kinds.{is, input_width, output_width}
use Rattle.primitive.specs.Evaluate.{outputs_after, moved_outputs}
use Rattle.tables.specs.declared.Wire.{Wire}
use Rattle.tables.specs.Tables.{Tables, word_in, fields_at, first_input, first_output, numbers, inputs_at, outputs_at}
use Rattle.rounds.specs.Round.{State, with_inputs, with_outputs, with_following, with_standing, turn, evaluated, send, visit, moved_at, moved_by, round, only_clocks}
use Rattle.simulator.specs.Edit.{Way, appended, port_set, edited_state}

-- Steps that do the same with each member do the same one after the other.
foldl_same : {A S : Type 0} (f g : S → A → S) (xs : List A) → ((a : A) → In a xs → (s : S) → f s a ≡ g s a) → (s : S)
    → foldl f s xs ≡ foldl g s xs
foldl_same f g [] h s = refl
foldl_same {S = S} f g (x ∷ xs) h s =
    ap (λ (r : S). foldl f r xs) (h x (inl refl) s) ∙ foldl_same f g xs (λ a u. h a (inr u)) (g s x)

abbrev pub SameWords : Tables → Tables → ℕ → Type 0
SameWords T U m = (i k : ℕ) → i < m → k < 8 → word_in T.components i k ≡ word_in U.components i k

-- The values of component i fit; it is no Const, or holds its value.
abbrev values_fit_at : Tables → List ℕ → List ℕ → ℕ → Bool
values_fit_at T ins outs i = all_fit (input_width (fields_at T i)) (inputs_at T ins i) && all_fit (output_width (fields_at T i)) (outputs_at T outs i)

abbrev held_at : Tables → List ℕ → ℕ → Bool
held_at T outs i = not (is Const (fields_at T i)) || eqb (get_or outs (first_output T i) 0) (fields_at T i).parameter

module _ (T U : Tables) (m : ℕ) (same : SameWords T U m) where
  -- One component.
  module _ (i : ℕ) (h : i < m) where
    pub fields_same : fields_at T i ≡ fields_at U i
    fields_same =
        let kind = same i 0 h (omega arith) in
        let width = same i 2 h (omega arith) in
        let parameter = same i 3 h (omega arith) in
        let inputs = same i 4 h (omega arith) in
        let outputs = same i 5 h (omega arith) in
        λ j. record { kind = kind j; inputs = inputs j; outputs = outputs j; width = width j; parameter = parameter j }

    input_same : first_input T i ≡ first_input U i
    input_same = same i 6 h (omega arith)

    output_same : first_output T i ≡ first_output U i
    output_same = same i 7 h (omega arith)

    evaluated_same : (t : ℕ) (s : State) → evaluated T t i s ≡ evaluated U t i s
    unfolding evaluated
    evaluated_same t s =
        let f = fields_same in
        let p = input_same in
        let o = output_same in
        λ j.
        with_outputs (sets s.outputs (o j)
        (outputs_after (f j) (numbers s.inputs (p j) (f j).inputs) (numbers s.outputs (o j) (f j).outputs) t))
        (with_standing (cond (is Clock (f j)) s.standing (strike i s.standing)) s)

    moved_same : (t : ℕ) (s : State) → moved_at T t s i ≡ moved_at U t s i
    moved_same t s =
        let f = fields_same in
        let p = input_same in
        let o = output_same in
        λ j. moved_outputs (f j) (numbers s.inputs (p j) (f j).inputs) (numbers s.outputs (o j) (f j).outputs) t

    port_same : (v : ℕ) (s : State) → port_set T i v s ≡ port_set U i v s
    unfolding port_set
    port_same v s =
        let f = fields_same in
        let p = input_same in
        let o = output_same in
        λ j. cond (is Switch (f j)) (with_outputs (set s.outputs (o j) v) s) (with_inputs (set s.inputs (p j) v) s)

    pub edited_same : (way : Way) (v : ℕ) (s : State) → edited_state T way i v s ≡ edited_state U way i v s
    unfolding edited_state
    edited_same way v s = ap (appended way i) (port_same v s)

    -- Whether its values fit, and whether it is a Const that holds its value.
    fit_at-same : (ins outs : List ℕ) → values_fit_at T ins outs i ≡ values_fit_at U ins outs i
    fit_at-same ins outs =
        let f = fields_same in
        let p = input_same in
        let o = output_same in
        λ j. all_fit (input_width (f j)) (numbers ins (p j) (f j).inputs) && all_fit (output_width (f j)) (numbers outs (o j) (f j).outputs)

    held_at-same : (outs : List ℕ) → held_at T outs i ≡ held_at U outs i
    held_at-same outs =
        let f = fields_same in
        let o = output_same in
        λ j. not (is Const (f j)) || eqb (get_or outs (o j) 0) (f j).parameter

  -- One wire.
  send_same : (w : Wire) (s : State) → w.src.comp.0 < m → w.dst.comp.0 < m → send T s w ≡ send U s w
  unfolding send
  send_same w s h k =
      let p = input_same w.dst.comp.0 k in
      let o = output_same w.src.comp.0 h in
      λ j.
      cond (eqb (get_or s.outputs (o j + w.src.port) 0) (get_or s.inputs (p j + w.dst.port) 0)) s
      (with_inputs (set s.inputs (p j + w.dst.port) (get_or s.outputs (o j + w.src.port) 0))
      (with_following (append_new w.dst.comp.0 s.following) s))

  -- Wires between components below the count, handed in: one component, a round and its bits.
  module _ (leaving : ℕ → List Wire) (ends : (i : ℕ) (w : Wire) → In w (leaving i) → (w.src.comp.0 < m) × (w.dst.comp.0 < m)) (t : ℕ) where
    visit_same : (s : State) (i : ℕ) → i < m → visit T leaving t s i ≡ visit U leaving t s i
    unfolding visit
    visit_same s i h =
        ap (λ (r : State). foldl (send T) r (leaving i)) (evaluated_same i h t s)
        ∙ foldl_same (send T) (send U) (leaving i) (λ w u r. send_same w r (ends i w u).0 (ends i w u).1) (evaluated U t i s)

    pub round_same : (s : State) → ((i : ℕ) → In i s.current → i < m) → round T leaving t s ≡ round U leaving t s
    unfolding round
    round_same s h = ap turn (foldl_same (visit T leaving t) (visit U leaving t) s.current (λ i u r. visit_same r i (h i u)) s)

    pub moved_by-same : (l : List ℕ) → ((i : ℕ) → In i l → i < m) → (s : State) → moved_by T leaving t s l ≡ moved_by U leaving t s l
    moved_by-same [] h s = refl
    moved_by-same (i ∷ l) h s =
        let b = h i (inl refl) in
        let here = moved_same i b t s in
        let later = ap (λ (r : State). moved_by T leaving t r l) (visit_same s i b) ∙ moved_by-same l (λ k u. h k (inr u)) (visit U leaving t s i) in
        λ j. here j ∷ later j

  -- Tests of what a list names, and of all components.
  pub only_clocks-same : (l : List ℕ) → ((i : ℕ) → In i l → i < m) → only_clocks T l ≡ only_clocks U l
  only_clocks-same l h =
      every_cong (λ i. is Clock (fields_at T i)) (λ i. is Clock (fields_at U i)) l (λ i u. ap (is Clock) (fields_same i (h i u)))

  pub every_fit : (ins outs : List ℕ) → every (values_fit_at T ins outs) (from 0 m) ≡ every (values_fit_at U ins outs) (from 0 m)
  every_fit ins outs = every_cong (values_fit_at T ins outs) (values_fit_at U ins outs) (from 0 m) (λ i u. fit_at-same i (from0_sound m i u) ins outs)

  pub every_held : (outs : List ℕ) → every (held_at T outs) (from 0 m) ≡ every (held_at U outs) (from 0 m)
  every_held outs = every_cong (held_at T outs) (held_at U outs) (from 0 m) (λ i u. held_at-same i (from0_sound m i u) outs)
