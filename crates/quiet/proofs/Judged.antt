-- Judging what the lists name equals judging all: where a wire differs, or a component has not the outputs of its function, a list names it, so
-- judging the named ones meets it. And a net of which all is judged right is satisfied, its Clocks aside.
-- Assumes nothing.
use mathlib.Core.Path.{◌≡◌, refl, sym, ap, ◌∙◌}
use mathlib.Core.Logic.{◌⊎◌, inl, inr}
use mathlib.Core.Bool.{Bool, true, false, not, ◌&&◌, ◌||◌, true≢false}
use mathlib.Core.List.{List, []}
use Prim.Native.Nat.{ℕ, ◌≤◌, ◌<◌}
use native.Mathlib.Omega.{arith}
use borrow.Author.Tests.{eq-eqb, eqb-true}
use lib.ListN.{length, get_or}
use lib.Seq.{ext_get_or}
use lib.Dec.{eqb}
use Rattle.lists.specs.Lists.{from, every}
use Rattle.lists.proofs.TestsLaws.{and_left, and_right, and_both, or_left, or_right, or_second, or_rest, or_hold, tests_equal}
use Rattle.lists.proofs.MembersLaws.{In, every_sound, every_complete, from0_sound, from0_complete}
use Rattle.kinds.specs.declared.Kind.TheVariants.{Switch, Clock, Const}
use Rattle.kinds.specs.Kinds.{is, primitive, obeys}
use Rattle.primitive.specs.Evaluate.{function_of}
use Rattle.primitive.specs.Own.{Own}
use Rattle.primitive.proofs.FitLaws.{outputs_after-length}
use Rattle.tables.specs.declared.Wire.{Wire}
use Rattle.tables.specs.Tables.{Tables, fields_at, end_at, first_input, first_output, output_place, inputs_at, outputs_at, indexes, wires_in, named}
use Rattle.net.specs.Net.{net_number}
use Rattle.rounds.specs.Round.{state_of}
use Rattle.rounds.proofs.Ports.{numbers_at, numbers_length}
use Rattle.rounds.proofs.Evaluation.{is_other, const_outputs, outputs_after-time, outputs_after-function, function_of-const}
use Rattle.rounds.proofs.Sound.{Sound, inputs_end, outputs_end, net_sound}
use Rattle.judging.specs.Judged.{wire_agrees, has_outputs, component_agrees, judged_all, judged_named}
use Rattle.judging.proofs.JudgingLaws.{named_wire, named_component}
use Rattle.quiet.proofs.Invariant.{clocked, Fits, Awaits}
use Rattle.quiet.proofs.Since.{Unbroken}
use Rattle.quiet.proofs.Obeyed.{Follows, SatisfiedAt, ObeyedAt, fits_follows, unbroken_obeyed}

-- Switches and Clocks aside.
abbrev is_aside : Tables → ℕ → Bool
is_aside T i = is Switch (fields_at T i) || is Clock (fields_at T i)

-- What is leant on: components obey the table of kinds, and their ports stand in the tables.
module _ (T : Tables) (obeyed : (i : ℕ) → i < T.counts.components → (primitive (fields_at T i) && obeys (fields_at T i)) ≡ true)
    (inputs_in : (i : ℕ) → i < T.counts.components → inputs_end T i ≤ length T.inputs)
    (outputs_in : (i : ℕ) → i < T.counts.components → outputs_end T i ≤ length T.outputs) where
  abbrev n : ℕ
  n = T.counts.components

  -- The function of a component that is neither a Switch nor a Clock does not look at the time.
  function_time : (i : ℕ) → i < n → is_aside T i ≡ false → (t u : ℕ)
      → function_of (fields_at T i) (inputs_at T T.inputs i) t ≡ function_of (fields_at T i) (inputs_at T T.inputs i) u
  function_time i h e t u = by_const (is Const (fields_at T i)) refl
    where
      by_const : (b : Bool) → is Const (fields_at T i) ≡ b
          → function_of (fields_at T i) (inputs_at T T.inputs i) t ≡ function_of (fields_at T i) (inputs_at T T.inputs i) u
      by_const true c =
          function_of-const (fields_at T i) (inputs_at T T.inputs i) t c
          ∙ sym (function_of-const (fields_at T i) (inputs_at T T.inputs i) u c)
      by_const false c =
          let s = or_left (is Switch (fields_at T i)) (is Clock (fields_at T i)) e in
          sym (outputs_after-function (fields_at T i) (inputs_at T T.inputs i) [] t s c)
          ∙ outputs_after-time (fields_at T i) (obeyed i h) (inputs_at T T.inputs i) [] t u
          (or_right (is Switch (fields_at T i)) (is Clock (fields_at T i)) e)
          ∙ outputs_after-function (fields_at T i) (inputs_at T T.inputs i) [] u s c

  -- A component that follows its function passes the test,
  follows_outputs : (i t : ℕ) → i < n → is_aside T i ≡ false → Follows T t i → has_outputs T i ≡ true
  follows_outputs i t h e f =
      every_complete
      (λ p. eqb (get_or T.outputs (output_place T (end_at i p)) 0)
      (get_or (function_of (fields_at T i) (inputs_at T T.inputs i) 0) p 0))
      (from 0 (fields_at T i).outputs)
      (λ p m. eq-eqb (get_or T.outputs (output_place T (end_at i p)) 0)
      (get_or (function_of (fields_at T i) (inputs_at T T.inputs i) 0) p 0)
      (sym (numbers_at T.outputs (first_output T i) (fields_at T i).outputs (outputs_in i h) p
      (from0_sound (fields_at T i).outputs p m))
      ∙ ap (λ (l : List ℕ). get_or l p 0) (f ∙ function_time i h e t 0)))

  -- and one that passes it follows its function.
  outputs_follow : (i t : ℕ) → i < n → is_aside T i ≡ false → has_outputs T i ≡ true → Follows T t i
  outputs_follow i t h e k =
      ext_get_or 0 (outputs_at T T.outputs i) (function_of (fields_at T i) (inputs_at T T.inputs i) 0) long
      (λ p q. numbers_at T.outputs (first_output T i) (fields_at T i).outputs (outputs_in i h) p
      (omega (arith, wide))
      ∙ eqb-true (get_or T.outputs (output_place T (end_at i p)) 0)
      (get_or (function_of (fields_at T i) (inputs_at T T.inputs i) 0) p 0)
      (every_sound
      (λ p. eqb (get_or T.outputs (output_place T (end_at i p)) 0)
      (get_or (function_of (fields_at T i) (inputs_at T T.inputs i) 0) p 0)) p (from 0 (fields_at T i).outputs) k
      (from0_complete (fields_at T i).outputs p (omega (arith, wide)))))
      ∙ function_time i h e 0 t
    where
      wide : length (outputs_at T T.outputs i) ≡ (fields_at T i).outputs
      wide = numbers_length T.outputs (first_output T i) (fields_at T i).outputs (outputs_in i h)

      own : Own (fields_at T i) (inputs_at T T.inputs i) (outputs_at T T.outputs i)
      own =
          record {
            obeyed = obeyed i h;
            all_inputs = numbers_length T.inputs (first_input T i) (fields_at T i).inputs (inputs_in i h);
            all_outputs = wide;
          }

      by_const : (b : Bool) → is Const (fields_at T i) ≡ b
          → length (function_of (fields_at T i) (inputs_at T T.inputs i) 0) ≡ (fields_at T i).outputs
      by_const true c =
          ap length (function_of-const (fields_at T i) (inputs_at T T.inputs i) 0 c)
          ∙ sym (const_outputs (fields_at T i) (obeyed i h) c)
      by_const false c =
          ap length (sym (outputs_after-function (fields_at T i) (inputs_at T T.inputs i) (outputs_at T T.outputs i) 0
          (or_left (is Switch (fields_at T i)) (is Clock (fields_at T i)) e) c))
          ∙ outputs_after-length (fields_at T i) (inputs_at T T.inputs i) (outputs_at T T.outputs i) 0 own

      long : length (outputs_at T T.outputs i) ≡ length (function_of (fields_at T i) (inputs_at T T.inputs i) 0)
      long = wide ∙ sym (by_const (is Const (fields_at T i)) refl)

  -- What is judged of all, and what of the named ones.
  abbrev all_wires : Bool
  all_wires = every (wire_agrees T) (wires_in T)

  abbrev all_components : Bool
  all_components = every (component_agrees T) (indexes T)

  abbrev named_wires : Bool
  named_wires = every (named_wire T) (wires_in T)

  abbrev named_components : Bool
  named_components = every (named_component T) (indexes T)

  -- What demand 3 names is all that judging can find.
  module _ (ran : Bool) (t : ℕ) (o : ObeyedAt T ran t) where
    wire_named : (w : Wire) → In w (wires_in T) → named_wire T w ≡ true → wire_agrees T w ≡ true
    wire_named w m e = by_test (wire_agrees T w) refl
      where
        by_test : (b : Bool) → wire_agrees T w ≡ b → wire_agrees T w ≡ true
        by_test true q = q
        by_test false q =
            let k : named T w.src.comp.0 ≡ true = o.differing w m (λ p. true≢false (sym (eq-eqb _ _ p) ∙ q)) in
            or_rest (not (named T w.src.comp.0)) (wire_agrees T w) (ap not k) e

    component_named : (i : ℕ) → i < n → named_component T i ≡ true → component_agrees T i ≡ true
    component_named i h e = or_hold (is_aside T i) (has_outputs T i) (λ q. by_test q (has_outputs T i) refl)
      where
        by_test : is_aside T i ≡ false → (b : Bool) → has_outputs T i ≡ b → has_outputs T i ≡ true
        by_test q true k = k
        by_test q false k =
            let m : named T i ≡ true = o.unfollowed i h q (λ f. true≢false (sym (follows_outputs i t h q f) ∙ k)) in
            or_rest (is_aside T i) (has_outputs T i) q (or_rest (not (named T i)) (component_agrees T i) (ap not m) e)

    -- Judging only what the lists name equals judging all.
    pub judged_named_lem : judged_named T ≡ judged_all T
    unfolding judged_named judged_all
    judged_named_lem = tests_equal (judged_named T) (judged_all T) up down
      where
        up : judged_named T ≡ true → judged_all T ≡ true
        up e =
            and_both all_wires all_components
            (every_complete (wire_agrees T) (wires_in T)
            (λ w m. wire_named w m (every_sound (named_wire T) w (wires_in T) (and_left named_wires named_components e) m)))
            (every_complete (component_agrees T) (indexes T)
            (λ i m. component_named i (from0_sound n i m) (every_sound (named_component T) i (indexes T) (and_right named_wires named_components e) m)))

        down : judged_all T ≡ true → judged_named T ≡ true
        down e =
            and_both named_wires named_components
            (every_complete (named_wire T) (wires_in T)
            (λ w m. or_second (not (named T w.src.comp.0)) (wire_agrees T w)
            (every_sound (wire_agrees T) w (wires_in T) (and_left all_wires all_components e) m)))
            (every_complete (named_component T) (indexes T)
            (λ i m. or_second (not (named T i)) (component_agrees T i)
            (every_sound (component_agrees T) i (indexes T) (and_right all_wires all_components e) m)))

  -- Where all is judged right the net is satisfied, given that Clocks follow their function; and the other way.
  pub judged_satisfied : (t : ℕ) → ((i : ℕ) → i < n → is Clock (fields_at T i) ≡ true → Follows T t i) → judged_all T ≡ true → SatisfiedAt T t
  unfolding judged_all
  judged_satisfied t clocks e =
      record {
        equal = λ w m. eqb-true _ _ (every_sound (wire_agrees T) w (wires_in T) (and_left all_wires all_components e) m);
        follow = λ i h s. by_clock i h s (is Clock (fields_at T i)) refl;
      }
    where
      by_clock : (i : ℕ) → i < n → is Switch (fields_at T i) ≡ false → (b : Bool) → is Clock (fields_at T i) ≡ b → Follows T t i
      by_clock i h s true c = clocks i h c
      by_clock i h s false c =
          let f : is_aside T i ≡ false = rw (s, c) in
          outputs_follow i t h f
          (or_rest (is_aside T i) (has_outputs T i) f
          (every_sound (component_agrees T) i (indexes T) (and_right all_wires all_components e) (from0_complete n i h)))

  pub satisfied_judged : (t : ℕ) → SatisfiedAt T t → judged_all T ≡ true
  unfolding judged_all
  satisfied_judged t s =
      and_both all_wires all_components
      (every_complete (wire_agrees T) (wires_in T) (λ w m. eq-eqb _ _ (s.equal w m)))
      (every_complete (component_agrees T) (indexes T)
      (λ i m. or_hold (is_aside T i) (has_outputs T i)
      (λ f. follows_outputs i t (from0_sound n i m) f
      (s.follow i (from0_sound n i m) (or_left (is Switch (fields_at T i)) (is Clock (fields_at T i)) f)))))

-- A net of which the invariant holds.
module _ (T : Tables) (ran : Bool) (t : ℕ) (z : net_number T ≡ 0) (a : Unbroken T ran t) where
  sound : Sound T
  sound = net_sound T z

  -- Judging what its lists name equals judging all.
  pub net_judged : judged_named T ≡ judged_all T
  net_judged = judged_named_lem T sound.obeyed sound.inputs_in sound.outputs_in ran t (unbroken_obeyed T ran t z a)

  -- Once a round has run, each Clock holds its level at the last round's time,
  clock_follows : ran ≡ true → (i : ℕ) → i < T.counts.components → is Clock (fields_at T i) ≡ true → Follows T t i
  clock_follows r i h e = by_case (a.fitted i h)
    where
      by_case : Fits T t (state_of T) i ⊎ Awaits T ran (state_of T) i → Follows T t i
      by_case (inl f) = fits_follows T ran t z a i h (is_other (fields_at T i) Clock Switch refl e) f
      by_case (inr q) = absurd (true≢false (sym (and_both ran (clocked T i) r e) ∙ q.0))

  -- so that all is judged right exactly where the net is satisfied at that time.
  pub net_satisfied : ran ≡ true → judged_named T ≡ true → SatisfiedAt T t
  net_satisfied r e = judged_satisfied T sound.obeyed sound.inputs_in sound.outputs_in t (clock_follows r) (sym net_judged ∙ e)

  pub satisfied_net : SatisfiedAt T t → judged_named T ≡ true
  satisfied_net s = net_judged ∙ satisfied_judged T sound.obeyed sound.inputs_in sound.outputs_in t s
