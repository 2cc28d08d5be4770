-- What a net holds of a state, and that every step of a round keeps it: port tables keep their lengths, values fit,
-- each Const's output is its value, and the three lists name existing components without repeats.
--   Held T s      the state s is one that a net with the components and wires of T may have
--   Order T ws    ws is an order of all wires of T: it has the same members
--   Agree T s w   the output and the input of the wire w hold the same number
-- Assumes nothing.
use mathlib.Core.Path.{◌≡◌, refl, sym, ap, ◌∙◌, subst}
use mathlib.Core.Logic.{inl, inr}
use mathlib.Core.Bool.{Bool, true, false, cond}
use mathlib.Core.List.{List, [], ◌∷◌, foldl}
use Prim.Native.Nat.{ℕ, ◌+◌, ◌≤◌, ◌<◌}
use native.Mathlib.Omega.{arith}
use native.Mathlib.Decide.{ℕ_discrete}
use borrow.Author.Tests.{eqb-true, eqb-false}
use lib.ListN.{length, get_or, set, length-set}
use lib.Seq.{sets, length-sets, get_or-set_same, get_or-set_other}
use lib.Dec.{eqb}
use Rattle.lists.specs.Lists.{append_new, strike}
use Rattle.lists.proofs.MembersLaws.{In, in-get_or, every_sound, keep_sound}
use Rattle.lists.proofs.NamesLaws.{Names, names_append, names_strike}
use Rattle.value.specs.Value.{fits, of_width}
use Rattle.kinds.specs.declared.Kind.TheVariants.{Clock, Const}
use Rattle.kinds.specs.Kinds.{is, input_width, output_width}
use Rattle.primitive.specs.Evaluate.{outputs_after}
use Rattle.primitive.specs.Own.{Own}
use Rattle.primitive.proofs.FitLaws.{outputs_after-length, outputs_after-fits}
use Rattle.tables.specs.declared.Wire.{Wire}
use Rattle.tables.specs.Tables.{Tables, fields_at, first_input, first_output, input_place, output_place, inputs_at, outputs_at, wires_in}
use Rattle.rounds.specs.Round.{State, with_inputs, with_following, wires_from, evaluated, send, visit, round}
use Rattle.rounds.proofs.Ports.{off_apart, sets_at_ne, sets_at, numbers_length, numbers_at, numbers_fit}
use Rattle.rounds.proofs.Evaluation.{const_outputs, outputs_after-const}
use Rattle.rounds.proofs.Sound.{outputs_end, inputs_end, Sound, output_off, inputs_off, input_room}

-- What each step of a fold keeps, the fold keeps.
pub foldl_keeps : {A S : Type 0} (P : S → Type 0) (f : S → A → S) (xs : List A)
    → ((s : S) (a : A) → In a xs → P s → P (f s a)) → (s : S) → P s → P (foldl f s xs)
foldl_keeps P f [] k s p = p
foldl_keeps P f (x ∷ xs) k s p = foldl_keeps P f xs (λ u a m. k u a (inr m)) (f s x) (k s x (inl refl) p)

-- Input j of component i fits its width in a table of inputs; output j does in one of outputs.
abbrev pub input_fits : Tables → List ℕ → ℕ → ℕ → Bool
input_fits T l i j = fits (of_width (input_width (fields_at T i)) (get_or l (first_input T i + j) 0))

abbrev pub output_fits : Tables → List ℕ → ℕ → ℕ → Bool
output_fits T l i j = fits (of_width (output_width (fields_at T i)) (get_or l (first_output T i + j) 0))

pub record Held (T : Tables) (s : State) : Type 0 where
  pub inputs_length : length s.inputs ≡ length T.inputs
  pub outputs_length : length s.outputs ≡ length T.outputs
  pub inputs_fit : (i : ℕ) → i < T.counts.components → (j : ℕ) → j < (fields_at T i).inputs
      → input_fits T s.inputs i j ≡ true
  pub outputs_fit : (i : ℕ) → i < T.counts.components → (j : ℕ) → j < (fields_at T i).outputs
      → output_fits T s.outputs i j ≡ true
  pub consts : (i : ℕ) → i < T.counts.components → is Const (fields_at T i) ≡ true
      → get_or s.outputs (first_output T i) 0 ≡ (fields_at T i).parameter
  pub current : Names T.counts.components s.current
  pub following : Names T.counts.components s.following
  pub standing : Names T.counts.components s.standing

-- ws is an order of all wires.
pub record Order (T : Tables) (ws : List Wire) : Type 0 where
  pub only : (w : Wire) → In w ws → In w (wires_in T)
  pub all : (w : Wire) → In w (wires_in T) → In w ws

-- The stored order is one.
pub stored_order : (T : Tables) → Order T (wires_in T)
stored_order T = record { only = λ w m. m; all = λ w m. m }

-- The numbers of a wire's output and of its input.
abbrev pub carried : Tables → State → Wire → ℕ
carried T s w = get_or s.outputs (output_place T w.src) 0

abbrev pub received : Tables → State → Wire → ℕ
received T s w = get_or s.inputs (input_place T w.dst) 0

-- They are the same.
abbrev pub Agree : Tables → State → Wire → Type 0
Agree T s w = carried T s w ≡ received T s w

-- The store of one wire.
unfoldable pub written : Tables → State → Wire → State
written T s w =
    with_inputs (set s.inputs (input_place T w.dst) (carried T s w)) (with_following (append_new w.dst.comp.0 s.following) s)

-- A wire either agrees, and nothing is done, or it does not, and its input is written.
pub data SendCase (T : Tables) (s : State) (w : Wire) : Type 0 where
  agrees : Agree T s w → send T s w ≡ s → SendCase T s w
  writes : (Agree T s w → ⊥) → send T s w ≡ written T s w → SendCase T s w

pub send_case : (T : Tables) (s : State) (w : Wire) → SendCase T s w
unfolding send written
send_case T s w = by_test (eqb (carried T s w) (received T s w)) refl
  where
    by_test : (b : Bool) → eqb (carried T s w) (received T s w) ≡ b → SendCase T s w
    by_test true e = agrees (eqb-true (carried T s w) (received T s w) e) (rw e)
    by_test false e = writes (eqb-false (carried T s w) (received T s w) e) (rw e)

-- The outputs that an evaluation of component i leaves.
abbrev pub made : Tables → ℕ → State → ℕ → List ℕ
made T t s i = outputs_after (fields_at T i) (inputs_at T s.inputs i) (outputs_at T s.outputs i) t

-- The table of outputs after it.
abbrev pub outputs_made : Tables → ℕ → State → ℕ → List ℕ
outputs_made T t s i = sets s.outputs (first_output T i) (made T t s i)

module _ (T : Tables) (g : Sound T) where
  -- One wire.
  pub send_held : (s : State) (w : Wire) → In w (wires_in T) → Held T s → Held T (send T s w)
  unfolding written
  send_held s w m a = by_case (send_case T s w)
    where
      value : fits (of_width (input_width (fields_at T w.dst.comp.0)) (carried T s w)) ≡ true
      value =
          ap (λ (b : ℕ). fits (of_width b (carried T s w))) (sym (g.widths w m))
          ∙ a.outputs_fit w.src.comp.0 (g.source w m) w.src.port (g.source_port w m)

      room : input_place T w.dst < length s.inputs
      room = omega (arith, a.inputs_length, input_room T g w m)

      at_input : (i j : ℕ) → i ≡ w.dst.comp.0 → i < T.counts.components → j < (fields_at T i).inputs
          → Dec (first_input T i + j ≡ input_place T w.dst)
          → input_fits T (written T s w).inputs i j ≡ true
      at_input i j e h l (yes p) =
          ap (λ (k : ℕ). fits (of_width (input_width (fields_at T i)) (get_or (written T s w).inputs k 0))) p
          ∙ ap (λ (x : ℕ). fits (of_width (input_width (fields_at T i)) x))
          (get_or-set_same s.inputs (input_place T w.dst) (carried T s w) 0 room)
          ∙ ap (λ (k : ℕ). fits (of_width (input_width (fields_at T k)) (carried T s w))) e
          ∙ value
      at_input i j e h l (no p) =
          ap (λ (x : ℕ). fits (of_width (input_width (fields_at T i)) x))
          (get_or-set_other s.inputs (input_place T w.dst) (first_input T i + j) (carried T s w) 0 p)
          ∙ a.inputs_fit i h j l

      fit : (i : ℕ) → i < T.counts.components → (j : ℕ) → j < (fields_at T i).inputs → Dec (i ≡ w.dst.comp.0)
          → input_fits T (written T s w).inputs i j ≡ true
      fit i h j l (yes e) = at_input i j e h l (ℕ_discrete (first_input T i + j) (input_place T w.dst))
      fit i h j l (no e) =
          ap (λ (x : ℕ). fits (of_width (input_width (fields_at T i)) x))
          (get_or-set_other s.inputs (input_place T w.dst) (first_input T i + j) (carried T s w) 0
          (off_apart (first_input T i) (fields_at T i).inputs (input_place T w.dst) j
          (inputs_off T g i w h m (λ q. e (sym q))) l))
          ∙ a.inputs_fit i h j l

      new : Held T (written T s w)
      new =
          record {
            inputs_length = length-set s.inputs (input_place T w.dst) (carried T s w) ∙ a.inputs_length;
            outputs_length = a.outputs_length;
            inputs_fit = λ i h j l. fit i h j l (ℕ_discrete i w.dst.comp.0);
            outputs_fit = a.outputs_fit;
            consts = a.consts;
            current = a.current;
            following = names_append T.counts.components w.dst.comp.0 s.following (g.target w m)
                a.following;
            standing = a.standing;
          }

      by_case : SendCase T s w → Held T (send T s w)
      by_case (agrees p e) = rw e a
      by_case (writes p e) = rw e new

  -- The wires of one component.
  pub sends_held : (ws : List Wire) → ((w : Wire) → In w ws → In w (wires_in T)) → (s : State) → Held T s
      → Held T (foldl (send T) s ws)
  sends_held ws f = foldl_keeps (Held T) (send T) ws (λ u w m. send_held u w (f w m))

  -- An evaluation of component i.
  module _ (t i : ℕ) (h : i < T.counts.components) (s : State) (a : Held T s) where
    inputs_room : inputs_end T i ≤ length s.inputs
    inputs_room = omega (arith, a.inputs_length, g.inputs_in i h)

    pub outputs_room : outputs_end T i ≤ length s.outputs
    outputs_room = omega (arith, a.outputs_length, g.outputs_in i h)

    pub own : Own (fields_at T i) (inputs_at T s.inputs i) (outputs_at T s.outputs i)
    own =
        record {
          obeyed = g.obeyed i h;
          all_inputs = numbers_length s.inputs (first_input T i) (fields_at T i).inputs inputs_room;
          all_outputs = numbers_length s.outputs (first_output T i) (fields_at T i).outputs outputs_room;
        }

    pub made_length : length (made T t s i) ≡ (fields_at T i).outputs
    made_length = outputs_after-length (fields_at T i) (inputs_at T s.inputs i) (outputs_at T s.outputs i) t own

    made_fits : (j : ℕ) → j < (fields_at T i).outputs
        → fits (of_width (output_width (fields_at T i)) (get_or (made T t s i) j 0)) ≡ true
    made_fits j l =
        every_sound (λ x. fits (of_width (output_width (fields_at T i)) x)) (get_or (made T t s i) j 0) (made T t s i)
        (outputs_after-fits (fields_at T i) (inputs_at T s.inputs i) (outputs_at T s.outputs i) t own
        (numbers_fit s.inputs (first_input T i) (fields_at T i).inputs inputs_room (input_width (fields_at T i))
        (a.inputs_fit i h))
        (numbers_fit s.outputs (first_output T i) (fields_at T i).outputs outputs_room (output_width (fields_at T i))
        (a.outputs_fit i h)))
        (in-get_or (made T t s i) j 0 (omega (arith, made_length)))

    -- Another component's outputs are left.
    pub others_left : (d j : ℕ) → d < T.counts.components → (d ≡ i → ⊥) → j < (fields_at T d).outputs
        → get_or (outputs_made T t s i) (first_output T d + j) 0 ≡ get_or s.outputs (first_output T d + j) 0
    others_left d j q ne l =
        sets_at_ne (made T t s i) s.outputs (first_output T i) (first_output T d + j)
        (rw made_length (output_off T g i d j h q ne l))

    pub own_outputs : (j : ℕ) → j < (fields_at T i).outputs
        → get_or (outputs_made T t s i) (first_output T i + j) 0 ≡ get_or (made T t s i) j 0
    own_outputs j l =
        sets_at (made T t s i) s.outputs (first_output T i) j (omega (arith, made_length, outputs_room))
        (omega (arith, made_length))

    pub evaluated_held : Held T (evaluated T t i s)
    unfolding evaluated
    evaluated_held =
        record {
          inputs_length = a.inputs_length;
          outputs_length = length-sets s.outputs (first_output T i) (made T t s i) ∙ a.outputs_length;
          inputs_fit = a.inputs_fit;
          outputs_fit = λ d q j l. fit d q j l (ℕ_discrete d i);
          consts = λ d q e. const d q e (ℕ_discrete d i);
          current = a.current;
          following = a.following;
          standing = stand (is Clock (fields_at T i));
        }
      where
        fit_own : (j : ℕ) → j < (fields_at T i).outputs
            → output_fits T (outputs_made T t s i) i j ≡ true
        fit_own j l = ap (λ (x : ℕ). fits (of_width (output_width (fields_at T i)) x)) (own_outputs j l) ∙ made_fits j l

        fit : (d : ℕ) → d < T.counts.components → (j : ℕ) → j < (fields_at T d).outputs → Dec (d ≡ i)
            → output_fits T (outputs_made T t s i) d j ≡ true
        fit d q j l (yes e) =
            subst (λ (k : ℕ). j < (fields_at T k).outputs
            → output_fits T (outputs_made T t s i) k j ≡ true)
            (sym e) (fit_own j) l
        fit d q j l (no ne) = ap (λ (x : ℕ). fits (of_width (output_width (fields_at T d)) x)) (others_left d j q ne l)
            ∙ a.outputs_fit d q j l

        one : (d : ℕ) → d < T.counts.components → is Const (fields_at T d) ≡ true → 0 < (fields_at T d).outputs
        one d q e = omega (arith, const_outputs (fields_at T d) (g.obeyed d q) e)

        at_first : (l : List ℕ) (d : ℕ) → get_or l (first_output T d) 0 ≡ get_or l (first_output T d + 0) 0
        at_first l d = let e : first_output T d ≡ first_output T d + 0 = omega arith in ap (λ (k : ℕ). get_or l k 0) e

        const_own : is Const (fields_at T i) ≡ true
            → get_or (outputs_made T t s i) (first_output T i) 0 ≡ (fields_at T i).parameter
        const_own e =
            at_first (outputs_made T t s i) i
            ∙ own_outputs 0 (one i h e)
            ∙ ap (λ (l : List ℕ). get_or l 0 0)
            (outputs_after-const (fields_at T i) (inputs_at T s.inputs i) (outputs_at T s.outputs i) t e)
            ∙ numbers_at s.outputs (first_output T i) (fields_at T i).outputs outputs_room 0 (one i h e)
            ∙ sym (at_first s.outputs i)
            ∙ a.consts i h e

        const : (d : ℕ) → d < T.counts.components → is Const (fields_at T d) ≡ true → Dec (d ≡ i)
            → get_or (outputs_made T t s i) (first_output T d) 0 ≡ (fields_at T d).parameter
        const d q e (yes p) =
            subst (λ (k : ℕ). is Const (fields_at T k) ≡ true
            → get_or (outputs_made T t s i) (first_output T k) 0 ≡ (fields_at T k).parameter)
            (sym p) const_own e
        const d q e (no ne) =
            at_first (outputs_made T t s i) d
            ∙ others_left d 0 q ne (one d q e)
            ∙ sym (at_first s.outputs d)
            ∙ a.consts d q e

        stand : (b : Bool) → Names T.counts.components (cond b s.standing (strike i s.standing))
        stand true = a.standing
        stand false = names_strike T.counts.components i s.standing a.standing

  -- A whole round, wires in any order.
  module _ (ws : List Wire) (o : Order T ws) (t : ℕ) where
    pub wires_from-in : (i : ℕ) (w : Wire) → In w (wires_from ws i) → In w (wires_in T)
    wires_from-in i w m = o.only w (keep_sound (λ (v : Wire). eqb v.src.comp.0 i) w ws m).1

    pub visit_held : (s : State) (i : ℕ) → i < T.counts.components → Held T s → Held T (visit T (wires_from ws) t s i)
    unfolding visit
    visit_held s i h a = sends_held (wires_from ws i) (wires_from-in i) (evaluated T t i s) (evaluated_held t i h s a)

    pub visits_held : (xs : List ℕ) → ((x : ℕ) → In x xs → x < T.counts.components) → (s : State) → Held T s
        → Held T (foldl (visit T (wires_from ws) t) s xs)
    visits_held xs f = foldl_keeps (Held T) (visit T (wires_from ws) t) xs (λ u x m. visit_held u x (f x m))

    pub round_held : (s : State) → Held T s → Held T (round T (wires_from ws) t s)
    unfolding round
    round_held s a =
        let b = visits_held s.current a.current.exist s a in
        record {
          inputs_length = b.inputs_length;
          outputs_length = b.outputs_length;
          inputs_fit = b.inputs_fit;
          outputs_fit = b.outputs_fit;
          consts = b.consts;
          current = b.following;
          following = b.standing;
          standing = b.standing;
        }
