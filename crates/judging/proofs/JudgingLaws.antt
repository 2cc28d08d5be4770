-- Laws of judging: what marks say, the outputs that a component should have, and from the lists and wires of a net to the answer.
-- Assumes nothing.
use mathlib.Core.Path.{◌≡◌, refl, sym, ap, ◌∙◌, subst}
use mathlib.Core.Logic.{⊎_elim}
use mathlib.Core.Bool.{Bool, true, false, not, ◌&&◌, ◌||◌, and-true, or-false, false≢true}
use mathlib.Core.List.{List, [], ◌∷◌, ◌++◌, append_assoc}
use Prim.Native.Nat.{ℕ, zero, suc, ◌+◌, ◌-◌, ◌≤◌, ◌<◌}
use native.Mathlib.Nat.{add-zero}
use native.Mathlib.Numerals.{add-one}
use native.Mathlib.Omega.{arith}
use borrow.Author.Tests.{eqb-true, eqb-false, eq-eqb, not-false}
use lib.ListN.{length, get_or, set, take, drop, length-append, length-drop, get_or-append}
use lib.Pointwise.{pointwise}
use lib.Seq.{get_or-set_other, take-suc, length-take-le, get_or-take, get_or-drop}
use lib.Dec.{eqb}
use Rattle.lists.specs.Lists.{from, every, has}
use Rattle.lists.proofs.TestsLaws.{and_right, and_both, or_cases, or_second, or_rest, or_hold}
use Rattle.lists.proofs.MembersLaws.{In, has_sound, has_complete, every_sound, every_complete, every_cong, from0_sound, from0_complete}
use Rattle.kinds.specs.declared.Kind.TheVariants.{Switch, Clock, Const}
use Rattle.kinds.specs.declared.table.Fields.{Fields}
use Rattle.kinds.specs.Kinds.{is, kind_of, primitive, obeys}
use Rattle.kinds.proofs.ObeysLaws.{row_few, obeys_row}
use Rattle.primitive.specs.Evaluate.{function_of, outputs_after}
use Rattle.primitive.specs.Own.{Own}
use Rattle.primitive.proofs.FitLaws.{outputs_after-length}
use Rattle.tables.specs.declared.Wire.{Wire}
use Rattle.tables.specs.Tables.{Tables, fields_at, first_input, first_output, inputs_at, indexes, wire_at, wires_in, current_list, following_list, standing_list, named}
use Rattle.tables.specs.Words.{no_counts, wire_in}
use Rattle.tables.proofs.NamedLaws.{has_append}
use Rattle.net.specs.Net.{names, net_number}
use Rattle.net.specs.Parts.{lent}
use Rattle.net.proofs.NetLaws.{names_existing, names_entry, net_number-net}
use Rattle.rounds.specs.Links.{IsListed}
use Rattle.rounds.proofs.Evaluation.{const_outputs, outputs_after-function, function_of-const}
use Rattle.rounds.proofs.Sound.{net_sound, wire_in_lem, output_room, input_room, current_in, following_in, standing_in}
use Rattle.rounds.proofs.Left.{net_held}
use Rattle.rounds.proofs.RoundLaws.{net_rows}
use Rattle.rounds.proofs.StepsLaws.{lent_inputs_are, lent_own}
use Rattle.rounds.proofs.ListedLaws.{listed_there, listed_new}
use Rattle.judging.specs.Judged.{wire_agrees, has_outputs, component_agrees, judged_named}
use Rattle.judging.specs.Steps.{CanJudge, CanCompare, MarkedAgree}

-- A wire whose source is not marked is not judged; one whose source is marked is.
module _ (marks xs : List ℕ) (x : ℕ) (b : Bool) (h : x < 256) (l : IsListed marks xs) where
  pub unmarked_wire : get_or marks x 0 ≡ 0 → true ≡ (not (has x xs) || b)
  unmarked_wire e = rw (listed_new marks xs x h l e)

  pub marked_wire : (get_or marks x 0 ≡ 0 → ⊥) → b ≡ (not (has x xs) || b)
  marked_wire n = rw (listed_there marks xs x h l n)

-- One more is marked, which agrees.
pub agree_more : (T : Tables) (marks : List ℕ) (i : ℕ) → MarkedAgree T marks → component_agrees T i ≡ true → MarkedAgree T (set marks i 1)
agree_more T marks i a e x h n = by_test (eqb i x) refl
  where
    by_test : (b : Bool) → eqb i x ≡ b → component_agrees T x ≡ true
    by_test true q = ap (component_agrees T) (sym (eqb-true i x q)) ∙ e
    by_test false q = a x h (λ z. n (get_or-set_other marks i x 1 0 (λ u. eqb-false i x q (sym u)) ∙ z))

-- One that is marked already.
pub listed_again : (marks xs : List ℕ) (x : ℕ) → x < 256 → IsListed marks xs → (get_or marks x 0 ≡ 0 → ⊥) → IsListed marks (xs ++ (x ∷ []))
listed_again marks xs x h l n =
    record { whole = l.whole; exact = λ y b. l.exact y b ∙ ap not (sym (has_append y xs (x ∷ []) ∙ by_test y (eqb y x) refl)) }
  where
    by_test : (y : ℕ) (b : Bool) → eqb y x ≡ b → (has y xs || (eqb y x || false)) ≡ has y xs
    by_test y true q = rw (eqb-true y x q, listed_there marks xs x h l n)
    by_test y false q = rw q (or-false (has y xs))

-- A loop over the entries of a list that marks each.
pub listed_entry : (marks t xs : List ℕ) (k i : ℕ) → k < length t → i ≡ get_or t k 0 → IsListed marks ((xs ++ take k t) ++ (i ∷ []))
    → IsListed marks (xs ++ take (k + 1) t)
listed_entry marks t xs k i h e l =
    subst (IsListed marks)
    (append_assoc xs (take k t) (i ∷ []) ∙ ap (λ (j : ℕ). xs ++ (take k t ++ (j ∷ []))) e
    ∙ ap (λ (ys : List ℕ). xs ++ ys) (sym (ap (λ (j : ℕ). take j t) (add-one k) ∙ take-suc t k 0 h))) l

-- Two lists of n numbers compared pair by pair.
pairs_compared : (n : ℕ) (xs ys : List ℕ) (f : ℕ → Bool) (q : ℕ) → length xs ≡ n → length ys ≡ n
    → ((p : ℕ) → p < n → eqb (get_or xs p 0) (get_or ys p 0) ≡ f (q + p)) → pointwise eqb xs ys ≡ every f (from q n)
pairs_compared zero [] [] f q l m e = refl
pairs_compared zero [] (y ∷ ys) f q l m e = absurd (omega (arith, m))
pairs_compared zero (x ∷ xs) ys f q l m e = absurd (omega (arith, l))
pairs_compared (suc n) [] ys f q l m e = absurd (omega (arith, l))
pairs_compared (suc n) (x ∷ xs) [] f q l m e = absurd (omega (arith, m))
pairs_compared (suc n) (x ∷ xs) (y ∷ ys) f q l m e =
    let here : eqb x y ≡ f q = e 0 (omega arith) ∙ ap f (omega arith) in
    let later : pointwise eqb xs ys ≡ every f (from (suc q) n) =
    pairs_compared n xs ys f (suc q) (omega (arith, l)) (omega (arith, m)) (λ p h. e (suc p) (omega arith) ∙ ap f (omega arith)) in
    λ i. here i && later i

-- Two parts of tables.
pub parts_compared : (os should : List ℕ) (a n : ℕ) → a + n ≤ length os → n ≤ length should
    → pointwise eqb (take (a + n - a) (drop a os)) (take n should)
    ≡ every (λ p. eqb (get_or os (a + p) 0) (get_or should p 0)) (from 0 n)
parts_compared os should a n h k =
    pairs_compared n (take (a + n - a) (drop a os)) (take n should) (λ p. eqb (get_or os (a + p) 0) (get_or should p 0)) 0
    (omega (arith, length-take-le (a + n - a) (drop a os) (omega (arith, length-drop a os)))) (length-take-le n should k) each
  where
    each : (p : ℕ) → p < n
        → eqb (get_or (take (a + n - a) (drop a os)) p 0) (get_or (take n should) p 0) ≡ eqb (get_or os (a + (0 + p)) 0) (get_or should (0 + p) 0)
    each p b =
        let e : p ≡ 0 + p = omega arith in
        (λ i. eqb ((get_or-take (a + n - a) (drop a os) p 0 (omega arith) ∙ get_or-drop a os p 0) i) (get_or-take n should p 0 b i))
        ∙ ap (λ (j : ℕ). eqb (get_or os (a + j) 0) (get_or should j 0)) e

-- A component that can be judged.
module _ (T : Tables) (i : ℕ) (v : CanJudge T i) where
  pub outputs_few : (fields_at T i).outputs ≤ 64
  outputs_few =
      let f = fields_at T i in
      (row_few (kind_of f.kind) f (obeys_row f (and_right (primitive f) (obeys f) v.evaluable.obeyed))).1

  -- A Const has its output.
  pub const_agrees : is Const (fields_at T i) ≡ true → true ≡ component_agrees T i
  const_agrees c =
      sym (or_second (is Switch (fields_at T i) || is Clock (fields_at T i)) (has_outputs T i)
      (every_complete (λ p. eqb (get_or T.outputs (first_output T i + p) 0) (get_or (function_of (fields_at T i) (inputs_at T T.inputs i) 0) p 0))
      (from 0 (fields_at T i).outputs) each))
    where
      each : (p : ℕ) → In p (from 0 (fields_at T i).outputs)
          → eqb (get_or T.outputs (first_output T i + p) 0) (get_or (function_of (fields_at T i) (inputs_at T T.inputs i) 0) p 0) ≡ true
      each p m =
          let z : p ≡ 0 = omega (arith, from0_sound (fields_at T i).outputs p m, const_outputs (fields_at T i) v.evaluable.obeyed c) in
          eq-eqb (get_or T.outputs (first_output T i + p) 0) (get_or (function_of (fields_at T i) (inputs_at T T.inputs i) 0) p 0)
          (rw (z, function_of-const (fields_at T i) (inputs_at T T.inputs i) 0 c) (simp add-zero (v.held c)))

-- A Switch is not judged, nor a Clock; of any other its outputs decide.
module _ (T : Tables) (i : ℕ) where
  pub switch_aside : is Switch (fields_at T i) ≡ true → true ≡ component_agrees T i
  switch_aside e = rw e

  pub clock_aside : is Clock (fields_at T i) ≡ true → true ≡ component_agrees T i
  clock_aside e = ap (λ (b : Bool). b || has_outputs T i) (sym (or_second (is Switch (fields_at T i)) (is Clock (fields_at T i)) e))

  pub judged_other : is Switch (fields_at T i) ≡ false → is Clock (fields_at T i) ≡ false → has_outputs T i ≡ component_agrees T i
  judged_other s c = rw (s, c)

-- The outputs that component i should have, worked out in a table of full size: f are its fields, its inputs start at a.
module _ (T : Tables) (i : ℕ) (v : CanJudge T i) (f : Fields) (a : ℕ) (ef : f ≡ fields_at T i) (ea : a ≡ first_input T i) (should : List ℕ)
    (room : 64 ≤ length should) where
  pub should_room : f.outputs ≤ length should
  should_room = omega (arith, outputs_few T i v, ap (λ (g : Fields). g.outputs) ef)

  pub should_length : f.outputs ≡ length (take f.outputs should)
  should_length = sym (length-take-le f.outputs should should_room)

  abbrev lent_part : List ℕ
  lent_part = take (a + f.inputs - a) (drop a T.inputs)

  part_is : lent_part ≡ inputs_at T T.inputs i
  part_is = lent_inputs_are T T.inputs T.outputs i v.evaluable f a (first_output T i) ef ea refl

  pub should_own : Own f lent_part (take f.outputs should)
  should_own =
      let o = lent_own T T.inputs T.outputs i v.evaluable f a (first_output T i) ef ea refl in
      record { obeyed = o.obeyed; all_inputs = o.all_inputs; all_outputs = sym should_length }

  should_made : (zs : List ℕ) → zs ≡ outputs_after f lent_part (take f.outputs should) 0 → length zs ≡ f.outputs
  should_made zs e = ap length e ∙ outputs_after-length f lent_part (take f.outputs should) 0 should_own

  pub should_kept : (zs : List ℕ) → zs ≡ outputs_after f lent_part (take f.outputs should) 0 → f.outputs ≤ length (zs ++ drop f.outputs should)
  should_kept zs e = omega (arith, length-append zs (drop f.outputs should), should_made zs e)

  -- What is compared with them.
  pub should_compared : (b : ℕ) → b ≡ first_output T i → is Switch (fields_at T i) ≡ false → is Const (fields_at T i) ≡ false → (zs : List ℕ)
      → zs ≡ outputs_after f lent_part (take f.outputs should) 0
      → every (λ p. eqb (get_or T.outputs (b + p) 0) (get_or (zs ++ drop f.outputs should) p 0)) (from 0 f.outputs) ≡ has_outputs T i
  should_compared b eb s c zs e =
      every_cong (λ p. eqb (get_or T.outputs (b + p) 0) (get_or (zs ++ drop f.outputs should) p 0))
      (λ p. eqb (get_or T.outputs (first_output T i + p) 0) (get_or made p 0)) (from 0 f.outputs)
      (λ p m. λ k. eqb (get_or T.outputs (eb k + p) 0)
      ((get_or-append zs (drop f.outputs should) 0 p (omega (arith, should_made zs e, from0_sound f.outputs p m))
      ∙ ap (λ (l : List ℕ). get_or l p 0) zs_are) k))
      ∙ ap (λ (g : Fields). every (λ p. eqb (get_or T.outputs (first_output T i + p) 0) (get_or made p 0)) (from 0 g.outputs)) ef
    where
      made : List ℕ
      made = function_of (fields_at T i) (inputs_at T T.inputs i) 0

      zs_are : zs ≡ made
      zs_are =
          e ∙ (λ k. outputs_after (ef k) (part_is k) (take f.outputs should) 0)
          ∙ outputs_after-function (fields_at T i) (inputs_at T T.inputs i) (take f.outputs should) 0 s c

-- What a net gives: each component can be judged, each wire's ends compared.
module _ (T : Tables) (z : net_number T ≡ 0) where
  pub net_judge : (i : ℕ) → i < T.counts.components → CanJudge (lent T.components T.inputs T.outputs [] no_counts) i
  net_judge i h =
      let g = net_sound T z in
      record {
        evaluable = record {
          few = omega (arith, g.few);
          row = omega (arith, net_rows T z, h);
          obeyed = g.obeyed i h;
          inputs_in = g.inputs_in i h;
          outputs_in = g.outputs_in i h;
        };
        held = (net_held T z).consts i h;
      }

  pub net_compare : (k : ℕ) → k < T.counts.wires → CanCompare (lent T.components T.inputs T.outputs [] no_counts) (wire_in T.wires k)
  net_compare k h =
      let g = net_sound T z in
      let w = wire_at T k in
      let m = wire_in_lem T k h in
      record {
        source_few = omega (arith, g.source w m, g.few);
        target_few = omega (arith, g.target w m, g.few);
        source_row = omega (arith, net_rows T z, g.source w m);
        target_row = omega (arith, net_rows T z, g.target w m);
        source = output_room T g w m;
        target = input_room T g w m;
      }

  -- What a list names is a component.
  entry_judge : (n : ℕ) (t : List ℕ) → n ≤ length t → names T (take n t) ≡ true → (j : ℕ) → j < n
      → CanJudge (lent T.components T.inputs T.outputs [] no_counts) (get_or t j 0)
  entry_judge n t l e j h = net_judge (get_or t j 0) (names_entry T n t l e j h)

  pub current_judge : (j : ℕ) → j < T.counts.current → CanJudge (lent T.components T.inputs T.outputs [] no_counts) (get_or T.current j 0)
  current_judge = entry_judge T.counts.current T.current (current_in T z) (net_number-net T z).current

  pub following_judge : (j : ℕ) → j < T.counts.following → CanJudge (lent T.components T.inputs T.outputs [] no_counts) (get_or T.following j 0)
  following_judge = entry_judge T.counts.following T.following (following_in T z) (net_number-net T z).following

  pub standing_judge : (j : ℕ) → j < T.counts.standing → CanJudge (lent T.components T.inputs T.outputs [] no_counts) (get_or T.standing j 0)
  standing_judge = entry_judge T.counts.standing T.standing (standing_in T z) (net_number-net T z).standing

-- What is judged of a wire and of a component where only what the lists name is.
module _ (T : Tables) where
  abbrev pub named_wire : Wire → Bool
  named_wire w = not (named T w.src.comp.0) || wire_agrees T w

  abbrev pub named_component : ℕ → Bool
  named_component i = not (named T i) || component_agrees T i

-- From the lists and the wires to the answer.
module _ (T : Tables) (z : net_number T ≡ 0) where
  -- Where the lists name nothing, nothing is judged.
  pub none_judged : T.counts.current + T.counts.following + T.counts.standing ≡ 0 → true ≡ judged_named T
  unfolding judged_named
  none_judged e =
      sym (and_both (every (named_wire T) (wires_in T)) (every (named_component T) (indexes T))
      (every_complete (named_wire T) (wires_in T) (λ w m. rw (none w.src.comp.0)))
      (every_complete (named_component T) (indexes T) (λ i m. rw (none i))))
    where
      none : (i : ℕ) → named T i ≡ false
      none i =
          let c : T.counts.current ≡ 0 = omega arith in
          let f : T.counts.following ≡ 0 = omega arith in
          let s : T.counts.standing ≡ 0 = omega arith in
          rw (c, f, s)

  -- A component that a list names and that does not agree ends it.
  list_fails : (l : List ℕ) → names T l ≡ true → ((i : ℕ) → has i l ≡ true → named T i ≡ true) → false ≡ every (component_agrees T) l
      → false ≡ judged_named T
  unfolding judged_named
  list_fails l n within e = by_test (judged_named T) refl
    where
      agree : judged_named T ≡ true → every (component_agrees T) l ≡ true
      agree q =
          every_complete (component_agrees T) l
          (λ i m. or_rest (not (named T i)) (component_agrees T i) (ap not (within i (has_complete i l m)))
          (every_sound (named_component T) i (indexes T) (and_right (every (named_wire T) (wires_in T)) (every (named_component T) (indexes T)) q)
          (from0_complete T.counts.components i (names_existing T l n i m))))

      by_test : (b : Bool) → judged_named T ≡ b → false ≡ judged_named T
      by_test true q = absurd (false≢true (e ∙ agree q))
      by_test false q = sym q

  abbrev in_current : ℕ → Bool
  in_current i = has i (current_list T)

  abbrev in_following : ℕ → Bool
  in_following i = has i (following_list T)

  abbrev in_standing : ℕ → Bool
  in_standing i = has i (standing_list T)

  pub current_fails : false ≡ every (component_agrees T) (current_list T) → false ≡ judged_named T
  current_fails = list_fails (current_list T) (net_number-net T z).current (λ i h. rw h)

  pub following_fails : false ≡ every (component_agrees T) (following_list T) → false ≡ judged_named T
  following_fails =
      list_fails (following_list T) (net_number-net T z).following
      (λ i h. ap (λ (b : Bool). b || in_standing i) (or_second (in_current i) (in_following i) h))

  pub standing_fails : false ≡ every (component_agrees T) (standing_list T) → false ≡ judged_named T
  standing_fails =
      list_fails (standing_list T) (net_number-net T z).standing (λ i h. or_second (in_current i || in_following i) (in_standing i) h)

  -- What the three lists name, one behind the other.
  abbrev pub named_indexes : List ℕ
  named_indexes = (current_list T ++ following_list T) ++ standing_list T

  all_named : (i : ℕ) → has i named_indexes ≡ named T i
  all_named i =
      has_append i (current_list T ++ following_list T) (standing_list T)
      ∙ ap (λ (b : Bool). b || in_standing i) (has_append i (current_list T) (following_list T))

  -- Where all that they name agrees, the wires decide.
  pub wires_decide : true ≡ every (component_agrees T) (current_list T) → true ≡ every (component_agrees T) (following_list T)
      → true ≡ every (component_agrees T) (standing_list T) → (b : Bool)
      → b ≡ every (λ (w : Wire). not (has w.src.comp.0 named_indexes) || wire_agrees T w) (wires_in T) → b ≡ judged_named T
  unfolding judged_named
  wires_decide c f s b e =
      e ∙ (λ k. every (λ (w : Wire). not (all_named w.src.comp.0 k) || wire_agrees T w) (wires_in T))
      ∙ sym (and-true (every (named_wire T) (wires_in T)))
      ∙ ap (λ (d : Bool). every (named_wire T) (wires_in T) && d) (sym components)
    where
      in_list : (l : List ℕ) (i : ℕ) → true ≡ every (component_agrees T) l → has i l ≡ true → component_agrees T i ≡ true
      in_list l i q h = every_sound (component_agrees T) i l (sym q) (has_sound i l h)

      in_lists : (i : ℕ) → named T i ≡ true → component_agrees T i ≡ true
      in_lists i h =
          ⊎_elim (λ u. ⊎_elim (in_list (current_list T) i c) (in_list (following_list T) i f) (or_cases (in_current i) (in_following i) u))
          (in_list (standing_list T) i s) (or_cases (in_current i || in_following i) (in_standing i) h)

      components : every (named_component T) (indexes T) ≡ true
      components =
          every_complete (named_component T) (indexes T)
          (λ i m. or_hold (not (named T i)) (component_agrees T i) (λ q. in_lists i (not-false (named T i) q)))
