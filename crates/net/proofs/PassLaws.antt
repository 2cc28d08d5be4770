-- The pass over the components: an id that is marked or not, the widths that are noted, and what the rows found right say of the clauses.
-- Assumes nothing.
use mathlib.Core.Path.{◌≡◌, refl, sym, ap, ◌∙◌}
use mathlib.Core.Logic.{inl, inr}
use mathlib.Core.Bool.{Bool, true, false, not, ◌&&◌, true≢false}
use mathlib.Core.List.{List, [], ◌∷◌, ◌++◌, map}
use Prim.Native.Nat.{ℕ, suc, ◌+◌, ◌-◌, ◌≤◌, ◌<◌}
use native.Mathlib.Numerals.{add-one}
use native.Mathlib.Decide.{dec_lt}
use native.Mathlib.Omega.{arith}
use borrow.Author.Tests.{eq-eqb, eqb-true, le-leb, leb-true}
use lib.ListN.{length, get_or, set, replicate, length-set, length-replicate}
use lib.Seq.{get_or-set_same, get_or-set_other}
use lib.Dec.{eqb, leb}
use Rattle.lists.specs.Lists.{from, every, has, distinct, append_new}
use Rattle.lists.specs.Marks.{IsMarked}
use Rattle.lists.proofs.ListsLaws.{every_from, within_most}
use Rattle.lists.proofs.TestsLaws.{and_both, and_left, and_right}
use Rattle.lists.proofs.MembersLaws.{In, in_right, has_sound, has_complete, has_none, map_sound, map_append, every_sound, every_complete, from0_sound}
use Rattle.lists.proofs.MembersLaws.{from_append, from_last, distinct_sound, distinct_complete}
use Rattle.lists.proofs.NamesLaws.{append_new-distinct}
use Rattle.lists.proofs.KeysLaws.{unmarked_none}
use Rattle.value.specs.Value.{widest, below}
use Rattle.kinds.specs.declared.Kind.TheVariants.{Const}
use Rattle.kinds.specs.declared.table.Fields.{Fields}
use Rattle.kinds.specs.Kinds.{kind_of, is, primitive, obeys, input_width, output_width}
use Rattle.kinds.proofs.ObeysLaws.{obeys_row, obeyed_row, row_bits}
use Rattle.tables.specs.declared.Counts.{Counts}
use Rattle.tables.specs.Tables.{Tables}
use Rattle.tables.specs.Words.{fields_in, id_in, first_input_in, first_output_in, uncounted}
use Rattle.tables.proofs.PartsLaws.{AllTrue, parts_sound}
use Rattle.net.specs.Net.{kinds_obeyed, ids_distinct, ports_follow, values_fit, consts_held, input_sum, output_sum}
use Rattle.net.specs.Parts.{lent, obeyed_at, follow_at, within_at, values_fit_at, held_at, stands_at, holds_at, row_right, rows_right, InputsInside}
use Rattle.net.specs.Parts.{OutputsInside, Widths}
use Rattle.net.proofs.ClausesLaws.{kinds_obeyed-at, ports_follow-first_input, ports_follow-first_output, ports_follow-inputs, ports_follow-outputs}

-- A number whose mark is not set is none of those that are marked.
pub has_unmarked : (size : ℕ) (mark g : ℕ → ℕ) (marks : List ℕ) (x n : ℕ)
    → IsMarked size (λ j. true) (λ j. mark (g j)) 0 n marks → get_or marks (mark x) 0 ≡ 0 → has x (map g (from 0 n)) ≡ false
has_unmarked size mark g marks x n m e =
    has_none x (map g (from 0 n)) (λ u.
    let r = map_sound g x (from 0 n) u in
    unmarked_none size (λ j. true) (λ j. mark (g j)) 0 n marks m (mark x) r.0 e (omega arith) (from0_sound n r.0 r.1) refl
    (ap mark (sym r.2)))

-- One more, which is new.
pub distinct_next : (g : ℕ → ℕ) (i : ℕ) → has (g i) (map g (from 0 i)) ≡ false → distinct (map g (from 0 i)) ≡ true
    → distinct (map g (from 0 (i + 1))) ≡ true
unfolding append_new
distinct_next g i new d =
    let e : map g (from 0 (i + 1)) ≡ append_new (g i) (map g (from 0 i)) =
    ap (λ (k : ℕ). map g (from 0 k)) (add-one i) ∙ ap (map g) (from_last i) ∙ map_append g (from 0 i) (i ∷ []) ∙ rw new in
    ap distinct e
    ∙ distinct_complete (append_new (g i) (map g (from 0 i))) (append_new-distinct (g i) (map g (from 0 i)) (distinct_sound (map g (from 0 i)) d))

-- One that stands again.
distinct_again : (y : ℕ) (xs ys : List ℕ) → In y xs → distinct (xs ++ (y ∷ ys)) ≡ true → ⊥
distinct_again y [] ys u e = u
distinct_again y (x ∷ xs) ys u e = by_place (λ v. distinct_again y xs ys v) u
  where
    all : List ℕ
    all = xs ++ (y ∷ ys)

    new : not (has x all) ≡ true
    new = and_left (not (has x all)) (distinct all) e

    by_place : (In y xs → distinct (xs ++ (y ∷ ys)) ≡ true → ⊥) → In y (x ∷ xs) → ⊥
    by_place later (inl q) =
        true≢false (sym new ∙ ap not (has_complete x all (in_right x xs (y ∷ ys) (inl (sym q)))))
    by_place later (inr v) = later v (and_right (not (has x all)) (distinct all) e)

pub distinct_repeats : (g : ℕ → ℕ) (i n : ℕ) → i < n → has (g i) (map g (from 0 i)) ≡ true → distinct (map g (from 0 n)) ≡ true → ⊥
distinct_repeats g i n h e d =
    let k : n ≡ i + suc (n - suc i) = omega arith in
    let z : 0 + i ≡ i = omega arith in
    let s : map g (from 0 n) ≡ map g (from 0 i) ++ (g i ∷ map g (from (suc i) (n - suc i))) =
    ap (λ (j : ℕ). map g (from 0 j)) k ∙ ap (map g) (from_append 0 i (suc (n - suc i)))
    ∙ ap (λ (j : ℕ). map g (from 0 i ++ from j (suc (n - suc i)))) z
    ∙ map_append g (from 0 i) (from i (suc (n - suc i))) in
    distinct_again (g i) (map g (from 0 i)) (map g (from (suc i) (n - suc i))) (has_sound (g i) (map g (from 0 i)) e) (ap distinct (sym s) ∙ d)

-- The widths.
pub widths_start : (cs : List ℕ) → Widths cs 0 (replicate 256 0) (replicate 256 0)
widths_start cs =
    record {
      inputs_whole = length-replicate {A = ℕ} 256 0;
      outputs_whole = length-replicate {A = ℕ} 256 0;
      inputs = λ j h. absurd (omega arith);
      outputs = λ j h. absurd (omega arith);
    }

noted : (g : ℕ → ℕ) (t : List ℕ) (i : ℕ) → i < length t → ((j : ℕ) → j < i → get_or t j 0 ≡ g j)
    → (j : ℕ) → j < i + 1 → get_or (set t i (g i)) j 0 ≡ g j
noted g t i l so_far j h = by_place (dec_lt j i)
  where
    by_place : Dec (j < i) → get_or (set t i (g i)) j 0 ≡ g j
    by_place (yes k) = get_or-set_other t i j (g i) 0 (λ q. omega (arith, q, k)) ∙ so_far j k
    by_place (no k) =
        let same : i ≡ j = omega arith in
        ap (λ (p : ℕ). get_or (set t i (g i)) p 0) (sym same) ∙ get_or-set_same t i (g i) 0 l ∙ ap g same

pub widths_next : (cs : List ℕ) (i : ℕ) (entering leaving entering' leaving' : List ℕ) → i < 256 → Widths cs i entering leaving
    → entering' ≡ set entering i (input_width (fields_in cs i)) → leaving' ≡ set leaving i (output_width (fields_in cs i))
    → Widths cs (i + 1) entering' leaving'
widths_next cs i entering leaving entering' leaving' h w e l =
    rw (e, l) (record {
      inputs_whole = simp length-set w.inputs_whole;
      outputs_whole = simp length-set w.outputs_whole;
      inputs = noted (λ j. input_width (fields_in cs j)) entering i (omega (arith, w.inputs_whole)) w.inputs;
      outputs = noted (λ j. output_width (fields_in cs j)) leaving i (omega (arith, w.outputs_whole)) w.outputs;
    })

-- They fit a byte.
module _ (f : Fields) (o : (primitive f && obeys f) ≡ true) where
  pub input_width-small : input_width f < 256
  input_width-small =
      omega (arith, within_most 1 widest (input_width f) (row_bits f (kind_of f.kind) (obeys_row f (and_right (primitive f) (obeys f) o))).0)

  pub output_width-small : output_width f < 256
  output_width-small =
      omega (arith, within_most 1 widest (output_width f) (row_bits f (kind_of f.kind) (obeys_row f (and_right (primitive f) (obeys f) o))).1)

-- A Const has an output.
pub const_inside : (cs os : List ℕ) (i : ℕ) → obeyed_at cs i ≡ true → OutputsInside cs os i → is Const (fields_in cs i) ≡ true
    → first_output_in cs i < length os
const_inside cs os i o h e =
    let r = obeyed_row (fields_in cs i) Const o (eqb-true (fields_in cs i).kind 13 e) in
    omega (arith, r.outputs.least)

every_imply : (f g : ℕ → Bool) (n : ℕ) → ((i : ℕ) → f i ≡ true → g i ≡ true) → every f (from 0 n) ≡ true → every g (from 0 n) ≡ true
every_imply f g n h e = every_complete g (from 0 n) (λ i u. h i (every_sound f i (from 0 n) e u))

refuted : (b : Bool) → (b ≡ true → ⊥) → false ≡ b
refuted true h = absurd (h refl)
refuted false h = refl

-- What one row says.
module _ (cs : List ℕ) (m : Counts) (i : ℕ) (e : stands_at cs m i ≡ true) where
  abbrev ports : Bool
  ports = follow_at cs i && within_at cs m i

  pub stands_obeyed : obeyed_at cs i ≡ true
  stands_obeyed = and_left (obeyed_at cs i) (below (id_in cs i) 32 && ports) e

  rest : (below (id_in cs i) 32 && ports) ≡ true
  rest = and_right (obeyed_at cs i) (below (id_in cs i) 32 && ports) e

  pub stands_id : below (id_in cs i) 32 ≡ true
  stands_id = and_left (below (id_in cs i) 32) ports rest

  pub stands_ports : ports ≡ true
  stands_ports = and_right (below (id_in cs i) 32) ports rest

  stands_follow : follow_at cs i ≡ true
  stands_follow = and_left (follow_at cs i) (within_at cs m i) stands_ports

  pub stands_within : within_at cs m i ≡ true
  stands_within = and_right (follow_at cs i) (within_at cs m i) stands_ports

module _ (cs is os : List ℕ) (m : Counts) (i : ℕ) (e : row_right cs is os m i ≡ true) where
  row_stands : stands_at cs m i ≡ true
  row_stands = and_left (stands_at cs m i) (holds_at cs is os i) e

  row_holds : holds_at cs is os i ≡ true
  row_holds = and_right (stands_at cs m i) (holds_at cs is os i) e

  row_fit : values_fit_at cs is os i ≡ true
  row_fit = and_left (values_fit_at cs is os i) (held_at cs os i) row_holds

  row_held : held_at cs os i ≡ true
  row_held = and_right (values_fit_at cs is os i) (held_at cs os i) row_holds

-- The rows and the clauses.
module _ (cs is os : List ℕ) (m : Counts) where
  abbrev T : Tables
  T = lent cs is os [] m

  abbrev n : ℕ
  n = m.components

  clauses : rows_right T ≡ true → AllTrue (kinds_obeyed T ∷ ids_distinct T ∷ ports_follow T ∷ values_fit T ∷ consts_held T ∷ [])
  clauses t = parts_sound (kinds_obeyed T) (ids_distinct T ∷ ports_follow T ∷ values_fit T ∷ consts_held T ∷ []) t

  pub rows_follow : rows_right T ≡ true → ports_follow (lent cs [] [] [] m) ≡ true
  unfolding ports_follow
  rows_follow t = (clauses t).1.1.0

  -- Where the clauses hold each row is right,
  row_right_lem : rows_right T ≡ true → (i : ℕ) → i < n → row_right cs is os m i ≡ true
  unfolding ids_distinct values_fit consts_held
  row_right_lem t i h =
      let p = clauses t in
      let a = ports_follow-first_input T p.1.1.0 i h in
      let b = ports_follow-first_output T p.1.1.0 i h in
      let follow : follow_at cs i ≡ true =
      and_both (eqb (first_input_in cs i) (input_sum T i)) (eqb (first_output_in cs i) (output_sum T i)) (eq-eqb _ _ a) (eq-eqb _ _ b) in
      let u : input_sum T i + (fields_in cs i).inputs ≤ m.inputs = omega (arith, a, ports_follow-inputs T p.1.1.0 i h) in
      let w : output_sum T i + (fields_in cs i).outputs ≤ m.outputs = omega (arith, b, ports_follow-outputs T p.1.1.0 i h) in
      let within : within_at cs m i ≡ true =
      and_both (leb (input_sum T i + (fields_in cs i).inputs) m.inputs) (leb (output_sum T i + (fields_in cs i).outputs) m.outputs)
      (le-leb _ _ u) (le-leb _ _ w) in
      let ids : every (λ j. below (id_in cs j) 32) (from 0 n) ≡ true =
      and_left (every (λ j. below (id_in cs j) 32) (from 0 n)) (distinct (map (id_in cs) (from 0 n))) p.1.0 in
      and_both (stands_at cs m i) (holds_at cs is os i)
      (and_both (obeyed_at cs i) (below (id_in cs i) 32 && (follow_at cs i && within_at cs m i)) (kinds_obeyed-at T p.0 i h)
      (and_both (below (id_in cs i) 32) (follow_at cs i && within_at cs m i) (every_from (λ j. below (id_in cs j) 32) n ids i h)
      (and_both (follow_at cs i) (within_at cs m i) follow within)))
      (and_both (values_fit_at cs is os i) (held_at cs os i) (every_from (values_fit_at cs is os) n p.1.1.1.0 i h)
      (every_from (held_at cs os) n p.1.1.1.1.0 i h))

  -- so one that is not refutes them,
  pub rows_fail : false ≡ every (row_right cs is os m) (from 0 n) → false ≡ rows_right T
  rows_fail e =
      refuted (rows_right T) (λ t. true≢false
      (sym (every_complete (row_right cs is os m) (from 0 n) (λ i u. row_right_lem t i (from0_sound n i u))) ∙ sym e))

  -- and so does an id that stands again.
  pub rows_again : (i : ℕ) → i < n → has (id_in cs i) (map (id_in cs) (from 0 i)) ≡ true → false ≡ rows_right T
  unfolding ids_distinct
  rows_again i h e =
      refuted (rows_right T) (λ t. distinct_repeats (id_in cs) i n h e
      (and_right (every (λ j. below (id_in cs j) 32) (from 0 n)) (distinct (map (id_in cs) (from 0 n))) (clauses t).1.0))

  -- Where all rows are right and no id stands again, the counts decide.
  pub rows_end : (ins outs : ℕ) → true ≡ every (row_right cs is os m) (from 0 n) → distinct (map (id_in cs) (from 0 n)) ≡ true
      → ins ≡ input_sum (uncounted cs []) n → outs ≡ output_sum (uncounted cs []) n
      → (eqb m.inputs ins && eqb m.outputs outs) ≡ rows_right T
  unfolding kinds_obeyed ids_distinct ports_follow values_fit consts_held
  rows_end ins outs e d p q =
      let k : every (obeyed_at cs) (from 0 n) ≡ true = every_imply _ _ n (λ j r. stands_obeyed cs m j (row_stands cs is os m j r)) (sym e) in
      let i : every (λ j. below (id_in cs j) 32) (from 0 n) ≡ true = every_imply _ _ n (λ j r. stands_id cs m j (row_stands cs is os m j r)) (sym e) in
      let f : every (follow_at cs) (from 0 n) ≡ true = every_imply _ _ n (λ j r. stands_follow cs m j (row_stands cs is os m j r)) (sym e) in
      let v : every (values_fit_at cs is os) (from 0 n) ≡ true = every_imply _ _ n (row_fit cs is os m) (sym e) in
      let c : every (held_at cs os) (from 0 n) ≡ true = every_imply _ _ n (row_held cs is os m) (sym e) in
      rw (k, i, f, v, c, d, p, q) (flat (eqb m.inputs (input_sum (uncounted cs []) n)) (eqb m.outputs (output_sum (uncounted cs []) n)))
    where
      flat : (a b : Bool) → (a && b) ≡ (((a && b) && true) && true)
      flat true true = refl
      flat true false = refl
      flat false b = refl

-- Where the ports of component i end, and that tables which hold as many as the counts hold them.
module _ (cs : List ℕ) (m : Counts) (i : ℕ) where
  abbrev U : Tables
  U = uncounted cs []

  pub within_inputs : within_at cs m i ≡ true → input_sum U i + (fields_in cs i).inputs ≤ m.inputs
  within_inputs w =
      leb-true (input_sum U i + (fields_in cs i).inputs) m.inputs
      (and_left (leb (input_sum U i + (fields_in cs i).inputs) m.inputs) (leb (output_sum U i + (fields_in cs i).outputs) m.outputs) w)

  pub within_outputs : within_at cs m i ≡ true → output_sum U i + (fields_in cs i).outputs ≤ m.outputs
  within_outputs w =
      leb-true (output_sum U i + (fields_in cs i).outputs) m.outputs
      (and_right (leb (input_sum U i + (fields_in cs i).inputs) m.inputs) (leb (output_sum U i + (fields_in cs i).outputs) m.outputs) w)

  pub ports_inside : (is os : List ℕ) → (follow_at cs i && within_at cs m i) ≡ true → m.inputs ≤ length is → m.outputs ≤ length os
      → InputsInside cs is i × OutputsInside cs os i
  ports_inside is os e a b =
      let f = and_left (follow_at cs i) (within_at cs m i) e in
      let w = and_right (follow_at cs i) (within_at cs m i) e in
      let p : first_input_in cs i ≡ input_sum U i =
      eqb-true _ _ (and_left (eqb (first_input_in cs i) (input_sum U i)) (eqb (first_output_in cs i) (output_sum U i)) f) in
      let q : first_output_in cs i ≡ output_sum U i =
      eqb-true _ _ (and_right (eqb (first_input_in cs i) (input_sum U i)) (eqb (first_output_in cs i) (output_sum U i)) f) in
      (omega (arith, p, within_inputs w, a), omega (arith, q, within_outputs w, b))
