-- What a net is, clause by clause: `is_net-sound` takes the test apart, `is_net-complete` puts it together, and a law for
-- each clause says what it gives of a component, a port, a wire or a list. Then the number of a call: 2, 16 or 0.
--   Net T      the tables T pass every clause
-- Not here: laws of counts_within, kinds_obeyed and ports_follow (ClausesLaws).
-- Assumes nothing.
use mathlib.Core.Path.{◌≡◌, refl, subst}
use mathlib.Core.Bool.{Bool, true, false, not, ◌&&◌, ◌||◌, cond}
use mathlib.Core.List.{List, [], ◌∷◌, map}
use Prim.Native.Nat.{ℕ, ◌≤◌, ◌<◌}
use native.Mathlib.Omega.{arith}
use borrow.Author.Tests.{ltb-true, eqb-true, not-false, eq-eqb, ne_eqb}
use lib.ListN.{length, get_or, take}
use lib.Seq.{length-take-le, get_or-take}
use lib.Dec.{eqb, ltb}
use Rattle.std.specs.Prelude.{Ok}
use Rattle.lists.specs.Lists.{from, every, distinct}
use Rattle.lists.proofs.ListsLaws.{every_from, refusal_first, refusal_rest}
use Rattle.lists.proofs.TestsLaws.{and_left, and_right}
use Rattle.lists.proofs.MembersLaws.{In, in-get_or, Distinct, every_sound, distinct_sound, distinct_bound, from_length, from0_complete}
use Rattle.value.specs.Value.{all_fit}
use Rattle.kinds.specs.declared.Kind.TheVariants.{Const}
use Rattle.kinds.specs.Kinds.{is, input_width, output_width}
use Rattle.kinds.specs.Given.{Verdict}
use Rattle.kinds.proofs.GivenLaws.{refusing_ok}
use Rattle.tables.specs.declared.End.{End}
use Rattle.tables.specs.declared.Wire.{Wire}
use Rattle.tables.specs.Tables.{Tables, full_size, fields_at, first_output, input_place, inputs_at, outputs_at, wires_in, current_list, following_list, standing_list}
use Rattle.tables.proofs.PartsLaws.{AllTrue, parts_sound, parts_complete}
use Rattle.tables.proofs.SizesLaws.{Full, full_size-sound}
use Rattle.net.specs.Net.{counts_within, kinds_obeyed, ids_distinct, ports_follow, values_fit, consts_held, is_output, is_input, wires_fit, inputs_once}
use Rattle.net.specs.Net.{names, is_circuit, is_net, net_number, Checks, on_net}
use Rattle.net.specs.Parts.{lent, values_fit_at, held_at}
use Rattle.net.specs.Net.{wire_fits}
use Rattle.net.proofs.ClausesLaws.{Within, counts_within-sound, ports_follow-inputs}

-- The clauses.
pub record Net (T : Tables) : Type 0 where
  pub counts : counts_within T.counts ≡ true
  pub kinds : kinds_obeyed T ≡ true
  pub ids : ids_distinct T ≡ true
  pub ports : ports_follow T ≡ true
  pub values : values_fit T ≡ true
  pub consts : consts_held T ≡ true
  pub wires : wires_fit T ≡ true
  pub once : inputs_once T ≡ true
  pub current : names T (current_list T) ≡ true
  pub following : names T (following_list T) ≡ true
  pub standing : names T (standing_list T) ≡ true

module _ (T : Tables) where
  abbrev after_counts : List Bool
  after_counts =
      kinds_obeyed T ∷ ids_distinct T ∷ ports_follow T ∷ values_fit T ∷ consts_held T ∷ wires_fit T ∷ inputs_once T
      ∷ names T (current_list T)
      ∷ names T (following_list T) ∷ names T (standing_list T) ∷ []

  pub is_net-sound : is_net T ≡ true → Net T
  unfolding is_net
  is_net-sound e =
      let p = parts_sound (counts_within T.counts) after_counts e in
      record {
        counts = p.0;
        kinds = p.1.0;
        ids = p.1.1.0;
        ports = p.1.1.1.0;
        values = p.1.1.1.1.0;
        consts = p.1.1.1.1.1.0;
        wires = p.1.1.1.1.1.1.0;
        once = p.1.1.1.1.1.1.1.0;
        current = p.1.1.1.1.1.1.1.1.0;
        following = p.1.1.1.1.1.1.1.1.1.0;
        standing = p.1.1.1.1.1.1.1.1.1.1.0;
      }

  pub is_net-complete : Net T → is_net T ≡ true
  unfolding is_net
  is_net-complete w =
      parts_complete (counts_within T.counts) after_counts (
        w.counts,
        (
          w.kinds,
          (
            w.ids,
            (
              w.ports,
              (
                w.values,
                (
                  w.consts,
                  (
                    w.wires,
                    (
                      w.once,
                      (
                        w.current,
                        (
                          w.following,
                          (w.standing, tt),
                        ),
                      ),
                    ),
                  ),
                ),
              ),
            ),
          ),
        ),
      )

-- "values fit", component by component.
module _ (T : Tables) (e : values_fit T ≡ true) (i : ℕ) (h : i < T.counts.components) where
  fit_at : values_fit_at T.components T.inputs T.outputs i ≡ true
  unfolding values_fit
  fit_at = every_from (values_fit_at T.components T.inputs T.outputs) T.counts.components e i h

  pub values_fit-inputs : all_fit (input_width (fields_at T i)) (inputs_at T T.inputs i) ≡ true
  values_fit-inputs =
      and_left (all_fit (input_width (fields_at T i)) (inputs_at T T.inputs i))
      (all_fit (output_width (fields_at T i)) (outputs_at T T.outputs i)) fit_at

  pub values_fit-outputs : all_fit (output_width (fields_at T i)) (outputs_at T T.outputs i) ≡ true
  values_fit-outputs =
      and_right (all_fit (input_width (fields_at T i)) (inputs_at T T.inputs i))
      (all_fit (output_width (fields_at T i)) (outputs_at T T.outputs i)) fit_at

-- "each Const's output is its value"
pub consts_held-at : (T : Tables) → consts_held T ≡ true → (i : ℕ) → i < T.counts.components → is Const (fields_at T i)
    ≡ true
    → get_or T.outputs (first_output T i) 0 ≡ (fields_at T i).parameter
unfolding consts_held
consts_held-at T e i h k =
    let p : (not (is Const (fields_at T i)) || eqb (get_or T.outputs (first_output T i) 0) (fields_at T i).parameter)
    ≡ true =
    every_from (held_at T.components T.outputs) T.counts.components e i h in
    eqb-true (get_or T.outputs (first_output T i) 0) (fields_at T i).parameter (rw k at p)

-- Ports that exist, taken apart.
module _ (T : Tables) where
  pub is_output-comp : (s : End) → is_output T s ≡ true → s.comp.0 < T.counts.components
  is_output-comp s e =
      ltb-true _ _ (and_left (ltb s.comp.0 T.counts.components) (ltb s.port (fields_at T s.comp.0).outputs) e)

  pub is_output-port : (s : End) → is_output T s ≡ true → s.port < (fields_at T s.comp.0).outputs
  is_output-port s e =
      ltb-true _ _ (and_right (ltb s.comp.0 T.counts.components) (ltb s.port (fields_at T s.comp.0).outputs) e)

  pub is_input-comp : (t : End) → is_input T t ≡ true → t.comp.0 < T.counts.components
  is_input-comp t e =
      ltb-true _ _ (and_left (ltb t.comp.0 T.counts.components) (ltb t.port (fields_at T t.comp.0).inputs) e)

  pub is_input-port : (t : End) → is_input T t ≡ true → t.port < (fields_at T t.comp.0).inputs
  is_input-port t e =
      ltb-true _ _ (and_right (ltb t.comp.0 T.counts.components) (ltb t.port (fields_at T t.comp.0).inputs) e)

-- "wires have ends that exist and equal widths"
module _ (T : Tables) (e : wires_fit T ≡ true) (w : Wire) (h : In w (wires_in T)) where
  wire_parts : AllTrue (is_output T w.src ∷ is_input T w.dst
      ∷ eqb (output_width (fields_at T w.src.comp.0)) (input_width (fields_at T w.dst.comp.0)) ∷ [])
  unfolding wires_fit
  wire_parts =
      parts_sound (is_output T w.src) (is_input T w.dst
      ∷ eqb (output_width (fields_at T w.src.comp.0)) (input_width (fields_at T w.dst.comp.0)) ∷ [])
      (every_sound (wire_fits T) w (wires_in T) e h)

  pub wires_fit-source : is_output T w.src ≡ true
  wires_fit-source = wire_parts.0

  pub wires_fit-target : is_input T w.dst ≡ true
  wires_fit-target = wire_parts.1.0

  pub wires_fit-widths : output_width (fields_at T w.src.comp.0) ≡ input_width (fields_at T w.dst.comp.0)
  wires_fit-widths = eqb-true _ _ wire_parts.1.1.0

-- So the input that a wire enters stands among full size.
module _ (T : Tables) (w : Wire) (fits : wire_fits T w ≡ true) where
  target_exists : is_input T w.dst ≡ true
  target_exists =
      (parts_sound (is_output T w.src) (is_input T w.dst
      ∷ eqb (output_width (fields_at T w.src.comp.0)) (input_width (fields_at T w.dst.comp.0)) ∷ []) fits).1.0

  pub wire_fits-target : w.dst.comp.0 < T.counts.components
  wire_fits-target = is_input-comp T w.dst target_exists

  pub wire_fits-place : ports_follow T ≡ true → T.counts.inputs ≤ 1024 → input_place T w.dst < 1024
  wire_fits-place follow few =
      omega (arith, is_input-port T w.dst target_exists, ports_follow-inputs T follow w.dst.comp.0 wire_fits-target)

-- "no input has two wires"
pub inputs_once-sound : (T : Tables) → inputs_once T ≡ true
    → Distinct (map (λ (w : Wire). input_place T w.dst) (wires_in T))
unfolding inputs_once
inputs_once-sound T e = distinct_sound (map (λ (w : Wire). input_place T w.dst) (wires_in T)) e

-- "each list names existing components without repeats"; so it is no longer than there are components.
module _ (T : Tables) (xs : List ℕ) (e : names T xs ≡ true) where
  names_parts : AllTrue (every (λ i. ltb i T.counts.components) xs ∷ distinct xs ∷ [])
  unfolding names
  names_parts = parts_sound (every (λ i. ltb i T.counts.components) xs) (distinct xs ∷ []) e

  pub names_existing : (i : ℕ) → In i xs → i < T.counts.components
  names_existing i h =
      ltb-true i T.counts.components (every_sound (λ j. ltb j T.counts.components) i xs names_parts.0 h)

  pub names_distinct : Distinct xs
  names_distinct = distinct_sound xs names_parts.1.0

  pub names_length : length xs ≤ T.counts.components
  names_length =
      omega (
        arith,
        distinct_bound xs (from 0 T.counts.components) names_distinct
            (λ i h. from0_complete T.counts.components i (names_existing i h)),
        from_length 0 T.counts.components,
      )

-- So is each of the first n entries of a table.
pub names_entry : (T : Tables) (n : ℕ) (t : List ℕ) → n ≤ length t → names T (take n t) ≡ true → (j : ℕ) → j < n → get_or t j 0 < T.counts.components
names_entry T n t l e j h =
    let b : j < length (take n t) = omega (arith, length-take-le n t l) in
    names_existing T (take n t) e (get_or t j 0) (subst (λ (x : ℕ). In x (take n t)) (get_or-take n t j 0 h) (in-get_or (take n t) j 0 b))

-- The test of the lists after that of the rest.
module _ (T : Tables) where
  names_lent : (xs : List ℕ) → names T xs ≡ names (lent [] [] [] [] T.counts) xs
  unfolding names
  names_lent xs = refl

  pub net_circuit : is_circuit T ≡ false → false ≡ is_net T
  unfolding is_net
  net_circuit z = rw z

  module _ (z : is_circuit T ≡ true) where
    pub net_lists : (names (lent [] [] [] [] T.counts) (current_list T)
        && names (lent [] [] [] [] T.counts) (following_list T)
        && names (lent [] [] [] [] T.counts) (standing_list T)) ≡ is_net T
    unfolding is_net
    net_lists = rw (z, names_lent (current_list T), names_lent (following_list T), names_lent (standing_list T))

    pub circuit_within : Within T.counts
    circuit_within =
        counts_within-sound T.counts
        (parts_sound (counts_within T.counts)
        (kinds_obeyed T ∷ ids_distinct T ∷ ports_follow T ∷ values_fit T ∷ consts_held T ∷ wires_fit T ∷ inputs_once T ∷ [])
        z).0

-- The number of a call: 2, 16, or 0 for a net of full size.
module _ (T : Tables) where
  pub net_number-2 : full_size T ≡ false → 2 ≡ net_number T
  unfolding net_number
  net_number-2 e = rw e

  pub net_number-16 : full_size T ≡ true → is_net T ≡ false → 16 ≡ net_number T
  unfolding net_number
  net_number-16 f e = rw (f, e)

  pub net_number-0 : full_size T ≡ true → is_net T ≡ true → 0 ≡ net_number T
  unfolding net_number
  net_number-0 f e = rw (f, e)

  module _ (z : net_number T ≡ 0) where
    pub net_number-full : full_size T ≡ true
    unfolding net_number
    net_number-full = not-false _ (refusal_first 2 (not (full_size T)) ((16, not (is_net T)) ∷ []) (λ q. omega arith) z)

    pub net_number-is_net : is_net T ≡ true
    unfolding net_number
    net_number-is_net =
        not-false _ (refusal_first 16 (not (is_net T)) [] (λ q. omega arith)
        (refusal_rest 2 (not (full_size T)) ((16, not (is_net T)) ∷ []) (λ q. omega arith) z))

    pub net_number-net : Net T
    net_number-net = is_net-sound T net_number-is_net

    pub net_number-sizes : Full T
    net_number-sizes = full_size-sound T net_number-full

-- A call whose check passed has a net.
pub passed_net : (T : Tables) (v : Verdict) → Checks T v → v ≡ Ok tt → net_number T ≡ 0
passed_net T v e f = refusing_ok (net_number T) v e f

-- A call that checks 2 and 16 first: their number, or m, the number of the rest.
module _ (T : Tables) (m : ℕ) where
  pub number_refused : (k : ℕ) → k ≡ net_number T → (k ≡ 0 → ⊥) → on_net T m ≡ k
  number_refused k e ne = rw (← e, ne_eqb k 0 ne)

  pub number_net : net_number T ≡ 0 → on_net T m ≡ m
  number_net e = rw (eq-eqb (net_number T) 0 e)

  pub number_passed : on_net T m ≡ 0 → net_number T ≡ 0
  number_passed z = by_test (eqb (net_number T) 0) refl z
    where
      by_test : (b : Bool) → eqb (net_number T) 0 ≡ b → cond b m (net_number T) ≡ 0 → net_number T ≡ 0
      by_test true q u = eqb-true (net_number T) 0 q
      by_test false q u = u
