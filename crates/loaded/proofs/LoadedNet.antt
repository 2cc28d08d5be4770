-- The clauses of a net that speak of counts, values and lists hold after a load. docs/SPECIFICATION.md,
-- "Numbers given back", after the table.
-- Assumes nothing.
use mathlib.Core.Path.{◌≡◌, refl, sym, ap, ◌∙◌, subst}
use mathlib.Core.Bool.{Bool, true, false, not, ◌&&◌, ◌||◌}
use mathlib.Core.List.{List}
use Prim.Native.Nat.{ℕ, ◌+◌, ◌<◌}
use native.Mathlib.Omega.{arith}
use borrow.Author.Tests.{le-leb, eq-eqb}
use lib.ListN.{length, get_or}
use lib.Dec.{eqb}
use Rattle.lists.specs.Lists.{from, keep}
use Rattle.lists.proofs.MembersLaws.{In, map_sound, keep_sound, from0_sound, distinct_from, distinct_keep, distinct_map}
use Rattle.lists.proofs.NamesLaws.{Names, names_complete}
use Rattle.lists.proofs.OverlayLaws.{slice_at}
use Rattle.kinds.specs.declared.Kind.TheVariants.{Clock, Const}
use Rattle.kinds.specs.declared.table.Fields.{Fields}
use Rattle.kinds.specs.Kinds.{is, input_width, output_width}
use Rattle.value.specs.Value.{all_fit}
use Rattle.component.specs.declared.Record.{Record}
use Rattle.component.specs.Record.{fields_of, inputs_of, is_primitive}
use Rattle.flatten.specs.Descent.{flat}
use Rattle.flatten.proofs.Accepted.{Passed}
use Rattle.flatten.proofs.Primitives.{primitive_obeyed, flat_below, flat_inj, primitives_before-sound}
use Rattle.flatten.proofs.Primitives.{primitives_before-distinct, primitives_bound, inputs_bound, outputs_bound}
use Rattle.tables.specs.Tables.{Tables, fields_at, first_output, inputs_at, outputs_at, current_list, following_list}
use Rattle.tables.specs.Tables.{standing_list}
use Rattle.laying.specs.Laid.{primitives, standing_at_load}
use Rattle.load.specs.Load.{drawing_tables}
use Rattle.laying.proofs.FlatWires.{flat_wires-bound}
use Rattle.laying.proofs.StandingLaws.{standing_bound}
use Rattle.laying.proofs.PortsLaws.{starting_length}
use Rattle.net.specs.Net.{counts_within, values_fit, consts_held, names}
use Rattle.loaded.proofs.Starting.{zeros_fit, starting_fits, starting_const}
use Rattle.loaded.proofs.Entries.{loaded_fields}
use Rattle.loaded.proofs.LoadedPorts.{loaded_inputs, loaded_outputs}
use Rattle.loaded.proofs.Sizes.{loaded_current, loaded_following, loaded_standing}
use Rattle.loaded.proofs.Drawn.{loaded_drawn, drawn_every}

-- A list that names existing components without repeats is one that a net may have.
named : (U : Tables) (xs : List ℕ) → Names U.counts.components xs → names U xs ≡ true
unfolding names
named U xs h = names_complete U.counts.components xs h

module _ (at : ℕ → Record) (n : ℕ) (d : Passed at n) (T : Tables) where
  abbrev L : Tables
  L = drawing_tables at n T

  -- Counts are within the limits.
  pub loaded-counts_within : counts_within (drawing_tables at n T).counts ≡ true
  unfolding counts_within drawing_tables
  loaded-counts_within =
      rw (
        le-leb _ _ (primitives_bound at n d),
        le-leb _ _ (inputs_bound at n d),
        le-leb _ _ (outputs_bound at n d),
        le-leb _ _ (flat_wires-bound at n d),
        le-leb _ _ (standing_bound at n d),
      )

  -- Values fit.
  pub loaded-values_fit : values_fit (drawing_tables at n T) ≡ true
  unfolding values_fit
  loaded-values_fit =
      drawn_every at n L (loaded_drawn at n d T)
      (λ i. all_fit (input_width (fields_at L i)) (inputs_at L L.inputs i)
      && all_fit (output_width (fields_at L i)) (outputs_at L L.outputs i))
      (λ c e.
      let own = loaded_fields at n d T c e in
      let ins = loaded_inputs at n d T c e in
      let outs = loaded_outputs at n d T c e in
      (λ j. all_fit (input_width (own j)) (ins j) && all_fit (output_width (own j)) (outs j))
      ∙ rw (
        zeros_fit (fields_of (at c)) (primitive_obeyed at n d c e) (inputs_of (at c)),
        starting_fits (fields_of (at c)) (primitive_obeyed at n d c e),
      ))

  -- The first output of a Const holds its value.
  const_held : (c : ℕ) → is_primitive (at c) ≡ true → is Const (fields_of (at c)) ≡ true
      → get_or L.outputs (first_output L (flat at n c)) 0 ≡ (fields_of (at c)).parameter
  const_held c e k =
      let first = first_output L (flat at n c) in
      let many = (fields_at L (flat at n c)).outputs in
      let starts = starting_const (fields_of (at c)) (primitive_obeyed at n d c e) k in
      let one : many ≡ 1 =
      ap (λ (f : Fields). f.outputs) (loaded_fields at n d T c e)
      ∙ sym (starting_length (fields_of (at c)) (primitive_obeyed at n d c e)) ∙ ap length starts in
      let z : first ≡ first + 0 = omega arith in
      ap (λ (p : ℕ). get_or L.outputs p 0) z
      ∙ sym (slice_at first many 0 L.outputs 0 (omega arith))
      ∙ ap (λ (l : List ℕ). get_or l 0 0) (loaded_outputs at n d T c e ∙ starts)

  -- Each Const's output is its value.
  pub loaded-consts_held : consts_held (drawing_tables at n T) ≡ true
  unfolding consts_held
  loaded-consts_held =
      drawn_every at n L (loaded_drawn at n d T)
      (λ i. not (is Const (fields_at L i)) || eqb (get_or L.outputs (first_output L i) 0) (fields_at L i).parameter)
      (λ c e.
      let own = loaded_fields at n d T c e in
      let first = first_output L (flat at n c) in
      (λ j. not (is Const (own j)) || eqb (get_or L.outputs first 0) (own j).parameter)
      ∙ by_kind c e (is Const (fields_of (at c))) refl)
    where
      by_kind : (c : ℕ) → is_primitive (at c) ≡ true → (b : Bool) → is Const (fields_of (at c)) ≡ b
          → (not b || eqb (get_or L.outputs (first_output L (flat at n c)) 0) (fields_of (at c)).parameter) ≡ true
      by_kind c e true k = eq-eqb _ _ (const_held c e k)
      by_kind c e false k = refl

  -- Each list names existing components without repeats: the current list,
  pub loaded_names_current : names (drawing_tables at n T) (current_list (drawing_tables at n T)) ≡ true
  unfolding drawing_tables
  loaded_names_current =
      ap (names L) (loaded_current at n T)
      ∙ named L (from 0 (flat at n n))
      (record { exist = from0_sound (flat at n n); once = distinct_from 0 (flat at n n) })

  standing_names : names L (standing_at_load at n) ≡ true
  unfolding drawing_tables
  standing_names =
      named L (standing_at_load at n)
      (record {
        exist =
            λ i u. let r = map_sound (flat at n) i chosen u in
            subst (λ (x : ℕ). x < flat at n n) (sym r.2) (flat_below at n d r.0 (of_primitive r.0 r.1));
        once =
            distinct_map (flat at n) chosen
            (λ b c u v. flat_inj at n b c (of_primitive b u) (of_primitive c v))
            (distinct_keep test (primitives at n) (primitives_before-distinct at n n));
      })
    where
      test : ℕ → Bool
      test x = is Const (fields_of (at x)) || is Clock (fields_of (at x))

      chosen : List ℕ
      chosen = keep test (primitives at n)

      of_primitive : (c : ℕ) → In c chosen → is_primitive (at c) ≡ true
      of_primitive c h = (primitives_before-sound at n c n (keep_sound test c (primitives at n) h).1).0

  -- the following list,
  pub loaded_names_following : names (drawing_tables at n T) (following_list (drawing_tables at n T)) ≡ true
  loaded_names_following = ap (names L) (loaded_following at n T) ∙ standing_names

  -- and the standing list.
  pub loaded_names_standing : names (drawing_tables at n T) (standing_list (drawing_tables at n T)) ≡ true
  loaded_names_standing = ap (names L) (loaded_standing at n T) ∙ standing_names
