-- What an accepted load leaves: the theorems of this crate, of a file's bytes and the tables lent.
-- docs/SPECIFICATION.md, "Numbers given back", "Flattening" and "Rounds" (the state at load).
-- With the load of `file` into T accepted, `at` is the file's records by position, `n` is how many it has, L are the
-- tables afterwards, and U any tables with the components and wires of L: rounds and edits leave such tables.
-- Assumes nothing.
use mathlib.Core.Path.{◌≡◌, sym, ◌∙◌, subst}
use mathlib.Core.Bool.{true}
use mathlib.Core.List.{List}
use Prim.Native.Nat.{ℕ, ◌<◌}
use Rattle.lists.specs.Lists.{from}
use Rattle.lists.proofs.MembersLaws.{In}
use Rattle.component.specs.declared.Record.{Record}
use Rattle.component.specs.Record.{IsBytes, record_at, record_count, is_primitive}
use Rattle.flatten.specs.declared.Pin.{Pin}
use Rattle.flatten.specs.Descent.{flat}
use Rattle.flatten.specs.Leads.{Leads}
use Rattle.flatten.proofs.Accepted.{Passed}
use Rattle.tables.specs.Tables.{Tables, full_size, wires_in, current_list, following_list, standing_list}
use Rattle.laying.specs.Laid.{flat_pin, standing_at_load}
use Rattle.load.specs.Load.{drawing_tables, load_verdict, load_tables}
use Rattle.laying.proofs.FlatWires.{wire}
use Rattle.net.specs.Net.{is_net}
use Rattle.tables.proofs.SameLaws.{SameWiring}
use Rattle.loaded.proofs.Sizes.{loaded_current, loaded_following, loaded_standing}
use Rattle.loaded.proofs.LoadNet.{load_checked, load_loaded, load-full_size, load_net}
use Rattle.loaded.proofs.Drawn.{IsDrawn, loaded_drawn, drawn_kept, PrimitiveAt, drawn_primitive, drawn_below}
use Rattle.loaded.proofs.Drawn.{leads_wired, wire_drawn}
use Rattle.tables.specs.declared.Wire.{Wire}
use Rattle.std.specs.Prelude.{Ok}

module _ (file : List ℕ) where
  abbrev at : ℕ → Record
  at = record_at file

  abbrev n : ℕ
  n = record_count file

  module _ (T : Tables) where
    abbrev L : Tables
    L = load_tables file T

    module _ (accepted : load_verdict file T ≡ Ok tt) where
      passed : Passed at n
      passed = load_checked file T accepted

      -- What holds of the tables that `drawing_tables` gives holds of L.
      after : (P : Tables → Type 0) → P (drawing_tables at n T) → P L
      after P h = subst P (sym (load_loaded file T accepted)) h

      -- L is a net, the file being bytes: check 16 passes on it.
      pub accepted_net : IsBytes file → is_net L ≡ true
      accepted_net = load_net file T accepted

      -- L is of full size: check 2 passes on it.
      pub accepted-full_size : full_size L ≡ true
      accepted-full_size = load-full_size file T accepted

      -- The current list names all components,
      pub accepted_current : current_list L ≡ from 0 L.counts.components
      unfolding drawing_tables
      accepted_current =
          after (λ (U : Tables). current_list U ≡ from 0 U.counts.components) (loaded_current at n T)

      -- the standing list every Const and Clock, ascending,
      pub accepted_standing : standing_list L ≡ standing_at_load at n
      accepted_standing = after (λ (U : Tables). standing_list U ≡ standing_at_load at n) (loaded_standing at n T)

      -- and the following list is a copy of it.
      pub accepted_following : following_list L ≡ standing_list L
      accepted_following =
          after (λ (U : Tables). following_list U ≡ standing_list U)
          (loaded_following at n T ∙ sym (loaded_standing at n T))

      module _ (U : Tables) (same : SameWiring L U) where
        -- The components and wires of U are those of the drawing: at the flat index of each primitive stand its
        -- fields, its id and where its ports start; the wires are those of the drawing, in order.
        pub accepted_drawn : IsDrawn at n U
        accepted_drawn = drawn_kept at n L U same (after (IsDrawn at n) (loaded_drawn at n passed T))

        -- Each component of U is exactly one primitive of the drawing, with that record's fields and id,
        pub accepted_primitive : (i : ℕ) → i < U.counts.components → PrimitiveAt at n U i
        accepted_primitive = drawn_primitive at n U accepted_drawn

        -- and each primitive is a component of U.
        pub accepted_below : (c : ℕ) → is_primitive (at c) ≡ true → flat at n c < U.counts.components
        accepted_below = drawn_below at n passed U accepted_drawn

        -- Wherever the drawing leads from an output to an input, U has a wire;
        pub accepted_leads_wired : (s t : Pin) → Leads at n s t
            → In (wire (flat_pin at n s) (flat_pin at n t)) (wires_in U)
        accepted_leads_wired = leads_wired at n passed U accepted_drawn

        -- and each wire of U is one that the drawing leads along.
        pub accepted_wire_drawn : (v : Wire) → In v (wires_in U)
            → (s : Pin) × (t : Pin) × Leads at n s t × (v ≡ wire (flat_pin at n s) (flat_pin at n t))
        accepted_wire_drawn = wire_drawn at n passed U accepted_drawn
