-- The ends of each wire of a drawing that passes the checks before 15: they are ports of primitives, and they are there; and where check 15
-- passes too, they have the same width. docs/SPECIFICATION.md, "Flattening" and checks 12 and 15.
-- Assumes nothing.
use mathlib.Core.Path.{◌≡◌, refl, sym, subst}
use mathlib.Core.Bool.{Bool, true, false, not}
use Prim.Native.Nat.{ℕ, ◌<◌}
use native.Mathlib.Nat.{zero-add}
use borrow.Author.Tests.{eqb-true, not-false}
use lib.Dec.{eqb}
use Rattle.lists.specs.Lists.{any}
use Rattle.lists.proofs.MembersLaws.{In, any_none, map_complete}
use Rattle.kinds.specs.Kinds.{input_width, output_width}
use Rattle.component.specs.declared.Record.{Record}
use Rattle.component.specs.Record.{fields_of, to_of, input_of, inputs_of, outputs_of, is_primitive}
use Rattle.component.specs.Reading.{form_of}
use Rattle.component.specs.Drawing.{deepest, child}
use Rattle.flatten.specs.declared.Pin.{Pin}
use Rattle.flatten.specs.declared.Lead.{Lead}
use Rattle.flatten.specs.Descent.{comes_from, goes_to, wires_at, wires, fails15}
use Rattle.flatten.specs.Leads.{From, starts, through, Into, ends, maps}
use Rattle.flatten.proofs.Accepted.{Passed}
use Rattle.flatten.proofs.Components.{output_component, component_composite}
use Rattle.flatten.proofs.DescentLeads.{maps_in-sound, targets_sound, out_map-there, source_sound}
use Rattle.flatten.proofs.EnteredOnce.{entry_there}
use Rattle.flatten.proofs.Wires.{lead, Yielded, wires_sound, connection_ends}

-- An output of a primitive that there is, and an input of one.
pub record IsOutput (at : ℕ → Record) (s : Pin) : Type 0 where
  pub of_primitive : is_primitive (at s.comp) ≡ true
  pub there : s.port < outputs_of (at s.comp)

pub record IsInput (at : ℕ → Record) (t : Pin) : Type 0 where
  pub of_primitive : is_primitive (at t.comp) ≡ true
  pub there : t.port < inputs_of (at t.comp)

-- The ends of each wire have the same width.
abbrev pub SameWidths : (ℕ → Record) → ℕ → Type 0
SameWidths at n =
    (w : Lead) → In w (wires at n) → output_width (fields_of (at w.src.comp)) ≡ input_width (fields_of (at w.dst.comp))

module _ (at : ℕ → Record) (n : ℕ) (d : Passed at n) where
  -- An output that is there comes from a primitive's output that is there.
  pub from_there_lem : (c i : ℕ) (s : Pin) → i < outputs_of (at c) → From at n c i s → IsOutput at s
  from_there_lem c i s h (starts e u) = record { of_primitive = rw u e; there = rw u h }
  from_there_lem c i s h (through l e r) =
      from_there_lem _ _ s (out_map-there at n d c i (component_composite at n d c (output_component (at c) i h) e) h).1 r

  -- An input that is there goes to primitives' inputs that are there.
  pub into_there : (c i : ℕ) (t : Pin) → i < inputs_of (at c) → Into at n c i t → IsInput at t
  into_there c i t h (ends e u) = record { of_primitive = rw u e; there = rw u h }
  into_there c i t h (maps q l e m r) =
      let s = maps_in-sound at n c i q m in
      into_there (child at n c (to_of (at q))) (input_of (at q)) t (rw s.1 at (entry_there at n d q l (rw s.0))) r

  -- A connection comes from a primitive's output that is there,
  pub source_there : (p : ℕ) → p < n → form_of (at p) ≡ 2 → IsOutput at (comes_from at n p)
  unfolding comes_from
  source_there p l e =
      let there = (connection_ends at n d p l e).0 in
      from_there_lem _ _ (comes_from at n p) there (source_sound at n d 0 deepest _ _ (zero-add deepest) refl there)

  -- and goes to primitives' inputs that are there.
  pub target_there : (p : ℕ) → p < n → form_of (at p) ≡ 2 → (t : Pin) → In t (goes_to at n p) → IsInput at t
  unfolding goes_to
  target_there p l e t h = into_there _ _ t (connection_ends at n d p l e).1 (targets_sound at n deepest _ _ t h)

  -- So each wire leaves an output of a primitive that is there,
  pub wires_leave : (w : Lead) → In w (wires at n) → IsOutput at w.src
  wires_leave w h =
      let y = wires_sound at n w h in
      subst (IsOutput at) (sym y.source_is) (source_there y.by y.in_file y.connects)

  -- and enters an input of a primitive that is there.
  pub wires_enter : (w : Lead) → In w (wires at n) → IsInput at w.dst
  wires_enter w h =
      let y = wires_sound at n w h in target_there y.by y.in_file y.connects w.dst y.target_is

  -- The ends of each wire have the same width, where check 15 passes too.
  pub wires_width : ((p : ℕ) → p < n → fails15 at n p ≡ false) → SameWidths at n
  wires_width passes w h = yielded_width (wires_sound at n w h)
    where
      differs : Lead → Bool
      differs v = not (eqb (output_width (fields_of (at v.src.comp))) (input_width (fields_of (at v.dst.comp))))

      yielded_width : Yielded at n w
          → output_width (fields_of (at w.src.comp)) ≡ input_width (fields_of (at w.dst.comp))
      yielded_width y =
          let p = y.by in
          let fifteen : any differs (wires_at at n p) ≡ false = rw y.connects at (passes p y.in_file) in
          let yielded : In w (wires_at at n p) =
          rw y.source_is (map_complete (lead (comes_from at n p)) w.dst (goes_to at n p) y.target_is) in
          eqb-true _ _ (not-false _ (any_none differs w (wires_at at n p) fifteen yielded))
