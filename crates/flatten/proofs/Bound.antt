-- At most 1,024 wires, and targets of one connection: no two wires enter one input, and there are at most 1,024 inputs.
-- docs/SPECIFICATION.md, "Numbers given back", checks 11 and 13, and the full size of the wire table.
-- Assumes nothing.
use mathlib.Core.Path.{◌≡◌, refl, sym, ap, ◌∙◌, subst}
use mathlib.Core.Bool.{Bool, true, false, cond}
use mathlib.Core.List.{List, [], ◌∷◌, ◌++◌, map}
use Prim.Native.Nat.{ℕ, ◌≤◌, ◌<◌}
use native.Mathlib.Omega.{arith}
use lib.ListN.{length, length-map}
use lib.Dec.{eqb}
use Rattle.lists.specs.Lists.{from, joined}
use Rattle.lists.proofs.MembersLaws.{In, Distinct, distinct_bound, from0_complete, from_length, joined_complete}
use Rattle.lists.proofs.MembersLaws.{joined_length, map_append, map_complete, map_sound, total_cong}
use Rattle.component.specs.declared.Record.{Record}
use Rattle.component.specs.Record.{inputs_of}
use Rattle.component.specs.Reading.{form_of}
use Rattle.component.specs.Drawing.{deepest, primitives_before, inputs_before}
use Rattle.flatten.specs.declared.Pin.{Pin}
use Rattle.flatten.specs.declared.Lead.{Lead}
use Rattle.flatten.specs.Descent.{pin, inputs_below, goes_to, wires_at, wires}
use Rattle.flatten.proofs.Accepted.{Passed}
use Rattle.flatten.proofs.DescentLeads.{targets_sound}
use Rattle.flatten.proofs.Wires.{lead, connection_ends}
use Rattle.flatten.proofs.EnteredOnce.{targets_at, targets_distinct, targets_at-distinct}
use Rattle.flatten.proofs.Ends.{IsInput, into_there, wires_enter}
use Rattle.flatten.proofs.Primitives.{primitive_below, primitives_before-complete, inputs_bound}

-- The inputs that wires enter.
abbrev pub entered : List Lead → List Pin
entered ws = map (λ (w : Lead). w.dst) ws

entered_targets : (s : Pin) (ts : List Pin) → entered (map (lead s) ts) ≡ ts
entered_targets s [] = refl
entered_targets s (t ∷ ts) = ap (λ (l : List Pin). t ∷ l) (entered_targets s ts)

module _ (at : ℕ → Record) (n : ℕ) where
  -- The wires enter the targets of the connections, in order.
  pub wires_targets : entered (wires at n) ≡ joined (targets_at at n) (from 0 n)
  wires_targets = by_records (from 0 n)
    where
      by_form : (b : Bool) (p : ℕ) → entered (cond b (wires_at at n p) []) ≡ cond b (goes_to at n p) []
      by_form true p = entered_targets _ (goes_to at n p)
      by_form false p = refl

      wires_from : ℕ → List Lead
      wires_from p = cond (eqb (form_of (at p)) 2) (wires_at at n p) []

      by_records : (ps : List ℕ) → entered (joined wires_from ps) ≡ joined (targets_at at n) ps
      by_records [] = refl
      by_records (p ∷ ps) =
          map_append (λ (w : Lead). w.dst) (wires_from p) (joined wires_from ps)
          ∙ ap (λ (l : List Pin). l ++ entered (joined wires_from ps)) (by_form (eqb (form_of (at p)) 2) p)
          ∙ ap (λ (l : List Pin). targets_at at n p ++ l) (by_records ps)

  -- Every input of every primitive.
  abbrev pub input_pins : List Pin
  input_pins = joined (λ c. map (pin c) (from 0 (inputs_of (at c)))) (primitives_before at n)

  input_pins-length : length input_pins ≡ inputs_before at n
  input_pins-length =
      joined_length (λ c. map (pin c) (from 0 (inputs_of (at c)))) (primitives_before at n)
      ∙ total_cong _ _ (primitives_before at n)
      (λ c. length-map (from 0 (inputs_of (at c))) (pin c) ∙ from_length 0 (inputs_of (at c)))

module _ (at : ℕ → Record) (n : ℕ) (d : Passed at n) where
  -- No two wires enter one input.
  pub wires_distinct : Distinct (entered (wires at n))
  wires_distinct = subst Distinct (sym (wires_targets at n)) (targets_at-distinct at n d)

  input_pins-complete : (t : Pin) → IsInput at t → In t (input_pins at n)
  input_pins-complete t i =
      joined_complete (λ c. map (pin c) (from 0 (inputs_of (at c)))) t (primitives_before at n) t.comp
      (primitives_before-complete at n t.comp n i.of_primitive
      (primitive_below at n d t.comp i.of_primitive))
      (map_complete (pin t.comp) t.port (from 0 (inputs_of (at t.comp)))
      (from0_complete (inputs_of (at t.comp)) t.port i.there))

  -- An input that is there leads to at most 1,024,
  pub below_bound : (f c i : ℕ) → i < inputs_of (at c) → length (inputs_below at n f c i) ≤ 1024
  below_bound f c i h =
      let r = distinct_bound (inputs_below at n f c i) (input_pins at n) (targets_distinct at n d f c i)
      (λ t u. input_pins-complete t (into_there at n d c i t h (targets_sound at n f c i t u))) in
      omega (arith, input_pins-length at n, inputs_bound at n d)

  -- and so does a connection.
  pub targets_bound : (p : ℕ) → p < n → form_of (at p) ≡ 2 → length (goes_to at n p) ≤ 1024
  unfolding goes_to
  targets_bound p l e = below_bound deepest _ _ (connection_ends at n d p l e).1

  -- There are at most 1,024 wires.
  pub wires_bound : length (wires at n) ≤ 1024
  wires_bound =
      let r = distinct_bound (entered (wires at n)) (input_pins at n) wires_distinct
      (λ t h. let m = map_sound (λ (w : Lead). w.dst) t (wires at n) h in
      input_pins-complete t (rw m.2 (wires_enter at n d m.0 m.1))) in
      omega (arith, length-map (wires at n) (λ (w : Lead). w.dst), input_pins-length at n, inputs_bound at n d)
