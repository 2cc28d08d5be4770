-- The wires of the net are the images of the wires of the drawing; where there is one between two primitives' ports,
-- the drawing leads from one to the other.
-- docs/SPECIFICATION.md, "Flattening".
-- Assumes nothing.
use mathlib.Core.Path.{◌≡◌, refl, ap, subst}
use mathlib.Core.Bool.{true}
use mathlib.Core.List.{List, [], ◌∷◌, map}
use Prim.Native.Nat.{ℕ, ◌≤◌}
use native.Mathlib.Omega.{arith}
use lib.ListN.{length, length-map}
use Rattle.lists.proofs.MembersLaws.{In, Distinct, map_sound, map_complete, distinct_map}
use Rattle.component.specs.declared.Record.{Record}
use Rattle.component.specs.Record.{is_primitive}
use Rattle.flatten.specs.declared.Pin.{Pin}
use Rattle.flatten.specs.declared.Lead.{Lead}
use Rattle.flatten.specs.Descent.{pin, wires}
use Rattle.flatten.specs.Leads.{Leads}
use Rattle.tables.specs.declared.End.{End}
use Rattle.tables.specs.declared.Wire.{Wire}
use Rattle.laying.specs.Laid.{flat_pin, flat_wires}
use Rattle.flatten.proofs.Accepted.{Passed}
use Rattle.flatten.proofs.Wires.{lead, leads_wires}
use Rattle.flatten.proofs.Ends.{wires_enter}
use Rattle.flatten.proofs.Primitives.{flat_inj}
use Rattle.flatten.proofs.Bound.{entered, wires_distinct, wires_bound}

-- A wire of the net from one end to the other.
abbrev pub wire : End → End → Wire
wire s t = record { src = s; dst = t }

-- The inputs that wires of the net enter.
abbrev pub entered_ends : List Wire → List End
entered_ends ws = map (λ (w : Wire). w.dst) ws

module _ (at : ℕ → Record) (n : ℕ) where
  -- The image of a wire of the drawing.
  abbrev pub flat_wire : Lead → Wire
  flat_wire w = wire (flat_pin at n w.src) (flat_pin at n w.dst)

  -- A flat wire is the image of a wire;
  pub flat_wires-sound : (v : Wire) → In v (flat_wires at n) → (w : Lead) × In w (wires at n) × (v ≡ flat_wire w)
  flat_wires-sound v h = map_sound flat_wire v (wires at n) h

  -- and the image of a wire is one.
  pub flat_wires-complete : (w : Lead) → In w (wires at n) → In (flat_wire w) (flat_wires at n)
  flat_wires-complete w h = map_complete flat_wire w (wires at n) h

  -- There are as many of them.
  pub flat_wires-length : length (flat_wires at n) ≡ length (wires at n)
  flat_wires-length = length-map (wires at n) flat_wire

  -- Ports of primitives that have one flat index and port are one.
  pub flat_pin-inj : (s t : Pin) → is_primitive (at s.comp) ≡ true → is_primitive (at t.comp) ≡ true
      → flat_pin at n s ≡ flat_pin at n t → s ≡ t
  flat_pin-inj s t e f h =
      let c : s.comp ≡ t.comp = flat_inj at n s.comp t.comp e f (ap (λ (x : End). x.comp.0) h) in
      let i : s.port ≡ t.port = ap (λ (x : End). x.port) h in
      λ k. pin (c k) (i k)

module _ (at : ℕ → Record) (n : ℕ) (d : Passed at n) where
  -- Wherever the drawing leads from an output to an input, there is a flat wire;
  pub leads-flat_wires : (s t : Pin) → Leads at n s t → In (wire (flat_pin at n s) (flat_pin at n t)) (flat_wires at n)
  leads-flat_wires s t r = flat_wires-complete at n (lead s t) (leads_wires at n d s t r)

  -- No two flat wires enter one input.
  pub flat_wires-distinct : Distinct (entered_ends (flat_wires at n))
  flat_wires-distinct =
      subst Distinct (by_wires (wires at n))
      (distinct_map (flat_pin at n) (entered (wires at n))
      (λ s t u v. flat_pin-inj at n s t (of_primitive s u) (of_primitive t v)) (wires_distinct at n d))
    where
      by_wires : (ws : List Lead) → map (flat_pin at n) (entered ws) ≡ entered_ends (map (flat_wire at n) ws)
      by_wires [] = refl
      by_wires (w ∷ ws) = ap (λ (l : List End). flat_pin at n w.dst ∷ l) (by_wires ws)

      of_primitive : (t : Pin) → In t (entered (wires at n)) → is_primitive (at t.comp) ≡ true
      of_primitive t h =
          let m = map_sound (λ (w : Lead). w.dst) t (wires at n) h in
          rw m.2 (wires_enter at n d m.0 m.1).of_primitive

  -- There are at most 1,024 flat wires.
  pub flat_wires-bound : length (flat_wires at n) ≤ 1024
  flat_wires-bound = omega (arith, flat_wires-length at n, wires_bound at n d)
