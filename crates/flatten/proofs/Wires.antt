-- The wires of a drawing that passes the checks before 15 are exactly what it leads to. docs/SPECIFICATION.md, "Flattening".
-- Assumes nothing.
use mathlib.Core.Path.{◌≡◌, refl, sym, ap, subst}
use mathlib.Core.Bool.{true, cond, ◌&&◌}
use mathlib.Core.List.{[]}
use Prim.Native.Nat.{ℕ, ◌+◌, ◌<◌}
use native.Mathlib.Omega.{arith}
use borrow.Author.Tests.{eqb-true, ltb-true, not-false}
use lib.Dec.{eqb}
use Rattle.lists.specs.Lists.{from}
use Rattle.lists.proofs.TestsLaws.{and_left, and_right}
use Rattle.lists.proofs.MembersLaws.{In, in_cond, from0_sound, from0_complete, joined_sound, joined_complete, map_sound}
use Rattle.lists.proofs.MembersLaws.{map_complete}
use Rattle.component.specs.declared.Record.{Record}
use Rattle.component.specs.Record.{from_of, output_of, to_of, input_of, inputs_of, outputs_of}
use Rattle.component.specs.Reading.{owner_of, form_of}
use Rattle.component.specs.Drawing.{deepest, child, from_there, to_there}
use Rattle.flatten.specs.declared.Pin.{Pin}
use Rattle.flatten.specs.declared.Lead.{Lead}
use Rattle.flatten.specs.Descent.{comes_from, goes_to, wires_at, wires}
use Rattle.flatten.specs.Leads.{Leads}
use Rattle.flatten.proofs.Accepted.{Passed}
use Rattle.flatten.proofs.DescentLeads.{targets_sound, targets_complete, source_sound, source_complete}

-- From one pin to the other.
abbrev pub lead : Pin → Pin → Lead
lead s t = record { src = s; dst = t }

-- A connection of the file yields the wire.
pub record Yielded (at : ℕ → Record) (n : ℕ) (w : Lead) : Type 0 where
  pub by : ℕ
  pub in_file : by < n
  pub connects : form_of (at by) ≡ 2
  pub source_is : w.src ≡ comes_from at n by
  pub target_is : In w.dst (goes_to at n by)

module _ (at : ℕ → Record) (n : ℕ) where
  -- The wires are those that connections yield.
  pub wires_sound : (w : Lead) → In w (wires at n) → Yielded at n w
  wires_sound w h =
      let r = joined_sound (λ p. cond (eqb (form_of (at p)) 2) (wires_at at n p) []) w (from 0 n) h in
      let p = r.0 in
      let c = in_cond w (eqb (form_of (at p)) 2) (wires_at at n p) r.2 in
      let m = map_sound (lead (comes_from at n p)) w (goes_to at n p) c.1 in
      record {
        by = p;
        in_file = from0_sound n p r.1;
        connects = eqb-true (form_of (at p)) 2 c.0;
        source_is = ap (λ (v : Lead). v.src) m.2;
        target_is = subst (λ (t : Pin). In t (goes_to at n p)) (sym (ap (λ (v : Lead). v.dst) m.2)) m.1;
      }

  -- And what a connection yields is a wire.
  pub wires_complete : (w : Lead) → Yielded at n w → In w (wires at n)
  wires_complete w y =
      let p = y.by in
      joined_complete (λ p. cond (eqb (form_of (at p)) 2) (wires_at at n p) []) w (from 0 n) p
      (from0_complete n p y.in_file)
      (rw (y.connects, ← y.source_is) (map_complete (lead w.src) w.dst (goes_to at n p) y.target_is))

module _ (at : ℕ → Record) (n : ℕ) (d : Passed at n) where
  -- The output that a connection starts at and the input that it enters are there (check 12).
  pub connection_ends : (p : ℕ) → p < n → form_of (at p) ≡ 2
      → (output_of (at p) < outputs_of (at (child at n (owner_of (at p)) (from_of (at p)))))
      × (input_of (at p) < inputs_of (at (child at n (owner_of (at p)) (to_of (at p)))))
  connection_ends p l e =
      let twelve : (from_there at n (at p) && to_there at n (at p)) ≡ true = not-false _ (rw e at (d.passes 12 refl p l)) in (
        ltb-true _ _ (and_left (from_there at n (at p)) (to_there at n (at p)) twelve),
        ltb-true _ _ (and_right (from_there at n (at p)) (to_there at n (at p)) twelve),
      )

  -- The depth counts from the connection's children.
  full_depth : 0 + deepest ≡ deepest
  full_depth = omega arith

  -- From the source of what a connection yields the drawing leads to its target; and the other way.
  yielded_leads : (w : Lead) → Yielded at n w → Leads at n w.src w.dst
  unfolding comes_from goes_to
  yielded_leads w y =
      record {
        by = y.by;
        in_file = y.in_file;
        connects = y.connects;
        source_is = rw y.source_is
            (source_sound at n d 0 deepest _ _ full_depth refl (connection_ends y.by y.in_file y.connects).0);
        target_is = targets_sound at n deepest _ _ w.dst y.target_is;
      }

  leads_yielded : (s t : Pin) → Leads at n s t → Yielded at n (lead s t)
  unfolding comes_from goes_to
  leads_yielded s t r =
      record {
        by = r.by;
        in_file = r.in_file;
        connects = r.connects;
        source_is = sym (source_complete at n d 0 deepest _ _ s full_depth refl r.source_is);
        target_is = targets_complete at n d 0 deepest _ _ t full_depth refl r.target_is;
      }

  -- From the source of each wire the drawing leads to its target.
  pub wires_lead : (w : Lead) → In w (wires at n) → Leads at n w.src w.dst
  wires_lead w h = yielded_leads w (wires_sound at n w h)

  -- Wherever the drawing leads from an output to an input, there is a wire.
  pub leads_wires : (s t : Pin) → Leads at n s t → In (lead s t) (wires at n)
  leads_wires s t r = wires_complete at n (lead s t) (leads_yielded s t r)
