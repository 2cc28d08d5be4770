-- The descent through maps with 16 components of depth left finds exactly what the records lead to, with no depth: the
-- targets of an input are those it goes to, the source of an output the one it comes from.
-- docs/SPECIFICATION.md, "Flattening".
-- A component g owners down is met with g + f = 16, f being the depth left; at f = 0 it would be too deep (check 6).
-- Assumes nothing.
use mathlib.Core.Path.{◌≡◌, refl, sym, ap, ◌∙◌, subst}
use mathlib.Core.Logic.{inl, inr, ⊎_elim}
use mathlib.Core.Bool.{Bool, true, false, cond, not, ◌&&◌, true≢false}
use mathlib.Core.List.{List, [], ◌∷◌}
use Prim.Native.Nat.{ℕ, zero, suc, ◌+◌, ◌<◌}
use native.Mathlib.Omega.{arith}
use borrow.Author.Tests.{eqb-true, ne_eqb, ltb-true, not-false}
use lib.ListN.{length}
use lib.Dec.{eqb}
use Rattle.lists.specs.Lists.{from, joined}
use Rattle.lists.proofs.TestsLaws.{and_left, and_right}
use Rattle.lists.proofs.MembersLaws.{In, in_cond, in-get_or, get_or-cases, keep_sound, from0_sound, from0_complete}
use Rattle.lists.proofs.MembersLaws.{joined_sound, joined_complete}
use Rattle.component.specs.declared.Record.{Record}
use Rattle.component.specs.Record.{from_of, output_of, to_of, input_of, port_of, outputs_of, composite}
use Rattle.component.specs.Reading.{owner_of, form_of}
use Rattle.component.specs.Record.{is_primitive}
use Rattle.component.specs.Drawing.{deepest, child, deeper, maps_in, out_maps, out_map, from_there}
use Rattle.flatten.specs.declared.Pin.{Pin}
use Rattle.flatten.specs.Descent.{pin, output_below, inputs_below}
use Rattle.flatten.specs.Leads.{From, starts, through, Into, ends, maps}
use Rattle.flatten.proofs.Accepted.{Passed}
use Rattle.flatten.proofs.Components.{primitive_component, composite_component, output_component, component_deep}
use Rattle.flatten.proofs.Components.{component_below, component_composite, owner_composite, child_owner}

module _ (at : ℕ → Record) (n : ℕ) where
  -- What a record that maps input i of composite c is.
  pub maps_in-sound : (c i q : ℕ) → maps_in at c i q ≡ true
      → (form_of (at q) ≡ 3) × (owner_of (at q) ≡ c) × (port_of (at q) ≡ i)
  maps_in-sound c i q m =
      let both = and_left (eqb (form_of (at q)) 3 && eqb (owner_of (at q)) c) (eqb (port_of (at q)) i) m in (
        eqb-true _ _ (and_left (eqb (form_of (at q)) 3) (eqb (owner_of (at q)) c) both),
        eqb-true _ _ (and_right (eqb (form_of (at q)) 3) (eqb (owner_of (at q)) c) both),
        eqb-true _ _ (and_right (eqb (form_of (at q)) 3 && eqb (owner_of (at q)) c) (eqb (port_of (at q)) i) m),
      )

  -- What the record that maps output i of composite c is, where there is one.
  pub out_map-sound : (c i : ℕ) → out_map at n c i < n
      → (form_of (at (out_map at n c i)) ≡ 4) × (owner_of (at (out_map at n c i)) ≡ c)
  out_map-sound c i l =
      ⊎_elim (λ u. absurd (omega (arith, u)))
      (λ v. passed (keep_sound maps_out (out_map at n c i) (from 0 n) v.1).0) (get_or-cases (out_maps at n c) i n)
    where
      maps_out : ℕ → Bool
      maps_out q = eqb (form_of (at q)) 4 && eqb (owner_of (at q)) c

      passed : maps_out (out_map at n c i) ≡ true
          → (form_of (at (out_map at n c i)) ≡ 4) × (owner_of (at (out_map at n c i)) ≡ c)
      passed e = (
        eqb-true _ _ (and_left (eqb (form_of (at (out_map at n c i))) 4) _ e),
        eqb-true _ _ (and_right (eqb (form_of (at (out_map at n c i))) 4) _ e),
      )

  -- Each target found is one that the input goes to, with whatever depth left.
  pub targets_sound : (f c i : ℕ) (t : Pin) → In t (inputs_below at n f c i) → Into at n c i t
  unfolding inputs_below
  targets_sound zero c i t h = absurd h
  targets_sound (suc f) c i t h = by_kind (λ x j. targets_sound f x j t) (is_primitive (at c)) refl h
    where
      onward : ℕ → List Pin
      onward q = inputs_below at n f (child at n c (to_of (at q))) (input_of (at q))

      by_kind : ((x j : ℕ) → In t (inputs_below at n f x j) → Into at n x j t) → (b : Bool) → is_primitive (at c) ≡ b
          → In t (cond b (pin c i ∷ []) (joined (λ q. cond (maps_in at c i q) (onward q) []) (from 0 n)))
          → Into at n c i t
      by_kind down true e (inl u) = ends e u
      by_kind down true e (inr u) = absurd u
      by_kind down false e u =
          let r = joined_sound (λ q. cond (maps_in at c i q) (onward q) []) t (from 0 n) u in
          let q = r.0 in
          let m = in_cond t (maps_in at c i q) (onward q) r.2 in
          maps q (from0_sound n q r.1) e m.0 (down (child at n c (to_of (at q))) (input_of (at q)) m.1)

module _ (at : ℕ → Record) (n : ℕ) (d : Passed at n) where
  -- A child is one deeper than its owner.
  pub deeper_child : (g o k : ℕ) → form_of (at (child at n o k)) ≡ 1 → deeper at g o ≡ true
      → deeper at (suc g) (child at n o k) ≡ true
  deeper_child g o k e u =
      let r = child_owner at n d o k e in
      rw (ne_eqb (child at n o k) 0 (λ z. omega (arith, r.1)), e, r.0) u

  -- No component is met with no depth left.
  depth_left : (g c : ℕ) → g + 0 ≡ deepest → form_of (at c) ≡ 1 → deeper at g c ≡ true → ⊥
  depth_left g c h e u =
      let z : g ≡ deepest = omega arith in
      true≢false (sym u ∙ ap (λ (x : ℕ). deeper at x c) z ∙ component_deep at n d c e)

  pub into_component : (c i : ℕ) (t : Pin) → Into at n c i t → form_of (at c) ≡ 1
  into_component c i t (ends e u) = primitive_component (at c) e
  into_component c i t (maps q l e m r) =
      let s = maps_in-sound at n c i q m in
      let z = s.0 in
      composite_component (at c)
      (subst (λ (o : ℕ). composite (at o) ≡ true) s.1 (owner_composite at n d q l (omega arith)))

  from_component : (c i : ℕ) (s : Pin) → From at n c i s → form_of (at c) ≡ 1
  from_component c i s (starts e u) = primitive_component (at c) e
  from_component c i s (through l e r) =
      let m = out_map-sound at n c i l in
      let z = m.0 in
      composite_component (at c)
      (subst (λ (o : ℕ). composite (at o) ≡ true) m.1 (owner_composite at n d (out_map at n c i) l (omega arith)))

  -- Each primitive input that an input goes to is found as a target.
  pub targets_complete : (g f c i : ℕ) (t : Pin) → g + f ≡ deepest → deeper at g c ≡ true → Into at n c i t
      → In t (inputs_below at n f c i)
  unfolding inputs_below
  targets_complete g zero c i t h u r = absurd (depth_left g c h (into_component c i t r) u)
  targets_complete g (suc f) c i t h u (ends e w) = rw e (inl w)
  targets_complete g (suc f) c i t h u (maps q l e m r) =
      let below = child at n c (to_of (at q)) in
      rw e
      (joined_complete (λ q. cond (maps_in at c i q) (inputs_below at n f (child at n c (to_of (at q))) (input_of (at q))) [])
      t (from 0 n) q (from0_complete n q l)
      (rw m (targets_complete (suc g) f below (input_of (at q)) t (omega arith)
      (deeper_child g c (to_of (at q)) (into_component below (input_of (at q)) t r) u) r)))

  -- The primitive output that an output comes from is found as its source.
  pub source_complete : (g f c i : ℕ) (s : Pin) → g + f ≡ deepest → deeper at g c ≡ true → From at n c i s
      → output_below at n f c i ≡ s
  unfolding output_below
  source_complete g zero c i s h u r = absurd (depth_left g c h (from_component c i s r) u)
  source_complete g (suc f) c i s h u (starts e w) = rw e (sym w)
  source_complete g (suc f) c i s h u (through l e r) =
      let q = out_map at n c i in
      let below = child at n c (from_of (at q)) in
      rw (e, (out_map-sound at n c i l).0)
      (source_complete (suc g) f below (output_of (at q)) s (omega arith)
      (deeper_child g c (from_of (at q)) (from_component below (output_of (at q)) s r) u) r)

  -- An output of a composite has its output map, which starts at an output of a child that there is (checks 12 and 14).
  pub out_map-there : (c i : ℕ) → composite (at c) ≡ true → i < outputs_of (at c)
      → (out_map at n c i < n)
      × (output_of (at (out_map at n c i)) < outputs_of (at (child at n c (from_of (at (out_map at n c i))))))
  out_map-there c i e h =
      let q = out_map at n c i in
      let fourteen : not (eqb (outputs_of (at c)) (length (out_maps at n c))) ≡ false =
      rw e at (d.passes 14 refl c (component_below at n d c (composite_component (at c) e))) in
      let many : outputs_of (at c) ≡ length (out_maps at n c) = eqb-true _ _ (not-false _ fourteen) in
      let place : In q (out_maps at n c) = in-get_or (out_maps at n c) i n (omega arith) in
      let l : q < n =
      from0_sound n q (keep_sound (λ q. eqb (form_of (at q)) 4 && eqb (owner_of (at q)) c) q (from 0 n) place).1 in
      let m = out_map-sound at n c i l in
      let twelve : not (from_there at n (at q)) ≡ false = rw m.0 at (d.passes 12 refl q l) in
      (l, rw m.1 at (ltb-true (output_of (at q)) _ (not-false (from_there at n (at q)) twelve)))

  -- The source found is where the output comes from.
  pub source_sound : (g f c i : ℕ) → g + f ≡ deepest → deeper at g c ≡ true → i < outputs_of (at c)
      → From at n c i (output_below at n f c i)
  unfolding output_below
  source_sound g zero c i h u o = absurd (depth_left g c h (output_component (at c) i o) u)
  source_sound g (suc f) c i h u o = by_kind (λ x j. source_sound (suc g) f x j (omega arith)) (is_primitive (at c)) refl
    where
      mapped : ℕ
      mapped = out_map at n c i

      below : ℕ
      below = child at n c (from_of (at mapped))

      by_kind : ((x j : ℕ) → deeper at (suc g) x ≡ true → j < outputs_of (at x) → From at n x j (output_below at n f x j))
          → (b : Bool) → is_primitive (at c) ≡ b
          → From at n c i (cond b (pin c i) (cond (eqb (form_of (at mapped)) 4) (output_below at n f below (output_of (at mapped))) (pin n 0)))
      by_kind down true e = starts e refl
      by_kind down false e =
          let r = out_map-there c i (component_composite at n d c (output_component (at c) i o) e) o in
          rw (out_map-sound at n c i r.0).0 (through r.0 e
          (down below (output_of (at mapped))
          (deeper_child g c (from_of (at mapped)) (output_component (at below) _ r.1) u) r.1))
