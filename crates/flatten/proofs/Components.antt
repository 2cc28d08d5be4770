-- Components of a drawing that passes the checks before 15: they stand first, an owner stands before what it owns, a child is
-- owned by whom it is counted under, no two children share a place, none is numbered 256 or more, none is too deep.
-- docs/SPECIFICATION.md, "The drawing file" and checks 3 to 8.
-- Not here: the table of kinds, ids and numbers of ports (Primitives).
-- Assumes nothing.
use mathlib.Core.Path.{◌≡◌, refl, sym, ap, ◌∙◌}
use mathlib.Core.Logic.{◌⊎◌, inl, inr, ⊎_elim}
use mathlib.Core.Bool.{Bool, true, false, not, ◌&&◌, ◌||◌, false≢true, true≢false}
use mathlib.Core.List.{List}
use Prim.Native.Nat.{ℕ, zero, suc, ◌-◌, ◌≤◌, ◌<◌}
use native.Mathlib.Decide.{dec_lt}
use native.Mathlib.Omega.{arith}
use borrow.Author.Tests.{eqb-true, eqb-false, eq-eqb, ltb-false, leb-false, not-true, not-false}
use lib.ListN.{length, get_or}
use lib.Dec.{eqb, leb}
use Rattle.lists.specs.Lists.{from, keep}
use Rattle.lists.proofs.TestsLaws.{and_left, and_right}
use Rattle.lists.proofs.MembersLaws.{In, get_or-cases}
use Rattle.lists.proofs.TestsLaws.{or_left, or_right, or_cases, and_right_false}
use Rattle.lists.proofs.MembersLaws.{keep_sound, from_sound, distinct_place, distinct_keep, distinct_from}
use Rattle.kinds.specs.declared.table.Fields.{Fields}
use Rattle.kinds.specs.Kinds.{for_custom, unknown}
use Rattle.kinds.proofs.KindsLaws.{is_kind}
use Rattle.component.specs.declared.Record.{Record}
use Rattle.component.specs.Record.{fields_of, inputs_of, outputs_of, composite, is_primitive}
use Rattle.component.specs.Reading.{owner_of, form_of}
use Rattle.component.specs.Drawing.{deepest, is_component, child, holds, deeper}
use Rattle.component.proofs.RecordLaws.{fields_cases}
use Rattle.flatten.proofs.Accepted.{Passed}

pub primitive_component : (r : Record) → is_primitive r ≡ true → form_of r ≡ 1
primitive_component r e = ⊎_elim (λ u. u) (λ u. absurd (false≢true (rw u at e))) (fields_cases r)

pub composite_component : (r : Record) → composite r ≡ true → form_of r ≡ 1
composite_component r e = ⊎_elim (λ u. u) (λ u. absurd (false≢true (rw u at e))) (fields_cases r)

pub input_component : (r : Record) (i : ℕ) → i < inputs_of r → form_of r ≡ 1
input_component r i h =
    ⊎_elim (λ u. u) (λ u. absurd (omega (arith, ap (λ (f : Fields). f.inputs) u))) (fields_cases r)

pub output_component : (r : Record) (i : ℕ) → i < outputs_of r → form_of r ≡ 1
output_component r i h =
    ⊎_elim (λ u. u) (λ u. absurd (omega (arith, ap (λ (f : Fields). f.outputs) u))) (fields_cases r)

module _ (at : ℕ → Record) (n : ℕ) (d : Passed at n) where
  -- A component's record is in the file.
  pub component_below : (c : ℕ) → form_of (at c) ≡ 1 → c < n
  component_below c e = by_place (dec_lt c n)
    where
      by_place : Dec (c < n) → c < n
      by_place (yes h) = h
      by_place (no h) = let z : form_of (at c) ≡ 0 = ap form_of (d.past c (omega arith)) in absurd (omega arith)

  -- No component is numbered 256 or more, and none is deeper than allowed.
  pub component_number : (c : ℕ) → form_of (at c) ≡ 1 → c < 256
  component_number c e =
      let six : (leb 256 c || deeper at deepest c) ≡ false = rw e at (d.passes 6 refl c (component_below c e)) in
      leb-false 256 c (or_left (leb 256 c) (deeper at deepest c) six)

  pub component_deep : (c : ℕ) → form_of (at c) ≡ 1 → deeper at deepest c ≡ false
  component_deep c e =
      let six : (leb 256 c || deeper at deepest c) ≡ false = rw e at (d.passes 6 refl c (component_below c e)) in
      or_right (leb 256 c) (deeper at deepest c) six

  -- A component that is no primitive is a composite.
  pub component_composite : (c : ℕ) → form_of (at c) ≡ 1 → is_primitive (at c) ≡ false → composite (at c) ≡ true
  component_composite c e z =
      let k = (fields_of (at c)).kind in
      let l = component_below c e in
      let seven : for_custom k ≡ false = and_right_false _ _ (d.passes 7 refl c l) (eq-eqb (form_of (at c)) 1 e) in
      let eight : unknown k ≡ false = and_right_false _ _ (d.passes 8 refl c l) (eq-eqb (form_of (at c)) 1 e) in
      by_least (leb 1 k) refl (rw (seven, eight))
    where
      by_least : (b : Bool) → leb 1 (fields_of (at c)).kind ≡ b → is_kind (fields_of (at c)).kind ≡ true
          → composite (at c) ≡ true
      by_least false u v = eq-eqb (fields_of (at c)).kind 0 (omega (arith, leb-false 1 (fields_of (at c)).kind u))
      by_least true u v = absurd (true≢false (sym v ∙ and_right_false (leb 1 (fields_of (at c)).kind) _ z u))

  -- The owner of a connection or a map is a composite.
  pub owner_composite : (q : ℕ) → q < n → 2 ≤ form_of (at q) → composite (at (owner_of (at q))) ≡ true
  owner_composite zero l h =
      let z : form_of (at 0) ≡ 1 = eqb-true (form_of (at 0)) 1 (not-false _ (d.passes 4 refl 0 l)) in absurd (omega arith)
  owner_composite (suc q) l h =
      and_left (composite (at (owner_of (at (suc q))))) _ (not-false _ (d.passes 5 refl (suc q) l))

  -- Components stand first: what stands before a component is one.
  component_before : (q : ℕ) → suc q < n → form_of (at (suc q)) ≡ 1 → form_of (at q) ≡ 1
  component_before q l e =
      let four = ltb-false 1 (form_of (at q)) (or_left _ _ (rw e at (d.passes 4 refl (suc q) l))) in
      let three = eqb-false (form_of (at q)) 0 (d.passes 3 refl q (omega arith)) in
      omega arith

  pub components_first : (c q : ℕ) → form_of (at c) ≡ 1 → q ≤ c → form_of (at q) ≡ 1
  components_first zero q e h = let z : q ≡ 0 = omega arith in rw z e
  components_first (suc c) q e h =
      by_place (components_first c q (component_before c (component_below (suc c) e) e)) (dec_lt q (suc c))
    where
      by_place : (q ≤ c → form_of (at q) ≡ 1) → Dec (q < suc c) → form_of (at q) ≡ 1
      by_place before (yes l) = before (omega arith)
      by_place before (no l) = let z : q ≡ suc c = omega arith in rw z e

  -- What holds a component stands before it, if owners up to there do.
  holds_before : (f o q : ℕ) → ((x : ℕ) → x ≤ q → 1 ≤ x → owner_of (at x) < x) → holds at f o q ≡ true → o < q
  holds_before zero o q r h = absurd (false≢true h)
  holds_before (suc f) o q r h =
      let nz = eqb-false q 0 (not-true _ (and_left (not (eqb q 0)) _ (and_left (not (eqb q 0) && is_component at q) _ h))) in
      let before = r q (omega arith) (omega arith) in
      ⊎_elim (λ u. omega (arith, eqb-true (owner_of (at q)) o u))
      (λ u. omega (arith, holds_before f o (owner_of (at q)) (λ x a b. r x (omega arith) b) u))
      (or_cases (eqb (owner_of (at q)) o) _ (and_right (not (eqb q 0) && is_component at q) _ h))

  owner_before_upto : (m c : ℕ) → c < m → 1 ≤ c → form_of (at c) ≡ 1 → owner_of (at c) < c
  owner_before_upto zero c h p e = absurd (omega arith)
  owner_before_upto (suc m) zero h p e = absurd (omega arith)
  owner_before_upto (suc m) (suc b) h p e =
      let o = owner_of (at (suc b)) in
      let five : (composite (at o) && (eqb o b || holds at b o b)) ≡ true =
      not-false _ (rw e at (d.passes 5 refl (suc b) (component_below (suc b) e))) in
      let held = and_right (composite (at o)) (eqb o b || holds at b o b) five in
      ⊎_elim (λ u. omega (arith, eqb-true o b u))
      (λ u. let w = holds_before b o b
      (λ x a c. owner_before_upto m x (omega arith) c (components_first (suc b) x e (omega arith))) u in omega arith)
      (or_cases (eqb o b) (holds at b o b) held)

  -- An owner stands before what it owns.
  pub owner_before : (c : ℕ) → 1 ≤ c → form_of (at c) ≡ 1 → owner_of (at c) < c
  owner_before c = owner_before_upto (suc c) c (omega arith)

  -- A child that there is has a place among its owner's children, is owned by that owner, and is not the root.
  pub child_owner : (o k : ℕ) → form_of (at (child at n o k)) ≡ 1
      → (owner_of (at (child at n o k)) ≡ o) × (1 ≤ child at n o k)
  child_owner o k e =
      ⊎_elim (λ u. let z : child at n o k < n = component_below _ e in absurd (omega arith))
      (λ v. let r = keep_sound owned (child at n o k) (from 1 (n - 1)) v.1 in
      (eqb-true _ _ (and_right (is_component at (child at n o k)) _ r.0), (from_sound 1 (n - 1) _ r.1).0))
      (get_or-cases (keep owned (from 1 (n - 1))) k n)
    where
      owned : ℕ → Bool
      owned q = is_component at q && eqb (owner_of (at q)) o

  -- Two children of one owner that are one component have one place.
  pub child_inj : (o j k : ℕ) → form_of (at (child at n o j)) ≡ 1 → child at n o j ≡ child at n o k → j ≡ k
  child_inj o j k e s = by_places (get_or-cases children j n) (get_or-cases children k n)
    where
      children : List ℕ
      children = keep (λ q. is_component at q && eqb (owner_of (at q)) o) (from 1 (n - 1))

      inside : child at n o j < n
      inside = component_below (child at n o j) e

      by_places : (get_or children j n ≡ n) ⊎ ((j < length children) × In (get_or children j n) children)
          → (get_or children k n ≡ n) ⊎ ((k < length children) × In (get_or children k n) children) → j ≡ k
      by_places (inl u) v = absurd (omega (arith, u, inside))
      by_places (inr u) (inl v) = absurd (omega (arith, v, inside, s))
      by_places (inr u) (inr v) =
          distinct_place children j k n (distinct_keep _ (from 1 (n - 1)) (distinct_from 1 (n - 1))) u.0 v.0 s
