-- In a drawing whose components stand first, component o is the record at o, so check 12 says the same of a record whether components are counted by their
-- positions or in file order.
-- Assumes nothing.
use mathlib.Core.Path.{◌≡◌, refl, sym, ap, ◌∙◌}
use mathlib.Core.Logic.{◌⊎◌, inl, inr}
use mathlib.Core.Bool.{Bool, true, false, cond, not, ◌&&◌, ◌||◌}
use mathlib.Core.List.{List, ◌++◌, append-nil}
use Prim.Native.Nat.{ℕ, ◌+◌, ◌-◌, ◌≤◌, ◌<◌}
use native.Mathlib.Decide.{dec_lt}
use native.Mathlib.Omega.{arith}
use borrow.Author.Tests.{eqb-true, eq-eqb}
use lib.Dec.{eqb, ltb}
use lib.ListN.{length, get_or, get_or-eq_default}
use Rattle.lists.specs.Lists.{from, keep}
use Rattle.lists.proofs.TestsLaws.{and_left}
use Rattle.lists.proofs.MembersLaws.{in-get_or, keep_sound, keep_complete, from_sound, from0_sound, from0_complete, from_length, from_append, keep_length, keep_cong}
use Rattle.lists.proofs.ListsLaws.{keep_append}
use Rattle.lists.proofs.KeepLaws.{keep_no, keep_first_ones, get_or-there, from_at}
use Rattle.kinds.specs.declared.table.Fields.{Fields}
use Rattle.kinds.specs.declared.Kind.TheVariants.{Composite}
use Rattle.kinds.specs.Kinds.{is}
use Rattle.component.specs.declared.Record.{Record}
use Rattle.component.specs.Record.{no_record, fields_of, inputs_of, outputs_of, input_of, output_of, from_of, to_of, port_of, composite, owned_as}
use Rattle.component.specs.Reading.{form_of, no_fields}
use Rattle.component.specs.Drawing.{is_component, child, missing}
use Rattle.component.proofs.RecordLaws.{fields_cases}
use Rattle.mend.specs.Mend.{components, component_numbered, refused12}

module _ (at : ℕ → Record) (n : ℕ) (past : (p : ℕ) → n ≤ p → at p ≡ no_record)
    (first : (c q : ℕ) → form_of (at c) ≡ 1 → q ≤ c → form_of (at q) ≡ 1) where
  -- How many components there are.
  abbrev m : ℕ
  m = length (components at n)

  few : m ≤ n
  few = omega (arith, keep_length (is_component at) (from 0 n), from_length 0 n)

  components_are : components at n ≡ from 0 m
  components_are =
      keep_first_ones (is_component at) 0 n
      (λ p r e l. eq-eqb (form_of (at p)) 1 (first r p (eqb-true (form_of (at r)) 1 e) l))

  -- A component is one of them, and they are components.
  component_few : (c : ℕ) → form_of (at c) ≡ 1 → c < m
  component_few c e = by_place (dec_lt c n)
    where
      by_place : Dec (c < n) → c < m
      by_place (yes h) =
          from0_sound m c
          (rw components_are at (keep_complete (is_component at) c (from 0 n) (eq-eqb (form_of (at c)) 1 e) (from0_complete n c h)))
      by_place (no h) = absurd (omega (arith, ap form_of (past c (omega (arith, h))), e))

  numbered_few : (o : ℕ) → o < m → component_numbered at n o ≡ at o
  numbered_few o h = ap (λ (l : List ℕ). at (get_or l o n)) components_are ∙ ap at (let z : 0 + o ≡ o = omega arith in from_at 0 m o n h ∙ z)

  numbered_past : (o : ℕ) → m ≤ o → component_numbered at n o ≡ at n
  numbered_past o h = ap at (get_or-eq_default (components at n) n {n = o} h)

  -- So the fields are the same, of any number.
  numbered_fields : (o : ℕ) → fields_of (component_numbered at n o) ≡ fields_of (at o)
  numbered_fields o = by_place (dec_lt o m)
    where
      none : (c : ℕ) → (form_of (at c) ≡ 1 → ⊥) → fields_of (at c) ≡ no_fields
      none c h = by_case (fields_cases (at c))
        where
          by_case : (form_of (at c) ≡ 1) ⊎ (fields_of (at c) ≡ no_fields) → fields_of (at c) ≡ no_fields
          by_case (inl u) = absurd (h u)
          by_case (inr u) = u

      by_place : Dec (o < m) → fields_of (component_numbered at n o) ≡ fields_of (at o)
      by_place (yes h) = ap fields_of (numbered_few o h)
      by_place (no h) =
          ap fields_of (numbered_past o (omega (arith, h)))
          ∙ none n (λ e. omega (arith, component_few n e, few))
          ∙ sym (none o (λ e. h (component_few o e)))

  -- The children of owner o are the same,
  abbrev owned : ℕ → ℕ → Bool
  owned o q = owned_as 1 o (at q)

  children_same : (o : ℕ) → keep (λ q. owned_as 1 o (component_numbered at n q)) (from 1 (m - 1)) ≡ keep (owned o) (from 1 (n - 1))
  children_same o =
      let k = n - 1 - (m - 1) in
      let e : n - 1 ≡ (m - 1) + k = omega (arith, few) in
      keep_cong (λ q. owned_as 1 o (component_numbered at n q)) (owned o) (from 1 (m - 1))
      (λ q u. ap (owned_as 1 o) (numbered_few q (omega (arith, (from_sound 1 (m - 1) q u).0, (from_sound 1 (m - 1) q u).1))))
      ∙ sym (append-nil (keep (owned o) (from 1 (m - 1))))
      ∙ ap (λ (l : List ℕ). keep (owned o) (from 1 (m - 1)) ++ l)
      (sym (keep_no (owned o) (from (1 + (m - 1)) k) (λ q u. none q (owned o q) refl (from_sound (1 + (m - 1)) k q u).0)))
      ∙ sym (keep_append (owned o) (from 1 (m - 1)) (from (1 + (m - 1)) k))
      ∙ ap (keep (owned o)) (sym (from_append 1 (m - 1) k) ∙ ap (from 1) (sym e))
    where
      none : (q : ℕ) (b : Bool) → owned o q ≡ b → 1 + (m - 1) ≤ q → owned o q ≡ false
      none q true u l =
          absurd (omega (arith, l, component_few q (eqb-true (form_of (at q)) 1 (and_left (eqb (form_of (at q)) 1) _ u))))
      none q false u l = u

  -- and so is the record of child k.
  child_same : (o k : ℕ) → component_numbered at n (child (component_numbered at n) m o k) ≡ at (child at n o k)
  child_same o k =
      ap (λ (l : List ℕ). component_numbered at n (get_or l k m)) (children_same o) ∙ by_place (dec_lt k (length (keep (owned o) (from 1 (n - 1)))))
    where
      by_place : Dec (k < length (keep (owned o) (from 1 (n - 1))))
          → component_numbered at n (get_or (keep (owned o) (from 1 (n - 1))) k m) ≡ at (get_or (keep (owned o) (from 1 (n - 1))) k n)
      by_place (yes h) =
          let c = get_or (keep (owned o) (from 1 (n - 1))) k m in
          let z = (keep_sound (owned o) c (from 1 (n - 1)) (in-get_or (keep (owned o) (from 1 (n - 1))) k m h)).0 in
          numbered_few c (component_few c (eqb-true (form_of (at c)) 1 (and_left (eqb (form_of (at c)) 1) _ z)))
          ∙ ap at (get_or-there (keep (owned o) (from 1 (n - 1))) k m n h)
      by_place (no h) =
          ap (component_numbered at n) (get_or-eq_default (keep (owned o) (from 1 (n - 1))) m {n = k} (omega (arith, h)))
          ∙ numbered_past m (omega arith)
          ∙ ap at (sym (get_or-eq_default (keep (owned o) (from 1 (n - 1))) n {n = k} (omega (arith, h))))

  missing_same : (r : Record) → missing (component_numbered at n) m r ≡ missing at n r
  missing_same r =
      let a = ap outputs_of (child_same r.owner (from_of r)) in
      let c = ap inputs_of (child_same r.owner (to_of r)) in
      let o = ap (λ (f : Fields). f.inputs) (numbered_fields r.owner) in
      λ j. cond (eqb r.form 2) (not (ltb (output_of r) (a j) && ltb (input_of r) (c j)))
      (cond (eqb r.form 3) (not (ltb (port_of r) (o j) && ltb (input_of r) (c j))) (eqb r.form 4 && not (ltb (output_of r) (a j))))

  -- What check 12 refuses here is of an owner that is no composite, or fails the check.
  pub refused12_same : (r : Record) → refused12 at n r ≡ (not (composite (at r.owner)) || missing at n r)
  unfolding refused12
  refused12_same r =
      let o = ap (is Composite) (numbered_fields r.owner) in
      let e = missing_same r in
      λ j. not (o j) || e j
