-- Laws of the checks of specs/Drawing.antt, one for each way out of a function of src/checks.rt: what was taken out of the records and the tests made so
-- far decide the check.
-- Assumes nothing.
use mathlib.Core.Path.{◌≡◌, refl, sym, ap, ◌∙◌}
use mathlib.Core.Bool.{Bool, true, false, cond, not, ◌&&◌, ◌||◌}
use mathlib.Core.Logic.{⊎_elim}
use mathlib.Core.List.{List, [], ◌∷◌}
use Prim.Native.Nat.{ℕ, zero, suc, ◌-◌, ◌/◌, ◌<◌, ◌≤◌}
use native.Mathlib.Nat.{sub-zero}
use native.Mathlib.Omega.{arith}
use borrow.Author.Tests.{eqb-false, eq-eqb, ne_eqb, le-leb, lt-leb, lt-ltb, le-ltb, leb-false, not-true, not-false}
use lib.Dec.{eqb, leb, ltb}
use lib.ListN.{length, get_or}
use types.Run.{OneOf}
use Rattle.lists.specs.Lists.{from, keep, any}
use Rattle.lists.proofs.ListsLaws.{keep_nothing, keep_any, keep_most}
use denote.Enum.Declared.{tag_of}
use Rattle.kinds.specs.declared.Kind.TheVariants.{Composite}
use Rattle.kinds.specs.Kinds.{number_of, obeys, primitive, for_custom, unknown}
use Rattle.kinds.specs.declared.table.Fields.{Fields}
use Rattle.component.specs.declared.ChildNo.{ChildNo}
use Rattle.kinds.specs.declared.Id.{Id}
use Rattle.component.specs.declared.Record.{Record}
use Rattle.component.specs.declared.Says.{Says}
use Rattle.component.specs.declared.Says.TheVariants.{Component, Connection, InputMap, OutputMap}
use Rattle.component.specs.declared.Reading.{Reading}
use Rattle.component.specs.declared.Reading.TheVariants.{Taken, Refused}
use Rattle.component.specs.declared.Component.{Component as Seen}
use Rattle.checks.specs.declared.Entry.{Entry}
use Rattle.std.specs.Prelude.{Option, Some, None, is_some}
use Rattle.std.specs.Option.{option_eq}
use Rattle.std.proofs.Math.Bool.{and_assoc}
use Rattle.checks.specs.contracts.EntryPartialEq.TheImpl.{eq-value}
use Rattle.component.specs.Record.{record_at, to_of, input_of}
use Rattle.component.specs.Reading.{id_of, owner_of, form_of, apart, form_by, said, number, given, StandsAs}
use Rattle.checks.specs.Checks.{EntryAs}
use Rattle.component.specs.Record.{inputs_of, outputs_of, is_primitive, composite}
use Rattle.component.specs.Record.{entering, entering_as}
use Rattle.component.specs.Reading.{has_id, enters}
use Rattle.component.specs.Drawing.{is_component, child, deepest, holds, deeper, out_maps}
use Rattle.index.specs.Index.{IsIndex, out_count}
use Rattle.lists.proofs.TestsLaws.{and_right_false, or_left}
use Rattle.component.specs.Drawing.{fails3, fails4, fails5, fails6, fails7, fails8, fails9}
use Rattle.component.specs.Drawing.{missing, fails10, fails12, fails13, fails14, earlier_of}
use Rattle.component.specs.contracts.Says.{the_type}
use Rattle.component.proofs.RecordLaws.{form_by-tag, no_component, refused_is, taken_is, taken_form, taken_owner, unseen_test, unseen_fields, seen_is}
use Rattle.component.proofs.ScanLaws.{tested}

-- A check fails, or not; r is the number that it gives back, as `given` of crate component answers it.
module _ (k : ℕ) (b : Bool) where
  pub given_fails : true ≡ b → k ≡ given k b
  given_fails e = ap (given k) e

  pub given_passes : false ≡ b → 0 ≡ given k b
  given_passes e = ap (given k) e

  pub given_by : (r : ℕ) (a : Bool) → r ≡ given k a → a ≡ b → r ≡ given k b
  given_by r a h e = h ∙ ap (given k) e

  -- and what the number given says of it: it is not 0; it is 0
  module _ (r : ℕ) (e : r ≡ given k b) where
    pub given_failed : (r ≡ 0 → ⊥) → b ≡ true
    given_failed h = by_test b e
      where
        by_test : (c : Bool) → r ≡ given k c → c ≡ true
        by_test true d = refl
        by_test false d = absurd (h d)

    pub given_passed : r ≡ 0 → 0 < k → b ≡ false
    given_passed z h = by_test b e
      where
        by_test : (c : Bool) → r ≡ given k c → c ≡ false
        by_test true d = absurd (omega arith)
        by_test false d = refl

-- The number that reading a record gives: taken apart; refused
module _ (m : ℕ) (r : Reading) (e : number r ≡ m) where
  pub number_taken : {o : ℕ} {x : Says} → r ≡ Taken o x → 0 ≡ m
  number_taken h = sym (ap number h) ∙ e

  pub number_refused : (k : ℕ) → r ≡ Refused k → k ≡ m
  number_refused k h = sym (ap number h) ∙ e

-- 4: the order of two record kinds
module _ (f g o m : ℕ) where
  abbrev below : Bool
  below = ltb f g || (eqb f g && leb 2 g && ltb o m)

  kind_falls : f < g → true ≡ below
  kind_falls h = rw (lt-ltb f g h)

  kind_rises : g < f → false ≡ below
  kind_rises h =
      let d : g ≤ f = omega arith in
      let e : f ≡ g → ⊥ = λ z. omega arith in
      rw (le-ltb f g d, ne_eqb f g e)

module _ (x y : Says) (o m : ℕ) where
  abbrev falls_by : Bool
  falls_by = ltb (form_by x) (form_by y) || (eqb (form_by x) (form_by y) && leb 2 (form_by y) && ltb o m)

  pub falls_components : {i j : Id} {f g : Fields} → x ≡ Component i f → y ≡ Component j g → false ≡ falls_by
  falls_components h k = rw (h, k)

  pub falls_component : {i : Id} {f : Fields} → x ≡ Component i f → OneOf (1 ∷ 2 ∷ 3 ∷ []) (tag_of the_type y) → true ≡ falls_by
  falls_component h k =
      kind_falls (form_by x) (form_by y) o m
      (⊎_elim (λ z. omega (arith, ap form_by h, form_by-tag y)) (⊎_elim (λ z. omega (arith, ap form_by h, form_by-tag y))
      (λ z. omega (arith, ap form_by h, form_by-tag y))) k)

  module _ {a c : ChildNo} {b d : ℕ} (h : x ≡ Connection a b c d) where
    pub falls_connection_first : {j : Id} {g : Fields} → y ≡ Component j g → false ≡ falls_by
    falls_connection_first k = rw (h, k)

    pub falls_connections : {a' c' : ChildNo} {b' d' : ℕ} → y ≡ Connection a' b' c' d' → ltb o m ≡ falls_by
    falls_connections k = rw (h, k)

    pub falls_connection : OneOf (2 ∷ 3 ∷ []) (tag_of the_type y) → true ≡ falls_by
    falls_connection k =
        kind_falls (form_by x) (form_by y) o m
        (⊎_elim (λ z. omega (arith, ap form_by h, form_by-tag y)) (λ z. omega (arith, ap form_by h, form_by-tag y)) k)

  module _ {c : ChildNo} {a d : ℕ} (h : x ≡ InputMap a c d) where
    pub falls_input_maps : {c' : ChildNo} {a' d' : ℕ} → y ≡ InputMap a' c' d' → ltb o m ≡ falls_by
    falls_input_maps k = rw (h, k)

    pub falls_input_map : {a' : ChildNo} {b' : ℕ} → y ≡ OutputMap a' b' → true ≡ falls_by
    falls_input_map k = rw (h, k)

    pub falls_input_map_later : OneOf (0 ∷ 1 ∷ []) (tag_of the_type y) → false ≡ falls_by
    falls_input_map_later k =
        kind_rises (form_by x) (form_by y) o m
        (⊎_elim (λ z. omega (arith, ap form_by h, form_by-tag y)) (λ z. omega (arith, ap form_by h, form_by-tag y)) k)

  module _ {a : ChildNo} {b : ℕ} (h : x ≡ OutputMap a b) where
    pub falls_output_maps : {a' : ChildNo} {b' : ℕ} → y ≡ OutputMap a' b' → ltb o m ≡ falls_by
    falls_output_maps k = rw (h, k)

    pub falls_output_map : OneOf (0 ∷ 1 ∷ 2 ∷ []) (tag_of the_type y) → false ≡ falls_by
    falls_output_map k =
        kind_rises (form_by x) (form_by y) o m
        (⊎_elim (λ z. omega (arith, ap form_by h, form_by-tag y)) (⊎_elim (λ z. omega (arith, ap form_by h, form_by-tag y))
        (λ z. omega (arith, ap form_by h, form_by-tag y))) k)

-- A record taken apart has a kind.
form_by-some : (x : Says) → form_by x ≡ 0 → ⊥
form_by-some x h = omega (arith, form_by-tag x)

module _ (s : List ℕ) where
  -- A record that check 3 passes is not refused.
  pub not_refused : (p : ℕ) (r : Reading) {k : ℕ} → fails3 (record_at s) p ≡ false → said r ≡ record_at s p → r ≡ Refused k → ⊥
  not_refused p r t e h = eqb-false (form_of (record_at s p)) 0 t (ap form_of (refused_is (record_at s p) r e h))

  -- 3: refused; taken apart
  module _ (p : ℕ) (r : Reading) (e : said r ≡ record_at s p) where
    pub fails3_refused : {k : ℕ} → r ≡ Refused k → true ≡ fails3 (record_at s) p
    fails3_refused h = rw (refused_is (record_at s p) r e h)

    pub fails3_taken : (o : ℕ) (x : Says) → r ≡ Taken o x → false ≡ fails3 (record_at s) p
    fails3_taken o x h = sym (ne_eqb (form_of (record_at s p)) 0 (λ z. form_by-some x (sym (taken_form (record_at s p) r e o x h) ∙ z)))

  -- 4: the first record, and where it is no component; one after a refused one; any other
  pub fails4_first : (p : ℕ) (g : Option Seen) (b : Bool) → p ≡ 0 → StandsAs g (record_at s 0) → is_some g ≡ not b → b ≡ fails4 (record_at s) p
  fails4_first p g b z e h = by_case g e h ∙ ap (fails4 (record_at s)) (sym z)
    where
      by_case : (g : Option Seen) → StandsAs g (record_at s 0) → is_some g ≡ not b → b ≡ fails4 (record_at s) 0
      by_case None e h = rw (unseen_test (record_at s 0) None e refl, not-false b (sym h))
      by_case (Some x) e h = rw (e, not-true b (sym h))

  pub fails4_first_none : (p : ℕ) (g : Option Seen) → p ≡ 0 → StandsAs g (record_at s 0) → g ≡ None → true ≡ fails4 (record_at s) p
  fails4_first_none p g z e h = rw (z, unseen_test (record_at s 0) g e h)

  module _ (p : ℕ) (z : p ≡ 0 → ⊥) (r : Reading) (e : said r ≡ record_at s p) where
    fails4_pred : (p : ℕ) → (p ≡ 0 → ⊥) → fails4 (record_at s) p
        ≡ (ltb (form_of (record_at s p)) (form_of (record_at s (p - 1)))
        || (eqb (form_of (record_at s p)) (form_of (record_at s (p - 1))) && leb 2 (form_of (record_at s (p - 1)))
        && ltb (owner_of (record_at s p)) (owner_of (record_at s (p - 1)))))
    fails4_pred zero z = absurd (z refl)
    fails4_pred (suc q) z = let e : suc q - 1 ≡ q = omega arith in rw e

    module _ (o : ℕ) (x : Says) (h : r ≡ Taken o x) (v : Reading) (d : said v ≡ record_at s (p - 1)) where
      pub fails4_after : {k : ℕ} → v ≡ Refused k → false ≡ fails4 (record_at s) p
      fails4_after k =
          let f : form_of (record_at s p) ≡ 0 → ⊥ = λ u. form_by-some x (sym (taken_form (record_at s p) r e o x h) ∙ u) in
          let g : 0 ≤ form_of (record_at s p) = omega arith in
          sym (fails4_pred p z
          ∙ rw (refused_is (record_at s (p - 1)) v d k, le-ltb (form_of (record_at s p)) 0 g, ne_eqb (form_of (record_at s p)) 0 f))

      pub fails4_later : (m : ℕ) (y : Says) (b : Bool) → v ≡ Taken m y
          → b ≡ (ltb (form_by x) (form_by y) || (eqb (form_by x) (form_by y) && leb 2 (form_by y) && ltb o m))
          → b ≡ fails4 (record_at s) p
      fails4_later m y b k i =
          i ∙ sym (fails4_pred p z
          ∙ rw (
            taken_form (record_at s p) r e o x h,
            taken_owner (record_at s p) r e o x h,
            taken_form (record_at s (p - 1)) v d m y k,
            taken_owner (record_at s (p - 1)) v d m y k,
          ))

  -- a component's owners, from the inside out: the root; no component; one whose owner is the one asked for; any other; none left
  pub holds_root : (f o q : ℕ) (b : Bool) → holds (record_at s) f o q ≡ b → 0 < f → q ≡ 0 → false ≡ b
  holds_root zero o q b e h z = absurd (omega arith)
  holds_root (suc f) o q b e h z = rw z at e

  pub holds_unseen : (f o q : ℕ) (g : Option Seen) (b : Bool) → holds (record_at s) f o q ≡ b → 0 < f → (q ≡ 0 → ⊥)
      → StandsAs g (record_at s q) → g ≡ None → false ≡ b
  holds_unseen zero o q g b e h z d k = absurd (omega arith)
  holds_unseen (suc f) o q g b e h z d k = rw (ne_eqb q 0 z, unseen_test (record_at s q) g d k) at e

  pub holds_owner : (f o q : ℕ) (x : Seen) (g : Option Seen) (b : Bool) → holds (record_at s) f o q ≡ b → 0 < f → (q ≡ 0 → ⊥)
      → StandsAs g (record_at s q) → g ≡ Some x → x.owner ≡ o → true ≡ b
  holds_owner zero o q x g b e h z d k j = absurd (omega arith)
  holds_owner (suc f) o q x g b e h z d k j = rw (ne_eqb q 0 z, seen_is (record_at s q) g d x k, eq-eqb x.owner o j) at e

  pub holds_outer : (f o q : ℕ) (x : Seen) (g : Option Seen) (b : Bool) → holds (record_at s) f o q ≡ b → 0 < f → (q ≡ 0 → ⊥)
      → StandsAs g (record_at s q) → g ≡ Some x → (x.owner ≡ o → ⊥) → holds (record_at s) (f - 1) o x.owner ≡ b
  holds_outer zero o q x g b e h z d k j = absurd (omega arith)
  holds_outer (suc f) o q x g b e h z d k j =
      let v : suc f - 1 ≡ f = omega arith in
      rw v (rw (ne_eqb q 0 z, seen_is (record_at s q) g d x k, ne_eqb x.owner o j) at e)

  pub holds_none : (f o q : ℕ) (b : Bool) → holds (record_at s) f o q ≡ b → f ≤ 0 → false ≡ b
  holds_none zero o q b e h = e
  holds_none (suc f) o q b e h = absurd (omega arith)

  -- the same for a depth: the root; no component; any other; none left
  pub deeper_root : (d q : ℕ) (b : Bool) → deeper (record_at s) d q ≡ b → 0 < d → q ≡ 0 → false ≡ b
  deeper_root zero q b e h z = absurd (omega arith)
  deeper_root (suc d) q b e h z = rw z at e

  pub deeper_unseen : (d q : ℕ) (g : Option Seen) (b : Bool) → deeper (record_at s) d q ≡ b → 0 < d → (q ≡ 0 → ⊥)
      → StandsAs g (record_at s q) → g ≡ None → false ≡ b
  deeper_unseen zero q g b e h z i k = absurd (omega arith)
  deeper_unseen (suc d) q g b e h z i k = rw (ne_eqb q 0 z, unseen_test (record_at s q) g i k) at e

  pub deeper_outer : (d q : ℕ) (x : Seen) (g : Option Seen) (b : Bool) → deeper (record_at s) d q ≡ b → 0 < d → (q ≡ 0 → ⊥)
      → StandsAs g (record_at s q) → g ≡ Some x → deeper (record_at s) (d - 1) x.owner ≡ b
  deeper_outer zero q x g b e h z j k = absurd (omega arith)
  deeper_outer (suc d) q x g b e h z j k =
      let v : suc d - 1 ≡ d = omega arith in
      rw v (rw (ne_eqb q 0 z, seen_is (record_at s q) g j x k) at e)

  pub deeper_none : (d q : ℕ) (b : Bool) → deeper (record_at s) d q ≡ b → d ≤ 0 → true ≡ b
  deeper_none zero q b e h = e
  deeper_none (suc d) q b e h = absurd (omega arith)

  -- 5: the root; an owner that is no composite; a record that is no component; owned by the component before; by
  -- another
  module _ (p : ℕ) (r : Reading) (e : said r ≡ record_at s p) where
    module _ (o : ℕ) (x : Says) (h : r ≡ Taken o x) where
      pub fails5_root : p ≡ 0 → not (eqb o 0) ≡ fails5 (record_at s) p
      fails5_root z =
          let y : owner_of (record_at s 0) ≡ o = ap (λ (i : ℕ). owner_of (record_at s i)) (sym z) ∙ taken_owner (record_at s p) r e o x h in
          rw (z, y)

      module _ (z : p ≡ 0 → ⊥) (b : Bool) (d : b ≡ composite (record_at s o)) where
        fails5_pred : fails5 (record_at s) p
            ≡ not (b && (not (eqb (form_by x) 1) || eqb o (p - 1) || holds (record_at s) (p - 1) o (p - 1)))
        fails5_pred =
            by_place p z
            ∙ rw (
              taken_form (record_at s p) r e o x h,
              taken_owner (record_at s p) r e o x h,
              ← d,
            )
          where
            by_place : (p : ℕ) → (p ≡ 0 → ⊥) → fails5 (record_at s) p
                ≡ not (composite (record_at s (owner_of (record_at s p)))
                && (not (eqb (form_of (record_at s p)) 1) || eqb (owner_of (record_at s p)) (p - 1)
                || holds (record_at s) (p - 1) (owner_of (record_at s p)) (p - 1)))
            by_place zero z = absurd (z refl)
            by_place (suc q) z = let k : suc q - 1 ≡ q = omega arith in rw k

        pub fails5_owner : not b ≡ true → true ≡ fails5 (record_at s) p
        fails5_owner k = sym (fails5_pred ∙ rw (not-true b k))

        module _ (k : not b ≡ false) where
          pub fails5_line : OneOf (1 ∷ 2 ∷ 3 ∷ []) (tag_of the_type x) → false ≡ fails5 (record_at s) p
          fails5_line g = sym (fails5_pred ∙ rw (not-false b k, ne_eqb (form_by x) 1 (no_component x g)))

          module _ {i : Id} {f : Fields} (g : x ≡ Component i f) where
            pub fails5_before : o ≡ p - 1 → false ≡ fails5 (record_at s) p
            fails5_before l = sym (fails5_pred ∙ rw (not-false b k, g, eq-eqb o (p - 1) l))

            pub fails5_held : (a : Bool) → (o ≡ p - 1 → ⊥) → a ≡ holds (record_at s) (p - 1) o (p - 1) → not a ≡ fails5 (record_at s) p
            fails5_held a l m = sym (fails5_pred ∙ rw (not-false b k, g, ne_eqb o (p - 1) l, ← m))

  -- 6 to 11 and 14: no component; a component
  module _ (p : ℕ) (g : Option Seen) (e : StandsAs g (record_at s p)) where
    module _ (h : g ≡ None) where
      pub fails_other : (b : Bool) → false ≡ (is_component (record_at s) p && b)
      fails_other b = rw (unseen_test (record_at s p) g e h)

      pub has_id-other : (i : ℕ) → false ≡ has_id i (record_at s p)
      has_id-other i = rw (unseen_test (record_at s p) g e h)

      pub inputs_none : 0 ≡ cond (is_primitive (record_at s p)) (inputs_of (record_at s p)) 0
      inputs_none = rw (unseen_test (record_at s p) g e h)

      pub outputs_none : 0 ≡ cond (is_primitive (record_at s p)) (outputs_of (record_at s p)) 0
      outputs_none = rw (unseen_test (record_at s p) g e h)

      pub inputs_other : (i : ℕ) → false ≡ ltb i (inputs_of (record_at s p))
      inputs_other i = sym (ap (λ (f : Fields). ltb i f.inputs) (unseen_fields (record_at s p) g e h) ∙ le-ltb i 0 (omega arith))

      pub outputs_other : (i : ℕ) → false ≡ ltb i (outputs_of (record_at s p))
      outputs_other i = sym (ap (λ (f : Fields). ltb i f.outputs) (unseen_fields (record_at s p) g e h) ∙ le-ltb i 0 (omega arith))

      pub fails14_other : (n : ℕ) → false ≡ fails14 (record_at s) n p
      fails14_other n = rw (unseen_test (record_at s p) g e h)

    module _ (v : Seen) (h : g ≡ Some v) where
      form_is : eqb (form_of (record_at s p)) 1 ≡ true
      form_is = rw (seen_is (record_at s p) g e v h)

      pub fails6_number : 256 ≤ p → true ≡ fails6 (record_at s) p
      fails6_number k = rw (form_is, le-leb 256 p k)

      pub fails6_depth : (d : ℕ) (b : Bool) → p < 256 → d ≡ deepest → b ≡ deeper (record_at s) d p → b ≡ fails6 (record_at s) p
      fails6_depth d b k l j = j ∙ rw (form_is, lt-leb 256 p k, l)

      pub fails7_component : (b : Bool) → b ≡ for_custom v.fields.kind → b ≡ fails7 (record_at s) p
      fails7_component b k = rw (k, seen_is (record_at s p) g e v h)

      pub fails8_component : (b : Bool) → b ≡ unknown v.fields.kind → b ≡ fails8 (record_at s) p
      fails8_component b k = rw (k, seen_is (record_at s p) g e v h)

      pub fails9_component : (b : Bool) → b ≡ obeys v.fields → not b ≡ fails9 (record_at s) p
      fails9_component b k = rw (k, seen_is (record_at s p) g e v h)

      pub has_id-component : (j : Id) → eqb v.id.0 j.0 ≡ has_id j.0 (record_at s p)
      has_id-component j = rw (seen_is (record_at s p) g e v h)

      pub fails10_component : (b : Bool) → b ≡ any (λ q. has_id v.id.0 (record_at s q)) (from 0 p) → b ≡ fails10 (record_at s) p
      fails10_component b k =
          let y : id_of (record_at s p) ≡ v.id.0 = rw (seen_is (record_at s p) g e v h) in
          k ∙ rw (form_is, y)

      pub inputs_component : (j : ℕ) → ltb j v.fields.inputs ≡ ltb j (inputs_of (record_at s p))
      inputs_component j = rw (seen_is (record_at s p) g e v h)

      pub outputs_component : (j : ℕ) → ltb j v.fields.outputs ≡ ltb j (outputs_of (record_at s p))
      outputs_component j = rw (seen_is (record_at s p) g e v h)

      module _ (b : Bool) (k : b ≡ primitive v.fields) where
        primitive_is : (x : Bool) → b ≡ x → is_primitive (record_at s p) ≡ x
        primitive_is x l = ap is_primitive (seen_is (record_at s p) g e v h) ∙ sym k ∙ l

        pub inputs_composite : not b ≡ true → 0 ≡ cond (is_primitive (record_at s p)) (inputs_of (record_at s p)) 0
        inputs_composite l = rw (primitive_is false (not-true b l))

        pub outputs_composite : not b ≡ true → 0 ≡ cond (is_primitive (record_at s p)) (outputs_of (record_at s p)) 0
        outputs_composite l = rw (primitive_is false (not-true b l))

        pub inputs_primitive : not b ≡ false → v.fields.inputs ≡ cond (is_primitive (record_at s p)) (inputs_of (record_at s p)) 0
        inputs_primitive l = rw (primitive_is true (not-false b l), seen_is (record_at s p) g e v h)

        pub outputs_primitive : not b ≡ false → v.fields.outputs ≡ cond (is_primitive (record_at s p)) (outputs_of (record_at s p)) 0
        outputs_primitive l = rw (primitive_is true (not-false b l), seen_is (record_at s p) g e v h)

      pub fails14_primitive : (n c : ℕ) → c ≡ number_of Composite → (v.fields.kind ≡ c → ⊥) → false ≡ fails14 (record_at s) n p
      fails14_primitive n c q k =
          rw (seen_is (record_at s p) g e v h, ne_eqb v.fields.kind (number_of Composite) (λ z. k (z ∙ sym q)))

      pub fails14_composite : (n m c : ℕ) → c ≡ number_of Composite → v.fields.kind ≡ c → m ≡ length (out_maps (record_at s) n p)
          → not (eqb v.fields.outputs m) ≡ fails14 (record_at s) n p
      fails14_composite n m c q k l =
          let y : composite (record_at s p) ≡ true =
          rw (seen_is (record_at s p) g e v h, eq-eqb v.fields.kind (number_of Composite) (k ∙ q)) in
          let z : outputs_of (record_at s p) ≡ v.fields.outputs = rw (seen_is (record_at s p) g e v h) in
          rw (l, y, z)

  -- 14: a component that check 6 passes has a word in the index, which counts its output maps
  module _ (t : List ℕ) (ix : IsIndex s t) (p : ℕ) (g : Option Seen) (e : StandsAs g (record_at s p)) (few : fails6 (record_at s) p ≡ false) where
    pub component_few : (v : Seen) → g ≡ Some v → p < 256
    component_few v h =
        let z : (leb 256 p || deeper (record_at s) deepest p) ≡ false = and_right_false (is_component (record_at s) p) _ few (form_is p g e v h) in
        leb-false 256 p (or_left (leb 256 p) (deeper (record_at s) deepest p) z)

    pub fails14_counted : (v : Seen) (m : ℕ) → g ≡ Some v → m ≡ out_count t p
        → m ≡ length (out_maps (record_at s) (length s / 24) p)
    fails14_counted v m h d = d ∙ ix.counts p (component_few v h)

  -- what is missing, by what a record says
  module _ (n o : ℕ) (x : Says) where
    pub missing_component : {i : Id} {f : Fields} → x ≡ Component i f → false ≡ missing (record_at s) n (apart o x)
    missing_component k = rw k

    pub missing_connection : (a c : ChildNo) (b d t u : ℕ) (v w : Bool) → x ≡ Connection a b c d
        → t ≡ child (record_at s) n o a.0 → v ≡ ltb b (outputs_of (record_at s t))
        → u ≡ child (record_at s) n o c.0 → w ≡ ltb d (inputs_of (record_at s u)) → not (v && w) ≡ missing (record_at s) n (apart o x)
    missing_connection a c b d t u v w k et ev eu ew = rw (ev, ew, et, eu, k)

    pub missing_input_map : (c : ChildNo) (a d u : ℕ) (v w : Bool) → x ≡ InputMap a c d
        → v ≡ ltb a (inputs_of (record_at s o))
        → u ≡ child (record_at s) n o c.0 → w ≡ ltb d (inputs_of (record_at s u)) → not (v && w) ≡ missing (record_at s) n (apart o x)
    missing_input_map c a d u v w k ev eu ew = rw (ev, ew, eu, k)

    pub missing_output_map : (a : ChildNo) (b t : ℕ) (v : Bool) → x ≡ OutputMap a b
        → t ≡ child (record_at s) n o a.0 → v ≡ ltb b (outputs_of (record_at s t)) → not v ≡ missing (record_at s) n (apart o x)
    missing_output_map a b t v k et ev = rw (ev, et, k)

  -- 12: a refused record; by what a record says
  module _ (n p : ℕ) (r : Reading) (e : said r ≡ record_at s p) where
    pub fails12_refused : {k : ℕ} → r ≡ Refused k → false ≡ fails12 (record_at s) n p
    fails12_refused h = rw (refused_is (record_at s p) r e h)

    module _ (o : ℕ) (x : Says) (h : r ≡ Taken o x) where
      -- what is missing of the record is missing of what it says
      as_said : missing (record_at s) n (apart o x) ≡ fails12 (record_at s) n p
      as_said = ap (missing (record_at s) n) (sym (taken_is (record_at s p) r e o x h))

      pub fails12_component : {i : Id} {f : Fields} → x ≡ Component i f → false ≡ fails12 (record_at s) n p
      fails12_component k = missing_component n o x k ∙ as_said

      pub fails12_connection : (a c : ChildNo) (b d t u : ℕ) (v w : Bool) → x ≡ Connection a b c d
          → t ≡ child (record_at s) n o a.0 → v ≡ ltb b (outputs_of (record_at s t))
          → u ≡ child (record_at s) n o c.0 → w ≡ ltb d (inputs_of (record_at s u)) → not (v && w) ≡ fails12 (record_at s) n p
      fails12_connection a c b d t u v w k et ev eu ew = missing_connection n o x a c b d t u v w k et ev eu ew ∙ as_said

      pub fails12_input_map : (c : ChildNo) (a d u : ℕ) (v w : Bool) → x ≡ InputMap a c d
          → v ≡ ltb a (inputs_of (record_at s o))
          → u ≡ child (record_at s) n o c.0 → w ≡ ltb d (inputs_of (record_at s u)) → not (v && w) ≡ fails12 (record_at s) n p
      fails12_input_map c a d u v w k ev eu ew = missing_input_map n o x c a d u v w k ev eu ew ∙ as_said

      pub fails12_output_map : (a : ChildNo) (b t : ℕ) (v : Bool) → x ≡ OutputMap a b
          → t ≡ child (record_at s) n o a.0 → v ≡ ltb b (outputs_of (record_at s t)) → not v ≡ fails12 (record_at s) n p
      fails12_output_map a b t v k et ev = missing_output_map n o x a b t v k et ev ∙ as_said

-- The entry of a record: refused; by what it says
module _ (t : Record) (r : Reading) (e : said r ≡ t) where
  pub entry_refused : {k : ℕ} → r ≡ Refused k → EntryAs None t
  entry_refused h = rw (refused_is t r e h)

  module _ (o : ℕ) (x : Says) (h : r ≡ Taken o x) where
    pub entry_component : {i : Id} {f : Fields} → x ≡ Component i f → EntryAs None t
    entry_component k = rw (taken_is t r e o x h, k)

    pub entry_output_map : {a : ChildNo} {b : ℕ} → x ≡ OutputMap a b → EntryAs None t
    entry_output_map k = rw (taken_is t r e o x h, k)

    pub entry_connection : {a : ChildNo} {b : ℕ} (c : ChildNo) (d : ℕ) → x ≡ Connection a b c d → EntryAs (Some (record { owner = o; to = c; input = d })) t
    entry_connection c d k =
        let z = taken_is t r e o x h ∙ ap (apart o) k in
        (ap entering z, ap owner_of z, ap to_of z, ap input_of z)

    pub entry_input_map : {a : ℕ} (c : ChildNo) (d : ℕ) → x ≡ InputMap a c d → EntryAs (Some (record { owner = o; to = c; input = d })) t
    entry_input_map c d k =
        let z = taken_is t r e o x h ∙ ap (apart o) k in
        (ap entering z, ap owner_of z, ap to_of z, ap input_of z)

-- 13: a record enters no input; it enters one
module _ (t : Record) (g : Option Entry) (e : EntryAs g t) where
  pub entering_none : g ≡ None → entering t ≡ false
  entering_none h = rw h at e

  module _ (x : Entry) (h : g ≡ Some x) where
    pub entering_is : (entering t ≡ true) × (owner_of t ≡ x.owner) × (to_of t ≡ x.to.0) × (input_of t ≡ x.input)
    entering_is = rw h at e

    pub enters_is : (y : Entry) → (eqb x.owner y.owner && eqb x.to.0 y.to.0 && eqb x.input y.input) ≡ enters y.owner y.to.0 y.input t
    enters_is y = rw (entering_is.0, entering_is.1, entering_is.2, entering_is.3)

  pub enters_none : (m k j : ℕ) → g ≡ None → false ≡ enters m k j t
  enters_none m k j h = rw (entering_none h)

-- An entry that is compared with another, part by part.
pub same_as : (t : Record) (g : Option Entry) (y : Entry) → EntryAs g t → option_eq eq-value.it g (Some y) ≡ enters y.owner y.to.0 y.input t
same_as t None y e = enters_none t None e y.owner y.to.0 y.input refl
same_as t (Some x) y e =
    sym (and_assoc (eqb x.owner y.owner) (eqb x.to.0 y.to.0) (eqb x.input y.input)) ∙ enters_is t (Some x) e x refl y

module _ (s : List ℕ) (p : ℕ) (g : Option Entry) (e : EntryAs g (record_at s p)) where
  pub earlier_none : g ≡ None → p ≡ earlier_of (record_at s) p
  earlier_none h = rw (entering_none (record_at s p) g e h, keep_nothing (from 0 p))

  pub earlier_start : (x : Entry) → g ≡ Some x
      → get_or (keep (tested s (enters x.owner x.to.0 x.input)) (from 0 (p - 0))) 0 p ≡ earlier_of (record_at s) p
  earlier_start x h =
      let z = entering_is (record_at s p) g e x h in
      rw (sub-zero p, z.0, z.1, z.2, z.3)

-- An earlier record stands before.
pub earlier_most : (at : ℕ → Record) (p : ℕ) → earlier_of at p ≤ p
earlier_most at p = keep_most (λ q. entering (at p) && entering_as (at p) (at q)) 0 p p (omega arith)

-- Check 13 is whether there is an earlier record.
pub fails13_earlier : (at : ℕ → Record) (p x : ℕ) → x ≡ earlier_of at p → not (eqb x p) ≡ fails13 at p
fails13_earlier at p x e = ap (λ (y : ℕ). not (eqb y p)) e ∙ by_form (entering (at p))
  where
    by_form : (b : Bool)
        → not (eqb (get_or (keep (λ q. b && entering_as (at p) (at q)) (from 0 p)) 0 p) p) ≡ (b && any (λ q. entering_as (at p) (at q)) (from 0 p))
    by_form true = keep_any (λ q. entering_as (at p) (at q)) 0 p p (omega arith)
    by_form false = rw (keep_nothing (from 0 p), eq-eqb p p refl)
