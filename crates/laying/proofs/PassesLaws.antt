-- Laws of the passes over the primitives: what a record is seen as, what stands before each primitive, and what each
-- pass lays.
-- Assumes nothing.
use mathlib.Core.Path.{◌≡◌, refl, sym, ap, ◌∙◌}
use mathlib.Core.Bool.{Bool, true, false, cond}
use mathlib.Core.List.{List, [], ◌∷◌, ◌++◌}
use Prim.Native.Nat.{ℕ, suc, ◌+◌, ◌-◌, ◌*◌, ◌≤◌, ◌<◌}
use native.Mathlib.Numerals.{add-one}
use native.Mathlib.Omega.{arith}
use lib.ListN.{length, length-append}
use lib.Seq.{sets}
use Rattle.lists.specs.Lists.{from, keep, total, joined, overlay}
use Rattle.lists.proofs.MembersLaws.{total_append}
use Rattle.lists.proofs.OverlayLaws.{joined_width}
use Rattle.kinds.specs.Kinds.{primitive}
use Rattle.component.specs.declared.Record.{Record}
use Rattle.component.specs.declared.Component.{Component}
use Rattle.component.specs.Reading.{StandsAs}
use Rattle.component.specs.Record.{record_at, record_count, inputs_of, outputs_of, is_primitive}
use Rattle.component.specs.Drawing.{primitives_before}
use Rattle.component.proofs.RecordLaws.{unseen_primitive, seen_is}
use Rattle.flatten.specs.Verdict.{verdict}
use Rattle.flatten.proofs.Primitives.{primitives_before-append, primitives_before-step, primitives_before-skip}
use Rattle.flatten.proofs.Primitives.{ports_before-step}
use Rattle.flatten.proofs.WireTheorems.{accepted_primitives_bound, accepted_inputs_bound, accepted_outputs_bound}
use Rattle.laying.specs.declared.rows.Primitive.{Primitive}
use Rattle.std.specs.Prelude.{Option, Some, None}
use Rattle.laying.specs.declared.rows.Before.{Before}
use Rattle.laying.specs.Laid.{primitives, primitive_words}
use Rattle.laying.specs.Laying.{seen_if, seen, component_by, row_by, before_by, before_at, row_at}
use Rattle.lists.proofs.LayingLaws.{joined_keep, Laid, laid_room, laid_step, laid_end}
use Rattle.tables.specs.Words.{row_place}
use Rattle.std.specs.Prelude.{Ok}

-- What a record is drawn as: no component; a primitive; a component that is none.
module _ (s : List ℕ) (p : ℕ) (g : Option Component) (e : StandsAs g (record_at s p)) where
  pub drawn_none : g ≡ None → None ≡ seen (record_at s p)
  drawn_none h = rw (sym (unseen_primitive (record_at s p) g e h))

  module _ (x : Component) (h : g ≡ Some x) (b : Bool) (k : b ≡ primitive x.fields) where
    pub drawn_primitive : b ≡ true → Some (record { id = x.id; fields = x.fields }) ≡ seen (record_at s p)
    drawn_primitive t = rw (seen_is (record_at s p) g e x h, sym k ∙ t)

    pub drawn_composite : b ≡ false → None ≡ seen (record_at s p)
    drawn_composite t = rw (seen_is (record_at s p) g e x h, sym k ∙ t)

-- What stands before the next primitive.
module _ (at : ℕ → Record) (n : ℕ) where
  pub before_at-step : (p : ℕ) → before_by (seen (at p)) (before_at at n p) ≡ before_at at n (p + 1)
  before_at-step p = by_kind (is_primitive (at p)) refl ∙ ap (before_at at n) (sym (add-one p))
    where
      by_kind : (b : Bool) → is_primitive (at p) ≡ b
          → before_by (seen_if b (at p)) (before_at at n p) ≡ before_at at n (suc p)
      by_kind true e =
          let many : length (primitives_before at p) + 1 ≡ length (primitives_before at (suc p)) =
          sym (ap (λ (l : List ℕ). length l) (primitives_before-step at n p e) ∙ length-append (primitives_before at p)
          (p ∷ [])) in
          λ j. record {
            components = many j;
            inputs = sym (ports_before-step at n inputs_of p e) j;
            outputs = sym (ports_before-step at n outputs_of p e) j;
          }
      by_kind false e =
          let same = sym (primitives_before-skip at n p e) in
          λ j. record {
            components = length (same j);
            inputs = total (λ q. inputs_of (at q)) (same j);
            outputs = total (λ q. outputs_of (at q)) (same j);
          }

  -- The words of the primitives, record by record.
  pub rows_joined : (p : ℕ) → joined (primitive_words at n) (primitives_before at p) ≡ joined (row_at at n) (from 0 p)
  rows_joined p =
      joined_keep (λ q. is_primitive (at q)) (primitive_words at n) (row_at at n) (λ q. by_kind q (is_primitive (at q)))
      (from 0 p)
    where
      by_kind : (q : ℕ) (b : Bool) → cond b (primitive_words at n q) []
          ≡ row_by (seen_if b (at q)) (before_at at n q)
      by_kind q true = refl
      by_kind q false = refl

  pub rows_length : (p : ℕ) → length (joined (row_at at n) (from 0 p)) ≡ 8 * length (primitives_before at p)
  rows_length p =
      ap (λ (l : List ℕ). length l) (sym (rows_joined p))
      ∙ joined_width (primitive_words at n) 8 (λ q. refl) (primitives_before at p)

  -- All primitives are those before p, and others.
  primitives_split : (p : ℕ) → p ≤ n
      → primitives at n ≡ primitives_before at p ++ keep (λ q. is_primitive (at q)) (from p (n - p))
  primitives_split p h =
      let e : n ≡ p + (n - p) = omega arith in
      ap (primitives_before at) e ∙ primitives_before-append at n p (n - p)

  pub primitives_before-few : (p : ℕ) → p ≤ n → length (primitives_before at p) ≤ length (primitives at n)
  primitives_before-few p h = omega (arith, simp length-append at (ap (λ (l : List ℕ). length l) (primitives_split p h)))

  pub ports_before-few : (f : Record → ℕ) (p : ℕ) → p ≤ n
      → total (λ q. f (at q)) (primitives_before at p) ≤ total (λ q. f (at q)) (primitives at n)
  ports_before-few f p h = omega (arith, simp total_append at (ap (total (λ q. f (at q))) (primitives_split p h)))

-- Laying the entry of one record.
module _ (r : Primitive) (b : Before) (drawn : Option Primitive) (e : drawn ≡ Some r) (t : List ℕ) where
  pub row_room : row_place b.components + length (row_by drawn b) ≤ length t → row_place b.components + 8 ≤ length t
  row_room h = rw e at h

  pub row_laid : (u : List ℕ) (x y : ℕ) → u ≡ sets t (row_place b.components) (component_by r.id r.fields b) → x ≡ r.fields.inputs
      → y ≡ r.fields.outputs
      → (u ≡ sets t (row_place b.components) (row_by drawn b))
      × (record { components = b.components + 1; inputs = b.inputs + x; outputs = b.outputs + y } ≡ before_by drawn b)
  row_laid u x y h i o = rw (e, i, o) (h, refl)

-- Laying the entries of the records of an accepted file, in a table t of full size.
module _ (s : List ℕ) (accepted : verdict s ≡ Ok tt) (t : List ℕ) (full : 2048 ≤ length t) where
  rows_all : length (joined (row_at (record_at s) (record_count s)) (from 0 (record_count s))) ≤ length t
  rows_all =
      omega (
        arith,
        rows_length (record_at s) (record_count s) (record_count s),
        accepted_primitives_bound s accepted,
      )

  module _ (p : ℕ) (u : List ℕ) (b : Before) (eb : b ≡ before_at (record_at s) (record_count s) p)
      (laid : Laid (row_at (record_at s) (record_count s)) p t u (row_place b.components)) where
    pub rows_end : p ≡ record_count s
        → (u ≡ overlay
        (joined (primitive_words (record_at s) (record_count s)) (primitives (record_at s) (record_count s))) t)
        × (b ≡ before_at (record_at s) (record_count s) (record_count s))
    rows_end e = (
      laid_end _ t p u _ laid (record_count s) e rows_all
          ∙ ap (λ (l : List ℕ). overlay l t) (sym (rows_joined (record_at s) (record_count s) (record_count s))),
      eb ∙ ap (before_at (record_at s) (record_count s)) e,
    )

    module _ (drawn : Option Primitive) (ed : drawn ≡ seen (record_at s p)) (l : p < record_count s) where
      row_is : row_by drawn b ≡ row_at (record_at s) (record_count s) p
      row_is = rw (ed, eb)

      pub rows_requires : (row_place b.components + length (row_by drawn b) ≤ length u) × (b.components ≤ 256)
          × (b.inputs ≤ 1024) × (b.outputs ≤ 1024)
      rows_requires =
          let h : p ≤ record_count s = omega arith in (
            omega (arith, laid_room _ t p u _ laid (record_count s) l rows_all, ap (λ (x : List ℕ). length x) row_is),
            omega (
              arith,
              ap (λ (x : Before). x.components) eb,
              primitives_before-few (record_at s) (record_count s) p h,
              accepted_primitives_bound s accepted,
            ),
            omega (
              arith,
              ap (λ (x : Before). x.inputs) eb,
              ports_before-few (record_at s) (record_count s) inputs_of p h,
              accepted_inputs_bound s accepted,
            ),
            omega (
              arith,
              ap (λ (x : Before). x.outputs) eb,
              ports_before-few (record_at s) (record_count s) outputs_of p h,
              accepted_outputs_bound s accepted,
            ),
          )

      module _ (v : List ℕ) (c : Before) (ev : v ≡ sets u (row_place b.components) (row_by drawn b))
          (ec : c ≡ before_by drawn b) where
        pub rows_before : c ≡ before_at (record_at s) (record_count s) (p + 1)
        rows_before = ec ∙ (λ j. before_by (ed j) (eb j)) ∙ before_at-step (record_at s) (record_count s) p

        pub rows_step : Laid (row_at (record_at s) (record_count s)) (p + 1) t v (row_place c.components)
        rows_step =
            laid_step _ t p u _ laid (row_by drawn b) v (row_place c.components) row_is ev
            (omega (arith, by_drawn drawn, ap (λ (x : Before). x.components) ec))
          where
            by_drawn : (x : Option Primitive) → row_place (before_by x b).components ≡ row_place b.components + length (row_by x b)
            by_drawn (Some r) = omega arith
            by_drawn None = omega arith
