-- Laws of the outputs at load: the starting values of the primitives, laid one behind the other.
-- Assumes nothing.
use mathlib.Core.Path.{◌≡◌, refl, sym, ap, ◌∙◌}
use mathlib.Core.Bool.{Bool, true, false, cond, ◌&&◌}
use mathlib.Core.List.{List, [], ◌∷◌}
use Prim.Native.Nat.{ℕ, ◌+◌, ◌≤◌, ◌<◌}
use native.Mathlib.Omega.{arith}
use borrow.Author.Tests.{eqb-true, eq-eqb, ne_eqb}
use lib.ListN.{length, set, replicate, length-replicate}
use lib.Seq.{sets}
use Rattle.lists.specs.Lists.{from, joined, overlay}
use Rattle.lists.proofs.MembersLaws.{joined_length}
use Rattle.lists.proofs.OverlayLaws.{total_members}
use Rattle.kinds.specs.declared.Kind.TheVariants.{Const}
use Rattle.kinds.specs.declared.table.Fields.{Fields}
use Rattle.kinds.specs.Kinds.{number_of, is, primitive, obeys}
use Rattle.primitive.specs.Evaluate.{starting}
use Rattle.kinds.proofs.ObeysLaws.{obeyed_row}
use Rattle.component.specs.declared.Record.{Record}
use Rattle.component.specs.Record.{record_at, record_count, fields_of, outputs_of, is_primitive}
use Rattle.component.specs.Drawing.{primitives_before, outputs_before}
use Rattle.flatten.specs.Verdict.{verdict}
use Rattle.flatten.proofs.Accepted.{Passed, accepted_passed}
use Rattle.flatten.proofs.Primitives.{primitives_before-sound, primitive_obeyed}
use Rattle.flatten.proofs.WireTheorems.{accepted_outputs_bound}
use Rattle.laying.specs.declared.rows.Primitive.{Primitive}
use Rattle.std.specs.Prelude.{Option, Some, None}
use Rattle.laying.specs.Laid.{primitives}
use Rattle.laying.specs.Laying.{seen_if, seen, outputs_by, starting_of, outputs_laid}
use Rattle.lists.proofs.LayingLaws.{joined_keep, Laid, laid_room, laid_step, laid_end}
use Rattle.std.specs.Prelude.{Ok}

-- Laying the outputs of one record: it has none; a Const's; any other primitive's.
pub outputs_none : (drawn : Option Primitive) → drawn ≡ None → (t : List ℕ) (k : ℕ)
    → (t ≡ sets t k (outputs_by drawn)) × (k ≡ k + length (outputs_by drawn))
outputs_none drawn e t k = rw e (refl, omega arith)

module _ (r : Primitive) (drawn : Option Primitive) (e : drawn ≡ Some r) (c : ℕ) (ec : c ≡ number_of Const)
    (t : List ℕ) (k : ℕ) where
  pub outputs_const : r.fields.kind ≡ c → outputs_by drawn ≡ r.fields.parameter ∷ []
  outputs_const h = rw (e, eq-eqb r.fields.kind 13 (h ∙ ec))

  pub outputs_zeros : (r.fields.kind ≡ c → ⊥) → outputs_by drawn ≡ replicate r.fields.outputs 0
  outputs_zeros h = rw (e, ne_eqb r.fields.kind 13 (λ z. h (z ∙ sym ec)))

  pub const_room : r.fields.kind ≡ c → k + length (outputs_by drawn) ≤ length t → k < length t
  const_room h room = omega (arith, ap (λ (l : List ℕ). length l) (outputs_const h))

  pub const_laid : r.fields.kind ≡ c
      → (set t k r.fields.parameter ≡ sets t k (outputs_by drawn)) × (k + 1 ≡ k + length (outputs_by drawn))
  const_laid h = rw (outputs_const h) (refl, refl)

  module _ (h : r.fields.kind ≡ c → ⊥) (x : ℕ) (ex : x ≡ r.fields.outputs) where
    pub zeros_count : k + x ≡ k + length (outputs_by drawn)
    zeros_count =
        omega (
          arith,
          ap (λ (l : List ℕ). length l) (outputs_zeros h),
          length-replicate {A = ℕ} r.fields.outputs 0,
        )

    pub zeros_room : k + length (outputs_by drawn) ≤ length t → k + x ≤ length t
    zeros_room room = omega (arith, zeros_count)

    pub zeros_laid : (u : List ℕ) → u ≡ sets t k (replicate x 0)
        → (u ≡ sets t k (outputs_by drawn)) × (k + x ≡ k + length (outputs_by drawn))
    zeros_laid u d =
        (d ∙ ap (λ (i : ℕ). sets t k (replicate i 0)) ex ∙ ap (sets t k) (sym (outputs_zeros h)), zeros_count)

-- A component that obeys the table of kinds has as many starting values as outputs.
pub starting_length : (f : Fields) → (primitive f && obeys f) ≡ true → length (starting f) ≡ f.outputs
starting_length f o = by_kind (is Const f) refl
  where
    by_kind : (b : Bool) → is Const f ≡ b → length (cond b (f.parameter ∷ []) (replicate f.outputs 0)) ≡ f.outputs
    by_kind true e =
        let r = obeyed_row f Const o (eqb-true f.kind (number_of Const) e) in
        omega (arith, r.outputs.least, r.outputs.most)
    by_kind false e = length-replicate f.outputs 0

-- The starting values of the primitives, record by record.
pub outputs_joined : (at : ℕ → Record) (n p : ℕ)
    → joined (starting_of at) (primitives_before at p) ≡ joined (outputs_laid at) (from 0 p)
outputs_joined at n p =
    joined_keep (λ q. is_primitive (at q)) (starting_of at) (outputs_laid at) (λ q. by_kind q (is_primitive (at q)))
    (from 0 p)
  where
    by_kind : (q : ℕ) (b : Bool) → cond b (starting_of at q) [] ≡ outputs_by (seen_if b (at q))
    by_kind q true = refl
    by_kind q false = refl

-- The starting values of the primitives of a drawing that passes every check are as many as their outputs.
pub starting_before : (at : ℕ → Record) (n : ℕ) → Passed at n → (p : ℕ)
    → length (joined (starting_of at) (primitives_before at p)) ≡ outputs_before at p
starting_before at n d p =
    joined_length (starting_of at) (primitives_before at p)
    ∙ total_members (λ q. length (starting_of at q)) (λ q. outputs_of (at q)) (primitives_before at p)
    (λ q u. starting_length (fields_of (at q)) (primitive_obeyed at n d q (primitives_before-sound at n q p u).0))

-- Laying the outputs of an accepted file, in a table t of full size.
module _ (s : List ℕ) (accepted : verdict s ≡ Ok tt) where
  module _ (t : List ℕ) (full : 1024 ≤ length t) where
    outputs_all : length (joined (outputs_laid (record_at s)) (from 0 (record_count s))) ≤ length t
    outputs_all =
        omega (
          arith,
          ap (λ (l : List ℕ). length l) (outputs_joined (record_at s) (record_count s) (record_count s)),
          starting_before (record_at s) (record_count s) (accepted_passed s accepted) (record_count s),
          accepted_outputs_bound s accepted,
        )

    module _ (p : ℕ) (u : List ℕ) (k : ℕ) (laid : Laid (outputs_laid (record_at s)) p t u k) where
      pub outputs_end_lem : p ≡ record_count s
          → u ≡ overlay (joined (starting_of (record_at s)) (primitives (record_at s) (record_count s))) t
      outputs_end_lem e =
          laid_end _ t p u k laid (record_count s) e outputs_all
          ∙ ap (λ (l : List ℕ). overlay l t) (sym (outputs_joined (record_at s) (record_count s) (record_count s)))

      module _ (drawn : Option Primitive) (ed : drawn ≡ seen (record_at s p)) where
        pub outputs_requires : p < record_count s → k + length (outputs_by drawn) ≤ length u
        outputs_requires l =
            omega (
              arith,
              laid_room _ t p u k laid (record_count s) l outputs_all,
              ap (λ (x : Option Primitive). length (outputs_by x)) ed,
            )

        pub outputs_step : (v : List ℕ) (m : ℕ) → v ≡ sets u k (outputs_by drawn) → m ≡ k + length (outputs_by drawn)
            → Laid (outputs_laid (record_at s)) (p + 1) t v m
        outputs_step v m ev em = laid_step _ t p u k laid (outputs_by drawn) v m (ap outputs_by ed) ev em
