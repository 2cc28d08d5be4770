-- The primitives of a drawing in file order: their flat indexes, how many there are, and their inputs and outputs
-- together. docs/SPECIFICATION.md, "Flattening" and checks 6, 9, 10 and 11.
-- First laws of any drawing, then what the checks add.
-- Assumes nothing.
use mathlib.Core.Path.{◌≡◌, refl, sym, ap, ◌∙◌}
use mathlib.Core.Bool.{Bool, true, false, cond, not, ◌&&◌, ◌||◌}
use mathlib.Core.List.{List, [], ◌∷◌, ◌++◌, map, append-nil}
use Prim.Native.Nat.{ℕ, zero, suc, ◌+◌, ◌-◌, ◌≤◌, ◌<◌}
use native.Mathlib.Omega.{arith}
use borrow.Author.Tests.{eqb-false, eq-eqb, ltb-false, not-false}
use lib.ListN.{length, get_or, length-append}
use lib.Seq.{get_or-append_seam}
use lib.Dec.{ltb}
use Rattle.lists.specs.Lists.{from, keep, any, total}
use Rattle.lists.proofs.MembersLaws.{In, Distinct, any_none, keep_sound, keep_complete}
use Rattle.lists.proofs.TestsLaws.{and_right_false, or_left, or_right}
use Rattle.lists.proofs.MembersLaws.{total_append, in-get_or, from0_sound, from0_complete, from_append}
use Rattle.lists.proofs.ListsLaws.{keep_append}
use Rattle.lists.proofs.MembersLaws.{from_last, from_length, distinct_place, distinct_keep, distinct_from, distinct_map}
use Rattle.lists.proofs.MembersLaws.{distinct_bound}
use Rattle.kinds.specs.Kinds.{primitive, obeys}
use Rattle.component.specs.declared.Record.{Record}
use Rattle.component.specs.Record.{fields_of, inputs_of, outputs_of, is_primitive}
use Rattle.component.specs.Reading.{has_id}
use Rattle.component.specs.Reading.{id_of, form_of}
use Rattle.component.specs.Drawing.{primitives_before, inputs_before, outputs_before}
use Rattle.flatten.specs.Descent.{flat}
use Rattle.flatten.proofs.Accepted.{Passed}
use Rattle.flatten.proofs.Components.{primitive_component, component_below, component_number}

module _ (at : ℕ → Record) (n : ℕ) where
  -- The primitives before a position, one position on.
  primitives_before-on : (p : ℕ)
      → primitives_before at (suc p) ≡ primitives_before at p ++ cond (is_primitive (at p)) (p ∷ []) []
  primitives_before-on p =
      ap (keep (λ q. is_primitive (at q))) (from_last p) ∙ keep_append (λ q. is_primitive (at q)) (from 0 p) (p ∷ [])

  pub primitives_before-step : (p : ℕ) → is_primitive (at p) ≡ true
      → primitives_before at (suc p) ≡ primitives_before at p ++ (p ∷ [])
  primitives_before-step p e = primitives_before-on p ∙ rw e

  pub primitives_before-skip : (p : ℕ) → is_primitive (at p) ≡ false
      → primitives_before at (suc p) ≡ primitives_before at p
  primitives_before-skip p e = primitives_before-on p ∙ rw (e, append-nil)

  -- The primitives before a position are the first of those before a later one.
  pub primitives_before-append : (c k : ℕ)
      → primitives_before at (c + k) ≡ primitives_before at c ++ keep (λ q. is_primitive (at q)) (from c k)
  primitives_before-append c k =
      let b : 0 + c ≡ c = omega arith in
      ap (keep (λ q. is_primitive (at q))) (from_append 0 c k)
      ∙ keep_append (λ q. is_primitive (at q)) (from 0 c) (from (0 + c) k)
      ∙ ap (λ (x : ℕ). primitives_before at c ++ keep (λ q. is_primitive (at q)) (from x k)) b

  -- A primitive stands among all primitives behind those before it.
  pub primitives_before-split : (c m : ℕ) → is_primitive (at c) ≡ true → c < m
      → primitives_before at m
      ≡ primitives_before at c ++ (c ∷ keep (λ q. is_primitive (at q)) (from (suc c) (m - suc c)))
  primitives_before-split c m e h =
      let a : m ≡ c + suc (m - suc c) = omega arith in
      ap (primitives_before at) a ∙ primitives_before-append c (suc (m - suc c)) ∙ rw e

  -- A component is among the primitives before p exactly where it is one and stands before p.
  pub primitives_before-sound : (c p : ℕ) → In c (primitives_before at p) → (is_primitive (at c) ≡ true) × (c < p)
  primitives_before-sound c p h =
      let r = keep_sound (λ q. is_primitive (at q)) c (from 0 p) h in
      (r.0, from0_sound p c r.1)

  pub primitives_before-complete : (c p : ℕ) → is_primitive (at c) ≡ true → c < p → In c (primitives_before at p)
  primitives_before-complete c p e h =
      keep_complete (λ q. is_primitive (at q)) c (from 0 p) e (from0_complete p c h)

  pub primitives_before-distinct : (p : ℕ) → Distinct (primitives_before at p)
  primitives_before-distinct p = distinct_keep (λ q. is_primitive (at q)) (from 0 p) (distinct_from 0 p)

  -- Flat indexes rise along the file: a later primitive has a greater one.
  pub flat_less : (b c : ℕ) → is_primitive (at b) ≡ true → b < c → flat at n b < flat at n c
  flat_less b c e h =
      omega (arith, simp length-append at (ap length (primitives_before-split b c e h)))

  -- Two primitives of one flat index are one.
  pub flat_inj : (b c : ℕ) → is_primitive (at b) ≡ true → is_primitive (at c) ≡ true → flat at n b ≡ flat at n c → b ≡ c
  flat_inj b c e f s =
      let below : b < c → ⊥ = λ u. omega (arith, flat_less b c e u) in
      let above : c < b → ⊥ = λ u. omega (arith, flat_less c b f u) in
      omega arith

  -- The primitive at a flat index is the one that has it.
  pub flat_place : (c m z : ℕ) → is_primitive (at c) ≡ true → c < m → get_or (primitives_before at m) (flat at n c) z ≡ c
  flat_place c m z e h =
      ap (λ (l : List ℕ). get_or l (flat at n c) z) (primitives_before-split c m e h)
      ∙ get_or-append_seam (primitives_before at c) c _ z

  -- Every index below the number of primitives is the flat index of one.
  pub flat_onto : (k m z : ℕ) → k < flat at n m
      → (is_primitive (at (get_or (primitives_before at m) k z)) ≡ true) × (get_or (primitives_before at m) k z < m)
      × (flat at n (get_or (primitives_before at m) k z) ≡ k)
  flat_onto k m z h =
      let c = get_or (primitives_before at m) k z in
      let r = primitives_before-sound c m (in-get_or (primitives_before at m) k z h) in (
        r.0,
        r.1,
        distinct_place (primitives_before at m) (flat at n c) k z (primitives_before-distinct m)
            (flat_less c m r.0 r.1) h (flat_place c m z r.0 r.1),
      )

  -- Ports, f being `inputs_of` or `outputs_of`: those of a primitive follow those of the primitives before it,
  pub ports_before-step : (f : Record → ℕ) (c : ℕ) → is_primitive (at c) ≡ true
      → total (λ q. f (at q)) (primitives_before at (suc c))
      ≡ total (λ q. f (at q)) (primitives_before at c) + f (at c)
  ports_before-step f c e =
      omega (arith, simp total_append at (ap (total (λ q. f (at q))) (primitives_before-step c e)))

  -- and end within those of all.
  pub ports_before-within : (f : Record → ℕ) (c m : ℕ) → is_primitive (at c) ≡ true → c < m
      → total (λ q. f (at q)) (primitives_before at c) + f (at c) ≤ total (λ q. f (at q)) (primitives_before at m)
  ports_before-within f c m e h =
      omega (arith, simp total_append at (ap (total (λ q. f (at q))) (primitives_before-split c m e h)))

module _ (at : ℕ → Record) (n : ℕ) (d : Passed at n) where
  -- A primitive stands in the file.
  pub primitive_below : (c : ℕ) → is_primitive (at c) ≡ true → c < n
  primitive_below c e = component_below at n d c (primitive_component (at c) e)

  -- The flat index of a primitive is below the number of primitives.
  pub flat_below : (c : ℕ) → is_primitive (at c) ≡ true → flat at n c < flat at n n
  flat_below c e = flat_less at n c n e (primitive_below c e)

  -- There are at most 256 primitives (check 6).
  pub primitives_bound : length (primitives_before at n) ≤ 256
  primitives_bound =
      let r = distinct_bound (primitives_before at n) (from 0 256) (primitives_before-distinct at n n)
      (λ c h. from0_complete 256 c
      (component_number at n d c (primitive_component (at c) (primitives_before-sound at n c n h).0))) in
      omega (arith, from_length 0 256)

  -- A sum over the primitives before a position is at most 1,024, if it is so after each component.
  ports_bound : (f : Record → ℕ)
      → ((p : ℕ) → p < n → form_of (at p) ≡ 1 → total (λ q. f (at q)) (primitives_before at (suc p)) ≤ 1024)
      → (p : ℕ) → p ≤ n → total (λ q. f (at q)) (primitives_before at p) ≤ 1024
  ports_bound f checked zero h = omega arith
  ports_bound f checked (suc p) h = by_kind (is_primitive (at p)) refl (ports_bound f checked p (omega arith))
    where
      by_kind : (b : Bool) → is_primitive (at p) ≡ b → total (λ q. f (at q)) (primitives_before at p) ≤ 1024
          → total (λ q. f (at q)) (primitives_before at (suc p)) ≤ 1024
      by_kind true e before = checked p h (primitive_component (at p) e)
      by_kind false e before = omega (arith, ap (total (λ q. f (at q))) (primitives_before-skip at n p e))

  ports_checked : (p : ℕ) → p < n → form_of (at p) ≡ 1
      → (inputs_before at (suc p) ≤ 1024) × (outputs_before at (suc p) ≤ 1024)
  ports_checked p h e =
      let inputs = ltb 1024 (inputs_before at (suc p)) in
      let outputs = ltb 1024 (outputs_before at (suc p)) in
      let eleven : (inputs || outputs) ≡ false = rw e at (d.passes 11 refl p h) in
      (ltb-false 1024 _ (or_left inputs outputs eleven), ltb-false 1024 _ (or_right inputs outputs eleven))

  -- All primitives together have at most 1,024 inputs and at most 1,024 outputs (check 11).
  pub inputs_bound : inputs_before at n ≤ 1024
  inputs_bound = ports_bound inputs_of (λ p h e. (ports_checked p h e).0) n (omega arith)

  pub outputs_bound : outputs_before at n ≤ 1024
  outputs_bound = ports_bound outputs_of (λ p h e. (ports_checked p h e).1) n (omega arith)

  -- Each component obeys the table of kinds, and is of a kind that there is (check 9).
  pub component_obeys : (c : ℕ) → form_of (at c) ≡ 1 → obeys (fields_of (at c)) ≡ true
  component_obeys c e =
      let nine : not (obeys (fields_of (at c))) ≡ false = and_right_false _ _ (d.passes 9 refl c (component_below at n d c e)) (eq-eqb (form_of (at c)) 1 e) in
      not-false _ nine

  pub primitive_obeys : (c : ℕ) → is_primitive (at c) ≡ true → obeys (fields_of (at c)) ≡ true
  primitive_obeys c e = component_obeys c (primitive_component (at c) e)

  -- The same, as an evaluation asks it.
  pub primitive_obeyed : (c : ℕ) → is_primitive (at c) ≡ true
      → (primitive (fields_of (at c)) && obeys (fields_of (at c))) ≡ true
  primitive_obeyed c e = rw e (primitive_obeys c e)

  id_earlier : (b c : ℕ) → b < c → form_of (at b) ≡ 1 → form_of (at c) ≡ 1 → id_of (at b) ≡ id_of (at c) → ⊥
  id_earlier b c h f e s =
      let ten : any (λ q. has_id (id_of (at c)) (at q)) (from 0 c) ≡ false =
      rw e at (d.passes 10 refl c (component_below at n d c e)) in
      eqb-false (id_of (at b)) (id_of (at c))
      (rw f at (any_none (λ q. has_id (id_of (at c)) (at q)) b (from 0 c) ten (from0_complete c b h))) s

  -- Two components of one id are one (check 10).
  pub id_inj : (b c : ℕ) → form_of (at b) ≡ 1 → form_of (at c) ≡ 1 → id_of (at b) ≡ id_of (at c) → b ≡ c
  id_inj b c e f s =
      let below : b < c → ⊥ = λ u. id_earlier b c u e f s in
      let above : c < b → ⊥ = λ u. id_earlier c b u f e (sym s) in
      omega arith

  -- The ids of the primitives have no repeats.
  pub ids_distinct_lem : Distinct (map (λ c. id_of (at c)) (primitives_before at n))
  ids_distinct_lem =
      distinct_map (λ c. id_of (at c)) (primitives_before at n)
      (λ b c u v s. id_inj b c (primitive_component (at b) (primitives_before-sound at n b n u).0)
      (primitive_component (at c) (primitives_before-sound at n c n v).0) s)
      (primitives_before-distinct at n n)
