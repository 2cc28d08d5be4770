-- Laws of the checks that go over all records at once (src/passes.rt): the first record that fails; an id or an input whose mark is not set
-- is none of those before; the ports so far.
-- Assumes nothing.
use mathlib.Core.Path.{◌≡◌, refl, sym, ap, ◌∙◌}
use mathlib.Core.Bool.{Bool, true, false, cond, not, ◌&&◌, ◌||◌, and-false, false≢true}
use mathlib.Core.Logic.{◌⊎◌, inl, inr}
use mathlib.Core.List.{List, [], ◌∷◌}
use Prim.Native.Nat.{ℕ, zero, suc, ◌+◌, ◌/◌, ◌≤◌, ◌<◌}
use native.Mathlib.Numerals.{add-one}
use native.Mathlib.Decide.{dec_lt}
use native.Mathlib.Omega.{arith}
use borrow.Author.Tests.{eqb-true, eq-eqb, ne_eqb, le-ltb}
use lib.Dec.{eqb, ltb}
use lib.ListN.{length, get_or, set}
use Rattle.lists.specs.Lists.{from, keep, any, total}
use Rattle.lists.specs.Marks.{IsMarked}
use Rattle.lists.proofs.ListsLaws.{keep_append}
use Rattle.lists.proofs.MembersLaws.{total_append, from_last}
use Rattle.lists.proofs.TestsLaws.{and_left, and_right}
use Rattle.lists.proofs.KeysLaws.{unmarked_none, marks_up, marks_skip}
use Rattle.kinds.specs.Marks.{mark_of}
use Rattle.component.specs.declared.Record.{Record}
use Rattle.component.specs.declared.Component.{Component as Seen}
use Rattle.checks.specs.declared.Entry.{Entry}
use Rattle.std.specs.Prelude.{Option, Some, None}
use Rattle.kinds.specs.Kinds.{primitive}
use Rattle.component.specs.Record.{record_at, fields_of, to_of, input_of, inputs_of, outputs_of, is_primitive, entering, entering_as}
use Rattle.component.specs.Reading.{id_of, owner_of, form_of, no_fields, has_id, StandsAs}
use Rattle.component.specs.Drawing.{is_component, earlier_of, inputs_before, outputs_before, fails10, fails11, fails13}
use Rattle.component.proofs.RecordLaws.{unseen_test, seen_is, fields_cases}
use Rattle.checks.specs.Checks.{IsFirst, is_entry, id_mark, place_mark, entry_mark, EntryAs}
use Rattle.checks.proofs.ChecksLaws.{fails_other, fails10_component, fails13_earlier, entering_none, entering_is}

-- No position before q fails.
abbrev pub NoneBefore : (ℕ → Bool) → ℕ → Type 0
NoneBefore f q = (j : ℕ) → j < q → f j ≡ false

-- The search for the first that fails: its start; the next; this one; none.
module _ (f : ℕ → Bool) where
  pub none_start : NoneBefore f 0
  none_start j h = absurd (omega arith)

  module _ (q n : ℕ) (none : NoneBefore f q) where
    pub none_next : (b : Bool) → b ≡ f q → b ≡ false → NoneBefore f (q + 1)
    none_next b e z j h = by_place (dec_lt j q)
      where
        by_place : Dec (j < q) → f j ≡ false
        by_place (yes l) = none j l
        by_place (no l) = let same : j ≡ q = omega arith in ap f same ∙ sym e ∙ z

    pub first_this : (b : Bool) → b ≡ f q → b ≡ true → q < n → IsFirst f n q
    first_this b e z l = record { within = omega arith; before = none; here = λ k. sym e ∙ z }

    pub first_none : n ≤ q → q ≤ n → IsFirst f n q
    first_none l k = record { within = k; before = none; here = λ h. absurd (omega arith) }

any_false : (f : ℕ → Bool) (q k : ℕ) → ((j : ℕ) → q ≤ j → j < q + k → f j ≡ false) → any f (from q k) ≡ false
any_false f q zero h = refl
any_false f q (suc k) h = rw (h q (omega arith) (omega arith)) (any_false f (suc q) k (λ j a b. h j (omega arith) (omega arith)))

-- 10, where the ids before are marked: no component; an id that was searched for and found; one that is new.
module _ (s marks : List ℕ) (p : ℕ) (m : IsMarked 4096 (is_component (record_at s)) (id_mark (record_at s)) 0 p marks)
    (g : Option Seen) (e : StandsAs g (record_at s p)) where
  abbrev IdsTo : List ℕ → Type 0
  IdsTo u = IsMarked 4096 (is_component (record_at s)) (id_mark (record_at s)) 0 (p + 1) u

  pub id_other : g ≡ None → (false ≡ fails10 (record_at s) p) × (false ≡ false → IdsTo marks)
  id_other h = (
    fails_other s p g e h _,
    λ z. marks_skip 4096 (is_component (record_at s)) (id_mark (record_at s)) 0 p marks m (unseen_test (record_at s p) g e h),
  )

  module _ (v : Seen) (h : g ≡ Some v) where
    id_is : id_of (record_at s p) ≡ v.id.0
    id_is = rw (seen_is (record_at s p) g e v h)

    pub id_found : (b : Bool) (u : List ℕ) → b ≡ any (λ q. has_id v.id.0 (record_at s q)) (from 0 p) → b ≡ true
        → (true ≡ fails10 (record_at s) p) × (true ≡ false → IdsTo u)
    id_found b u d k = (sym k ∙ fails10_component s p g e v h b d, λ z. absurd (false≢true (sym z)))

    id_unmarked : (x : ℕ) → x ≡ mark_of v.id.0 → get_or marks x 0 ≡ 0 → false ≡ any (λ q. has_id v.id.0 (record_at s q)) (from 0 p)
    id_unmarked x k z = sym (any_false (λ q. has_id v.id.0 (record_at s q)) 0 p (λ j a b. other j (omega arith) (has_id v.id.0 (record_at s j)) refl))
      where
        other : (j : ℕ) → j < p → (b : Bool) → has_id v.id.0 (record_at s j) ≡ b → has_id v.id.0 (record_at s j) ≡ false
        other j l false y = y
        other j l true y =
            let c = and_left (eqb (form_of (record_at s j)) 1) (eqb (id_of (record_at s j)) v.id.0) y in
            let w = eqb-true (id_of (record_at s j)) v.id.0 (and_right (eqb (form_of (record_at s j)) 1) (eqb (id_of (record_at s j)) v.id.0) y) in
            absurd (unmarked_none 4096 (is_component (record_at s)) (id_mark (record_at s)) 0 p marks m x j z (omega arith) l c (ap mark_of w ∙ sym k))

    pub id_new : (x : ℕ) → x ≡ mark_of v.id.0 → x < 4096
        → (get_or marks x 0 ≡ 0) ⊎ (false ≡ any (λ q. has_id v.id.0 (record_at s q)) (from 0 p))
        → (false ≡ fails10 (record_at s) p) × (false ≡ false → IdsTo (set marks x 1))
    id_new x k l w = (
      fails10_component s p g e v h false (by_way w),
      λ z. marks_up 4096 (is_component (record_at s)) (id_mark (record_at s)) 0 p marks m x l (k ∙ ap mark_of (sym id_is)),
    )
      where
        by_way : (get_or marks x 0 ≡ 0) ⊎ (false ≡ any (λ q. has_id v.id.0 (record_at s q)) (from 0 p))
            → false ≡ any (λ q. has_id v.id.0 (record_at s q)) (from 0 p)
        by_way (inl z) = id_unmarked x k z
        by_way (inr z) = z

-- 13, where what the records before enter is marked: it enters nothing; an input that was searched for and found; one that is new.
module _ (s marks : List ℕ) (p : ℕ)
    (m : IsMarked 16384 (is_entry (record_at s)) (entry_mark (record_at s) (length s / 24)) 0 p marks)
    (g : Option Entry) (e : EntryAs g (record_at s p)) where
  abbrev EntriesTo : List ℕ → Type 0
  EntriesTo u = IsMarked 16384 (is_entry (record_at s)) (entry_mark (record_at s) (length s / 24)) 0 (p + 1) u

  pub entry_other : g ≡ None → (false ≡ fails13 (record_at s) p) × (false ≡ false → EntriesTo marks)
  entry_other h =
      let z = entering_none (record_at s p) g e h in (
        sym (ap (λ (b : Bool). b && any (λ q. entering_as (record_at s p) (record_at s q)) (from 0 p)) z),
        λ y. marks_skip 16384 (is_entry (record_at s)) (entry_mark (record_at s) (length s / 24)) 0 p marks m z,
      )

  pub entry_found : (x : ℕ) (u : List ℕ) → x ≡ earlier_of (record_at s) p → (x ≡ p → ⊥)
      → (true ≡ fails13 (record_at s) p) × (true ≡ false → EntriesTo u)
  entry_found x u d k =
      (sym (ap not (ne_eqb x p k)) ∙ fails13_earlier (record_at s) p x d, λ z. absurd (false≢true (sym z)))

  module _ (r : Entry) (h : g ≡ Some r) where
    mark_is : entry_mark (record_at s) (length s / 24) p ≡ place_mark (record_at s) (length s / 24) r.owner r.to.0 r.input
    mark_is =
        let z = entering_is (record_at s p) g e r h in
        ap (λ (x : ℕ). place_mark (record_at s) (length s / 24) x (to_of (record_at s p)) (input_of (record_at s p))) z.1
        ∙ ap (λ (x : ℕ). place_mark (record_at s) (length s / 24) r.owner x (input_of (record_at s p))) z.2
        ∙ ap (place_mark (record_at s) (length s / 24) r.owner r.to.0) z.3

    entry_unmarked : (x : ℕ) → x ≡ place_mark (record_at s) (length s / 24) r.owner r.to.0 r.input → get_or marks x 0 ≡ 0 → false ≡ fails13 (record_at s) p
    entry_unmarked x k z =
        sym (ap (λ (b : Bool). b && any (λ q. entering_as (record_at s p) (record_at s q)) (from 0 p)) (entering_is (record_at s p) g e r h).0
        ∙ any_false (λ q. entering_as (record_at s p) (record_at s q)) 0 p
        (λ j a b. other j (omega arith) (entering_as (record_at s p) (record_at s j)) refl))
      where
        same : (a b : Record) → entering_as b a ≡ true → (entering a ≡ true) × (owner_of a ≡ owner_of b) × (to_of a ≡ to_of b) × (input_of a ≡ input_of b)
        same a b y =
            let E = entering a in
            let O = eqb (owner_of a) (owner_of b) in
            let T = eqb (to_of a) (to_of b) in
            let I = eqb (input_of a) (input_of b) in
            let three = and_left (E && O && T) I y in
            let two = and_left (E && O) T three in (
              and_left E O two,
              eqb-true (owner_of a) (owner_of b) (and_right E O two),
              eqb-true (to_of a) (to_of b) (and_right (E && O) T three),
              eqb-true (input_of a) (input_of b) (and_right (E && O && T) I y),
            )

        other : (j : ℕ) → j < p → (b : Bool) → entering_as (record_at s p) (record_at s j) ≡ b → entering_as (record_at s p) (record_at s j) ≡ false
        other j l false y = y
        other j l true y =
            let w = same (record_at s j) (record_at s p) y in
            let v : entry_mark (record_at s) (length s / 24) j ≡ entry_mark (record_at s) (length s / 24) p =
            ap (λ (t : ℕ). place_mark (record_at s) (length s / 24) t (to_of (record_at s j)) (input_of (record_at s j))) w.1
            ∙ ap (λ (t : ℕ). place_mark (record_at s) (length s / 24) (owner_of (record_at s p)) t (input_of (record_at s j))) w.2
            ∙ ap (place_mark (record_at s) (length s / 24) (owner_of (record_at s p)) (to_of (record_at s p))) w.3 in
            absurd (unmarked_none 16384 (is_entry (record_at s)) (entry_mark (record_at s) (length s / 24)) 0 p marks m x j z (omega arith) l w.0
            (v ∙ mark_is ∙ sym k))

    pub entry_new : (x : ℕ) → x ≡ place_mark (record_at s) (length s / 24) r.owner r.to.0 r.input → x < 16384
        → (get_or marks x 0 ≡ 0) ⊎ (p ≡ earlier_of (record_at s) p) → (false ≡ fails13 (record_at s) p) × (false ≡ false → EntriesTo (set marks x 1))
    entry_new x k l w = (
      by_way w,
      λ z. marks_up 16384 (is_entry (record_at s)) (entry_mark (record_at s) (length s / 24)) 0 p marks m x l (k ∙ sym mark_is),
    )
      where
        by_way : (get_or marks x 0 ≡ 0) ⊎ (p ≡ earlier_of (record_at s) p) → false ≡ fails13 (record_at s) p
        by_way (inl z) = entry_unmarked x k z
        by_way (inr z) = sym (ap not (eq-eqb p p refl)) ∙ fails13_earlier (record_at s) p p z

-- 11: the ports of the primitives before p, and one more.
module _ (s : List ℕ) (F : Record → ℕ) (p : ℕ) where
  abbrev sum_to : ℕ → ℕ
  sum_to q = total (λ j. F (record_at s j)) (keep (λ j. is_primitive (record_at s j)) (from 0 q))

  sum_last : sum_to (p + 1) ≡ sum_to p + total (λ j. F (record_at s j)) (keep (λ j. is_primitive (record_at s j)) (p ∷ []))
  sum_last =
      ap sum_to (add-one p)
      ∙ ap (λ (l : List ℕ). total (λ j. F (record_at s j)) (keep (λ j. is_primitive (record_at s j)) l)) (from_last p)
      ∙ ap (total (λ j. F (record_at s j))) (keep_append (λ j. is_primitive (record_at s j)) (from 0 p) (p ∷ []))
      ∙ total_append (λ j. F (record_at s j)) (keep (λ j. is_primitive (record_at s j)) (from 0 p)) (keep (λ j. is_primitive (record_at s j)) (p ∷ []))

  pub sum_next : (m a : ℕ) → m ≡ sum_to p → a ≡ cond (is_primitive (record_at s p)) (F (record_at s p)) 0 → m + a ≡ sum_to (p + 1)
  sum_next m a e d =
      let z : total (λ j. F (record_at s j)) (keep (λ j. is_primitive (record_at s j)) (p ∷ [])) ≡ a = by_test (is_primitive (record_at s p)) ∙ sym d in
      omega (arith, sum_last, z, e)
    where
      by_test : (b : Bool) → total (λ j. F (record_at s j)) (cond b (p ∷ []) []) ≡ cond b (F (record_at s p)) 0
      by_test true = omega arith
      by_test false = refl

-- A primitive is a component.
primitive_form : (r : Record) → is_primitive r ≡ true → eqb (form_of r) 1 ≡ true
primitive_form r h = by_kind (fields_cases r)
  where
    by_kind : (form_of r ≡ 1) ⊎ (fields_of r ≡ no_fields) → eqb (form_of r) 1 ≡ true
    by_kind (inl z) = eq-eqb (form_of r) 1 z
    by_kind (inr z) = absurd (false≢true (ap primitive (sym z) ∙ h))

-- The test of 11, where the sums before p are not too many.
module _ (s : List ℕ) (p i o a b : ℕ) (ei : i ≡ inputs_before (record_at s) p) (eo : o ≡ outputs_before (record_at s) p) (li : i ≤ 1024) (lo : o ≤ 1024)
    (ea : a ≡ cond (is_primitive (record_at s p)) (inputs_of (record_at s p)) 0)
    (eb : b ≡ cond (is_primitive (record_at s p)) (outputs_of (record_at s p)) 0) where
  pub overfull : (ltb 1024 (i + a) || ltb 1024 (o + b)) ≡ fails11 (record_at s) p
  overfull = by_test (is_primitive (record_at s p)) refl ea eb
    where
      sums : (ltb 1024 (i + a) || ltb 1024 (o + b)) ≡ (ltb 1024 (inputs_before (record_at s) (suc p)) || ltb 1024 (outputs_before (record_at s) (suc p)))
      sums = rw (sum_next s inputs_of p i a ei ea, sum_next s outputs_of p o b eo eb, add-one p)

      by_test : (c : Bool) → is_primitive (record_at s p) ≡ c → a ≡ cond c (inputs_of (record_at s p)) 0 → b ≡ cond c (outputs_of (record_at s p)) 0
          → (ltb 1024 (i + a) || ltb 1024 (o + b)) ≡ fails11 (record_at s) p
      by_test true t x y = sums ∙ sym (ap (λ (c : Bool). c && (ltb 1024 (inputs_before (record_at s) (suc p))
          || ltb 1024 (outputs_before (record_at s) (suc p)))) (primitive_form (record_at s p) t))
      by_test false t x y =
          let z : (ltb 1024 (i + a) || ltb 1024 (o + b)) ≡ false = rw (le-ltb 1024 (i + a) (omega arith), le-ltb 1024 (o + b) (omega arith)) in
          z ∙ sym (ap (λ (c : Bool). is_component (record_at s) p && c) (sym sums ∙ z) ∙ and-false (is_component (record_at s) p))
