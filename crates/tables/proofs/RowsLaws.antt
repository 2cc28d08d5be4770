-- Laws of an entry's words: stored one behind the other; those that fit the fields of a component,
-- and that a component that obeys the table of kinds has no others.
-- Assumes nothing.
use mathlib.Core.Path.{◌≡◌, refl, sym, ap, ◌∙◌}
use mathlib.Core.Bool.{Bool, true, false, ◌&&◌, true≢false}
use mathlib.Core.List.{List, [], ◌∷◌}
use Prim.Native.Nat.{ℕ, suc, ◌+◌, ◌<◌}
use native.Mathlib.Numerals.{add-one}
use native.Mathlib.Omega.{arith}
use borrow.Author.Tests.{lt-ltb, ltb-true}
use lib.ListN.{set}
use lib.Seq.{sets}
use Rattle.lists.proofs.TestsLaws.{and_left, and_right}
use Rattle.value.specs.Value.{below}
use Rattle.kinds.specs.declared.table.Fields.{Fields}
use Rattle.kinds.specs.Kinds.{kind_of, primitive, obeys}
use Rattle.kinds.proofs.ObeysLaws.{obeys_row, row_few, row_width, obeyed_kind}
use Rattle.kinds.proofs.KindsLaws.{kind_below}
use Rattle.tables.specs.Words.{fields_fit}

-- The words of an entry at k, stored by their offsets from k, the first of which is j.
abbrev pub stores : List ℕ → ℕ → ℕ → List ℕ → List ℕ
stores t k j [] = t
stores t k j (x ∷ xs) = stores (set t (k + j) x) k (suc j) xs

stores_sets : (t : List ℕ) (k j : ℕ) (xs : List ℕ) → stores t k j xs ≡ sets t (k + j) xs
stores_sets t k j [] = refl
stores_sets t k j (x ∷ xs) =
    let e : k + suc j ≡ suc (k + j) = omega arith in
    stores_sets (set t (k + j) x) k (suc j) xs ∙ ap (λ (i : ℕ). sets (set t (k + j) x) i xs) e

pub stores_entry : (t : List ℕ) (k x : ℕ) (xs : List ℕ) → stores (set t k x) k 1 xs ≡ sets t k (x ∷ xs)
stores_entry t k x xs = stores_sets (set t k x) k 1 xs ∙ ap (λ (i : ℕ). sets (set t k x) i xs) (add-one k)

-- What fields that fit have.
module _ (f : Fields) (e : fields_fit f ≡ true) where
  pub fields_fit-kind : f.kind < 256
  unfolding fields_fit
  fields_fit-kind =
      ltb-true _ _ (and_left (below f.kind 8) (below f.inputs 16)
      (and_left (below f.kind 8 && below f.inputs 16) (below f.outputs 16)
      (and_left (below f.kind 8 && below f.inputs 16 && below f.outputs 16) (below f.width 16) e)))

  pub fields_fit-inputs : f.inputs < 65536
  unfolding fields_fit
  fields_fit-inputs =
      ltb-true _ _ (and_right (below f.kind 8) (below f.inputs 16)
      (and_left (below f.kind 8 && below f.inputs 16) (below f.outputs 16)
      (and_left (below f.kind 8 && below f.inputs 16 && below f.outputs 16) (below f.width 16) e)))

  pub fields_fit-outputs : f.outputs < 65536
  unfolding fields_fit
  fields_fit-outputs =
      ltb-true _ _ (and_right (below f.kind 8 && below f.inputs 16) (below f.outputs 16)
      (and_left (below f.kind 8 && below f.inputs 16 && below f.outputs 16) (below f.width 16) e))

  pub fields_fit-width : f.width < 65536
  unfolding fields_fit
  fields_fit-width =
      ltb-true _ _ (and_right (below f.kind 8 && below f.inputs 16 && below f.outputs 16)
      (below f.width 16) e)

-- The table of kinds allows no more.
pub obeyed_fit : (f : Fields) → (primitive f && obeys f) ≡ true → fields_fit f ≡ true
unfolding fields_fit
obeyed_fit f o =
    let r = obeys_row f (and_right (primitive f) (obeys f) o) in
    let ports = row_few (kind_of f.kind) f r in
    rw (
      lt-ltb f.kind 256 (omega (arith, kind_below f.kind (obeyed_kind f o))),
      lt-ltb f.inputs 65536 (omega (arith, ports.0)),
      lt-ltb f.outputs 65536 (omega (arith, ports.1)),
      lt-ltb f.width 65536 (omega (arith, row_width (kind_of f.kind) f r)),
    )

-- Where a word does not fit, the component does not obey the table.
pub unfit_obeys : (f : Fields) → fields_fit f ≡ false → (primitive f && obeys f) ≡ false
unfit_obeys f e = by_test (primitive f && obeys f) refl
  where
    by_test : (b : Bool) → (primitive f && obeys f) ≡ b → (primitive f && obeys f) ≡ false
    by_test true o = absurd (true≢false (sym (obeyed_fit f o) ∙ e))
    by_test false o = o
