-- Whether two lists of words are the same: word by word, and by what was laid. Entries of one width w are laid in order; `f` gives the words of one.
-- Assumes nothing.
use mathlib.Core.Path.{◌≡◌, refl, sym, ap, ◌∙◌}
use Prim.Native.Nat.{ℕ, suc, ◌*◌, ◌≤◌}
use native.Mathlib.Omega.{arith}
use mathlib.Core.Bool.{Bool, true, false, ◌&&◌, false≢true}
use mathlib.Core.List.{List, [], ◌∷◌}
use lib.ListN.{length, take}
use lib.Seq.{length-take-le}
use lib.Dec.{eqb}
use lib.Pointwise.{pointwise}
use borrow.Author.Tests.{eqb-true}
use Rattle.lists.specs.Lists.{joined, overlay}
use Rattle.lists.proofs.TestsLaws.{and_left, and_right}
use Rattle.lists.proofs.OverlayLaws.{overlay_front, overlay_length, joined_width}
use Rattle.component.specs.declared.Record.{Record}
use Rattle.tables.specs.Tables.{Tables, wire_words}
use Rattle.laying.specs.Laid.{primitives, primitive_words, flat_wires}
use Rattle.boxes.specs.Boxes.{same, matched}

-- Lists of two lengths are not the same.
pub same_lengths : (xs ys : List ℕ) → (length xs ≡ length ys → ⊥) → false ≡ same xs ys
same_lengths [] [] h = absurd (h refl)
same_lengths [] (y ∷ ys) h = refl
same_lengths (x ∷ xs) [] h = refl
same_lengths (x ∷ xs) (y ∷ ys) h = by_test (eqb x y) (same_lengths xs ys (λ e. h (ap suc e)))
  where
    by_test : (b : Bool) → false ≡ same xs ys → false ≡ (b && same xs ys)
    by_test true e = e
    by_test false e = refl

pub same_sound : (xs ys : List ℕ) → same xs ys ≡ true → xs ≡ ys
same_sound [] [] h = refl
same_sound [] (y ∷ ys) h = absurd (false≢true h)
same_sound (x ∷ xs) [] h = absurd (false≢true h)
same_sound (x ∷ xs) (y ∷ ys) h =
    let a = eqb-true x y (and_left (eqb x y) _ h) in
    let b = same_sound xs ys (and_right (eqb x y) _ h) in
    λ j. a j ∷ b j

-- Lists of words are compared word by word.
pub same_pointwise : (xs ys : List ℕ) → pointwise eqb xs ys ≡ same xs ys
same_pointwise [] [] = refl
same_pointwise [] (y ∷ ys) = refl
same_pointwise (x ∷ xs) [] = refl
same_pointwise (x ∷ xs) (y ∷ ys) = ap (λ (b : Bool). eqb x y && b) (same_pointwise xs ys)

-- Entries laid over a table, and the first m entries of another.
module _ {A : Type 0} (f : A → List ℕ) (w : ℕ) (each : (a : A) → length (f a) ≡ w) (xs : List A) (cs : List ℕ) (k m : ℕ)
    (count : k ≡ length xs) where
  pub laid_other : ((i j : ℕ) → w * i ≡ w * j → i ≡ j) → w * m ≤ length cs → (k ≡ m → ⊥) → false ≡ same (take (w * m) cs) (joined f xs)
  laid_other inj room ne =
      same_lengths (take (w * m) cs) (joined f xs)
      (λ e. ne (count ∙ sym (inj m (length xs) (sym (length-take-le (w * m) cs room) ∙ e ∙ joined_width f w each xs))))

  module _ (t z : List ℕ) (laid : t ≡ overlay (joined f xs) z) (e : k ≡ m) where
    full : w * m ≡ length (joined f xs)
    full = ap (λ (j : ℕ). w * j) (sym e ∙ count) ∙ sym (joined_width f w each xs)

    pub laid_room : length (joined f xs) ≤ length z → w * m ≤ length t
    laid_room h = omega (arith, full, ap (λ (l : List ℕ). length l) laid, overlay_length (joined f xs) z h)

    pub laid_same : (b : Bool) → b ≡ pointwise eqb (take (w * m) cs) (take (w * m) t) → b ≡ same (take (w * m) cs) (joined f xs)
    laid_same b h =
        h ∙ same_pointwise (take (w * m) cs) (take (w * m) t) ∙ ap (λ (j : ℕ). same (take (w * m) cs) (take j t)) full
        ∙ ap (λ (l : List ℕ). same (take (w * m) cs) (take (length (joined f xs)) l)) laid
        ∙ ap (same (take (w * m) cs)) (overlay_front (joined f xs) z)

-- Components and wires of a load, and of tables.
module _ (at : ℕ → Record) (n : ℕ) (T : Tables) (b : Bool)
    (e : b ≡ same (take (8 * T.counts.components) T.components) (joined (primitive_words at n) (primitives at n))) where
  pub matched_not : b ≡ false → false ≡ matched at n T
  unfolding matched
  matched_not h = rw (← e, h)

  pub matched_by : b ≡ true → (c : Bool) → c ≡ same (take (4 * T.counts.wires) T.wires) (joined wire_words (flat_wires at n)) → c ≡ matched at n T
  unfolding matched
  matched_by h c f = rw (← e, h, ← f)
