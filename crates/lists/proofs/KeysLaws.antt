-- Laws of specs/Marks.antt: the start, one more key, one that is not picked, and what an unset mark says.
-- Assumes nothing.
use mathlib.Core.Path.{◌≡◌, refl, sym, ap, ◌∙◌}
use mathlib.Core.Bool.{Bool, true, false, false≢true}
use mathlib.Core.List.{List}
use Prim.Native.Nat.{ℕ, ◌+◌, ◌≤◌, ◌<◌}
use native.Mathlib.Decide.{dec_lt}
use native.Mathlib.Omega.{arith}
use borrow.Author.Tests.{eqb-true, eqb-false}
use lib.Dec.{eqb}
use lib.ListN.{get_or, set, replicate, length-set, length-replicate}
use lib.Seq.{get_or-set_same, get_or-set_other}
use Rattle.lists.specs.Marks.{IsMarked}

module _ (size : ℕ) (of : ℕ → Bool) (mark : ℕ → ℕ) where
  pub marks_start : (a : ℕ) → IsMarked size of mark a a (replicate size 0)
  marks_start a = record { whole = length-replicate {A = ℕ} size 0; marked = λ j l h p e. absurd (omega arith) }

  module _ (a b : ℕ) (marks : List ℕ) (so_far : IsMarked size of mark a b marks) where
    -- One that has the same mark is none of those passed.
    pub unmarked_none : (x j : ℕ) → get_or marks x 0 ≡ 0 → a ≤ j → j < b → of j ≡ true → mark j ≡ x → ⊥
    unmarked_none x j z l h p e = so_far.marked j l h p (ap (λ (k : ℕ). get_or marks k 0) e ∙ z)

    -- Setting a mark, to any number but 0, keeps those that are set.
    module _ (y : ℕ) (set_so : y ≡ 0 → ⊥) where
      set_kept : (x j : ℕ) → x < size → (get_or marks (mark j) 0 ≡ 0 → ⊥) → get_or (set marks x y) (mark j) 0 ≡ 0 → ⊥
      set_kept x j l kept = by_test (eqb x (mark j)) refl
        where
          by_test : (c : Bool) → eqb x (mark j) ≡ c → get_or (set marks x y) (mark j) 0 ≡ 0 → ⊥
          by_test true e z =
              let w : get_or (set marks x y) (mark j) 0 ≡ y =
              ap (λ (k : ℕ). get_or (set marks x y) k 0) (sym (eqb-true x (mark j) e))
              ∙ get_or-set_same marks x y 0 (omega (arith, so_far.whole, l)) in
              set_so (sym w ∙ z)
          by_test false e z =
              kept (sym (get_or-set_other marks x (mark j) y 0 (λ i. eqb-false x (mark j) e (sym i))) ∙ z)

      -- The mark that is set.
      set_here : (x j : ℕ) → x < size → x ≡ mark j → get_or (set marks x y) (mark j) 0 ≡ 0 → ⊥
      set_here x j l e z =
          let w : get_or (set marks x y) (mark j) 0 ≡ y =
          ap (λ (k : ℕ). get_or (set marks x y) k 0) (sym e) ∙ get_or-set_same marks x y 0 (omega (arith, so_far.whole, l)) in
          set_so (sym w ∙ z)

      -- The next is marked.
      pub marks_with : (x : ℕ) → x < size → x ≡ mark b → IsMarked size of mark a (b + 1) (set marks x y)
      marks_with x l e = record { whole = simp length-set so_far.whole; marked = λ j h k p. by_place j h k p (dec_lt j b) }
        where
          by_place : (j : ℕ) → a ≤ j → j < b + 1 → of j ≡ true → Dec (j < b) → get_or (set marks x y) (mark j) 0 ≡ 0 → ⊥
          by_place j h k p (yes i) = set_kept x j l (so_far.marked j h i p)
          by_place j h k p (no i) = let same : b ≡ j = omega arith in set_here x j l (e ∙ ap mark same)

    pub marks_up : (x : ℕ) → x < size → x ≡ mark b → IsMarked size of mark a (b + 1) (set marks x 1)
    marks_up = marks_with 1 (λ e. omega (arith, e))

    -- The next is not picked.
    pub marks_skip : of b ≡ false → IsMarked size of mark a (b + 1) marks
    marks_skip n = record { whole = so_far.whole; marked = λ j h k p. by_place j h k p (dec_lt j b) }
      where
        by_place : (j : ℕ) → a ≤ j → j < b + 1 → of j ≡ true → Dec (j < b) → get_or marks (mark j) 0 ≡ 0 → ⊥
        by_place j h k p (yes y) = so_far.marked j h y p
        by_place j h k p (no y) =
            let same : b ≡ j = omega arith in absurd (false≢true (sym n ∙ ap of same ∙ p))
