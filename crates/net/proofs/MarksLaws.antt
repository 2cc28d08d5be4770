-- Marks: a table in which the numbers passed are marked says whether a number stands again.
--   fresh seen xs        none of xs is marked in seen, and none stands twice
--   naming n seen xs     besides, each of xs is below n
-- Assumes nothing.
use mathlib.Core.Path.{◌≡◌, refl, sym, ap, ◌∙◌}
use mathlib.Core.Bool.{Bool, true, false, not, ◌&&◌, ◌||◌, and-true, and-false}
use mathlib.Core.List.{List, [], ◌∷◌, map}
use Prim.Native.Nat.{ℕ, suc, ◌+◌, ◌-◌, ◌≤◌, ◌<◌}
use native.Mathlib.Numerals.{add-one}
use borrow.Author.Tests.{ne_eqb, eqb-true, eqb-false, lt-ltb, le-ltb}
use lib.ListN.{length, get_or, set, replicate}
use lib.Seq.{slice, slice-cons, slice_empty, get_or-set_same, get_or-set_other}
use lib.Dec.{eqb, ltb}
use Rattle.lists.proofs.ListsLaws.{replicate_zero}
use Rattle.lists.specs.Lists.{from, every, has, distinct}
use Rattle.lists.proofs.ListsLaws.{from_step, from_end}

-- x is not marked.
abbrev pub unmarked : List ℕ → ℕ → Bool
unmarked seen x = eqb (get_or seen x 0) 0

abbrev pub fresh : List ℕ → List ℕ → Bool
fresh seen xs = every (unmarked seen) xs && distinct xs

-- Where nothing is marked.
replicate_every : (n : ℕ) (xs : List ℕ) → every (unmarked (replicate n 0)) xs ≡ true
replicate_every n [] = refl
replicate_every n (x ∷ xs) = rw (replicate_zero n x) (replicate_every n xs)

pub fresh_start : (n : ℕ) (xs : List ℕ) → fresh (replicate n 0) xs ≡ distinct xs
fresh_start n xs = ap (λ (b : Bool). b && distinct xs) (replicate_every n xs)

-- A number that is marked.
pub fresh_again : (seen : List ℕ) (x : ℕ) (xs : List ℕ) → (get_or seen x 0 ≡ 0 → ⊥) → fresh seen (x ∷ xs) ≡ false
fresh_again seen x xs h = rw (ne_eqb (get_or seen x 0) 0 h)

-- With one mark more, the others are unmarked exactly if they were and are another number.
pub mark_one : (seen : List ℕ) (x : ℕ) → x < length seen → (y : ℕ) → unmarked (set seen x 1) y
    ≡ (unmarked seen y && not (eqb x y))
mark_one seen x h y = by_test (eqb x y) refl
  where
    by_test : (b : Bool) → eqb x y ≡ b → unmarked (set seen x 1) y ≡ (unmarked seen y && not (eqb x y))
    by_test true e =
        let z : get_or (set seen x 1) y 0 ≡ 1 =
        ap (λ (k : ℕ). get_or (set seen x 1) k 0) (sym (eqb-true x y e)) ∙ get_or-set_same seen x 1 0 h in
        rw (e, z) (sym (and-false (unmarked seen y)))
    by_test false e =
        let z : get_or (set seen x 1) y 0 ≡ get_or seen y 0 = get_or-set_other seen x y 1 0 (λ q. eqb-false x y e (sym q)) in
        rw (e, z) (sym (and-true (unmarked seen y)))

mark_every : (seen : List ℕ) (x : ℕ) → x < length seen → (xs : List ℕ)
    → every (unmarked (set seen x 1)) xs ≡ (every (unmarked seen) xs && not (has x xs))
mark_every seen x h [] = refl
mark_every seen x h (y ∷ ys) =
    rw (mark_one seen x h y, mark_every seen x h ys)
    (shuffled (unmarked seen y) (eqb x y) (every (unmarked seen) ys) (has x ys))
  where
    shuffled : (a b c d : Bool) → ((a && not b) && (c && not d)) ≡ ((a && c) && not (b || d))
    shuffled true true c d = sym (and-false c)
    shuffled true false c d = refl
    shuffled false b c d = refl

-- A number that is not: it is marked, and the rest is as fresh as before.
pub fresh_step : (seen : List ℕ) (x : ℕ) (xs : List ℕ) → x < length seen → get_or seen x 0 ≡ 0
    → fresh seen (x ∷ xs) ≡ fresh (set seen x 1) xs
fresh_step seen x xs h e =
    rw (mark_every seen x h xs, e) (grouped (every (unmarked seen) xs) (not (has x xs)) (distinct xs))
  where
    grouped : (a b c : Bool) → (a && (b && c)) ≡ ((a && b) && c)
    grouped true b c = refl
    grouped false b c = refl

-- A loop over the numbers g q, .. that marks them.
module _ (g : ℕ → ℕ) (seen : List ℕ) (q n : ℕ) (b : Bool) (so_far : fresh seen (map g (from q (n - q))) ≡ b) where
  pub fresh_from-again : q < n → (get_or seen (g q) 0 ≡ 0 → ⊥) → false ≡ b
  fresh_from-again h e =
      let z : fresh seen (map g (from q (n - q))) ≡ false =
      ap (λ (l : List ℕ). fresh seen (map g l)) (from_step q n h)
      ∙ fresh_again seen (g q) (map g (from (q + 1) (n - (q + 1)))) e in
      sym z ∙ so_far

  pub fresh_from-next : q < n → g q < length seen → get_or seen (g q) 0 ≡ 0
      → fresh (set seen (g q) 1) (map g (from (q + 1) (n - (q + 1)))) ≡ b
  fresh_from-next h l e =
      let z : fresh seen (map g (from q (n - q))) ≡ fresh (set seen (g q) 1) (map g (from (q + 1) (n - (q + 1)))) =
      ap (λ (l : List ℕ). fresh seen (map g l)) (from_step q n h)
      ∙ fresh_step seen (g q) (map g (from (q + 1) (n - (q + 1)))) l e in
      sym z ∙ so_far

  pub fresh_from-end : n ≤ q → true ≡ b
  fresh_from-end h = ap (λ (l : List ℕ). fresh seen (map g l)) (sym (from_end q n h)) ∙ so_far

-- A loop over the entries of a list from q on, up to k, that tests each against n and marks it.
abbrev pub naming : ℕ → List ℕ → List ℕ → Bool
naming n seen xs = every (λ x. ltb x n) xs && fresh seen xs

naming_past : (n : ℕ) (seen : List ℕ) (x : ℕ) (xs : List ℕ) → n ≤ x → naming n seen (x ∷ xs) ≡ false
naming_past n seen x xs h = rw (le-ltb x n h)

naming_again : (n : ℕ) (seen : List ℕ) (x : ℕ) (xs : List ℕ) → (get_or seen x 0 ≡ 0 → ⊥) → naming n seen (x ∷ xs) ≡ false
naming_again n seen x xs e =
    ap (λ (b : Bool). every (λ y. ltb y n) (x ∷ xs) && b) (fresh_again seen x xs e)
    ∙ and-false (every (λ y. ltb y n) (x ∷ xs))

naming_step : (n : ℕ) (seen : List ℕ) (x : ℕ) (xs : List ℕ) → x < n → x < length seen → get_or seen x 0 ≡ 0
    → naming n seen (x ∷ xs) ≡ naming n (set seen x 1) xs
naming_step n seen x xs h l e =
    ap (λ (b : Bool). (b && every (λ y. ltb y n) xs) && fresh seen (x ∷ xs)) (lt-ltb x n h)
    ∙ ap (λ (b : Bool). every (λ y. ltb y n) xs && b) (fresh_step seen x xs l e)

pub naming_start : (n m : ℕ) (xs : List ℕ) → naming n (replicate m 0) xs ≡ (every (λ x. ltb x n) xs && distinct xs)
naming_start n m xs = ap (λ (b : Bool). every (λ x. ltb x n) xs && b) (fresh_start m xs)

module _ (n : ℕ) (seen t : List ℕ) (q k : ℕ) (b : Bool) (long : k ≤ length t)
    (so_far : naming n seen (slice q k t) ≡ b) where
  pub naming_slice-past : q < k → n ≤ get_or t q 0 → false ≡ b
  naming_slice-past h e =
      let z : naming n seen (slice q k t) ≡ false =
      ap (naming n seen) (slice-cons q k t 0 h long) ∙ naming_past n seen (get_or t q 0) (slice (suc q) k t) e in
      sym z ∙ so_far

  pub naming_slice-again : q < k → (get_or seen (get_or t q 0) 0 ≡ 0 → ⊥) → false ≡ b
  naming_slice-again h e =
      let z : naming n seen (slice q k t) ≡ false =
      ap (naming n seen) (slice-cons q k t 0 h long) ∙ naming_again n seen (get_or t q 0) (slice (suc q) k t) e in
      sym z ∙ so_far

  pub naming_slice-next : q < k → get_or t q 0 < n → get_or t q 0 < length seen → get_or seen (get_or t q 0) 0 ≡ 0
      → naming n (set seen (get_or t q 0) 1) (slice (q + 1) k t) ≡ b
  naming_slice-next h l m e =
      let z : naming n seen (slice q k t) ≡ naming n (set seen (get_or t q 0) 1) (slice (q + 1) k t) =
      ap (naming n seen) (slice-cons q k t 0 h long) ∙ naming_step n seen (get_or t q 0) (slice (suc q) k t) l m e
      ∙ ap (λ (j : ℕ). naming n (set seen (get_or t q 0) 1) (slice j k t)) (sym (add-one q)) in
      sym z ∙ so_far

  pub naming_slice-end : q ≡ k → true ≡ b
  naming_slice-end h = ap (naming n seen) (sym (ap (λ (j : ℕ). slice j k t) h ∙ slice_empty k t)) ∙ so_far
