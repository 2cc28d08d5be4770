-- Loops over what is still to come: a part of a table, a sum; and what the library's `all` and `any` answer.
-- Not here: a test that none stands twice (PassLaws); a loop for one that does not pass a test (ListsLaws: every_fails, every_next, every_end).
-- Assumes nothing.
use mathlib.Core.Path.{◌≡◌, refl, sym, ap, ◌∙◌}
use mathlib.Core.Bool.{Bool, true, false, ◌&&◌}
use mathlib.Core.List.{List, [], ◌∷◌, map}
use Prim.Native.Nat.{ℕ, zero, suc, ◌+◌, ◌-◌, ◌≤◌, ◌<◌}
use native.Mathlib.Nat.{sub-zero}
use native.Mathlib.Numerals.{add-one}
use native.Mathlib.Omega.{arith}
use lib.ListN.{length, get_or}
use lib.Dec.{eqb}
use lib.Seq.{slice, slice-cons, slice_empty}
use Rattle.std.proofs.lemmas.Bool.Decides.{nat_tests}
use Rattle.std.specs.List.{list_all, list_any, range_with_len}
use Rattle.lists.specs.Lists.{from, every, total, has}
use Rattle.lists.proofs.MembersLaws.{from_last, from_append, total_append}

-- Before the first turn.
pub from_start : (n : ℕ) → from 0 (n - 0) ≡ from 0 n
from_start n = ap (from 0) (sub-zero n)

-- A test of what each gives, and what each of these gives.
pub every_map : {A : Type 0} (f : A → Bool) (g : ℕ → A) (xs : List ℕ) → every (λ x. f (g x)) xs ≡ every f (map g xs)
every_map f g [] = refl
every_map f g (x ∷ xs) = ap (λ (b : Bool). f (g x) && b) (every_map f g xs)

pub map_map : {A : Type 0} (f : A → ℕ) (g : ℕ → A) (xs : List ℕ) → map (λ x. f (g x)) xs ≡ map f (map g xs)
map_map f g [] = refl
map_map f g (x ∷ xs) = ap (λ (l : List ℕ). f (g x) ∷ l) (map_map f g xs)

-- What the library's `all` answers.
pub every_all : (f : ℕ → Bool) (xs : List ℕ) → list_all f xs ≡ every f xs
every_all f [] = refl
every_all f (x ∷ xs) = ap (λ (b : Bool). f x && b) (every_all f xs)

-- What the library's `any` answers, asked for the numbers of a range which of them give x.
pub any_gives : (g : ℕ → ℕ) (x q n : ℕ) → list_any (λ i. eqb (g i) x) (range_with_len q n) ≡ has x (map g (from q n))
any_gives g x q zero = refl
any_gives g x q (suc n) = rw (swapped (g q) x, add-one q, any_gives g x (suc q) n)
  where
    swapped : (a b : ℕ) → eqb a b ≡ eqb b a
    swapped a b = grind (arith, nat_tests)

-- A test of the entries of a table from q on, up to n.
module _ (f : ℕ → Bool) (t : List ℕ) (q n : ℕ) (b : Bool) (long : n ≤ length t)
    (so_far : every f (slice q n t) ≡ b) where
  pub every_slice-fails : q < n → f (get_or t q 0) ≡ false → false ≡ b
  every_slice-fails h e =
      let z : every f (slice q n t) ≡ false = rw (slice-cons q n t 0 h long, e) in
      sym z ∙ so_far

  pub every_slice-next : q < n → f (get_or t q 0) ≡ true → every f (slice (q + 1) n t) ≡ b
  every_slice-next h e =
      let z : every f (slice q n t) ≡ every f (slice (q + 1) n t) = rw (slice-cons q n t 0 h long, e, add-one) in
      sym z ∙ so_far

  pub every_slice-end : q ≡ n → true ≡ b
  every_slice-end h = ap (every f) (sym (ap (λ (k : ℕ). slice k n t) h ∙ slice_empty n t)) ∙ so_far

-- A sum of one more.
total_more : (g : ℕ → ℕ) (i : ℕ) → total g (from 0 (i + 1)) ≡ total g (from 0 i) + g i
total_more g i =
    ap (λ (k : ℕ). total g (from 0 k)) (add-one i) ∙ ap (total g) (from_last i) ∙ total_append g (from 0 i) (i ∷ [])
    ∙ omega arith

pub total_step : (g : ℕ → ℕ) (s x i : ℕ) → s ≡ total g (from 0 i) → x ≡ g i → s + x ≡ total g (from 0 (i + 1))
total_step g s x i e h = omega (arith, total_more g i)

-- A sum of fewer is no larger.
pub total_mono : (g : ℕ → ℕ) (i n : ℕ) → i ≤ n → total g (from 0 i) ≤ total g (from 0 n)
total_mono g i n h =
    let e : n ≡ i + (n - i) = omega arith in
    let a : total g (from 0 n) ≡ total g (from 0 i) + total g (from (0 + i) (n - i)) =
    ap (λ (k : ℕ). total g (from 0 k)) e ∙ ap (total g) (from_append 0 i (n - i))
    ∙ total_append g (from 0 i) (from (0 + i) (n - i)) in
    omega (arith, a)

-- What stands below i, with what i gives, is no more than what stands below a later j.
pub total_room : (g : ℕ → ℕ) (i j : ℕ) → i < j → total g (from 0 i) + g i ≤ total g (from 0 j)
total_room g i j h = omega (arith, total_more g i, total_mono g (i + 1) j (omega arith))
