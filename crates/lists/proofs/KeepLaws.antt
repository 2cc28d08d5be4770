-- Laws of those of a list that pass a test.
--   all or none pass; a test and its negation; one test behind another; those given by others
--   of numbers that follow one another: those that pass ascend, and are the first ones where the test never holds behind one that it fails
--   whether a number is among them
--   lists of one length one after the other, by members
-- Not here: membership itself (MembersLaws).
-- Assumes nothing.
use mathlib.Core.Path.{◌≡◌, refl, sym, ap, ◌∙◌}
use mathlib.Core.Logic.{inl, inr}
use mathlib.Core.Bool.{Bool, true, false, cond, not, ◌&&◌, ◌||◌, false≢true}
use mathlib.Core.List.{List, [], ◌∷◌, ◌++◌, map}
use Prim.Native.Nat.{ℕ, zero, suc, ◌+◌, ◌*◌, ◌≤◌, ◌<◌}
use native.Mathlib.Nat.{mul-zero, mul-suc}
use native.Mathlib.Decide.{dec_lt}
use native.Mathlib.Omega.{arith}
use lib.ListN.{length, get_or, take, drop, length-append}
use lib.Seq.{take_at, drop-append-add}
use Rattle.lists.specs.Lists.{from, keep, any, joined, has}
use Rattle.lists.proofs.TestsLaws.{tests_equal}
use Rattle.lists.proofs.MembersLaws.{In, keep_sound, keep_complete, keep_first, in-get_or, from_sound, from0_complete, has_sound, has_complete}

module _ {A : Type 0} where
  pub keep_all : (f : A → Bool) (xs : List A) → ((a : A) → In a xs → f a ≡ true) → keep f xs ≡ xs
  keep_all f [] h = refl
  keep_all f (x ∷ xs) h = rw (h x (inl refl)) (ap (λ (l : List A). x ∷ l) (keep_all f xs (λ a u. h a (inr u))))

  pub keep_no : (f : A → Bool) (xs : List A) → ((a : A) → In a xs → f a ≡ false) → keep f xs ≡ []
  keep_no f [] h = refl
  keep_no f (x ∷ xs) h = rw (h x (inl refl)) (keep_no f xs (λ a u. h a (inr u)))

  pub any_sound : (f : A → Bool) (d : A) (xs : List A) → any f xs ≡ true
      → (f (get_or (keep f xs) 0 d) ≡ true) × In (get_or (keep f xs) 0 d) xs
  any_sound f d xs e = keep_sound f (get_or (keep f xs) 0 d) xs (keep_first f xs d e)

  pub any_no : (f : A → Bool) (xs : List A) → ((a : A) → In a xs → f a ≡ true → ⊥) → any f xs ≡ false
  any_no f [] h = refl
  any_no f (x ∷ xs) h = by_test (f x) refl (any_no f xs (λ a u. h a (inr u)))
    where
      by_test : (b : Bool) → f x ≡ b → any f xs ≡ false → (b || any f xs) ≡ false
      by_test true e later = absurd (h x (inl refl) e)
      by_test false e later = later

  -- Those that pass and those that do not are all.
  pub keep_lengths : (f : A → Bool) (xs : List A) → length (keep f xs) + length (keep (λ x. not (f x)) xs) ≡ length xs
  keep_lengths f [] = refl
  keep_lengths f (x ∷ xs) = by_test (f x) (keep_lengths f xs)
    where
      by_test : (b : Bool) → length (keep f xs) + length (keep (λ x. not (f x)) xs) ≡ length xs
          → length (cond b (x ∷ keep f xs) (keep f xs)) + length (cond (not b) (x ∷ keep (λ x. not (f x)) xs) (keep (λ x. not (f x)) xs))
          ≡ suc (length xs)
      by_test true e = omega (arith, e)
      by_test false e = omega (arith, e)

  pub keep_keep : (f g : A → Bool) (xs : List A) → keep f (keep g xs) ≡ keep (λ x. g x && f x) xs
  keep_keep f g [] = refl
  keep_keep f g (x ∷ xs) = by_test (g x) (keep_keep f g xs)
    where
      by_test : (b : Bool) → keep f (keep g xs) ≡ keep (λ x. g x && f x) xs
          → keep f (cond b (x ∷ keep g xs) (keep g xs)) ≡ cond (b && f x) (x ∷ keep (λ x. g x && f x) xs) (keep (λ x. g x && f x) xs)
      by_test true e = ap (λ (l : List A). cond (f x) (x ∷ l) l) e
      by_test false e = e

  pub keep_map : {B : Type 0} (f : B → Bool) (h : A → B) (xs : List A) → keep f (map h xs) ≡ map h (keep (λ x. f (h x)) xs)
  keep_map f h [] = refl
  keep_map {B} f h (x ∷ xs) = by_test (f (h x)) (keep_map f h xs)
    where
      by_test : (b : Bool) → keep f (map h xs) ≡ map h (keep (λ x. f (h x)) xs)
          → cond b (h x ∷ keep f (map h xs)) (keep f (map h xs))
          ≡ map h (cond b (x ∷ keep (λ x. f (h x)) xs) (keep (λ x. f (h x)) xs))
      by_test true e = ap (λ (l : List B). h x ∷ l) e
      by_test false e = e

  -- An entry that there is does not depend on what stands for one that there is not.
  pub get_or-there : (xs : List A) (j : ℕ) (d e : A) → j < length xs → get_or xs j d ≡ get_or xs j e
  get_or-there [] j d e h = absurd (omega (arith, h))
  get_or-there (x ∷ xs) zero d e h = refl
  get_or-there (x ∷ xs) (suc j) d e h = get_or-there xs j d e (omega (arith, h))

-- One of those that pass a test passes another.
pub any_keep : {A : Type 0} (f g : A → Bool) (xs : List A) → any f (keep g xs) ≡ any (λ x. g x && f x) xs
any_keep f g [] = refl
any_keep f g (x ∷ xs) = by_test (g x) (any_keep f g xs)
  where
    by_test : (b : Bool) → any f (keep g xs) ≡ any (λ x. g x && f x) xs
        → any f (cond b (x ∷ keep g xs) (keep g xs)) ≡ ((b && f x) || any (λ x. g x && f x) xs)
    by_test true e = ap (λ (c : Bool). f x || c) e
    by_test false e = e

module _ (f : ℕ → Bool) where
  pub keep_rises : (q k i j d : ℕ) → i < j → j < length (keep f (from q k))
      → get_or (keep f (from q k)) i d < get_or (keep f (from q k)) j d
  keep_rises q zero i j d h l = absurd (omega (arith, l))
  keep_rises q (suc k) i j d h l = by_test (f q) i j h l (keep_rises (suc q) k)
    where
      by_test : (b : Bool) (i j : ℕ) → i < j → j < length (cond b (q ∷ keep f (from (suc q) k)) (keep f (from (suc q) k)))
          → ((i j d : ℕ) → i < j → j < length (keep f (from (suc q) k))
          → get_or (keep f (from (suc q) k)) i d < get_or (keep f (from (suc q) k)) j d)
          → get_or (cond b (q ∷ keep f (from (suc q) k)) (keep f (from (suc q) k))) i d
          < get_or (cond b (q ∷ keep f (from (suc q) k)) (keep f (from (suc q) k))) j d
      by_test true i zero h l later = absurd (omega (arith, h))
      by_test true zero (suc j) h l later =
          let z = keep_sound f _ (from (suc q) k) (in-get_or (keep f (from (suc q) k)) j d (omega (arith, l))) in
          omega (arith, (from_sound (suc q) k _ z.1).0)
      by_test true (suc i) (suc j) h l later = later i j d (omega (arith, h)) (omega (arith, l))
      by_test false i j h l later = later i j d h l

  -- The first that passes is the least.
  pub keep_least : (q k r d : ℕ) → q ≤ r → r < q + k → f r ≡ true → get_or (keep f (from q k)) 0 d ≤ r
  keep_least q zero r d h l e = absurd (omega (arith, h, l))
  keep_least q (suc k) r d h l e = by_test (f q) refl (λ g. keep_least (suc q) k r d g (omega (arith, l)) e)
    where
      by_test : (b : Bool) → f q ≡ b → (suc q ≤ r → get_or (keep f (from (suc q) k)) 0 d ≤ r)
          → get_or (cond b (q ∷ keep f (from (suc q) k)) (keep f (from (suc q) k))) 0 d ≤ r
      by_test true u later = h
      by_test false u later = by_place (dec_lt q r)
        where
          by_place : Dec (q < r) → get_or (keep f (from (suc q) k)) 0 d ≤ r
          by_place (yes g) = later g
          by_place (no g) = let z : r ≡ q = omega (arith, h, g) in absurd (false≢true (sym u ∙ ap f (sym z) ∙ e))

  pub keep_first_ones : (q k : ℕ) → ((p r : ℕ) → f r ≡ true → p ≤ r → f p ≡ true) → keep f (from q k) ≡ from q (length (keep f (from q k)))
  keep_first_ones q zero h = refl
  keep_first_ones q (suc k) h = by_test (f q) refl (keep_first_ones (suc q) k h)
    where
      by_test : (b : Bool) → f q ≡ b → keep f (from (suc q) k) ≡ from (suc q) (length (keep f (from (suc q) k)))
          → cond b (q ∷ keep f (from (suc q) k)) (keep f (from (suc q) k))
          ≡ from q (length (cond b (q ∷ keep f (from (suc q) k)) (keep f (from (suc q) k))))
      by_test true e later = ap (λ (l : List ℕ). q ∷ l) later
      by_test false e later =
          let none : keep f (from (suc q) k) ≡ [] = keep_no f (from (suc q) k) (λ p u. fails p (f p) refl (from_sound (suc q) k p u).0) in
          none ∙ ap (λ (l : List ℕ). from q (length l)) (sym none)
        where
          fails : (p : ℕ) (b : Bool) → f p ≡ b → suc q ≤ p → f p ≡ false
          fails p true u l = absurd (false≢true (sym e ∙ h q p u (omega (arith, l))))
          fails p false u l = u

  -- A number below n is among those that pass where it passes.
  pub has_keep : (n p : ℕ) → p < n → has p (keep f (from 0 n)) ≡ f p
  has_keep n p h =
      tests_equal (has p (keep f (from 0 n))) (f p)
      (λ e. (keep_sound f p (from 0 n) (has_sound p (keep f (from 0 n)) e)).0)
      (λ e. has_complete p (keep f (from 0 n)) (keep_complete f p (from 0 n) e (from0_complete n p h)))

-- Entry i of numbers that follow one another.
pub from_at : (q k i d : ℕ) → i < k → get_or (from q k) i d ≡ q + i
from_at q zero i d h = absurd (omega (arith, h))
from_at q (suc k) zero d h = omega arith
from_at q (suc k) (suc i) d h = omega (arith, from_at (suc q) k i d (omega (arith, h)))

-- Lists of w entries one after the other: w times as many entries, and list i stands behind w * i of them.
module _ {A B : Type 0} (f : A → List B) (w : ℕ) where
  pub joined_room : (xs : List A) → ((a : A) → In a xs → length (f a) ≡ w) → length (joined f xs) ≡ w * length xs
  joined_room [] h = sym (mul-zero w)
  joined_room (x ∷ xs) h =
      omega (arith, length-append (f x) (joined f xs), h x (inl refl), joined_room xs (λ a u. h a (inr u)), mul-suc w (length xs))

  pub joined_list : (xs : List A) → ((a : A) → In a xs → length (f a) ≡ w) → (i : ℕ) (d : A) → i < length xs
      → take w (drop (w * i) (joined f xs)) ≡ f (get_or xs i d)
  joined_list [] h i d l = absurd (omega (arith, l))
  joined_list (x ∷ xs) h zero d l =
      ap (λ (j : ℕ). take w (drop j (f x ++ joined f xs))) (mul-zero w) ∙ take_at (f x) (joined f xs) w (h x (inl refl))
  joined_list (x ∷ xs) h (suc i) d l =
      let e : w * suc i ≡ length (f x) + w * i = omega (arith, mul-suc w i, h x (inl refl)) in
      ap (λ (j : ℕ). take w (drop j (f x ++ joined f xs))) e
      ∙ ap (take w) (drop-append-add (f x) (joined f xs) (w * i))
      ∙ joined_list xs (λ a u. h a (inr u)) i d (omega (arith, l))
