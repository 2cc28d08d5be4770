-- Laws of lists that name numbers: append_new, strike, overlay, and what a list without repeats below a bound comes to.
--   Names n xs   xs names numbers below n, none twice
-- First append_new, then strike, then Names, then overlay; last, things that a key tells apart, and sums over numbers.
-- Not here: membership itself (MembersLaws).
-- Assumes nothing.
use mathlib.Core.Path.{◌≡◌, refl, sym, ap, ◌∙◌, subst}
use mathlib.Core.Logic.{◌⊎◌, inl, inr, ⊎_elim}
use mathlib.Core.Bool.{Bool, true, false, cond, not, ◌&&◌, true≢false}
use mathlib.Core.List.{List, [], ◌∷◌, ◌++◌, map}
use Prim.Native.Nat.{ℕ, zero, suc, ◌+◌, ◌≤◌, ◌<◌}
use native.Mathlib.Decide.{dec_lt}
use native.Mathlib.Omega.{arith}
use borrow.Author.Tests.{ltb-true, lt-ltb, ne_eqb}
use lib.ListN.{length}
use lib.Dec.{eqb, ltb}
use Rattle.lists.specs.Lists.{from, every, total, has, distinct, append_new, strike}
use Rattle.lists.proofs.TestsLaws.{and_left, and_right}
use Rattle.lists.proofs.MembersLaws.{In, in_left, in_right, in_cases, has_sound, has_complete, keep_sound, keep_complete, every_sound, every_complete, Distinct, distinct_append, distinct_keep, distinct_bound, distinct_sound, distinct_complete, map_complete, total_append, from0_complete, from_length, from_last}

-- Appending unless there.

pub append_new-has : (x : ℕ) (ys : List ℕ) → In x (append_new x ys)
unfolding append_new
append_new-has x ys = by_test (has x ys) refl
  where
    by_test : (b : Bool) → has x ys ≡ b → In x (cond b ys (ys ++ (x ∷ [])))
    by_test true e = has_sound x ys e
    by_test false e = in_right x ys (x ∷ []) (inl refl)

pub append_new-kept : (x y : ℕ) (ys : List ℕ) → In y ys → In y (append_new x ys)
unfolding append_new
append_new-kept x y ys h = by_test (has x ys)
  where
    by_test : (b : Bool) → In y (cond b ys (ys ++ (x ∷ [])))
    by_test true = h
    by_test false = in_left y ys (x ∷ []) h

-- What it names was there, or is x.
pub append_new-sound : (x y : ℕ) (ys : List ℕ) → In y (append_new x ys) → (y ≡ x) ⊎ In y ys
unfolding append_new
append_new-sound x y ys h = by_test (has x ys) h
  where
    last : In y (x ∷ []) → (y ≡ x) ⊎ In y ys
    last (inl e) = inl e
    last (inr u) = absurd u

    by_test : (b : Bool) → In y (cond b ys (ys ++ (x ∷ []))) → (y ≡ x) ⊎ In y ys
    by_test true u = inr u
    by_test false u = ⊎_elim (λ v. inr v) last (in_cases y ys (x ∷ []) u)

pub append_new-distinct : (x : ℕ) (ys : List ℕ) → Distinct ys → Distinct (append_new x ys)
unfolding append_new
append_new-distinct x ys d = by_test (has x ys) refl
  where
    apart : has x ys ≡ false → (a : ℕ) → In a ys → In a (x ∷ []) → ⊥
    apart e a u (inl v) = true≢false (sym (has_complete x ys (subst (λ (z : ℕ). In z ys) v u)) ∙ e)
    apart e a u (inr v) = v

    by_test : (b : Bool) → has x ys ≡ b → Distinct (cond b ys (ys ++ (x ∷ [])))
    by_test true e = d
    by_test false e = distinct_append ys (x ∷ []) d (λ u. u, tt) (apart e)

-- Striking.

pub strike_kept : (x y : ℕ) (ys : List ℕ) → (y ≡ x → ⊥) → In y ys → In y (strike x ys)
unfolding strike
strike_kept x y ys n h =
    let e : not (eqb x y) ≡ true = rw (ne_eqb x y (λ q. n (sym q))) in
    keep_complete (λ z. not (eqb x z)) y ys e h

-- What is left was there.
pub strike_sound : (x y : ℕ) (ys : List ℕ) → In y (strike x ys) → In y ys
unfolding strike
strike_sound x y ys h = (keep_sound (λ z. not (eqb x z)) y ys h).1

pub strike_distinct : (x : ℕ) (ys : List ℕ) → Distinct ys → Distinct (strike x ys)
unfolding strike
strike_distinct x ys d = distinct_keep (λ z. not (eqb x z)) ys d

-- A list names numbers below n, none twice.
pub record Names (n : ℕ) (xs : List ℕ) : Type 0 where
  pub exist : (x : ℕ) → In x xs → x < n
  pub once : Distinct xs

-- The same as a test, both ways.
pub names_sound : (n : ℕ) (xs : List ℕ) → (every (λ i. ltb i n) xs && distinct xs) ≡ true → Names n xs
names_sound n xs e =
    record {
      exist = λ x h. ltb-true x n (every_sound (λ i. ltb i n) x xs
          (and_left (every (λ i. ltb i n) xs) (distinct xs) e) h);
      once = distinct_sound xs (and_right (every (λ i. ltb i n) xs) (distinct xs) e);
    }

pub names_complete : (n : ℕ) (xs : List ℕ) → Names n xs → (every (λ i. ltb i n) xs && distinct xs) ≡ true
names_complete n xs a =
    let e : every (λ i. ltb i n) xs ≡ true = every_complete (λ i. ltb i n) xs (λ x h. lt-ltb x n (a.exist x h)) in
    rw e (distinct_complete xs a.once)

-- It is no longer than the bound.
pub names_length : (n : ℕ) (xs : List ℕ) → Names n xs → length xs ≤ n
names_length n xs a =
    let l : length xs ≤ length (from 0 n) = distinct_bound xs (from 0 n) a.once
    (λ x h. from0_complete n x (a.exist x h)) in
    omega (arith, from_length 0 n)

-- As many names as the bound are all numbers below it.
pub names_all : (n : ℕ) (xs : List ℕ) → Names n xs → length xs ≡ n → (i : ℕ) → i < n → In i xs
names_all n xs a e i h = by_test (has i xs) refl
  where
    by_test : (b : Bool) → has i xs ≡ b → In i xs
    by_test true q = has_sound i xs q
    by_test false q =
        let one_more : Names n (i ∷ xs) =
        record {
          exist = λ x m. ⊎_elim (λ p. omega arith) (λ k. a.exist x k) m;
          once = (λ m. true≢false (sym (has_complete i xs m) ∙ q), a.once);
        } in
        absurd (omega (arith, e, names_length n (i ∷ xs) one_more))

pub names_append : (n x : ℕ) (xs : List ℕ) → x < n → Names n xs → Names n (append_new x xs)
names_append n x xs h a =
    record {
      exist = λ y u. ⊎_elim (λ e. omega arith) (λ v. a.exist y v) (append_new-sound x y xs u);
      once = append_new-distinct x xs a.once;
    }

pub names_strike : (n x : ℕ) (xs : List ℕ) → Names n xs → Names n (strike x xs)
names_strike n x xs a =
    record { exist = λ y u. a.exist y (strike_sound x y xs u); once = strike_distinct x xs a.once }

-- Where keys do not repeat, a key tells members apart.
pub distinct_key : {A B : Type 0} (g : A → B) (xs : List A) (a c : A) → Distinct (map g xs) → In a xs → In c xs
    → g a ≡ g c → a ≡ c
distinct_key g [] a c d u v e = absurd u
distinct_key g (x ∷ xs) a c d (inl p) (inl q) e = p ∙ sym q
distinct_key {B = B} g (x ∷ xs) a c d (inl p) (inr v) e =
    absurd (d.0 (subst (λ (z : B). In z (map g xs)) (sym e ∙ ap g p) (map_complete g c xs v)))
distinct_key {B = B} g (x ∷ xs) a c d (inr u) (inl q) e =
    absurd (d.0 (subst (λ (z : B). In z (map g xs)) (e ∙ ap g q) (map_complete g a xs u)))
distinct_key g (x ∷ xs) a c d (inr u) (inr v) e = distinct_key g xs a c d.1 u v e

-- A sum over the numbers below j has room for the part that i adds.
pub total_below : (f : ℕ → ℕ) (i j : ℕ) → i < j → total f (from 0 i) + f i ≤ total f (from 0 j)
total_below f i zero h = absurd (omega arith)
total_below f i (suc j) h = by_place (dec_lt i j) (λ l. total_below f i j l)
  where
    more : total f (from 0 (suc j)) ≡ total f (from 0 j) + f j
    more = ap (total f) (from_last j) ∙ total_append f (from 0 j) (j ∷ []) ∙ omega arith

    by_place : Dec (i < j) → (i < j → total f (from 0 i) + f i ≤ total f (from 0 j))
        → total f (from 0 i) + f i ≤ total f (from 0 (suc j))
    by_place (yes l) later = omega (arith, later l, more)
    by_place (no l) later = let e : i ≡ j = omega arith in rw e (omega (arith, more))
