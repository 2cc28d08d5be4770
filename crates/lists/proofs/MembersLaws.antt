-- Members of a list, lists without repeats, and counting with them.
--   In a xs        a stands in xs
--   Distinct xs    no two places of xs hold the same thing
-- First members of a list, by place and by test; then lists without repeats, and that distinct
-- things are no more than the list that holds them; then sums and lengths; then lists made of others; then numbers.
-- Not here: laws of length, get_or, take and drop (lib.ListN, lib.Seq).
-- Assumes nothing.
use mathlib.Core.Path.{◌≡◌, refl, sym, ap, ◌∙◌, subst}
use mathlib.Core.Logic.{◌⊎◌, inl, inr, ⊎_elim}
use mathlib.Core.Bool.{Bool, true, false, cond, not, ◌&&◌, ◌||◌, false≢true, true≢false}
use mathlib.Core.List.{List, [], ◌∷◌, ◌++◌, map}
use mathlib.Core.Option.{none, some}
use Prim.Native.Nat.{ℕ, zero, suc, ◌+◌, ◌≤◌, ◌<◌}
use native.Mathlib.Decide.{dec_lt}
use native.Mathlib.Omega.{arith}
use borrow.Author.Tests.{eqb-true, eq-eqb, not-true}
use lib.ListN.{length, get_or, length-append, get_or-eq_default}
use lib.Dec.{eqb}
use Rattle.lists.specs.Lists.{from, keep, every, any, total, joined, first, has, distinct}
use Rattle.lists.proofs.TestsLaws.{and_left, and_right, or_left, or_right, or_cases}

or_assoc : (a b c : Bool) → (a || (b || c)) ≡ ((a || b) || c)
or_assoc true b c = refl
or_assoc false b c = refl

-- Membership.

module _ {A : Type 0} where
  abbrev pub In : A → List A → Type 0
  In a [] = ⊥
  In a (x ∷ xs) = (a ≡ x) ⊎ In a xs

  pub in_left : (a : A) (xs ys : List A) → In a xs → In a (xs ++ ys)
  in_left a [] ys h = absurd h
  in_left a (x ∷ xs) ys (inl e) = inl e
  in_left a (x ∷ xs) ys (inr h) = inr (in_left a xs ys h)

  pub in_right : (a : A) (xs ys : List A) → In a ys → In a (xs ++ ys)
  in_right a [] ys h = h
  in_right a (x ∷ xs) ys h = inr (in_right a xs ys h)

  pub in_cases : (a : A) (xs ys : List A) → In a (xs ++ ys) → In a xs ⊎ In a ys
  in_cases a [] ys h = inr h
  in_cases a (x ∷ xs) ys (inl e) = inl (inl e)
  in_cases a (x ∷ xs) ys (inr h) = ⊎_elim (λ u. inl (inr u)) (λ v. inr v) (in_cases a xs ys h)

  -- What is taken under a condition is there only where the condition holds.
  pub in_cond : (a : A) (b : Bool) (xs : List A) → In a (cond b xs []) → (b ≡ true) × In a xs
  in_cond a true xs h = (refl, h)
  in_cond a false xs h = absurd h

  -- An entry stands in its list.
  pub in-get_or : (xs : List A) (j : ℕ) (d : A) → j < length xs → In (get_or xs j d) xs
  in-get_or [] j d h = absurd (omega arith)
  in-get_or (x ∷ xs) zero d h = inl refl
  in-get_or (x ∷ xs) (suc j) d h = inr (in-get_or xs j d (omega arith))

  -- What stands in a list is an entry.
  pub get_or-in : (a : A) (xs : List A) (d : A) → In a xs → (j : ℕ) × (j < length xs) × (a ≡ get_or xs j d)
  get_or-in a [] d h = absurd h
  get_or-in a (x ∷ xs) d (inl e) = (0, omega arith, e)
  get_or-in a (x ∷ xs) d (inr h) = let r = get_or-in a xs d h in (suc r.0, omega (arith, r.1), r.2)

  -- An entry by place is the default, or stands in the list.
  pub get_or-cases : (xs : List A) (j : ℕ) (d : A) → (get_or xs j d ≡ d) ⊎ ((j < length xs) × In (get_or xs j d) xs)
  get_or-cases xs j d = by_place (dec_lt j (length xs))
    where
      by_place : Dec (j < length xs) → (get_or xs j d ≡ d) ⊎ ((j < length xs) × In (get_or xs j d) xs)
      by_place (yes h) = inr (h, in-get_or xs j d h)
      by_place (no h) = inl (get_or-eq_default xs d (omega arith))

  -- Those that pass a test stand in the list, and pass it; and the other way.
  pub keep_sound : (f : A → Bool) (a : A) (xs : List A) → In a (keep f xs) → (f a ≡ true) × In a xs
  keep_sound f a [] h = absurd h
  keep_sound f a (x ∷ xs) h = by_test (keep_sound f a xs) (f x) refl h
    where
      by_test : (In a (keep f xs) → (f a ≡ true) × In a xs) → (b : Bool) → f x ≡ b
          → In a (cond b (x ∷ keep f xs) (keep f xs)) → (f a ≡ true) × In a (x ∷ xs)
      by_test later true e (inl u) = (ap f u ∙ e, inl u)
      by_test later true e (inr u) = ((later u).0, inr (later u).1)
      by_test later false e u = ((later u).0, inr (later u).1)

  pub keep_complete : (f : A → Bool) (a : A) (xs : List A) → f a ≡ true → In a xs → In a (keep f xs)
  keep_complete f a [] e h = h
  keep_complete f a (x ∷ xs) e (inl u) = rw (sym (ap f u) ∙ e) (inl u)
  keep_complete f a (x ∷ xs) e (inr u) = by_test (f x) (keep_complete f a xs e u)
    where
      by_test : (b : Bool) → In a (keep f xs) → In a (cond b (x ∷ keep f xs) (keep f xs))
      by_test true h = inr h
      by_test false h = h

  -- Where a test finds nothing, no member passes it.
  -- The first that passes stands among those that pass, where one does.
  pub keep_first : (f : A → Bool) (xs : List A) (d : A) → any f xs ≡ true → In (get_or (keep f xs) 0 d) (keep f xs)
  keep_first f [] d e = absurd (false≢true e)
  keep_first f (x ∷ xs) d e = by_test (f x) (λ u. keep_first f xs d u) e
    where
      by_test : (b : Bool) → (any f xs ≡ true → In (get_or (keep f xs) 0 d) (keep f xs)) → (b || any f xs) ≡ true
          → In (get_or (cond b (x ∷ keep f xs) (keep f xs)) 0 d) (cond b (x ∷ keep f xs) (keep f xs))
      by_test true later u = inl refl
      by_test false later u = later u

  pub any_none : (f : A → Bool) (a : A) (xs : List A) → any f xs ≡ false → In a xs → f a ≡ false
  any_none f a [] e h = absurd h
  any_none f a (x ∷ xs) e (inl u) = ap f u ∙ or_left (f x) (any f xs) e
  any_none f a (x ∷ xs) e (inr u) = any_none f a xs (or_right (f x) (any f xs) e) u

  pub any_append : (f : A → Bool) (xs ys : List A) → any f (xs ++ ys) ≡ (any f xs || any f ys)
  any_append f [] ys = refl
  any_append f (x ∷ xs) ys = ap (λ (b : Bool). f x || b) (any_append f xs ys) ∙ or_assoc (f x) (any f xs) (any f ys)

  pub any_map : {B : Type 0} (f : B → Bool) (g : A → B) (xs : List A) → any f (map g xs) ≡ any (λ x. f (g x)) xs
  any_map f g [] = refl
  any_map f g (x ∷ xs) = ap (λ (b : Bool). f (g x) || b) (any_map f g xs)

  pub any_some : (f : A → Bool) (a : A) (xs : List A) → f a ≡ true → In a xs → any f xs ≡ true
  any_some f a [] e h = absurd h
  any_some f a (x ∷ xs) e (inl u) = rw (sym (ap f u) ∙ e)
  any_some f a (x ∷ xs) e (inr u) = by_test (f x) (any_some f a xs e u)
    where
      by_test : (b : Bool) → any f xs ≡ true → (b || any f xs) ≡ true
      by_test true h = refl
      by_test false h = h

  -- Where a search finds nothing, no member passes the test.
  pub first_none : (f : A → Bool) (a : A) (xs : List A) → first f xs ≡ none → In a xs → f a ≡ false
  first_none f a [] e h = absurd h
  first_none f a (x ∷ xs) e h = by_test (first_none f a xs) (f x) refl e h
    where
      by_test : (first f xs ≡ none → In a xs → f a ≡ false) → (b : Bool) → f x ≡ b
          → cond b (some x) (first f xs) ≡ none → In a (x ∷ xs) → f a ≡ false
      by_test later true z e h = absurd (let u : ◌≡◌ {A = ℕ} 0 1 = cc in omega arith)
      by_test later false z e (inl u) = ap f u ∙ z
      by_test later false z e (inr u) = later e u

  -- Where no member passes, a search finds nothing; and equal tests find the same.
  pub first_nothing : (f : A → Bool) (xs : List A) → ((a : A) → In a xs → f a ≡ false) → first f xs ≡ none
  first_nothing f [] h = refl
  first_nothing f (x ∷ xs) h = rw (h x (inl refl)) (first_nothing f xs (λ a u. h a (inr u)))

  pub first_cong : (f g : A → Bool) (xs : List A) → ((a : A) → In a xs → f a ≡ g a) → first f xs ≡ first g xs
  first_cong f g [] h = refl
  first_cong f g (x ∷ xs) h = let later = first_cong f g xs (λ a u. h a (inr u)) in λ i. cond (h x (inl refl) i) (some x) (later i)

  -- A test that each passes is one that every member passes; and the other way.
  pub every_sound : (f : A → Bool) (a : A) (xs : List A) → every f xs ≡ true → In a xs → f a ≡ true
  every_sound f a [] e h = absurd h
  every_sound f a (x ∷ xs) e (inl u) = ap f u ∙ and_left (f x) (every f xs) e
  every_sound f a (x ∷ xs) e (inr u) = every_sound f a xs (and_right (f x) (every f xs) e) u

  pub every_complete : (f : A → Bool) (xs : List A) → ((a : A) → In a xs → f a ≡ true) → every f xs ≡ true
  every_complete f [] h = refl
  every_complete f (x ∷ xs) h = rw (h x (inl refl)) (every_complete f xs (λ a u. h a (inr u)))

  pub every_cong : (f g : A → Bool) (xs : List A) → ((a : A) → In a xs → f a ≡ g a) → every f xs ≡ every g xs
  every_cong f g [] h = refl
  every_cong f g (x ∷ xs) h = let later = every_cong f g xs (λ a u. h a (inr u)) in λ i. h x (inl refl) i && later i

  -- Tests that agree on the members keep the same, and pass the same.
  pub keep_cong : (f g : A → Bool) (xs : List A) → ((a : A) → In a xs → f a ≡ g a) → keep f xs ≡ keep g xs
  keep_cong f g [] h = refl
  keep_cong f g (x ∷ xs) h =
      let later = keep_cong f g xs (λ a u. h a (inr u)) in λ i. cond (h x (inl refl) i) (x ∷ later i) (later i)

  pub any_cong : (f g : A → Bool) (xs : List A) → ((a : A) → In a xs → f a ≡ g a) → any f xs ≡ any g xs
  any_cong f g [] h = refl
  any_cong f g (x ∷ xs) h = let later = any_cong f g xs (λ a u. h a (inr u)) in λ i. h x (inl refl) i || later i

  -- Lists without repeats.

  abbrev pub Distinct : List A → Type 0
  Distinct [] = Unit
  Distinct (x ∷ xs) = (In x xs → ⊥) × Distinct xs

  pub distinct_append : (xs ys : List A) → Distinct xs → Distinct ys → ((a : A) → In a xs → In a ys → ⊥)
      → Distinct (xs ++ ys)
  distinct_append [] ys d e h = e
  distinct_append (x ∷ xs) ys d e h = (
    λ u. ⊎_elim d.0 (h x (inl refl)) (in_cases x xs ys u),
    distinct_append xs ys d.1 e (λ a u v. h a (inr u) v),
  )

  pub distinct_keep : (f : A → Bool) (xs : List A) → Distinct xs → Distinct (keep f xs)
  distinct_keep f [] d = tt
  distinct_keep f (x ∷ xs) d = by_test (f x) (distinct_keep f xs d.1)
    where
      by_test : (b : Bool) → Distinct (keep f xs) → Distinct (cond b (x ∷ keep f xs) (keep f xs))
      by_test true e = (λ u. d.0 (keep_sound f x xs u).1, e)
      by_test false e = e

  -- Two places that hold the same thing are one place.
  pub distinct_place : (xs : List A) (i j : ℕ) (d : A) → Distinct xs → i < length xs → j < length xs
      → get_or xs i d ≡ get_or xs j d → i ≡ j
  distinct_place [] i j d s h l e = absurd (omega arith)
  distinct_place (x ∷ xs) zero zero d s h l e = refl
  distinct_place (x ∷ xs) zero (suc j) d s h l e =
      absurd (s.0 (subst (λ (a : A). In a xs) (sym e) (in-get_or xs j d (omega arith))))
  distinct_place (x ∷ xs) (suc i) zero d s h l e =
      absurd (s.0 (subst (λ (a : A). In a xs) e (in-get_or xs i d (omega arith))))
  distinct_place (x ∷ xs) (suc i) (suc j) d s h l e =
      ap suc (distinct_place xs i j d s.1 (omega arith) (omega arith) e)

  -- The list without the place at which a stands.
  without : (a : A) (ys : List A) → In a ys → List A
  without a [] h = []
  without a (y ∷ ys) (inl e) = ys
  without a (y ∷ ys) (inr h) = y ∷ without a ys h

  without_length : (a : A) (ys : List A) (h : In a ys) → length ys ≡ suc (length (without a ys h))
  unfolding without
  without_length a [] h = absurd h
  without_length a (y ∷ ys) (inl e) = refl
  without_length a (y ∷ ys) (inr h) = ap suc (without_length a ys h)

  without_kept : (a b : A) (ys : List A) (h : In a ys) → In b ys → (b ≡ a → ⊥) → In b (without a ys h)
  unfolding without
  without_kept a b [] h u n = absurd h
  without_kept a b (y ∷ ys) (inl e) (inl v) n = absurd (n (v ∙ sym e))
  without_kept a b (y ∷ ys) (inl e) (inr v) n = v
  without_kept a b (y ∷ ys) (inr h) (inl v) n = inl v
  without_kept a b (y ∷ ys) (inr h) (inr v) n = inr (without_kept a b ys h v n)

  -- Distinct things are no more than the list that holds them all.
  pub distinct_bound : (xs ys : List A) → Distinct xs → ((a : A) → In a xs → In a ys) → length xs ≤ length ys
  distinct_bound [] ys d h = omega arith
  distinct_bound (x ∷ xs) ys d h =
      let i = h x (inl refl) in
      let r = distinct_bound xs (without x ys i) d.1
      (λ a u. without_kept x a ys i (h a (inr u)) (λ e. d.0 (subst (λ (z : A). In z xs) e u))) in
      omega (arith, without_length x ys i)

  -- Sums and lengths.

  pub length_nil : (xs : List A) → length xs ≡ 0 → xs ≡ []
  length_nil [] e = refl
  length_nil (x ∷ xs) e = absurd (omega (arith, e))

  pub keep_length : (f : A → Bool) (xs : List A) → length (keep f xs) ≤ length xs
  keep_length f [] = omega arith
  keep_length f (x ∷ xs) = by_test (f x) (keep_length f xs)
    where
      by_test : (b : Bool) → length (keep f xs) ≤ length xs
          → length (cond b (x ∷ keep f xs) (keep f xs)) ≤ suc (length xs)
      by_test true h = omega arith
      by_test false h = omega arith

  pub total_append : (f : A → ℕ) (xs ys : List A) → total f (xs ++ ys) ≡ total f xs + total f ys
  total_append f [] ys = omega arith
  total_append f (x ∷ xs) ys = omega (arith, total_append f xs ys)

  pub total_cong : (f g : A → ℕ) (xs : List A) → ((a : A) → f a ≡ g a) → total f xs ≡ total g xs
  total_cong f g [] h = refl
  total_cong f g (x ∷ xs) h = omega (arith, h x, total_cong f g xs h)

-- Membership in lists made of others.
module _ {A B : Type 0} where
  pub joined_sound : (f : A → List B) (b : B) (xs : List A) → In b (joined f xs) → (a : A) × In a xs × In b (f a)
  joined_sound f b [] h = absurd h
  joined_sound f b (x ∷ xs) h =
      ⊎_elim (λ u. (x, inl refl, u)) (λ v. let r = joined_sound f b xs v in (r.0, inr r.1, r.2))
      (in_cases b (f x) (joined f xs) h)

  pub joined_complete : (f : A → List B) (b : B) (xs : List A) (a : A) → In a xs → In b (f a) → In b (joined f xs)
  joined_complete f b [] a h u = absurd h
  joined_complete f b (x ∷ xs) a (inl e) u = in_left b (f x) (joined f xs) (subst (λ (y : A). In b (f y)) e u)
  joined_complete f b (x ∷ xs) a (inr h) u = in_right b (f x) (joined f xs) (joined_complete f b xs a h u)

  pub map_sound : (g : A → B) (b : B) (xs : List A) → In b (map g xs) → (a : A) × In a xs × (b ≡ g a)
  map_sound g b [] h = absurd h
  map_sound g b (x ∷ xs) (inl e) = (x, inl refl, e)
  map_sound g b (x ∷ xs) (inr h) = let r = map_sound g b xs h in (r.0, inr r.1, r.2)

  pub map_complete : (g : A → B) (a : A) (xs : List A) → In a xs → In (g a) (map g xs)
  map_complete g a [] h = absurd h
  map_complete g a (x ∷ xs) (inl e) = inl (ap g e)
  map_complete g a (x ∷ xs) (inr h) = inr (map_complete g a xs h)

  -- Lists one after the other have no repeats where each has none and no two share a member.
  pub distinct_joined : (f : A → List B) (xs : List A) → Distinct xs → ((a : A) → In a xs → Distinct (f a))
      → ((a c : A) (b : B) → In a xs → In c xs → In b (f a) → In b (f c) → a ≡ c) → Distinct (joined f xs)
  distinct_joined f [] d e h = tt
  distinct_joined f (x ∷ xs) d e h =
      distinct_append (f x) (joined f xs) (e x (inl refl))
      (distinct_joined f xs d.1 (λ a u. e a (inr u)) (λ a c b u v. h a c b (inr u) (inr v)))
      (λ b u v. let r = joined_sound f b xs v in
      d.0 (subst (λ (y : A). In y xs) (sym (h x r.0 b (inl refl) (inr r.1) u r.2)) r.1))

  -- A function that tells members apart keeps a list without repeats.
  pub distinct_map : (g : A → B) (xs : List A) → ((a c : A) → In a xs → In c xs → g a ≡ g c → a ≡ c) → Distinct xs
      → Distinct (map g xs)
  distinct_map g [] h d = tt
  distinct_map g (x ∷ xs) h d = (
    λ u. let r = map_sound g (g x) xs u in
        d.0 (subst (λ (y : A). In y xs) (sym (h x r.0 (inl refl) (inr r.1) r.2)) r.1),
    distinct_map g xs (λ a c u v. h a c (inr u) (inr v)) d.1,
  )

  -- A list whose image has no repeats has none.
  pub distinct_of_map : (g : A → B) (xs : List A) → Distinct (map g xs) → Distinct xs
  distinct_of_map g [] d = tt
  distinct_of_map g (x ∷ xs) d = (λ u. d.0 (map_complete g x xs u), distinct_of_map g xs d.1)

  pub map_append : (g : A → B) (xs ys : List A) → map g (xs ++ ys) ≡ map g xs ++ map g ys
  map_append g [] ys = refl
  map_append g (x ∷ xs) ys = ap (λ (l : List B). g x ∷ l) (map_append g xs ys)

  pub joined_length : (f : A → List B) (xs : List A) → length (joined f xs) ≡ total (λ a. length (f a)) xs
  joined_length f [] = refl
  joined_length f (x ∷ xs) = omega (arith, length-append (f x) (joined f xs), joined_length f xs)

-- The image of lists one after the other is their images one after the other.
pub map_joined : {A B C : Type 0} (g : B → C) (f : A → List B) (xs : List A)
    → map g (joined f xs) ≡ joined (λ a. map g (f a)) xs
map_joined g f [] = refl
map_joined {C = C} g f (x ∷ xs) =
    map_append g (f x) (joined f xs) ∙ ap (λ (l : List C). map g (f x) ++ l) (map_joined g f xs)

-- Numbers one after the other.

pub from_sound : (q k p : ℕ) → In p (from q k) → (q ≤ p) × (p < q + k)
from_sound q zero p h = absurd h
from_sound q (suc k) p (inl e) = (omega arith, omega arith)
from_sound q (suc k) p (inr h) = let r = from_sound (suc q) k p h in (omega arith, omega arith)

pub from_complete : (q k p : ℕ) → q ≤ p → p < q + k → In p (from q k)
from_complete q zero p h u = absurd (omega arith)
from_complete q (suc k) p h u = by_place (dec_lt q p) (λ l. from_complete (suc q) k p l (omega arith))
  where
    by_place : Dec (q < p) → (q < p → In p (from (suc q) k)) → In p (from q (suc k))
    by_place (yes l) later = inr (later l)
    by_place (no l) later = inl (omega arith)

-- The same for the numbers below n.
pub from0_sound : (n p : ℕ) → In p (from 0 n) → p < n
from0_sound n p h = omega (arith, (from_sound 0 n p h).1)

pub from0_complete : (n p : ℕ) → p < n → In p (from 0 n)
from0_complete n p h = from_complete 0 n p (omega arith) (omega arith)

pub distinct_from : (q k : ℕ) → Distinct (from q k)
distinct_from q zero = tt
distinct_from q (suc k) = (λ u. let r = from_sound (suc q) k q u in omega (arith, r.0), distinct_from (suc q) k)

pub from_length : (q k : ℕ) → length (from q k) ≡ k
from_length q zero = refl
from_length q (suc k) = ap suc (from_length (suc q) k)

pub from_append : (q j k : ℕ) → from q (j + k) ≡ from q j ++ from (q + j) k
from_append q zero k =
    let a : 0 + k ≡ k = omega arith in
    let b : q ≡ q + 0 = omega arith in
    ap (λ (i : ℕ). from q i) a ∙ ap (λ (i : ℕ). from i k) b
from_append q (suc j) k =
    let a : suc j + k ≡ suc (j + k) = omega arith in
    let b : suc q + j ≡ q + suc j = omega arith in
    ap (λ (i : ℕ). from q i) a
    ∙ ap (λ (l : List ℕ). q ∷ l) (from_append (suc q) j k ∙ ap (λ (i : ℕ). from (suc q) j ++ from i k) b)

-- A sum over numbers from one later on.
pub total_later : (f : ℕ → ℕ) (q n : ℕ) → total f (from (suc q) n) ≡ total (λ k. f (suc k)) (from q n)
total_later f q zero = refl
total_later f q (suc n) = ap (λ (x : ℕ). f (suc q) + x) (total_later f (suc q) n)

pub from_last : (k : ℕ) → from 0 (suc k) ≡ from 0 k ++ (k ∷ [])
from_last k =
    let a : suc k ≡ k + 1 = omega arith in
    let b : 0 + k ≡ k = omega arith in
    ap (λ (i : ℕ). from 0 i) a ∙ from_append 0 k 1 ∙ ap (λ (i : ℕ). from 0 k ++ (i ∷ [])) b

-- A list of numbers: its tests `has` and `distinct`.

pub has_sound : (x : ℕ) (ys : List ℕ) → has x ys ≡ true → In x ys
has_sound x [] e = absurd (false≢true e)
has_sound x (y ∷ ys) e =
    ⊎_elim (λ u. inl (eqb-true x y u)) (λ u. inr (has_sound x ys u)) (or_cases (eqb x y) (has x ys) e)

pub has_complete : (x : ℕ) (ys : List ℕ) → In x ys → has x ys ≡ true
has_complete x ys h = any_some (eqb x) x ys (eq-eqb x x refl) h

pub has_none : (x : ℕ) (ys : List ℕ) → (In x ys → ⊥) → has x ys ≡ false
has_none x ys h = by_test (has x ys) refl
  where
    by_test : (b : Bool) → has x ys ≡ b → has x ys ≡ false
    by_test true e = absurd (h (has_sound x ys e))
    by_test false e = e

pub distinct_complete : (xs : List ℕ) → Distinct xs → distinct xs ≡ true
distinct_complete [] d = refl
distinct_complete (x ∷ xs) d = rw (has_none x xs d.0) (distinct_complete xs d.1)

pub distinct_sound : (xs : List ℕ) → distinct xs ≡ true → Distinct xs
distinct_sound [] e = tt
distinct_sound (x ∷ xs) e =
    let new : has x xs ≡ false = not-true (has x xs) (and_left (not (has x xs)) (distinct xs) e) in
    (λ u. true≢false (sym (has_complete x xs u) ∙ new), distinct_sound xs (and_right (not (has x xs)) (distinct xs) e))
