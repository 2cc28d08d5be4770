-- A component's ports in a table, k numbers from a place: a store elsewhere leaves them, a store there is them.
--   Off a k j   j is none of the k places from a
-- Assumes nothing.
use mathlib.Core.Path.{◌≡◌, refl, sym, ap, ◌∙◌}
use mathlib.Core.Logic.{◌⊎◌, inl, inr}
use mathlib.Core.Bool.{true}
use mathlib.Core.List.{List, [], ◌∷◌}
use Prim.Native.Nat.{ℕ, zero, suc, ◌+◌, ◌≤◌, ◌<◌}
use native.Mathlib.Omega.{arith}
use lib.ListN.{length, get_or, take, set, length-set}
use lib.Seq.{sets, length-sets, get_or-set_same, get_or-set_other, get_or-take, get_or-drop, length-slice, ext_get_or}
use Rattle.lists.proofs.MembersLaws.{In, in-get_or, get_or-in, every_sound, every_complete}
use Rattle.value.specs.Value.{fits, of_width, all_fit}
use Rattle.tables.specs.Tables.{numbers}

-- j is none of the k places from a.
abbrev pub Off : ℕ → ℕ → ℕ → Type 0
Off a k j = (j < a) ⊎ (a + k ≤ j)

-- So it is not the i-th of them.
pub off_apart : (a k j i : ℕ) → Off a k j → i < k → a + i ≡ j → ⊥
off_apart a k j i (inl o) h e = omega arith
off_apart a k j i (inr o) h e = omega arith

-- A run of stores leaves every other place, and holds what was stored at its own.
pub sets_at_ne : (vs l : List ℕ) (i j : ℕ) → Off i (length vs) j → get_or (sets l i vs) j 0 ≡ get_or l j 0
sets_at_ne [] l i j h = refl
sets_at_ne (v ∷ vs) l i j (inl h) = sets_at_ne vs (set l i v) (suc i) j (inl (omega arith))
    ∙ get_or-set_other l i j v 0 (omega arith)
sets_at_ne (v ∷ vs) l i j (inr h) = sets_at_ne vs (set l i v) (suc i) j (inr (omega arith))
    ∙ get_or-set_other l i j v 0 (omega arith)

pub sets_at : (vs l : List ℕ) (i j : ℕ) → i + length vs ≤ length l → j < length vs
    → get_or (sets l i vs) (i + j) 0 ≡ get_or vs j 0
sets_at [] l i j h u = absurd (omega arith)
sets_at (v ∷ vs) l i zero h u =
    let e : i + zero ≡ i = omega arith in
    ap (λ (k : ℕ). get_or (sets (set l i v) (suc i) vs) k 0) e
    ∙ sets_at_ne vs (set l i v) (suc i) i (inl (omega arith))
    ∙ get_or-set_same l i v 0 (omega arith)
sets_at (v ∷ vs) l i (suc j) h u =
    let e : i + suc j ≡ suc i + j = omega arith in
    ap (λ (k : ℕ). get_or (sets (set l i v) (suc i) vs) k 0) e
    ∙ sets_at vs (set l i v) (suc i) j (omega (arith, length-set l i v)) (omega arith)

module _ (l : List ℕ) (a k : ℕ) (room : a + k ≤ length l) where
  pub numbers_length : length (numbers l a k) ≡ k
  numbers_length = length-slice a (a + k) l room ∙ omega arith

  pub numbers_at : (i : ℕ) → i < k → get_or (numbers l a k) i 0 ≡ get_or l (a + i) 0
  numbers_at i h = get_or-drop a (take (a + k) l) i 0 ∙ get_or-take (a + k) l (a + i) 0 (omega arith)

  -- All numbers fit a width exactly where each place's does.
  pub numbers_fit_at : (w : ℕ) → all_fit w (numbers l a k) ≡ true → (i : ℕ) → i < k → fits (of_width w (get_or l (a + i) 0)) ≡ true
  numbers_fit_at w e i h =
      let b : fits (of_width w (get_or (numbers l a k) i 0)) ≡ true
      = every_sound (λ x. fits (of_width w x)) (get_or (numbers l a k) i 0) (numbers l a k) e
      (in-get_or (numbers l a k) i 0 (omega (arith, numbers_length))) in
      ap (λ (x : ℕ). fits (of_width w x)) (sym (numbers_at i h)) ∙ b

  pub numbers_fit : (w : ℕ) → ((i : ℕ) → i < k → fits (of_width w (get_or l (a + i) 0)) ≡ true) → all_fit w (numbers l a k) ≡ true
  numbers_fit w f = every_complete (λ x. fits (of_width w x)) (numbers l a k) each
    where
      each : (x : ℕ) → In x (numbers l a k) → fits (of_width w x) ≡ true
      each x h =
          let r = get_or-in x (numbers l a k) 0 h in
          let u : r.0 < k = omega (arith, r.1, numbers_length) in
          ap (λ (y : ℕ). fits (of_width w y)) (r.2 ∙ numbers_at r.0 u) ∙ f r.0 u

-- Tables that hold the same at the k places from a have the same numbers there.
pub numbers_cong : (l m : List ℕ) (a k : ℕ) → a + k ≤ length l → a + k ≤ length m
    → ((i : ℕ) → i < k → get_or l (a + i) 0 ≡ get_or m (a + i) 0) → numbers l a k ≡ numbers m a k
numbers_cong l m a k h u f =
    ext_get_or 0 (numbers l a k) (numbers m a k) (numbers_length l a k h ∙ sym (numbers_length m a k u)) each
  where
    each : (i : ℕ) → i < length (numbers l a k) → get_or (numbers l a k) i 0 ≡ get_or (numbers m a k) i 0
    each i q =
        let z : i < k = omega (arith, numbers_length l a k h) in
        numbers_at l a k h i z ∙ f i z ∙ sym (numbers_at m a k u i z)

-- A store to another place leaves them.
pub numbers_set : (l : List ℕ) (a k j v : ℕ) → a + k ≤ length l → Off a k j → numbers (set l j v) a k ≡ numbers l a k
numbers_set l a k j v h o =
    numbers_cong (set l j v) l a k (omega (arith, length-set l j v)) h
    (λ i u. get_or-set_other l j (a + i) v 0 (off_apart a k j i o u))

-- So does a run of stores to other places.
pub numbers_sets : (l : List ℕ) (a k i : ℕ) (vs : List ℕ) → a + k ≤ length l → (i + length vs ≤ a) ⊎ (a + k ≤ i)
    → numbers (sets l i vs) a k ≡ numbers l a k
numbers_sets l a k i vs h o =
    numbers_cong (sets l i vs) l a k (omega (arith, length-sets l i vs)) h
    (λ j u. sets_at_ne vs l i (a + j) (apart o j u))
  where
    apart : (i + length vs ≤ a) ⊎ (a + k ≤ i) → (j : ℕ) → j < k → Off i (length vs) (a + j)
    apart (inl q) j u = inr (omega arith)
    apart (inr q) j u = inl (omega arith)

-- A run of stores to them is what was stored.
pub numbers_sets_same : (l : List ℕ) (a k : ℕ) (vs : List ℕ) → length vs ≡ k → a + k ≤ length l
    → numbers (sets l a vs) a k ≡ vs
numbers_sets_same l a k vs e h =
    ext_get_or 0 (numbers (sets l a vs) a k) vs (numbers_length (sets l a vs) a k room ∙ sym e) each
  where
    room : a + k ≤ length (sets l a vs)
    room = omega (arith, length-sets l a vs)

    each : (i : ℕ) → i < length (numbers (sets l a vs) a k) → get_or (numbers (sets l a vs) a k) i 0 ≡ get_or vs i 0
    each i q =
        let z : i < k = omega (arith, numbers_length (sets l a vs) a k room) in
        numbers_at (sets l a vs) a k room i z ∙ sets_at vs l a i (omega arith) (omega arith)
