-- Laws of a list that stands in a table and a count: looking through it, one entry more, one struck, and laid over
-- another.
-- Not here: laws of length, get_or, take, drop and set (lib.ListN, lib.Seq).
-- Assumes nothing.
use mathlib.Core.Path.{◌≡◌, refl, sym, ◌∙◌}
use mathlib.Core.Bool.{Bool, true, false, not, ◌||◌}
use mathlib.Core.Logic.{◌⊎◌, inl, inr}
use mathlib.Core.List.{List, [], ◌∷◌, ◌++◌, append-nil}
use Prim.Native.Nat.{ℕ, suc, ◌+◌, ◌≤◌, ◌<◌}
use native.Mathlib.Nat.{le_refl}
use native.Mathlib.Numerals.{add-one}
use native.Mathlib.Omega.{arith}
use borrow.Author.Tests.{eq-eqb, ne_eqb}
use lib.ListN.{length, get_or, take, drop, set, length-append, take-append-drop}
use lib.Seq.{take_all, take-length, take-suc, take-suc-set, set_split, append_snoc, get_or-set_other, length-take-le, drop-cons, set_at}
use lib.Dec.{eqb}
use Rattle.std.proofs.lemmas.Bool.Decides.{nat_tests}
use Rattle.std.specs.List.{list_any}
use Rattle.lists.proofs.OverlayLaws.{overlay_front}
use Rattle.lists.specs.Lists.{has, append_new, strike, overlay}
use Rattle.lists.proofs.ListsLaws.{keep_append}

-- A list in two parts.
pub has_append : (x : ℕ) (xs ys : List ℕ) → has x (xs ++ ys) ≡ (has x xs || has x ys)
has_append x [] ys = refl
has_append x (y ∷ xs) ys = by_test (eqb x y) (has_append x xs ys)
  where
    by_test : (b : Bool) → has x (xs ++ ys) ≡ (has x xs || has x ys)
        → (b || has x (xs ++ ys)) ≡ ((b || has x xs) || has x ys)
    by_test true e = refl
    by_test false e = e

pub strike_append : (x : ℕ) (xs ys : List ℕ) → strike x (xs ++ ys) ≡ strike x xs ++ strike x ys
unfolding strike
strike_append x xs ys = keep_append (λ y. not (eqb x y)) xs ys

-- A count that is cut to the length of the table, as a loop's end, names the same entries.
pub cut_end : (t : List ℕ) (n e : ℕ) → ((e ≡ n) × (n < length t)) ⊎ ((length t ≤ n) × (e ≡ length t))
    → (e ≤ length t) × (take e t ≡ take n t)
cut_end t n e (inl h) = (omega (arith, h.0), rw h.0)
cut_end t n e (inr h) = (omega (arith, h.1), rw (h.1, take-length, take_all n t h.0))

-- What the library's `contains` answers for x: whether the list has it.
has_any : (x : ℕ) (ys : List ℕ) → has x ys ≡ list_any (λ y. eqb y x) ys
has_any x [] = refl
has_any x (y ∷ ys) = rw (eqb_swapped x y, has_any x ys)
  where
    eqb_swapped : (x y : ℕ) → eqb x y ≡ eqb y x
    eqb_swapped x y = grind (arith, nat_tests)

pub has_found : (x : ℕ) (ys : List ℕ) (b : Bool) → b ≡ list_any (λ y. eqb y x) ys → has x ys ≡ b
has_found x ys b e = has_any x ys ∙ sym e

-- Appending x to the first n entries.
module _ (t : List ℕ) (n x : ℕ) (small : n ≤ length t) where
  -- It is there: the list stays.
  pub append_there : has x (take n t) ≡ true
      → (n ≡ length (append_new x (take n t))) × (t ≡ overlay (append_new x (take n t)) t)
  unfolding append_new overlay
  append_there e =
      let k : length (take n t) ≡ n = length-take-le n t small in
      rw e (sym k, rw k (sym (take-append-drop n t)))

  -- It is new: one more.
  pub append_length : has x (take n t) ≡ false → length (append_new x (take n t)) ≡ n + 1
  unfolding append_new
  append_length e =
      let k : length (take n t) ≡ n = length-take-le n t small in
      rw (e, length-append, k)

  pub append_more : has x (take n t) ≡ false → n < length t
      → (n + 1 ≡ length (append_new x (take n t))) × (set t n x ≡ overlay (append_new x (take n t)) t)
  unfolding append_new overlay
  append_more e h =
      let k : length (take n t) ≡ n = length-take-le n t small in
      rw (e, length-append, k, add-one) (refl, set_split t n x h ∙ sym (append_snoc (take n t) x (drop (suc n) t)))

-- The strike of one entry, and of one entry more.
strike_one_other : (x y : ℕ) → (x ≡ y → ⊥) → strike x (y ∷ []) ≡ y ∷ []
unfolding strike
strike_one_other x y n = rw (ne_eqb x y n)

strike_one_same : (x y : ℕ) → x ≡ y → strike x (y ∷ []) ≡ []
unfolding strike
strike_one_same x y e = rw (eq-eqb x y e)

module _ (t : List ℕ) (i x : ℕ) (h : i < length t) where
  pub strike_other : (x ≡ get_or t i 0 → ⊥) → strike x (take (i + 1) t) ≡ strike x (take i t) ++ get_or t i 0 ∷ []
  strike_other n = rw (add-one, take-suc t i 0, strike_append, strike_one_other x (get_or t i 0) n)

  pub strike_same : x ≡ get_or t i 0 → strike x (take (i + 1) t) ≡ strike x (take i t)
  strike_same e = rw (add-one, take-suc t i 0, strike_append, strike_one_same x (get_or t i 0) e, append-nil)

-- A turn of the strike: t is the table as it came, u as it is, of which the first o entries are those left so far.
module _ (t u : List ℕ) (i o x : ℕ) (b : i < length t) (small : o ≤ i) (long : length u ≡ length t)
    (left : take o u ≡ strike x (take i t)) (rest : (k : ℕ) → i ≤ k → get_or u k 0 ≡ get_or t k 0) where
  pub strike_left : (x ≡ get_or u i 0 → ⊥) → take (o + 1) (set u o (get_or u i 0)) ≡ strike x (take (i + 1) t)
  strike_left ne =
      let e : get_or u i 0 ≡ get_or t i 0 = rest i (le_refl i) in
      let h : o < length u = omega arith in
      rw (add-one o, take-suc-set u o (get_or u i 0), left, e) (sym (strike_other t i x b (λ q. ne (q ∙ sym e))))

  pub strike_rest : (k : ℕ) → i + 1 ≤ k → get_or (set u o (get_or u i 0)) k 0 ≡ get_or t k 0
  strike_rest k h = get_or-set_other u o k (get_or u i 0) 0 (λ q. omega arith) ∙ rest k (omega arith)

  pub strike_gone : x ≡ get_or u i 0 → take o u ≡ strike x (take (i + 1) t)
  strike_gone e = left ∙ sym (strike_same t i x b (e ∙ rest i (le_refl i)))

-- A list laid over a table is at its front, and no longer than it.
pub overlay_list : (xs t : List ℕ) (r : ℕ) → r ≡ length xs → take r (overlay xs t) ≡ xs
overlay_list xs t r e = rw e (overlay_front xs t)

pub overlay_count : (xs t : List ℕ) (r : ℕ) → r ≡ length xs → r ≤ length (overlay xs t)
unfolding overlay
overlay_count xs t r e = simp length-append (omega arith)

-- No entry of s laid over t, and one entry more.
pub overlay_start : (t : List ℕ) → t ≡ overlay [] t
unfolding overlay
overlay_start t = refl

pub overlay_step : (s t : List ℕ) (i : ℕ) → i < length s → i < length t
    → set (overlay (take i s) t) i (get_or s i 0) ≡ overlay (take (i + 1) s) t
unfolding overlay
overlay_step s t i hs ht =
    let k : length (take i s) ≡ i = length-take-le i s (omega arith) in
    let k' : length (take (suc i) s) ≡ suc i = length-take-le (suc i) s hs in
    let a : set (take i s ++ drop i t) i (get_or s i 0) ≡ take i s ++ get_or s i 0 ∷ drop (suc i) t =
    rw (drop-cons t i 0 ht) (set_at (take i s) (get_or t i 0) (drop (suc i) t) (get_or s i 0) i k) in
    let b : take (suc i) s ++ drop (suc i) t ≡ take i s ++ get_or s i 0 ∷ drop (suc i) t =
    rw (take-suc s i 0 hs) (append_snoc (take i s) (get_or s i 0) (drop (suc i) t)) in
    rw (add-one, k, k') (a ∙ sym b)
