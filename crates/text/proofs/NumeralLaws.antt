-- The fewest digits that hold a number of 64 bits are its numeral.
-- Assumes nothing.
use mathlib.Core.Path.{◌≡◌, refl, sym, ap, subst, ◌∙◌}
use mathlib.Core.Bool.{cond}
use mathlib.Core.List.{List, [], ◌∷◌, ◌++◌}
use Prim.Native.Nat.{ℕ, zero, suc, ◌+◌, ◌-◌, ◌/◌, ◌%◌, ◌^◌, ◌≤◌, ◌<◌}
use native.Mathlib.Nat.{pow-suc, pow-le-pow_right, le-div_iff_mul-le, div-lt_iff_lt-mul, mod-lt, mod-eq_of_lt}
use native.Mathlib.Decide.{dec_lt}
use native.Mathlib.Omega.{arith}
use borrow.Author.Tests.{lt-ltb, le-ltb}
use Rattle.io.specs.Digits.{hex_digit_ascii, last_digits, IsDigitCount}
use Rattle.text.specs.Text.{numeral_of, numeral}

-- A digit below ten.
glyph_small : (d : ℕ) → d < 10 → hex_digit_ascii d ≡ 48 + d
glyph_small d h = ap (λ b. cond b (48 + d) (87 + d)) (lt-ltb d 10 h)

-- As many digits as the number needs are all of them, by the last digit and the digits of the tenth part.
fewest_digits : (k most n : ℕ) → n < 10 ^ suc k → (0 < k → 10 ^ k ≤ n) → k < most
    → last_digits 10 (suc k) n ≡ numeral_of most n
fewest_digits k zero n below above h = absurd (omega arith)
fewest_digits zero (suc most) n below above h =
    let small : n < 10 = below in
    ap (λ (d : ℕ). hex_digit_ascii d ∷ []) (mod-eq_of_lt small) ∙ ap (λ (d : ℕ). d ∷ []) (glyph_small n small)
    ∙ sym (ap (λ b. cond b ((48 + n) ∷ []) (numeral_of most (n / 10) ++ ((48 + n % 10) ∷ []))) (lt-ltb n 10 small))
fewest_digits (suc k) (suc most) n below above h =
    let least : 10 ^ suc k ≤ n = above (omega arith) in
    let big : 10 ≤ n = omega (arith, pow-le-pow_right {n = 10} (omega arith) {i = 1} {j = suc k} (omega arith)) in
    ap (λ (l : List ℕ). l ++ (hex_digit_ascii (n % 10) ∷ []))
    (fewest_digits k most (n / 10)
    ((div-lt_iff_lt-mul (omega arith)).1 (subst (λ (m : ℕ). n < m) (pow-suc 10 (suc k)) below))
    (λ _. (le-div_iff_mul-le (omega arith)).1 (subst (λ (m : ℕ). m ≤ n) (pow-suc 10 k) least)) (omega arith))
    ∙ ap (λ (d : ℕ). numeral_of most (n / 10) ++ (d ∷ [])) (glyph_small (n % 10) (mod-lt n (omega arith)))
    ∙ sym (ap (λ b. cond b ((48 + n) ∷ []) (numeral_of most (n / 10) ++ ((48 + n % 10) ∷ []))) (le-ltb n 10 big))

-- A number of 64 bits has at most 20 digits.
at_most : (k n : ℕ) → IsDigitCount 10 1 n k → n < 2 ^ 64 → k ≤ 20
at_most k n f fits = by_size (dec_lt 20 k)
  where
    by_size : Dec (20 < k) → k ≤ 20
    by_size (no h) = omega arith
    by_size (yes h) =
        let least : 10 ^ (k - 1) ≤ n = f.2 (omega arith) in
        let more : 10 ^ 20 ≤ 10 ^ (k - 1) =
        pow-le-pow_right {n = 10} (omega arith) {i = 20} {j = k - 1} (omega arith) in
        omega arith

pub fewest_numeral : (k n : ℕ) → IsDigitCount 10 1 n k → n < 2 ^ 64 → last_digits 10 k n ≡ numeral n
unfolding numeral
fewest_numeral zero n f fits = absurd (omega (arith, f.0))
fewest_numeral (suc k) n f fits =
    fewest_digits k 20 n f.1 (λ few. subst (λ (m : ℕ). 10 ^ m ≤ n) (omega arith) (f.2 (omega arith)))
    (at_most (suc k) n f fits)

-- Two numerals.
numeral_zero : numeral 0 ≡ 48 ∷ []
unfolding numeral
numeral_zero = refl

numeral_120 : numeral 120 ≡ 49 ∷ 50 ∷ 48 ∷ []
unfolding numeral
numeral_120 = refl
