-- Laws of a value, over every width: shifts and powers of two, what fits, the complement's bits.
-- Not here: laws of 2 ^ k alone (lib.Pow).
-- Assumes nothing.
use mathlib.Core.Path.{◌≡◌, ◌∙◌, refl, sym, ap, subst}
use mathlib.Core.Bool.{Bool, true, false, cond}
use Prim.Native.Nat.{ℕ, suc, ◌+◌, ◌-◌, ◌*◌, ◌/◌, ◌%◌, ◌^◌, ◌≤◌, ◌<◌}
use native.Mathlib.Nat.{one-mul, div-one, div-eq_of_lt, div-lt_iff_lt-mul, lt_of_lt_of_le, add-mul, mod-lt, pow-suc}
use native.Mathlib.Decide.{dec_lt}
use native.Mathlib.Omega.{arith}
use borrow.Author.Tests.{lt-ltb, le-ltb, eq-eqb, ne_eqb, ltb-true}
use lib.Dec.{eqb, ltb}
use lib.Pow.{pow_pos, pow_mono, shl_exact, shr_lt, shr-shr, ones_split, split}
use lib.Arith.{digits_div}
use Rattle.lists.specs.Lists.{within}
use Rattle.lists.proofs.ListsLaws.{within_most}
use Rattle.lists.proofs.TestsLaws.{and_left, and_right, and_both}
use Rattle.value.specs.declared.Value.{Value}
use Rattle.value.specs.Value.{widest, level, ones, below, fits, bit_of, of_width, complement}

-- The complement of a value that fits.
abbrev flipped : Value → Value
flipped v = of_width v.width (ones v.width - v.number)

-- One moved up k places is the power, where that fits a word.
pub one_shl : (k : ℕ) → k < 64 → 1 * 2 ^ k % 2 ^ 64 ≡ 2 ^ k
one_shl k h = shl_exact 1 k 64 (omega arith) (omega arith) ∙ one-mul (2 ^ k)

-- The code's word of all ones, below 64 bits.
pub shl_ones : (k : ℕ) → k < 64 → 1 * 2 ^ k % 2 ^ 64 - 1 ≡ ones k
shl_ones k h = rw one_shl

-- What is left after k places are moved out is nothing exactly for the numbers below the power.
pub shr_none : (n k : ℕ) → eqb (n / 2 ^ k) 0 ≡ below n k
shr_none n k = by_size (dec_lt n (2 ^ k))
  where
    by_size : Dec (n < 2 ^ k) → eqb (n / 2 ^ k) 0 ≡ below n k
    by_size (yes h) = eq-eqb _ _ (div-eq_of_lt h) ∙ sym (lt-ltb _ _ h)
    by_size (no h) =
        ne_eqb (n / 2 ^ k) 0
        (λ e. h (rw one-mul at ((div-lt_iff_lt-mul {x = n} {y = 1} (pow_pos k)).0 (rw e (omega arith)))))
        ∙ sym (le-ltb n (2 ^ k) (omega arith))

-- A number of w bits lies below every further power,
pub further_below : (n w k : ℕ) → n < 2 ^ w → w ≤ k → n < 2 ^ k
further_below n w k h g = lt_of_lt_of_le h (pow_mono g)

-- and has no bit past them.
pub no_bit : (n w k : ℕ) → n < 2 ^ w → w ≤ k → 0 ≡ bit_of n k
no_bit n w k h g = rw (div-eq_of_lt (further_below n w k h g))

pub below_lt : (n w : ℕ) → below n w ≡ true → n < 2 ^ w
below_lt n w e = ltb-true n (2 ^ w) e

pub level_le : (b : Bool) → level b ≤ 1
level_le true = omega arith
level_le false = omega arith

pub bit_of-fits : (n i : ℕ) → bit_of n i < 2 ^ 1
bit_of-fits n i = mod-lt (n / 2 ^ i) (omega arith)

-- Bit 0 is the lowest, and bit i + 1 of a number is bit i of its half.
pub bit_of-lowest : (n : ℕ) → bit_of n 0 ≡ n % 2
bit_of-lowest n = ap (λ (x : ℕ). x % 2) (div-one n)

pub bit_of-half : (n i : ℕ) → bit_of n (suc i) ≡ bit_of (n / 2) i
bit_of-half n i =
    let e : 1 + i ≡ suc i = omega arith in
    ap (λ (x : ℕ). x % 2) (sym (shr-shr n 1 i ∙ ap (λ (k : ℕ). n / 2 ^ k) e))

-- What a value that fits has: a width of a port, and a number below its power.
module _ (v : Value) (e : fits v ≡ true) where
  pub fits_widest : v.width ≤ widest
  fits_widest = within_most 1 widest v.width (and_left (within 1 widest v.width) (below v.number v.width) e)

  pub fits_below : v.number < 2 ^ v.width
  fits_below = below_lt v.number v.width (and_right (within 1 widest v.width) (below v.number v.width) e)

  flipped_fits : (flipped v).number < 2 ^ v.width
  flipped_fits = omega (arith, pow_pos v.width)

  flipped_twice : (flipped (flipped v)).number ≡ v.number
  flipped_twice = omega (arith, fits_below)

-- The complement of a number that lies below 2^width lies below it too.
pub complement_fits : (v : Value) → below v.number v.width ≡ true → below (complement v).number v.width ≡ true
complement_fits v b = by_fit (fits v) refl
  where
    by_fit : (q : Bool) → fits v ≡ q → below (complement v).number v.width ≡ true
    by_fit true q = rw q (lt-ltb (flipped v).number (2 ^ v.width) (flipped_fits v q))
    by_fit false q = rw q b

-- One less than an even number, less a number below it, is odd where that is even.
odd : (m q p : ℕ) → p ≡ m * 2 → q < p → (p - 1 - q) % 2 ≡ 1 - q % 2
odd m q p e h = omega arith

-- The upper digits of the complement are the complement of the upper digits.
flip_shr : (j k n : ℕ) → n < 2 ^ (j + k) → (2 ^ (j + k) - 1 - n) / 2 ^ k ≡ 2 ^ j - 1 - n / 2 ^ k
flip_shr j k n h =
    let d : ℕ = 2 ^ j - 1 - n / 2 ^ k in
    let whole : 2 ^ j - 1 ≡ n / 2 ^ k + d = omega (arith, shr_lt j k h) in
    let a : 2 ^ (j + k) - 1 ≡ (n / 2 ^ k * 2 ^ k + d * 2 ^ k) + (2 ^ k - 1) =
    ones_split j k ∙ ap (λ (x : ℕ). x * 2 ^ k + (2 ^ k - 1)) whole
    ∙ ap (λ (x : ℕ). x + (2 ^ k - 1)) (add-mul (n / 2 ^ k) d (2 ^ k)) in
    let e : 2 ^ (j + k) - 1 - n ≡ d * 2 ^ k + (2 ^ k - 1 - n % 2 ^ k) =
    omega (arith, a, split n k, mod-lt n (pow_pos k), pow_pos k) in
    ap (λ (x : ℕ). x / 2 ^ k) e ∙ digits_div d (omega (arith, pow_pos k))

-- Each bit of the width is flipped.
flipped_bit : (v : Value) (i : ℕ) → v.number < 2 ^ v.width → i < v.width
    → bit_of (flipped v).number i ≡ 1 - bit_of v.number i
flipped_bit v i h l =
    let n : ℕ = v.number in
    let j : ℕ = v.width - i - 1 in
    let e : v.width ≡ suc j + i = omega arith in
    let b : n < 2 ^ (suc j + i) = subst (λ (x : ℕ). n < 2 ^ x) e h in
    let f : (2 ^ v.width - 1 - n) / 2 ^ i ≡ 2 ^ suc j - 1 - n / 2 ^ i =
    ap (λ (x : ℕ). (2 ^ x - 1 - n) / 2 ^ i) e ∙ flip_shr (suc j) i n b in
    ap (λ (x : ℕ). x % 2) f ∙ odd (2 ^ j) (n / 2 ^ i) (2 ^ suc j) (pow-suc 2 j) (shr_lt (suc j) i b)

-- The complement of a value that fits, at every width: it fits, its bits are the other ones below the width and the same past it, and it is undone by itself.
module _ (v : Value) (e : fits v ≡ true) where
  complement_is : complement v ≡ flipped v
  complement_is = rw e

  flipped_value : fits (flipped v) ≡ true
  flipped_value =
      and_both (within 1 widest v.width) (below (flipped v).number v.width)
      (and_left (within 1 widest v.width) (below v.number v.width) e) (lt-ltb (flipped v).number (2 ^ v.width) (flipped_fits v e))

  pub complement_value : fits (complement v) ≡ true
  complement_value = ap fits complement_is ∙ flipped_value

  pub complement_bit : (i : ℕ) → bit_of (complement v).number i ≡ cond (ltb i v.width) (1 - bit_of v.number i) (bit_of v.number i)
  complement_bit i = ap (λ (u : Value). bit_of u.number i) complement_is ∙ by_place (dec_lt i v.width)
    where
      by_place : Dec (i < v.width) → bit_of (flipped v).number i ≡ cond (ltb i v.width) (1 - bit_of v.number i) (bit_of v.number i)
      by_place (yes l) = rw (lt-ltb i v.width l) (flipped_bit v i (fits_below v e) l)
      by_place (no h) =
          let g : v.width ≤ i = omega arith in
          rw (le-ltb i v.width g)
          (sym (no_bit (flipped v).number v.width i (flipped_fits v e) g) ∙ no_bit v.number v.width i (fits_below v e) g)

  pub complement_twice : complement (complement v) ≡ v
  complement_twice =
      let n = flipped_twice v e in
      ap complement complement_is ∙ ap (λ (b : Bool). cond b (flipped (flipped v)) (flipped v)) flipped_value ∙ ap (of_width v.width) n
