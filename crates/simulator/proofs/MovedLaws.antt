-- The bits of a word, each for itself, are as many as the machine counts in one step; then the words of a table, one after the other.
-- Assumes nothing.
use mathlib.Core.Path.{◌≡◌, sym, ap, ◌∙◌}
use mathlib.Core.List.{List, [], ◌∷◌}
use Prim.Native.Nat.{ℕ, zero, suc, ◌+◌, ◌*◌, ◌/◌, ◌%◌, ◌^◌, ◌≤◌, ◌<◌}
use native.Mathlib.Nat.{two-pow-succ}
use native.Mathlib.Numerals.{add-one}
use native.Mathlib.Omega.{arith}
use lib.ListN.{length, get_or, take}
use lib.Count.{ones, ones_step, ones-le}
use lib.Seq.{take-suc, length-take-le}
use Rattle.lists.specs.Lists.{from, total}
use Rattle.lists.proofs.MembersLaws.{total_append, total_cong, total_later}
use Rattle.value.specs.Value.{bit_of}
use Rattle.value.proofs.ValueLaws.{bit_of-fits, bit_of-lowest, bit_of-half}
use Rattle.simulator.specs.Calls.{bits_set}

-- No more bits are set than there are.
pub bits_set-le : (b : ℕ) → bits_set b ≤ 64
unfolding bits_set
bits_set-le b = bits_le 0 64
  where
    bits_le : (q n : ℕ) → total (bit_of b) (from q n) ≤ n
    bits_le q zero = omega arith
    bits_le q (suc n) = omega (arith, bits_le (suc q) n, bit_of-fits b q)

-- A word's lowest bit and the bits of its half, counted on.
bits_ones : (n b : ℕ) → b < 2 ^ n → total (bit_of b) (from 0 n) ≡ ones b
bits_ones zero b h = omega (arith, ones-le 0 b h)
bits_ones (suc n) b h =
    let half : b / 2 < 2 ^ n = omega (arith, h, two-pow-succ n) in
    let above : total (bit_of b) (from 1 n) ≡ total (bit_of (b / 2)) (from 0 n) =
    total_later (bit_of b) 0 n ∙ total_cong (λ i. bit_of b (suc i)) (bit_of (b / 2)) (from 0 n) (bit_of-half b) in
    ap (λ (x : ℕ). x + total (bit_of b) (from 1 n)) (bit_of-lowest b)
    ∙ ap (λ (x : ℕ). b % 2 + x) (above ∙ bits_ones n (b / 2) half) ∙ sym (ones_step b)

pub bits_set-ones : (b : ℕ) → b < 2 ^ 64 → ones b ≡ bits_set b
unfolding bits_set
bits_set-ones b h = sym (bits_ones 64 b h)

-- The first words of a table, and one word more.
pub counted_next : (ws : List ℕ) (k n m : ℕ) → k < length ws → n ≡ bits_set (get_or ws k 0) → m ≡ total bits_set (take k ws)
    → m + n ≡ total bits_set (take (k + 1) ws)
counted_next ws k n m h e so_far =
    let d : total bits_set (take (k + 1) ws) ≡ total bits_set (take k ws) + (bits_set (get_or ws k 0) + 0) =
    ap (λ (l : List ℕ). total bits_set l) (ap (λ (j : ℕ). take j ws) (add-one k) ∙ take-suc ws k 0 h)
    ∙ total_append bits_set (take k ws) (get_or ws k 0 ∷ []) in
    omega (arith, d, e, so_far)

-- At most 64 for each of 256.
counted_le : (ws : List ℕ) → total bits_set ws ≤ 64 * length ws
counted_le [] = omega arith
counted_le (w ∷ ws) = omega (arith, counted_le ws, bits_set-le w)

pub counted_few : (ws : List ℕ) (n m : ℕ) → n ≤ length ws → n ≤ 256 → m ≡ total bits_set (take n ws) → m ≤ 16384
counted_few ws n m h f e = omega (arith, e, counted_le (take n ws), length-take-le n ws h)
