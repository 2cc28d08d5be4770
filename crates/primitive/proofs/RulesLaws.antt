-- Laws of the rules of the kinds: loops over a component's ports, and the Rust's folds.
-- Not here: that outputs fit their widths (FitLaws).
-- Assumes nothing.
use mathlib.Core.Path.{◌≡◌, refl, sym, ap, ◌∙◌}
use mathlib.Core.List.{List, [], ◌∷◌, ◌++◌, append_assoc, map}
use Prim.Native.Nat.{ℕ, zero, suc, ◌+◌, ◌*◌, ◌^◌, ◌≤◌, ◌<◌}
use native.Mathlib.Nat.{add-zero, zero-add, two-pow-succ, lt_of_lt_of_le}
use native.Mathlib.Numerals.{add-one}
use native.Mathlib.Omega.{arith}
use borrow.Author.Tests.{lt-ltb, le-ltb}
use lib.ListN.{length, get_or, set, drop, length-append, length-drop, length-map}
use lib.Pow.{pow_mono}
use lib.Seq.{drop-cons, drop-length}
use Rattle.std.proofs.lemmas.List.{drop_at}
use Rattle.std.specs.List.{push}
use Rattle.lists.specs.Lists.{from}
use Rattle.lists.proofs.MembersLaws.{from_length}
use Rattle.value.specs.Value.{level, bit_of}
use Rattle.value.proofs.ValueLaws.{level_le}
use Rattle.primitive.specs.Evaluate.{highs, join, split}
use Rattle.primitive.specs.Own.{high}

drop_end : (xs : List ℕ) (i : ℕ) → i ≤ length xs → length xs ≤ i → drop i xs ≡ []
drop_end xs i h l = let e : i ≡ length xs = omega arith in ap (λ (k : ℕ). drop k xs) e ∙ drop-length xs

-- The loop of `count_high`: what was counted, and the high ports still to come, are all high ports.
module _ (xs : List ℕ) (n i h : ℕ) (inside : i < length xs) (so_far : n + highs (drop i xs) ≡ h) where
  highs_drop : highs (drop i xs) ≡ level (high (get_or xs i 0)) + highs (drop (i + 1) xs)
  highs_drop = rw (add-one, drop-cons xs i 0 inside)

  pub highs_high : 0 < get_or xs i 0 → (n + 1) + highs (drop (i + 1) xs) ≡ h
  highs_high p = let e : level (high (get_or xs i 0)) ≡ 1 = rw (lt-ltb 0 (get_or xs i 0) p) in omega (arith, highs_drop)

  pub highs_low : get_or xs i 0 ≤ 0 → n + highs (drop (i + 1) xs) ≡ h
  highs_low p = let e : level (high (get_or xs i 0)) ≡ 0 = rw (le-ltb 0 (get_or xs i 0) p) in omega (arith, highs_drop)

pub highs_end : (xs : List ℕ) (n i h : ℕ) → i ≤ length xs → length xs ≤ i → n + highs (drop i xs) ≡ h → n ≡ h
highs_end xs n i h a b e = let z : highs (drop i xs) ≡ 0 = ap highs (drop_end xs i a b) in omega arith

pub join_lt : (xs : List ℕ) → join xs < 2 ^ length xs
join_lt [] = omega arith
join_lt (x ∷ xs) = rw two-pow-succ (omega (arith, join_lt xs, level_le (high x)))

-- The loop of `join`: before are the ports still to come, of which x is the last and rest are the others; what comes behind before is joined.
module _ (xs before rest : List ℕ) (x : ℕ) (whole : xs ≡ before ++ drop (length before) xs) (last : before ≡ push rest x) where
  split_last : xs ≡ rest ++ x ∷ drop (length before) xs
  split_last = whole ∙ ap (λ (l : List ℕ). l ++ drop (length before) xs) last ∙ append_assoc rest (x ∷ []) (drop (length before) xs)

  joined_next : drop (length rest) xs ≡ x ∷ drop (length before) xs
  joined_next = ap (drop (length rest)) split_last ∙ drop_at rest (x ∷ drop (length before) xs) (length rest) refl

  pub join_whole : xs ≡ rest ++ drop (length rest) xs
  join_whole = split_last ∙ ap (λ (l : List ℕ). rest ++ l) (sym joined_next)

  pub join_step : level (high x) + 2 * join (drop (length before) xs) ≡ join (drop (length rest) xs)
  join_step = ap join (sym joined_next)

  -- A number of at most 63 bits has room for one more.
  pub join_room : length xs ≤ 64 → join (drop (length before) xs) < 2 ^ 63
  join_room h =
      let k : length before ≡ length rest + 1 = ap length last ∙ length-append rest (x ∷ []) in
      lt_of_lt_of_le (join_lt (drop (length before) xs))
      (pow_mono {i = length (drop (length before) xs)} {j = 63} (simp length-drop (omega arith)))

-- What `split` leaves: as many outputs as there were, bit j of the number at output j.
pub split_length : (x n : ℕ) → length (split x n) ≡ n
split_length x n = length-map (from 0 n) (bit_of x) ∙ from_length 0 n

bits_at : (x q k j : ℕ) → j < k → get_or (map (bit_of x) (from q k)) j 0 ≡ bit_of x (q + j)
bits_at x q zero j h = absurd (omega arith)
bits_at x q (suc k) zero h = rw add-zero
bits_at x q (suc k) (suc j) h = let e : suc q + j ≡ q + suc j = omega arith in bits_at x (suc q) k j (omega arith) ∙ ap (bit_of x) e

pub split_at : (x n j : ℕ) → j < n → get_or (split x n) j 0 ≡ bit_of x j
split_at x n j h = bits_at x 0 n j h ∙ ap (bit_of x) (zero-add j)

pub set_only : (ys : List ℕ) (v : ℕ) → length ys ≡ 1 → set ys 0 v ≡ v ∷ []
set_only [] v e = absurd (omega arith)
set_only (y ∷ []) v e = refl
set_only (y ∷ (z ∷ zs)) v e = absurd (omega arith)
