-- Which outputs changed: bit i is set exactly where output i did. Then a word in which a bit is set, and the loop of `split`.
-- Assumes nothing.
use mathlib.Core.Path.{◌≡◌, refl, sym, ap, subst, ◌∙◌}
use mathlib.Core.Bool.{Bool, true, false, not, ◌&&◌}
use mathlib.Core.List.{List, [], ◌∷◌, ◌++◌, append-nil}
use Prim.Native.Nat.{ℕ, zero, suc, ◌+◌, ◌*◌, ◌/◌, ◌%◌, ◌^◌, ◌≤◌, ◌<◌}
use native.Mathlib.Nat.{zero-add, add_comm, div-eq_of_lt, two-pow-succ}
use native.Mathlib.Numerals.{add-one}
use native.Mathlib.Omega.{arith}
use borrow.Author.Tests.{eq-eqb, ltb-true, ltb-false}
use lib.ListN.{length, get_or, set, take, drop, get_or-eq_default}
use lib.Dec.{eqb, ltb}
use lib.Bits.{bit_or, or_shifted_r}
use lib.Pow.{pow_pos, shl_exact}
use lib.Seq.{drop-length, take-length, length-take-le, paste-suc}
use Rattle.value.specs.Value.{level, bit_of}
use Rattle.value.proofs.ValueLaws.{level_le, bit_of-lowest, bit_of-half}
use Rattle.kinds.specs.declared.table.Fields.{Fields}
use Rattle.primitive.specs.Evaluate.{outputs_after, moved, moved_outputs}

-- The lowest bit of a number b + 2 * m is b, and the bits above are those of m.
bit_first : (b m : ℕ) → b ≤ 1 → bit_of (b + 2 * m) 0 ≡ b
bit_first b m h =
    let low : (b + 2 * m) % 2 ≡ b = omega arith in
    bit_of-lowest (b + 2 * m) ∙ low

bit_later : (b m j : ℕ) → b ≤ 1 → bit_of (b + 2 * m) (suc j) ≡ bit_of m j
bit_later b m j h =
    let half : (b + 2 * m) / 2 ≡ m = omega arith in
    bit_of-half (b + 2 * m) j ∙ ap (λ (n : ℕ). bit_of n j) half

-- Bit i of the bits of two lists is set exactly where the numbers at i differ; there are no others.
moved_bit : (ys zs : List ℕ) → length ys ≡ length zs → (i : ℕ) → bit_of (moved ys zs) i ≡ level (not (eqb (get_or ys i 0) (get_or zs i 0)))
moved_bit [] [] l i = ap (λ (x : ℕ). x % 2) (div-eq_of_lt (pow_pos i))
moved_bit [] (z ∷ zs) l i = absurd (omega arith)
moved_bit (y ∷ ys) [] l i = absurd (omega arith)
moved_bit (y ∷ ys) (z ∷ zs) l zero = bit_first (level (not (eqb y z))) (moved ys zs) (level_le (not (eqb y z)))
moved_bit (y ∷ ys) (z ∷ zs) l (suc j) =
    bit_later (level (not (eqb y z))) (moved ys zs) j (level_le (not (eqb y z))) ∙ moved_bit ys zs (omega arith) j

-- The same for two lists of n numbers, which are y and z at j where that is below n.
pub moved_port : (ys zs : List ℕ) (n : ℕ) → length ys ≡ n → length zs ≡ n → (j y z : ℕ) → (j < n → get_or ys j 0 ≡ y) → (j < n → get_or zs j 0 ≡ z)
    → bit_of (moved ys zs) j ≡ level (ltb j n && not (eqb y z))
moved_port ys zs n l m j y z at-ys at-zs = moved_bit ys zs (l ∙ sym m) j ∙ by_port (ltb j n) refl
  where
    by_port : (b : Bool) → ltb j n ≡ b → level (not (eqb (get_or ys j 0) (get_or zs j 0))) ≡ level (b && not (eqb y z))
    by_port true e = let h = ltb-true j n e in rw (at-ys h, at-zs h)
    by_port false e =
        let h = ltb-false j n e in
        let none_ys : get_or ys j 0 ≡ 0 = get_or-eq_default ys 0 (omega (arith, l)) in
        let none_zs : get_or zs j 0 ≡ 0 = get_or-eq_default zs 0 (omega (arith, m)) in
        rw (none_ys, none_zs)

-- The bits of an evaluation that leaves the outputs zs.
pub moved_outputs_lem : (f : Fields) (xs ys zs : List ℕ) (t : ℕ) → zs ≡ outputs_after f xs ys t → moved ys zs ≡ moved_outputs f xs ys t
unfolding moved_outputs
moved_outputs_lem f xs ys zs t e = ap (moved ys) e

-- Nothing moves where nothing is written.
pub moved_none : (ys : List ℕ) → moved ys ys ≡ 0
moved_none [] = refl
moved_none (y ∷ ys) = rw (eq-eqb y y refl, moved_none ys)

-- One output.
pub moved_only : (ys : List ℕ) (v b : ℕ) → length ys ≡ 1 → b ≡ level (not (eqb (get_or ys 0 0) v)) → b ≡ moved ys (v ∷ [])
moved_only [] v b e q = absurd (omega arith)
moved_only (y ∷ []) v b e q = omega (arith, q)
moved_only (y ∷ (z ∷ zs)) v b e q = absurd (omega arith)

moved_lt : (ys zs : List ℕ) → moved ys zs < 2 ^ length ys
moved_lt [] zs = omega arith
moved_lt (y ∷ ys) [] = pow_pos (length (y ∷ ys))
moved_lt (y ∷ ys) (z ∷ zs) = rw two-pow-succ (omega (arith, moved_lt ys zs, level_le (not (eqb y z))))

-- A bit that is set in a word which has none set from there on.
pub bit_set : (b i : ℕ) → i < 64 → b < 2 ^ i → bit_or b (1 * 2 ^ i % 2 ^ 64) ≡ b + 1 * 2 ^ i
bit_set b i h room =
    let e : 1 * 2 ^ i % 2 ^ 64 ≡ 1 * 2 ^ i = shl_exact 1 i 64 (omega arith) (omega arith) in
    ap (bit_or b) e ∙ or_shifted_r 1 i b room ∙ add_comm (1 * 2 ^ i) b

-- The loop of `split`, over the outputs ys that came in and the outputs zs that it leaves: those before i are written.
abbrev pub written : List ℕ → List ℕ → ℕ → List ℕ
written ys zs i = take i zs ++ drop i ys

-- Output i is still what it was.
written_here : (ys zs : List ℕ) (i : ℕ) → length ys ≡ length zs → get_or (written ys zs i) i 0 ≡ get_or ys i 0
written_here [] [] zero l = refl
written_here [] [] (suc i) l = refl
written_here [] (z ∷ zs) i l = absurd (omega arith)
written_here (y ∷ ys) [] i l = absurd (omega arith)
written_here (y ∷ ys) (z ∷ zs) zero l = refl
written_here (y ∷ ys) (z ∷ zs) (suc i) l = written_here ys zs i (omega arith)

written_next : (ys zs : List ℕ) (i : ℕ) → length ys ≡ length zs → i < length ys
    → set (written ys zs i) i (get_or zs i 0) ≡ written ys zs (suc i)
written_next ys zs i l h = rw (zero-add i, zero-add (suc i)) at (paste-suc ys 0 zs i 0 (omega (arith, h)) (omega arith))

-- Twice a level at bit i is the level at the bit above.
level_up : (b : Bool) (i : ℕ) → 2 * (level b * 2 ^ i) ≡ level b * 2 ^ suc i
level_up true i = rw two-pow-succ (omega arith)
level_up false i = omega arith

moved_next : (ys zs : List ℕ) (i : ℕ) → i < length ys → length ys ≡ length zs
    → moved (take i ys) (take i zs) + level (not (eqb (get_or ys i 0) (get_or zs i 0))) * 2 ^ i ≡ moved (take (suc i) ys) (take (suc i) zs)
moved_next [] zs i h l = absurd (omega arith)
moved_next (y ∷ ys) [] i h l = absurd (omega arith)
moved_next (y ∷ ys) (z ∷ zs) zero h l = omega arith
moved_next (y ∷ ys) (z ∷ zs) (suc i) h l =
    omega (arith, moved_next ys zs i (omega arith) (omega arith), level_up (not (eqb (get_or ys i 0) (get_or zs i 0))) i)

-- The bits of the outputs before i have none set from bit i on.
pub moved_room : (ys zs : List ℕ) (i m : ℕ) → i ≤ length ys → m ≡ moved (take i ys) (take i zs) → m < 2 ^ i
moved_room ys zs i m h e =
    let l : length (take i ys) ≡ i = length-take-le i ys h in
    rw e (subst (λ (k : ℕ). moved (take i ys) (take i zs) < 2 ^ k) l (moved_lt (take i ys) (take i zs)))

-- A turn of the loop: output i is written, and its bit is set where that changes it.
module _ (ys zs os : List ℕ) (i v : ℕ) (l : length ys ≡ length zs) (h : i < length ys) (so_far : os ≡ written ys zs i) (bit : v ≡ get_or zs i 0) where
  pub written_step : set os i v ≡ written ys zs (i + 1)
  written_step =
      ap (λ (r : List ℕ). set r i v) so_far ∙ ap (set (written ys zs i) i) bit ∙ written_next ys zs i l h ∙ ap (written ys zs) (sym (add-one i))

  pub moved_step : (m r : ℕ) → m ≡ moved (take i ys) (take i zs) → r ≡ m + level (not (eqb (get_or os i 0) v)) * 2 ^ i
      → r ≡ moved (take (i + 1) ys) (take (i + 1) zs)
  moved_step m r now e =
      let o : get_or os i 0 ≡ get_or ys i 0 = ap (λ (r : List ℕ). get_or r i 0) so_far ∙ written_here ys zs i l in
      let q : level (not (eqb (get_or os i 0) v)) ≡ level (not (eqb (get_or ys i 0) (get_or zs i 0))) =
      ap (λ (y : ℕ). level (not (eqb y v))) o ∙ ap (λ (z : ℕ). level (not (eqb (get_or ys i 0) z))) bit in
      e ∙ ap (λ (x : ℕ). m + x * 2 ^ i) q ∙ ap (λ (x : ℕ). x + level (not (eqb (get_or ys i 0) (get_or zs i 0))) * 2 ^ i) now
      ∙ moved_next ys zs i h l ∙ ap (λ (k : ℕ). moved (take k ys) (take k zs)) (sym (add-one i))

-- All are written.
pub written_all : (ys zs : List ℕ) (i : ℕ) → length ys ≡ length zs → i ≡ length ys → written ys zs i ≡ zs
written_all ys zs i l e =
    rw (e, drop-length ys, l, take-length zs) (append-nil zs)

pub moved_all : (ys zs : List ℕ) (i : ℕ) → length ys ≡ length zs → i ≡ length ys → moved (take i ys) (take i zs) ≡ moved ys zs
moved_all ys zs i l e =
    let t : take i ys ≡ ys = ap (λ (k : ℕ). take k ys) e ∙ take-length ys in
    let u : take i zs ≡ zs = ap (λ (k : ℕ). take k zs) (e ∙ l) ∙ take-length zs in
    rw (t, u)
