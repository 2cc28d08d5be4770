-- Laws of records copied into a buffer: the 24 bytes of a record; a component's record; what stands there in the end.
-- Assumes nothing.
use mathlib.Core.Path.{◌≡◌, refl, sym, ap, ◌∙◌}
use mathlib.Core.Bool.{Bool, true, false, cond}
use mathlib.Core.List.{List, [], ◌∷◌, ◌++◌, append_assoc}
use Prim.Native.Nat.{ℕ, zero, suc, ◌+◌, ◌-◌, ◌*◌, ◌≤◌, ◌<◌}
use native.Mathlib.Nat.{mul-zero, mul-suc, mul-add}
use native.Mathlib.Omega.{arith}
use lib.ListN.{length, set, take, drop, length-set, length-append}
use lib.Seq.{sets, sets-eq, drop-drop, set-set, set_comm}
use Rattle.lists.specs.Lists.{from, keep, joined}
use borrow.Rule.Slice.PartMut.{put_mid}
use Rattle.lists.proofs.LayingLaws.{joined_snoc, joined_keep, Laid, laid_length, laid_step}
use Rattle.component.specs.Record.{part_at, record_count}
use Rattle.component.proofs.LooseLaws.{part_length}
use Rattle.mend.specs.Sifting.{plain_part}

-- The 24 bytes of a record, put in the place of as many.
pub copy_part : (t u s : List ℕ) (at p k j : ℕ) → p < record_count s → at + 24 ≤ length t → k ≡ 24 → j ≡ 24 → u ≡ take j (drop (24 * p) s)
    → put_mid at k t u ≡ sets t at (part_at s p)
copy_part t u s at p k j h room kz jz e =
    let xs = part_at s p in
    let n = part_length s p h in
    let past : at + k ≡ at + length xs = omega (arith, kz, n) in
    ap (put_mid at k t) (e ∙ ap (λ (i : ℕ). take i (drop (24 * p) s)) jz)
    ∙ ap (λ (l : List ℕ). take at t ++ (xs ++ l)) (drop-drop k at t ∙ ap (λ (i : ℕ). drop i t) past)
    ∙ sym (append_assoc (take at t) xs (drop (at + length xs) t)) ∙ sym (sets-eq xs t at (omega (arith, room, n)))

-- A word written over words that were written.
sets_before : (l ys : List ℕ) (k i x : ℕ) → i < k → set (sets l k ys) i x ≡ sets (set l i x) k ys
sets_before l [] k i x h = refl
sets_before l (y ∷ ys) k i x h =
    sets_before (set l k y) ys (suc k) i x (omega (arith, h))
    ∙ ap (λ (t : List ℕ). sets t (suc k) ys) (set_comm l k i y x (λ e. omega (arith, e, h)))

set_sets : (t xs : List ℕ) (k i x : ℕ) → i < length xs → set (sets t k xs) (k + i) x ≡ sets t k (set xs i x)
set_sets t [] k i x h = absurd (omega (arith, h))
set_sets t (y ∷ ys) k zero x h =
    let e : k + 0 ≡ k = omega arith in
    ap (λ (j : ℕ). set (sets (set t k y) (suc k) ys) j x) e
    ∙ sets_before (set t k y) ys (suc k) k x (omega arith)
    ∙ ap (λ (l : List ℕ). sets l (suc k) ys) (set-set t k y x)
set_sets t (y ∷ ys) k (suc i) x h =
    let e : k + suc i ≡ suc k + i = omega arith in
    ap (λ (j : ℕ). set (sets (set t k y) (suc k) ys) j x) e ∙ set_sets (set t k y) ys (suc k) i x (omega (arith, h))

-- A component's record: the two bytes of field D are 0.
pub copy_plain : (t u xs : List ℕ) (at : ℕ) → length xs ≡ 24 → u ≡ sets t at xs → set (set u (at + 10) 0) (at + 11) 0 ≡ sets t at (plain_part xs)
copy_plain t u xs at n e =
    ap (λ (l : List ℕ). set (set l (at + 10) 0) (at + 11) 0) e
    ∙ ap (λ (l : List ℕ). set l (at + 11) 0) (set_sets t xs at 10 0 (omega (arith, n)))
    ∙ set_sets t (set xs 10 0) at 11 0 (omega (arith, n, length-set xs 10 0))

pub plain_length : (s : List ℕ) (p : ℕ) → p < record_count s → length (plain_part (part_at s p)) ≡ 24
plain_length s p h =
    length-set (set (part_at s p) 10 0) 11 0 ∙ length-set (part_at s p) 10 0 ∙ part_length s p h

-- What those of n records give that pass a test, each w words, laid one behind the other.
module _ (T : ℕ → Bool) (f : ℕ → List ℕ) (w n : ℕ) (width : (p : ℕ) → p < n → length (f p) ≡ w) where
  abbrev pub picked : ℕ → List ℕ
  picked p = cond (T p) (f p) []

  picked_most : (p : ℕ) → p < n → length (picked p) ≤ w
  picked_most p h = by_test (T p)
    where
      by_test : (b : Bool) → length (cond b (f p) []) ≤ w
      by_test true = omega (arith, width p h)
      by_test false = omega arith

  pub picked_room : (m : ℕ) → m ≤ n → length (joined picked (from 0 m)) ≤ w * m
  picked_room zero h = omega (arith, mul-zero w)
  picked_room (suc m) h =
      let e : suc m ≡ m + 1 = omega arith in
      let d : length (joined picked (from 0 (suc m))) ≡ length (joined picked (from 0 m)) + length (picked m) =
      ap (λ (k : ℕ). length (joined picked (from 0 k))) e ∙ ap length (joined_snoc picked m) ∙ length-append (joined picked (from 0 m)) (picked m) in
      omega (arith, d, picked_room m (omega (arith, h)), picked_most m (omega (arith, h)), mul-suc w m)

  pub picked_joined : joined f (keep T (from 0 n)) ≡ joined picked (from 0 n)
  picked_joined = joined_keep T f picked (λ p. refl) (from 0 n)

  module _ (t : List ℕ) (p : ℕ) (u : List ℕ) (k : ℕ) (h : Laid picked p t u k) (l : p < n) where
    -- there is room for one more
    pub pick_room : w * n ≤ length t → k + w ≤ length u
    pick_room room =
        omega (
          arith,
          h.place,
          laid_length picked t p u k h,
          picked_room p (omega (arith, l)),
          w_more,
          room,
        )
      where
        w_more : w * p + w ≤ w * n
        w_more = let e : n ≡ suc p + (n - suc p) = omega (arith, l) in
            omega (arith, ap (λ (j : ℕ). w * j) e, mul-add w (suc p) (n - suc p), mul-suc w p)

    -- it passes; it does not
    pub pick_here : (v : List ℕ) → T p ≡ true → v ≡ sets u k (f p) → Laid picked (p + 1) t v (k + w)
    pick_here v e d =
        let z : f p ≡ picked p = rw e in
        laid_step picked t p u k h (f p) v (k + w) z d (omega (arith, width p l))

    pub pick_not : T p ≡ false → Laid picked (p + 1) t u k
    pick_not e =
        let z : [] ≡ picked p = rw e in
        laid_step picked t p u k h [] u k z refl (omega arith)
