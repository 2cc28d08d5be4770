-- Laws of tables that are written word by word, one record after the other.
--   sets: one word more
--   joined: what the records give, one after the other, one record more
--   Laid g p t u k    u is the table t with what the records before p give at its front, g q being what record q
--                     gives; k is the place behind it
-- Not here: words behind words, laws of overlay and of entries of one width (OverlayLaws).
-- Assumes nothing.
use mathlib.Core.Path.{◌≡◌, refl, sym, ap, ◌∙◌}
use mathlib.Core.Bool.{Bool, true, false, cond}
use mathlib.Core.List.{List, [], ◌∷◌, ◌++◌, append-nil}
use Prim.Native.Nat.{ℕ, ◌+◌, ◌-◌, ◌≤◌, ◌<◌}
use native.Mathlib.Numerals.{add-one}
use native.Mathlib.Omega.{arith}
use lib.ListN.{length, set, length-append}
use lib.Seq.{sets, length-sets}
use Rattle.lists.specs.Lists.{from, keep, joined, overlay}
use Rattle.lists.proofs.MembersLaws.{from_last, from_append, from_length}
use Rattle.lists.proofs.OverlayLaws.{sets_append, sets_overlay, joined_append}

-- One word more.
pub sets_next : (t : List ℕ) (k : ℕ) (xs : List ℕ) (x : ℕ)
    → set (sets t k xs) (k + length xs) x ≡ sets t k (xs ++ (x ∷ []))
sets_next t k xs x = sym (sets_append t k xs (x ∷ []))

-- One number more of those from 0 on.
pub numbers_step : (t u : List ℕ) (i : ℕ) → u ≡ sets t 0 (from 0 i) → set u i i ≡ sets t 0 (from 0 (i + 1))
numbers_step t u i e =
    let many : i ≡ 0 + length (from 0 i) = omega (arith, from_length 0 i) in
    ap (λ (l : List ℕ). set l i i) e ∙ ap (λ (j : ℕ). set (sets t 0 (from 0 i)) j i) many
    ∙ sets_next t 0 (from 0 i) i ∙ ap (sets t 0) (sym (from_last i) ∙ ap (from 0) (sym (add-one i)))

-- What the records give, one after the other: one record more; those before a record are the first of all.
module _ (g : ℕ → List ℕ) where
  pub joined_snoc : (p : ℕ) → joined g (from 0 (p + 1)) ≡ joined g (from 0 p) ++ g p
  joined_snoc p =
      ap (λ (k : ℕ). joined g (from 0 k)) (add-one p) ∙ ap (joined g) (from_last p)
      ∙ joined_append g (from 0 p) (p ∷ [])
      ∙ ap (λ (l : List ℕ). joined g (from 0 p) ++ l) (append-nil (g p))

  pub joined_prefix : (p m : ℕ) → p ≤ m → length (joined g (from 0 p)) ≤ length (joined g (from 0 m))
  joined_prefix p m h =
      let e : m ≡ p + (m - p) = omega arith in
      let d : joined g (from 0 m) ≡ joined g (from 0 p) ++ joined g (from (0 + p) (m - p)) =
      ap (λ (k : ℕ). joined g (from 0 k)) e ∙ ap (joined g) (from_append 0 p (m - p))
      ∙ joined_append g (from 0 p) (from (0 + p) (m - p)) in
      omega (arith, simp length-append at (ap (λ (l : List ℕ). length l) d))

-- What those that pass a test give is what each gives under the test.
pub joined_keep : {A B : Type 0} (T : A → Bool) (f g : A → List B) → ((a : A) → cond (T a) (f a) [] ≡ g a)
    → (xs : List A)
    → joined f (keep T xs) ≡ joined g xs
joined_keep T f g e [] = refl
joined_keep {B = B} T f g e (x ∷ xs) =
    by_test (T x) (joined_keep T f g e xs) ∙ ap (λ (l : List B). l ++ joined g xs) (e x)
  where
    by_test : (b : Bool) → joined f (keep T xs) ≡ joined g xs
        → joined f (cond b (x ∷ keep T xs) (keep T xs)) ≡ cond b (f x) [] ++ joined g xs
    by_test true d = ap (λ (l : List B). f x ++ l) d
    by_test false d = d

pub record Laid (g : ℕ → List ℕ) (p : ℕ) (t u : List ℕ) (k : ℕ) : Type 0 where
  pub table : u ≡ sets t 0 (joined g (from 0 p))
  pub place : k ≡ length (joined g (from 0 p))

module _ (g : ℕ → List ℕ) (t : List ℕ) where
  pub laid_start : Laid g 0 t t 0
  laid_start = record { table = refl; place = refl }

  module _ (p : ℕ) (u : List ℕ) (k : ℕ) (h : Laid g p t u k) where
    pub laid_length : length u ≡ length t
    laid_length = ap (λ (l : List ℕ). length l) h.table ∙ length-sets t 0 (joined g (from 0 p))

    -- Record p gives xs.
    pub laid_step : (xs v : List ℕ) (m : ℕ) → xs ≡ g p → v ≡ sets u k xs → m ≡ k + length xs → Laid g (p + 1) t v m
    laid_step xs v m e d f =
        let one = joined_snoc g p in
        let kz : k ≡ 0 + length (joined g (from 0 p)) = omega (arith, h.place) in
        record {
          table =
              d ∙ ap (λ (l : List ℕ). sets l k xs) h.table
              ∙ ap (λ (j : ℕ). sets (sets t 0 (joined g (from 0 p))) j xs) kz
              ∙ sym (sets_append t 0 (joined g (from 0 p)) xs)
              ∙ ap (λ (l : List ℕ). sets t 0 (joined g (from 0 p) ++ l)) e ∙ ap (sets t 0) (sym one);
          place =
              omega (
                arith,
                f,
                h.place,
                ap (λ (l : List ℕ). length l) e,
                ap (λ (l : List ℕ). length l) one,
                length-append (joined g (from 0 p)) (g p),
              );
        }

    -- There is room for what record p gives, if there is for what all of n records give.
    pub laid_room : (n : ℕ) → p < n → length (joined g (from 0 n)) ≤ length t → k + length (g p) ≤ length u
    laid_room n l room =
        omega (
          arith,
          h.place,
          laid_length,
          joined_prefix g (p + 1) n (omega arith),
          ap (λ (l : List ℕ). length l) (joined_snoc g p),
          length-append (joined g (from 0 p)) (g p),
        )

    pub laid_end : (n : ℕ) → p ≡ n → length (joined g (from 0 n)) ≤ length t → u ≡ overlay (joined g (from 0 n)) t
    laid_end n e room =
        h.table ∙ ap (λ (q : ℕ). sets t 0 (joined g (from 0 q))) e ∙ sets_overlay (joined g (from 0 n)) t room

    pub laid_count : (n : ℕ) → p ≡ n → k ≡ length (joined g (from 0 n))
    laid_count n e = h.place ∙ ap (λ (q : ℕ). length (joined g (from 0 q))) e
