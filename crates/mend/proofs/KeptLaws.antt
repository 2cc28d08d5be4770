-- The kept records without reference to those kept before. Of the records that pass check 12 and enter one input the first is kept, so an earlier kept one
-- has entered an input exactly where an earlier one that passes check 12 enters it.
-- Assumes nothing.
use mathlib.Core.Path.{◌≡◌, refl, sym, ap, ◌∙◌}
use Prim.Native.Nat.{ℕ, zero, suc}
use native.Mathlib.Omega.{arith}
use mathlib.Core.Bool.{Bool, true, false, cond, not, ◌&&◌, ◌||◌, false≢true}
use mathlib.Core.List.{List, [], ◌∷◌, ◌++◌, append-nil, foldl, foldl-append}
use lib.ListN.{get_or}
use Rattle.lists.specs.Lists.{from, keep, any}
use Rattle.lists.proofs.TestsLaws.{and_left, and_right, and_both, tests_equal}
use Rattle.lists.proofs.MembersLaws.{keep_sound, keep_complete, any_some, from0_sound, from_last}
use Rattle.lists.proofs.KeepLaws.{any_sound, any_no, keep_least}
use Rattle.lists.proofs.ListsLaws.{keep_append}
use Rattle.component.specs.declared.Record.{Record}
use Rattle.component.specs.Record.{entering, entering_as}
use Rattle.component.proofs.EnteringLaws.{enters_sound, enters_on}
use Rattle.mend.specs.Mend.{refused12, drops, sifted, kept_records}
use Rattle.mend.specs.Sifting.{drops_plainly}

module _ (at : ℕ → Record) (n : ℕ) where
  abbrev plain : ℕ → Bool
  plain p = not (drops_plainly at n p)

  -- Record q passes check 12 and enters the input that record p enters.
  abbrev good : ℕ → ℕ → Bool
  good p q = entering_as (at p) (at q) && not (refused12 at n (at q))

  not_12 : (e r a : Bool) → e ≡ true → not (e && (r || a)) ≡ true → not r ≡ true
  not_12 true true a x y = y
  not_12 true false a x y = refl
  not_12 false r a x y = absurd (false≢true x)

  is_plain : (e r a : Bool) → not r ≡ true → a ≡ false → not (e && (r || a)) ≡ true
  is_plain true true a x y = x
  is_plain true false a x y = ap not y
  is_plain false r a x y = refl

  kept_good : (m : ℕ) → any (λ q. entering_as (at m) (at q)) (keep plain (from 0 m)) ≡ true → any (good m) (from 0 m) ≡ true
  kept_good m e =
      let enters : ℕ → Bool = λ q. entering_as (at m) (at q) in
      let q = get_or (keep enters (keep plain (from 0 m))) 0 0 in
      let z = any_sound enters 0 (keep plain (from 0 m)) e in
      let k = keep_sound plain q (from 0 m) z.1 in
      let x =
      not_12 (entering (at q)) (refused12 at n (at q)) (any (good q) (from 0 q)) (enters_sound (at m) (at q) z.0).enters k.0 in
      any_some (good m) q (from 0 m) (and_both (entering_as (at m) (at q)) (not (refused12 at n (at q))) z.0 x) k.1

  good_kept : (m : ℕ) → any (good m) (from 0 m) ≡ true → any (λ q. entering_as (at m) (at q)) (keep plain (from 0 m)) ≡ true
  good_kept m e =
      let q = get_or (keep (good m) (from 0 m)) 0 0 in
      let z = any_sound (good m) 0 (from 0 m) e in
      let enters = and_left (entering_as (at m) (at q)) (not (refused12 at n (at q))) z.0 in
      let passes12 = and_right (entering_as (at m) (at q)) (not (refused12 at n (at q))) z.0 in
      let below = from0_sound m q z.1 in
      let none_before : any (good q) (from 0 q) ≡ false =
      any_no (good q) (from 0 q)
      (λ r b u. let before = from0_sound q r b in
      let met : good m r ≡ true =
      and_both (entering_as (at m) (at r)) (not (refused12 at n (at r)))
      (enters_on (at m) (at q) (at r) enters (and_left (entering_as (at q) (at r)) (not (refused12 at n (at r))) u))
      (and_right (entering_as (at q) (at r)) (not (refused12 at n (at r))) u) in
      omega (arith, before, keep_least (good m) 0 m r 0 (omega arith) (omega (arith, before, below)) met)) in
      any_some (λ x. entering_as (at m) (at x)) q (keep plain (from 0 m)) enters
      (keep_complete plain q (from 0 m)
      (is_plain (entering (at q)) (refused12 at n (at q)) (any (good q) (from 0 q)) passes12 none_before) z.1)

  -- What is dropped behind those kept before it is dropped plainly.
  pub drops_same : (m : ℕ) (ks : List ℕ) → ks ≡ keep (λ p. not (drops_plainly at n p)) (from 0 m)
      → drops at n ks m ≡ drops_plainly at n m
  drops_same m ks e =
      ap (λ (xs : List ℕ). entering (at m) && (refused12 at n (at m) || any (λ q. entering_as (at m) (at q)) xs)) e
      ∙ ap (λ (b : Bool). entering (at m) && (refused12 at n (at m) || b))
      (tests_equal (any (λ q. entering_as (at m) (at q)) (keep plain (from 0 m))) (any (good m) (from 0 m)) (kept_good m) (good_kept m))

  taken : (ps : List ℕ) (m : ℕ) (b : Bool) → cond b ps (ps ++ (m ∷ [])) ≡ ps ++ cond (not b) (m ∷ []) []
  taken ps m true = sym (append-nil ps)
  taken ps m false = refl

  -- The first m records, sifted.
  pub kept_plain : (m : ℕ) → foldl (sifted at n) [] (from 0 m) ≡ keep (λ p. not (drops_plainly at n p)) (from 0 m)
  kept_plain zero = refl
  kept_plain (suc m) =
      let ks = foldl (sifted at n) [] (from 0 m) in
      let ps = keep plain (from 0 m) in
      let e : ks ≡ ps = kept_plain m in
      ap (foldl (sifted at n) []) (from_last m)
      ∙ foldl-append (sifted at n) [] (from 0 m) (m ∷ [])
      ∙ ap (λ (b : Bool). cond b ks (ks ++ (m ∷ []))) (drops_same m ks e)
      ∙ ap (λ (xs : List ℕ). cond (drops_plainly at n m) xs (xs ++ (m ∷ []))) e
      ∙ taken ps m (drops_plainly at n m)
      ∙ sym (keep_append plain (from 0 m) (m ∷ []))
      ∙ ap (keep plain) (sym (from_last m))

  pub kept_records_lem : kept_records at n ≡ keep (λ p. not (drops_plainly at n p)) (from 0 n)
  unfolding kept_records
  kept_records_lem = kept_plain n
