-- The gates' rules are the Rust's folds over their inputs (primitive.rs, `update`), for every number of inputs.
-- Assumes nothing.
use mathlib.Core.Path.{◌≡◌, refl, sym, ap, ◌∙◌}
use mathlib.Core.Bool.{Bool, true, false, cond, not, ◌&&◌, ◌||◌}
use mathlib.Core.List.{List, [], ◌∷◌, foldl}
use Prim.Native.Nat.{ℕ, suc, ◌+◌, ◌%◌, ◌≤◌}
use native.Mathlib.Decide.{ℕ_discrete}
use native.Mathlib.Omega.{arith}
use borrow.Author.Tests.{eq-eqb, ne_eqb, lt-ltb}
use lib.ListN.{length}
use lib.Dec.{eqb, ltb}
use Rattle.value.specs.Value.{level}
use Rattle.value.proofs.ValueLaws.{level_le}
use Rattle.primitive.specs.Evaluate.{highs}
use Rattle.primitive.specs.Own.{high, all_high, any_high, odd_high}

-- The Rust's `^` on levels.
abbrev pub xor : Bool → Bool → Bool
xor a b = cond a (not b) b

pub highs_le : (xs : List ℕ) → highs xs ≤ length xs
highs_le [] = omega arith
highs_le (x ∷ xs) = omega (arith, highs_le xs, level_le (high x))

-- One more input.
all_cons : (b : Bool) (h n : ℕ) → h ≤ n → eqb (level b + h) (suc n) ≡ (b && eqb h n)
all_cons b h n l = by_number b (ℕ_discrete h n)
  where
    by_number : (b : Bool) → Dec (h ≡ n) → eqb (level b + h) (suc n) ≡ (b && eqb h n)
    by_number true (yes e) = eq-eqb (1 + h) (suc n) (omega arith) ∙ sym (eq-eqb h n e)
    by_number true (no d) = ne_eqb (1 + h) (suc n) (λ e. d (omega arith)) ∙ sym (ne_eqb h n d)
    by_number false d = ne_eqb (0 + h) (suc n) (λ e. omega arith)

any_cons : (b : Bool) (h : ℕ) → ltb 0 (level b + h) ≡ (b || ltb 0 h)
any_cons true h = lt-ltb 0 (1 + h) (omega arith)
any_cons false h = let e : 0 + h ≡ h = omega arith in ap (ltb 0) e

odd_cons : (b : Bool) (h : ℕ) → eqb ((level b + h) % 2) 1 ≡ xor b (eqb (h % 2) 1)
odd_cons false h = let e : 0 + h ≡ h = omega arith in ap (λ (k : ℕ). eqb (k % 2) 1) e
odd_cons true h = by_rest (ℕ_discrete (h % 2) 1)
  where
    by_rest : Dec (h % 2 ≡ 1) → eqb ((1 + h) % 2) 1 ≡ not (eqb (h % 2) 1)
    by_rest (yes e) = ne_eqb ((1 + h) % 2) 1 (λ q. omega arith) ∙ ap not (sym (eq-eqb (h % 2) 1 e))
    by_rest (no d) = eq-eqb ((1 + h) % 2) 1 (omega arith) ∙ ap not (sym (ne_eqb (h % 2) 1 d))

-- The folds from any level on.
and_from : (b : Bool) (xs : List ℕ) → foldl (λ (acc : Bool) (x : ℕ). acc && high x) b xs ≡ (b && all_high xs)
and_from b [] = by_level b
  where
    by_level : (b : Bool) → b ≡ (b && true)
    by_level true = refl
    by_level false = refl
and_from b (x ∷ xs) =
    and_from (b && high x) xs ∙ by_level b ∙ ap (λ (a : Bool). b && a) (sym (all_cons (high x) (highs xs) (length xs) (highs_le xs)))
  where
    by_level : (b : Bool) → ((b && high x) && all_high xs) ≡ (b && (high x && all_high xs))
    by_level true = refl
    by_level false = refl

or_from : (b : Bool) (xs : List ℕ) → foldl (λ (acc : Bool) (x : ℕ). acc || high x) b xs ≡ (b || any_high xs)
or_from b [] = by_level b
  where
    by_level : (b : Bool) → b ≡ (b || false)
    by_level true = refl
    by_level false = refl
or_from b (x ∷ xs) = or_from (b || high x) xs ∙ by_level b ∙ ap (λ (a : Bool). b || a) (sym (any_cons (high x) (highs xs)))
  where
    by_level : (b : Bool) → ((b || high x) || any_high xs) ≡ (b || (high x || any_high xs))
    by_level true = refl
    by_level false = refl

xor_from : (b : Bool) (xs : List ℕ) → foldl (λ (acc : Bool) (x : ℕ). xor acc (high x)) b xs ≡ xor b (odd_high xs)
xor_from b [] = by_level b
  where
    by_level : (b : Bool) → b ≡ xor b false
    by_level true = refl
    by_level false = refl
xor_from b (x ∷ xs) =
    xor_from (xor b (high x)) xs ∙ by_levels b (high x) (odd_high xs) ∙ ap (xor b) (sym (odd_cons (high x) (highs xs)))
  where
    by_levels : (a b c : Bool) → xor (xor a b) c ≡ xor a (xor b c)
    by_levels true true true = refl
    by_levels true true false = refl
    by_levels true false c = refl
    by_levels false b c = refl

-- And and Nand: `fold(true, |acc, &x| acc & x.as_bool())`.
pub fold_and : (xs : List ℕ) → foldl (λ (acc : Bool) (x : ℕ). acc && high x) true xs ≡ all_high xs
fold_and xs = and_from true xs

-- Or and Nor: `fold(false, |acc, &x| acc | x.as_bool())`.
pub fold_or : (xs : List ℕ) → foldl (λ (acc : Bool) (x : ℕ). acc || high x) false xs ≡ any_high xs
fold_or xs = or_from false xs

-- Xor: `skip(1).fold(inputs[0].as_bool(), |acc, &x| acc ^ x.as_bool())`.
pub fold_xor : (x : ℕ) (xs : List ℕ) → foldl (λ (acc : Bool) (y : ℕ). xor acc (high y)) (high x) xs ≡ odd_high (x ∷ xs)
fold_xor x xs = xor_from (high x) xs ∙ sym (odd_cons (high x) (highs xs))
