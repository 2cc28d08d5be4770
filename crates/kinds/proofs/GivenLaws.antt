-- What is given back says what was answered: laws by which answers that give the same are the same.
-- Assumes nothing.
use mathlib.Core.Path.{◌≡◌, ◌∙◌, refl, ap, sym}
use mathlib.Core.Bool.{Bool, true, false, cond, true≢false}
use mathlib.Core.List.{List, []}
use mathlib.Core.Option.{Option, none, some}
use Prim.Native.Nat.{ℕ}
use native.Mathlib.Omega.{arith}
use borrow.Author.Tests.{eqb-true, eq-eqb, ne_eqb}
use lib.Dec.{eqb}
use Rattle.std.specs.Prelude.{Result, Ok, Err}
use Rattle.std.specs.Result.{IsErrAnd}
use Rattle.std.proofs.lemmas.Result.{err_from_is_err_and}
use Rattle.kinds.specs.declared.answers.Refusal.{Refusal}
use Rattle.kinds.specs.Given.{Given, Verdict, done, declined, refused_by, giving, refusing}

listed : Option (List ℕ) → List ℕ
listed (some xs) = xs
listed none = []

-- The values of what is done; a refusal is not done; the refusal of what is refused.
pub done_values : (xs ys : List ℕ) → done xs ≡ done ys → xs ≡ ys
unfolding listed
done_values xs ys e = ap (λ (g : Given). listed g.values) e

pub done_declined : (xs : List ℕ) (r : Refusal) → done xs ≡ declined r → ⊥
done_declined xs r e =
    let v : ◌≡◌ {A = Option (List ℕ)} (some xs) none = ap (λ (g : Given). g.values) e in
    let z : ◌≡◌ {A = ℕ} 0 1 = cc in
    omega arith

-- A call that is done has the number 0, and gives its values.
pub done_giving : (xs ys : List ℕ) (k : ℕ) → done xs ≡ giving k ys → (k ≡ 0) × (xs ≡ ys)
done_giving xs ys k = by_number (eqb k 0) refl
  where
    by_number : (b : Bool) → eqb k 0 ≡ b → done xs ≡ cond b (done ys) (declined (refused_by k)) → (k ≡ 0) × (xs ≡ ys)
    by_number true q e = (eqb-true k 0 q, done_values xs ys e)
    by_number false q e = absurd (done_declined xs (refused_by k) e)

refusal_of : Given → Refusal
refusal_of g = record { number = g.number; position = g.position; earlier = g.earlier }

pub declined_refusal : (r s : Refusal) → declined r ≡ declined s → r ≡ s
unfolding refusal_of
declined_refusal r s e = ap refusal_of e

-- A refusal that `?` hands on is the refusal.
pub handed_on : {A : Type 0} (v : Result A Refusal) (r : Refusal) → IsErrAnd v (λ e. e ≡ r) → v ≡ Err r
handed_on v r h = let p = err_from_is_err_and v h in p.1 ∙ ap Err p.2

-- A check of number k refuses where k is not 0, with that number, and accepts at 0; put together too.
is_refusal : Verdict → ℕ
is_refusal (Ok _) = 0
is_refusal (Err r) = 1

refused_with : Verdict → Refusal
refused_with (Ok _) = refused_by 0
refused_with (Err r) = r

refused_ok : (r : Refusal) → ◌≡◌ {A = Verdict} (Err r) (Ok tt) → ⊥
unfolding is_refusal
refused_ok r e =
    let z : ◌≡◌ {A = ℕ} 1 0 = ap is_refusal e in
    omega arith

module _ (k : ℕ) where
  pub refusing_err : (v : Verdict) (r : Refusal) → v ≡ refusing k → v ≡ Err r → (k ≡ 0 → ⊥) × (r ≡ refused_by k)
  unfolding refused_with
  refusing_err v r e f = by_number (eqb k 0) refl (sym f ∙ e)
    where
      by_number : (b : Bool) → eqb k 0 ≡ b → ◌≡◌ {A = Verdict} (Err r) (cond b (Ok tt) (Err (refused_by k)))
          → (k ≡ 0 → ⊥) × (r ≡ refused_by k)
      by_number true q g = absurd (refused_ok r g)
      by_number false q g = ((λ z. absurd (true≢false (sym (eq-eqb k 0 z) ∙ q))), ap refused_with g)

  pub refusing_ok : (v : Verdict) → v ≡ refusing k → v ≡ Ok tt → k ≡ 0
  refusing_ok v e f = by_number (eqb k 0) refl (sym f ∙ e)
    where
      by_number : (b : Bool) → eqb k 0 ≡ b → ◌≡◌ {A = Verdict} (Ok tt) (cond b (Ok tt) (Err (refused_by k))) → k ≡ 0
      by_number true q g = eqb-true k 0 q
      by_number false q g = absurd (refused_ok (refused_by k) (sym g))

  pub refusing_done : k ≡ 0 → ◌≡◌ {A = Verdict} (Ok tt) (refusing k)
  refusing_done z = rw (eq-eqb k 0 z)

  pub refusing_number : (k ≡ 0 → ⊥) → ◌≡◌ {A = Verdict} (Err (refused_by k)) (refusing k)
  refusing_number ne = rw (ne_eqb k 0 ne)
