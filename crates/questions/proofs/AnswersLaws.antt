-- Answers that give the same are the same.
-- Assumes nothing.
use mathlib.Core.Path.{◌≡◌, refl, sym, ap}
use mathlib.Core.Bool.{Bool, true, false}
use mathlib.Core.List.{List, [], ◌∷◌}
use Prim.Native.Nat.{ℕ}
use native.Mathlib.Omega.{arith}
use lib.ListN.{get_or}
use Rattle.value.specs.declared.Value.{Value}
use Rattle.value.specs.Value.{level}
use Rattle.kinds.proofs.GivenLaws.{done_values, done_declined, declined_refusal}
use Rattle.tables.specs.declared.FlatIdx.{FlatIdx}
use Rattle.questions.specs.Questions.{whether_gives, index_gives, value_gives, list_gives}
use Rattle.std.specs.Prelude.{Result, Ok, Err}
use Rattle.kinds.specs.declared.answers.Refusal.{Refusal}

-- The value at place k, of lists of values that are the same.
pub same_at : (k : ℕ) (xs ys : List ℕ) → xs ≡ ys → get_or xs k 0 ≡ get_or ys k 0
same_at k xs ys e = ap (λ (zs : List ℕ). get_or zs k 0) e

level_is : (a b : Bool) → level a ≡ level b → a ≡ b
level_is true true e = refl
level_is true false e = absurd (omega (arith, e))
level_is false true e = absurd (omega (arith, e))
level_is false false e = refl

pub whether_gives-is : (a b : Result Bool Refusal) → whether_gives a ≡ whether_gives b → a ≡ b
whether_gives-is (Ok a) (Ok b) e =
    ap Ok (level_is a b (same_at 0 (level a ∷ []) (level b ∷ []) (done_values (level a ∷ []) (level b ∷ []) e)))
whether_gives-is (Ok a) (Err r) e = absurd (done_declined (level a ∷ []) r e)
whether_gives-is (Err r) (Ok a) e = absurd (done_declined (level a ∷ []) r (sym e))
whether_gives-is (Err r) (Err s) e = ap Err (declined_refusal r s e)

abbrev index : ℕ → FlatIdx
index i = record { 0 = i }

pub index_gives_is : (a b : Result FlatIdx Refusal) → index_gives a ≡ index_gives b → a ≡ b
index_gives_is (Ok i) (Ok j) e =
    ap (λ (k : ℕ). Ok (index k)) (same_at 0 (i.0 ∷ []) (j.0 ∷ []) (done_values (i.0 ∷ []) (j.0 ∷ []) e))
index_gives_is (Ok i) (Err r) e = absurd (done_declined (i.0 ∷ []) r e)
index_gives_is (Err r) (Ok i) e = absurd (done_declined (i.0 ∷ []) r (sym e))
index_gives_is (Err r) (Err s) e = ap Err (declined_refusal r s e)

abbrev value : List ℕ → Value
value xs = record { number = get_or xs 0 0; width = get_or xs 1 0 }

pub value_gives-is : (a b : Result Value Refusal) → value_gives a ≡ value_gives b → a ≡ b
value_gives-is (Ok v) (Ok w) e =
    ap (λ (xs : List ℕ). Ok (value xs)) (done_values (v.number ∷ v.width ∷ []) (w.number ∷ w.width ∷ []) e)
value_gives-is (Ok v) (Err r) e = absurd (done_declined (v.number ∷ v.width ∷ []) r e)
value_gives-is (Err r) (Ok v) e = absurd (done_declined (v.number ∷ v.width ∷ []) r (sym e))
value_gives-is (Err r) (Err s) e = ap Err (declined_refusal r s e)

pub list_gives-is : (a b : Result ℕ Refusal) → list_gives a ≡ list_gives b → a ≡ b
list_gives-is (Ok j) (Ok k) e = ap Ok (same_at 0 (j ∷ []) (k ∷ []) (done_values (j ∷ []) (k ∷ []) e))
list_gives-is (Ok j) (Err r) e = absurd (done_declined (j ∷ []) r e)
list_gives-is (Err r) (Ok j) e = absurd (done_declined (j ∷ []) r (sym e))
list_gives-is (Err r) (Err s) e = ap Err (declined_refusal r s e)
