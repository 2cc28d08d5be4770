-- Answers of a look that give the same are the same.
-- Assumes nothing.
use mathlib.Core.Path.{◌≡◌, sym, ap}
use mathlib.Core.List.{List, [], ◌∷◌}
use Prim.Native.Nat.{ℕ}
use lib.ListN.{get_or}
use Rattle.kinds.proofs.GivenLaws.{done_values, done_declined, declined_refusal}
use Rattle.look.specs.declared.Looked.{Looked}
use Rattle.look.specs.Look.{look_gives}
use Rattle.std.specs.Prelude.{Result, Ok, Err}
use Rattle.kinds.specs.declared.answers.Refusal.{Refusal}

pub look_gives-is : (a b : Result Looked Refusal) → look_gives a ≡ look_gives b → a ≡ b
look_gives-is (Ok a) (Ok b) e = ap (λ (xs : List ℕ). Ok (record { inputs = get_or xs 0 0; outputs = get_or xs 1 0 })) (done_values (a.inputs ∷ a.outputs ∷ []) (b.inputs ∷ b.outputs ∷ []) e)
look_gives-is (Ok a) (Err r) e = absurd (done_declined (a.inputs ∷ a.outputs ∷ []) r e)
look_gives-is (Err r) (Ok a) e = absurd (done_declined (a.inputs ∷ a.outputs ∷ []) r (sym e))
look_gives-is (Err r) (Err s) e = ap Err (declined_refusal r s e)
