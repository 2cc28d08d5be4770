-- Answers of a mending that give the same are the same.
-- Assumes nothing.
use mathlib.Core.Path.{◌≡◌, sym, ap}
use mathlib.Core.List.{List, [], ◌∷◌}
use Prim.Native.Nat.{ℕ}
use lib.ListN.{get_or}
use Rattle.kinds.proofs.GivenLaws.{done_values, done_declined, declined_refusal}
use Rattle.mend.specs.declared.Mended.{Mended}
use Rattle.mend.specs.Mend.{mend_gives}
use Rattle.std.specs.Prelude.{Result, Ok, Err}
use Rattle.kinds.specs.declared.answers.Refusal.{Refusal}

pub mend_gives-is : (a b : Result Mended Refusal) → mend_gives a ≡ mend_gives b → a ≡ b
mend_gives-is (Ok a) (Ok b) e = ap (λ (xs : List ℕ). Ok (record { bytes = get_or xs 0 0; positions = get_or xs 1 0 })) (done_values (a.bytes ∷ a.positions ∷ []) (b.bytes ∷ b.positions ∷ []) e)
mend_gives-is (Ok a) (Err r) e = absurd (done_declined (a.bytes ∷ a.positions ∷ []) r e)
mend_gives-is (Err r) (Ok a) e = absurd (done_declined (a.bytes ∷ a.positions ∷ []) r (sym e))
mend_gives-is (Err r) (Err s) e = ap Err (declined_refusal r s e)
