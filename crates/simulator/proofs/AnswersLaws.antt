-- Answers of a run that give the same are the same.
-- Assumes nothing.
use mathlib.Core.Path.{◌≡◌, sym, ap}
use mathlib.Core.List.{List, ◌∷◌}
use Prim.Native.Nat.{ℕ}
use lib.ListN.{get_or, drop}
use Rattle.kinds.proofs.GivenLaws.{done_values, done_declined, declined_refusal}
use Rattle.tables.specs.declared.Counts.{Counts}
use Rattle.tables.specs.Tables.{count_words}
use Rattle.tables.proofs.AnswerLaws.{count_words-is}
use Rattle.simulator.specs.declared.Ran.{Ran}
use Rattle.simulator.specs.Calls.{ran_gives}
use Rattle.std.specs.Prelude.{Result, Ok, Err}
use Rattle.kinds.specs.declared.answers.Refusal.{Refusal}

-- The value at place k, of lists of values that are the same.
same_at : (k : ℕ) (xs ys : List ℕ) → xs ≡ ys → get_or xs k 0 ≡ get_or ys k 0
same_at k xs ys e = ap (λ (zs : List ℕ). get_or zs k 0) e

pub ran_gives-is : (a b : Result (Ran Counts) Refusal) → ran_gives a ≡ ran_gives b → a ≡ b
ran_gives-is (Ok a) (Ok b) e =
    let xs = a.rounds ∷ a.evaluations ∷ a.moved ∷ count_words a.counts in
    let ys = b.rounds ∷ b.evaluations ∷ b.moved ∷ count_words b.counts in
    let v = done_values xs ys e in
    let c = count_words-is a.counts b.counts (ap (drop 3) v) in
    let r : a.rounds ≡ b.rounds = same_at 0 xs ys v in
    let s : a.evaluations ≡ b.evaluations = same_at 1 xs ys v in
    let t : a.moved ≡ b.moved = same_at 2 xs ys v in
    λ i. Ok (record { counts = c i; rounds = r i; evaluations = s i; moved = t i })
ran_gives-is (Ok a) (Err r) e = absurd (done_declined (a.rounds ∷ a.evaluations ∷ a.moved ∷ count_words a.counts) r e)
ran_gives-is (Err r) (Ok a) e = absurd (done_declined (a.rounds ∷ a.evaluations ∷ a.moved ∷ count_words a.counts) r (sym e))
ran_gives-is (Err r) (Err s) e = ap Err (declined_refusal r s e)
