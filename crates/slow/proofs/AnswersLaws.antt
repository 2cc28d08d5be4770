-- Answers of the slow engine that give the same are the same.
-- Assumes nothing.
use mathlib.Core.Path.{◌≡◌, sym, ap}
use mathlib.Core.List.{List, ◌∷◌}
use Prim.Native.Nat.{ℕ}
use lib.ListN.{get_or, drop}
use Rattle.kinds.proofs.GivenLaws.{done_values, done_declined, declined_refusal}
use Rattle.slow.specs.declared.SlowCounts.{SlowCounts}
use Rattle.simulator.specs.declared.Ran.{Ran}
use Rattle.slow.specs.Slow.{slow_words, slow_gives, slow_ran_gives}
use Rattle.std.specs.Prelude.{Result, Ok, Err}
use Rattle.kinds.specs.declared.answers.Refusal.{Refusal}

-- The counts whose values are these.
abbrev counted : List ℕ → SlowCounts
counted xs =
    record { inputs = get_or xs 0 0; outputs = get_or xs 1 0; current = get_or xs 2 0; following = get_or xs 3 0; standing = get_or xs 4 0 }

slow_words-is : (m k : SlowCounts) → slow_words m ≡ slow_words k → m ≡ k
slow_words-is m k e = ap counted e

pub slow_gives-is : (a b : Result SlowCounts Refusal) → slow_gives a ≡ slow_gives b → a ≡ b
slow_gives-is (Ok m) (Ok k) e = ap Ok (slow_words-is m k (done_values (slow_words m) (slow_words k) e))
slow_gives-is (Ok m) (Err r) e = absurd (done_declined (slow_words m) r e)
slow_gives-is (Err r) (Ok m) e = absurd (done_declined (slow_words m) r (sym e))
slow_gives-is (Err r) (Err s) e = ap Err (declined_refusal r s e)

-- The value at place k, of lists of values that are the same.
same_at : (k : ℕ) (xs ys : List ℕ) → xs ≡ ys → get_or xs k 0 ≡ get_or ys k 0
same_at k xs ys e = ap (λ (zs : List ℕ). get_or zs k 0) e

pub slow_ran_gives-is : (a b : Result (Ran SlowCounts) Refusal) → slow_ran_gives a ≡ slow_ran_gives b → a ≡ b
slow_ran_gives-is (Ok a) (Ok b) e =
    let xs = a.rounds ∷ a.evaluations ∷ a.moved ∷ slow_words a.counts in
    let ys = b.rounds ∷ b.evaluations ∷ b.moved ∷ slow_words b.counts in
    let v = done_values xs ys e in
    let c = slow_words-is a.counts b.counts (ap (drop 3) v) in
    let r : a.rounds ≡ b.rounds = same_at 0 xs ys v in
    let s : a.evaluations ≡ b.evaluations = same_at 1 xs ys v in
    let t : a.moved ≡ b.moved = same_at 2 xs ys v in
    λ i. Ok (record { counts = c i; rounds = r i; evaluations = s i; moved = t i })
slow_ran_gives-is (Ok a) (Err r) e = absurd (done_declined (a.rounds ∷ a.evaluations ∷ a.moved ∷ slow_words a.counts) r e)
slow_ran_gives-is (Err r) (Ok a) e = absurd (done_declined (a.rounds ∷ a.evaluations ∷ a.moved ∷ slow_words a.counts) r (sym e))
slow_ran_gives-is (Err r) (Err s) e = ap Err (declined_refusal r s e)
