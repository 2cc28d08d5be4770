-- Determinacy of the slow engine's calls, and of those from C: any two outcomes that one promise allows are equal, in what the call says and in
-- everything that is lent to be written. docs/SPECIFICATION.md, "What the contracts owe".
-- Assumes nothing.
use Rattle.std.specs.Prelude.{ℕ, ◌≡◌, Bool, List}
use Rattle.simulator.specs.Edit.{Way}
use Rattle.slow.specs.declared.SlowCounts.{SlowCounts}
use Rattle.slow.specs.Slow.{SlowTables, SlowLoads, SlowRounds, SlowEdits, SlowRuns}
use Rattle.slowly.specs.Slowly.{slow_counts_in, CallSlow, CallSlowRounds, CallSlowRuns}
use Rattle.determinacy.specs.Determined.{Determined}
use Rattle.std.specs.Prelude.{Result}
use Rattle.kinds.specs.declared.answers.Refusal.{Refusal}

-- The engine's: load, round, edit of either way, run until calm.
abbrev pub SlowDeterminacy : Type 0
SlowDeterminacy =
    ((file : List ℕ) (S : SlowTables) → Determined (SlowLoads file S))
    × ((file : List ℕ) (t : ℕ) (bits : List ℕ) (S : SlowTables)
    → Determined (λ (r : Result SlowCounts Refusal) (b : SlowTables × List ℕ). SlowRounds file t bits S r b.0 b.1))
    × ((file : List ℕ) (way : Way) (i v : ℕ) (S : SlowTables) → Determined (SlowEdits file way i v S))
    × ((file : List ℕ) (t limit : ℕ) (S : SlowTables) → Determined (SlowRuns file t limit S))

module _ (few : Bool) (ws fs : List ℕ) (lent : SlowCounts → SlowTables) where
  -- A call that changes the tables by the engine's promise P.
  abbrev pub SlowChangesDetermined : (SlowTables → Result SlowCounts Refusal → SlowTables → Type 0) → Type 0
  SlowChangesDetermined P =
      (r s : ℕ) (a b : List ℕ) (f g : SlowCounts → SlowTables) → CallSlow P few ws a lent f r → CallSlow P few ws b lent g s
      → (r ≡ s) × (a ≡ b) × (f (slow_counts_in a) ≡ g (slow_counts_in b))

  -- Those from C.
  abbrev pub SlowlyDeterminacy : Type 0
  SlowlyDeterminacy =
      ((file : List ℕ) → SlowChangesDetermined (SlowLoads file))
      × ((file bs : List ℕ) (t r s : ℕ) (a b c d : List ℕ) (f g : SlowCounts → SlowTables) → CallSlowRounds file t ws a bs c lent f r
      → CallSlowRounds file t ws b bs d lent g s → (r ≡ s) × (a ≡ b) × (c ≡ d) × (f (slow_counts_in a) ≡ g (slow_counts_in b)))
      × ((file : List ℕ) (way : Way) (i v : ℕ) → SlowChangesDetermined (SlowEdits file way i v))
      × ((file : List ℕ) (t limit r s : ℕ) (a b c d : List ℕ) (f g : SlowCounts → SlowTables)
      → CallSlowRuns (SlowRuns file t limit) few ws a fs c lent f r → CallSlowRuns (SlowRuns file t limit) few ws b fs d lent g s
      → (r ≡ s) × (a ≡ b) × (c ≡ d) × (f (slow_counts_in a) ≡ g (slow_counts_in b)))
