-- What the slow engine's calls promise, called from C. docs/SPECIFICATION.md, "The slow engine" and "Numbers given back". Each promise is the
-- engine's own, by name, on the tables that the lent slices and the count words make.
--   slow_counts_in ws   the five counts that words hold
--   CallSlow          the promise of a load, a round or an edit; CallSlowRounds: of a round, with its bits
--   CallSlowRuns      the promise of run until calm
-- `lent` and `left` are the five tables before and after, each by its counts; ws and ws' are the count words, fs and fs' the words that are lent for an
-- answer's values; `few` says that fewer words are lent than the call needs: it then gives 2 and writes nothing. r is what the call says.
-- Assumes nothing.
use Rattle.std.specs.Prelude.{ℕ, ◌≡◌, Bool, true, false, ◌&&◌, List, get_or, take, drop}
use Rattle.lists.specs.Lists.{overlay}
use Rattle.kinds.specs.Given.{spoken}
use Rattle.component.specs.Record.{sized}
use Rattle.words.specs.Words.{values_in}
use Rattle.words.specs.Said.{short, says_short}
use Rattle.slow.specs.declared.SlowCounts.{SlowCounts}
use Rattle.simulator.specs.declared.Ran.{Ran}
use Rattle.slow.specs.Slow.{SlowTables, slow_gives, slow_ran_gives, SlowRounds}
use Rattle.std.specs.Prelude.{Result}
use Rattle.kinds.specs.declared.answers.Refusal.{Refusal}

-- The counts that words hold.
unfoldable pub slow_counts_in : List ℕ → SlowCounts
slow_counts_in ws =
    record { inputs = get_or ws 0 0; outputs = get_or ws 1 0; current = get_or ws 2 0; following = get_or ws 3 0; standing = get_or ws 4 0 }

-- Too few words for the counts, which is 2: "1" comes before it.
abbrev pub few_slow : List ℕ → List ℕ → Bool
few_slow file ws = sized file && short ws 5

-- A load, a round or an edit, where P is the engine's promise: its answer is said, and its counts are laid over the count words.
pub data CallSlow (P : SlowTables → Result SlowCounts Refusal → SlowTables → Type 0) (few : Bool) (ws ws' : List ℕ) (lent left : SlowCounts → SlowTables) (r : ℕ) :
    Type 0 where
  few_slow_counts : few ≡ true → r ≡ says_short → ws' ≡ ws → left (slow_counts_in ws) ≡ lent (slow_counts_in ws) → CallSlow P few ws ws' lent left r
  slow_changed : (a : Result SlowCounts Refusal) → few ≡ false → P (lent (slow_counts_in ws)) a (left (slow_counts_in ws')) → r ≡ spoken (slow_gives a)
      → ws' ≡ overlay (values_in (slow_gives a)) ws → CallSlow P few ws ws' lent left r

-- A round at time t, which is lent a table of bits besides: bs before, bs' after. Too few words leave it as it was.
abbrev pub CallSlowRounds : List ℕ → ℕ → List ℕ → List ℕ → List ℕ → List ℕ → (SlowCounts → SlowTables) → (SlowCounts → SlowTables) → ℕ → Type 0
CallSlowRounds file t ws ws' bs bs' lent left r =
    CallSlow (λ S a U. SlowRounds file t bs S a U bs') (few_slow file ws) ws ws' lent left r × (few_slow file ws ≡ true → bs' ≡ bs)

-- Run until calm: rounds, evaluations and bits set, the first three values, are laid over fs, the counts over the count words.
pub data CallSlowRuns (P : SlowTables → Result (Ran SlowCounts) Refusal → SlowTables → Type 0) (few : Bool) (ws ws' fs fs' : List ℕ) (lent left : SlowCounts → SlowTables) (r : ℕ) :
    Type 0 where
  few_to_run_slowly : few ≡ true → r ≡ says_short → ws' ≡ ws → fs' ≡ fs → left (slow_counts_in ws) ≡ lent (slow_counts_in ws)
      → CallSlowRuns P few ws ws' fs fs' lent left r
  ran_slowly : (a : Result (Ran SlowCounts) Refusal) → few ≡ false → P (lent (slow_counts_in ws)) a (left (slow_counts_in ws')) → r ≡ spoken (slow_ran_gives a)
      → ws' ≡ overlay (drop 3 (values_in (slow_ran_gives a))) ws → fs' ≡ overlay (take 3 (values_in (slow_ran_gives a))) fs
      → CallSlowRuns P few ws ws' fs fs' lent left r
