-- What a round, in stored order or in one that is handed in, and run until calm promise, called from C. docs/SPECIFICATION.md, "Rounds" (the host's call)
-- and "Numbers given back". Each promise is the engine's own, by name, on the tables that the lent slices and the count words make. (An edit promises
-- `CallChanges`.)
--   CallRounds          the promise of a round
--   CallRoundsOrdered   the promise of a round in an order
--   CallRuns            the promise of run until calm
-- `lent` and `left` are the seven tables before and after, each by its counts; ws and ws' are the count words, fs and fs' the words that are lent for an
-- answer's values; `few` says that fewer words are lent than the call needs: it then gives 2 and writes nothing. r is what the call says.
-- Assumes nothing.
use Rattle.std.specs.Prelude.{ℕ, ◌≡◌, Bool, true, false, List, take, drop}
use Rattle.lists.specs.Lists.{overlay}
use Rattle.kinds.specs.Given.{spoken}
use Rattle.tables.specs.declared.Counts.{Counts}
use Rattle.tables.specs.Tables.{Tables}
use Rattle.simulator.specs.declared.Ran.{Ran}
use Rattle.simulator.specs.Calls.{Rounds, ran_gives}
use Rattle.simulator.specs.Ordered.{RoundsOrdered}
use Rattle.words.specs.Words.{counts_in, values_in}
use Rattle.words.specs.Said.{says_short, CallChanges}
use Rattle.std.specs.Prelude.{Result}
use Rattle.kinds.specs.declared.answers.Refusal.{Refusal}

-- A round is lent a table of bits besides: bs before, bs' after. Too few words leave it as it was.
abbrev pub CallMoves : (Tables → Result Counts Refusal → Tables → Type 0) → Bool → List ℕ → List ℕ → List ℕ → List ℕ → (Counts → Tables) → (Counts → Tables) → ℕ → Type 0
CallMoves P few ws ws' bs bs' lent left r = CallChanges P few ws ws' lent left r × (few ≡ true → bs' ≡ bs)

-- A round at time t.
abbrev pub CallRounds : ℕ → Bool → List ℕ → List ℕ → List ℕ → List ℕ → (Counts → Tables) → (Counts → Tables) → ℕ → Type 0
CallRounds t few ws ws' bs bs' = CallMoves (λ T a U. Rounds t bs T a U bs') few ws ws' bs bs'

-- A round at time t in an order of all wires.
abbrev pub CallRoundsOrdered : ℕ → List ℕ → Bool → List ℕ → List ℕ → List ℕ → List ℕ → (Counts → Tables) → (Counts → Tables) → ℕ → Type 0
CallRoundsOrdered t order few ws ws' bs bs' = CallMoves (λ T a U. RoundsOrdered t order bs T a U bs') few ws ws' bs bs'

-- Run until calm: rounds, evaluations and bits set, the first three values, are laid over fs, the counts over the count words.
pub data CallRuns (P : Tables → Result (Ran Counts) Refusal → Tables → Type 0) (few : Bool) (ws ws' fs fs' : List ℕ) (lent left : Counts → Tables) (r : ℕ) : Type 0 where
  few_to_run : few ≡ true → r ≡ says_short → ws' ≡ ws → fs' ≡ fs → left (counts_in ws) ≡ lent (counts_in ws) → CallRuns P few ws ws' fs fs' lent left r
  ran : (a : Result (Ran Counts) Refusal) → few ≡ false → P (lent (counts_in ws)) a (left (counts_in ws')) → r ≡ spoken (ran_gives a)
      → ws' ≡ overlay (drop 3 (values_in (ran_gives a))) ws → fs' ≡ overlay (take 3 (values_in (ran_gives a))) fs
      → CallRuns P few ws ws' fs fs' lent left r
