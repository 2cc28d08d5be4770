-- What the calls of the screen's host share: too few words, and the promise of a call that changes the tables. docs/SPECIFICATION.md, "Rounds" (the
-- host's call) and "Numbers given back". Each promise is the engine's own, by name, on the tables that the lent slices and the count words make.
--   short ws n    fewer than n words are lent
--   CallChanges   the promise of a load, a round or an edit
-- `lent` and `left` are the seven tables before and after, each by its counts; ws and ws' are the count words.
-- `few` says that fewer words are lent than the call needs: it then gives 2 and writes nothing. r is what the call says.
-- Assumes nothing.
use Rattle.std.specs.Prelude.{ℕ, ◌≡◌, Bool, true, false, List, length, ltb}
use Rattle.lists.specs.Lists.{overlay}
use Rattle.kinds.specs.Given.{declined, refused_by, spoken}
use Rattle.tables.specs.declared.Counts.{Counts}
use Rattle.tables.specs.Tables.{Tables, answer_gives}
use Rattle.words.specs.Words.{counts_in, values_in}
use Rattle.std.specs.Prelude.{Result}
use Rattle.kinds.specs.declared.answers.Refusal.{Refusal}

-- Fewer than n words are lent.
abbrev pub short : List ℕ → ℕ → Bool
short ws n = ltb (length ws) n

-- What a call says that is lent too few words: 2, at position 0.
abbrev pub says_short : ℕ
says_short = spoken (declined (refused_by 2))

-- A load, a round or an edit, where P is the engine's promise: its answer is said, and its counts are laid over the count words.
pub data CallChanges (P : Tables → Result Counts Refusal → Tables → Type 0) (few : Bool) (ws ws' : List ℕ) (lent left : Counts → Tables) (r : ℕ) : Type 0 where
  few_counts : few ≡ true → r ≡ says_short → ws' ≡ ws → left (counts_in ws) ≡ lent (counts_in ws) → CallChanges P few ws ws' lent left r
  changed : (a : Result Counts Refusal) → few ≡ false → P (lent (counts_in ws)) a (left (counts_in ws')) → r ≡ spoken (answer_gives a)
      → ws' ≡ overlay (values_in (answer_gives a)) ws → CallChanges P few ws ws' lent left r
