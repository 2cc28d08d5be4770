-- What the questions of the screen's host promise. docs/SPECIFICATION.md, "Rounds" (the host's call) and "Numbers given back". Each promise is the
-- engine's own, by name, on the tables that the lent slices and the count words make.
--   CallAsks, CallLists   the promises of the calls, by their shape
-- `lent` are the seven tables, by their counts; ws are the count words, fs and fs' the words that are lent for an answer's values, before and after;
-- `few` says that fewer words are lent than the call needs: it then gives 2 and writes nothing. r is what the call says.
-- Assumes nothing.
use Rattle.std.specs.Prelude.{ℕ, ◌≡◌, Bool, true, false, List}
use Rattle.lists.specs.Lists.{overlay}
use Rattle.kinds.specs.Given.{Given, spoken}
use Rattle.tables.specs.declared.Counts.{Counts}
use Rattle.tables.specs.Tables.{Tables}
use Rattle.questions.specs.Questions.{list_gives}
use Rattle.words.specs.Words.{counts_in, values_in}
use Rattle.words.specs.Said.{says_short}
use Rattle.std.specs.Prelude.{Result}
use Rattle.kinds.specs.declared.answers.Refusal.{Refusal}

-- A question: its values are laid over fs.
pub data CallAsks {A : Type 0} (gives : A → Given) (P : Tables → A → Type 0) (few : Bool) (ws fs fs' : List ℕ) (lent : Counts → Tables) (r : ℕ) : Type 0 where
  few_to_ask : few ≡ true → r ≡ says_short → fs' ≡ fs → CallAsks gives P few ws fs fs' lent r
  asked : (a : A) → few ≡ false → P (lent (counts_in ws)) a → r ≡ spoken (gives a) → fs' ≡ overlay (values_in (gives a)) fs
      → CallAsks gives P few ws fs fs' lent r

-- A question that lays a list: ls and ls' are the lent list before and after.
pub data CallLists (P : Tables → List ℕ → Result ℕ Refusal → List ℕ → Type 0) (few : Bool) (ws ls ls' fs fs' : List ℕ) (lent : Counts → Tables) (r : ℕ) : Type 0 where
  few_to_list : few ≡ true → r ≡ says_short → ls' ≡ ls → fs' ≡ fs → CallLists P few ws ls ls' fs fs' lent r
  listed : (a : Result ℕ Refusal) → few ≡ false → P (lent (counts_in ws)) ls a ls' → r ≡ spoken (list_gives a)
      → fs' ≡ overlay (values_in (list_gives a)) fs → CallLists P few ws ls ls' fs fs' lent r
