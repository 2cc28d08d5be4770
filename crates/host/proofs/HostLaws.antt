-- A load that is refused for its size, is lent too few words, or that the engine answers.
-- Assumes nothing.
use mathlib.Core.Path.{◌≡◌, refl}
use mathlib.Core.Bool.{Bool, true, false, ◌&&◌}
use mathlib.Core.List.{List}
use Prim.Native.Nat.{ℕ, ◌≤◌, ◌<◌}
use lib.ListN.{length}
use borrow.Author.Tests.{lt-ltb, le-ltb}
use Rattle.lists.specs.Lists.{overlay}
use Rattle.kinds.specs.Given.{refused_by, spoken}
use Rattle.component.specs.Record.{sized}
use Rattle.tables.specs.declared.Counts.{Counts}
use Rattle.tables.specs.Tables.{Tables, answer_gives, counts_after}
use Rattle.load.specs.Load.{load_verdict, load_tables, Loads}
use Rattle.words.specs.Words.{counts_in, values_in}
use Rattle.words.specs.Said.{short, CallChanges, few_counts}
use Rattle.words.proofs.WordsLaws.{none_laid}
use Rattle.words.proofs.SaidLaws.{change_answered}
use Rattle.std.specs.Prelude.{Result, Err}
use Rattle.kinds.specs.declared.answers.Refusal.{Refusal}

-- A load, whose check 1 comes before too few count words.
module _ (file ws : List ℕ) (lent : Counts → Tables) where
  abbrev few_loaded : Bool
  few_loaded = sized file && short ws 7

  unsized : (T : Tables) → sized file ≡ false → Loads file T (Err (refused_by 1)) T
  unfolding load_verdict load_tables
  unsized T h = rw h (refl, refl)

  pub load_unsized : sized file ≡ false → CallChanges (Loads file) few_loaded ws ws lent lent 65536
  load_unsized h =
      change_answered (Loads file) ws lent few_loaded (Err (refused_by 1)) (counts_in ws) ws lent 65536 (rw h) refl
      (unsized (lent (counts_in ws)) h) refl (none_laid ws)

  pub load_short : sized file ≡ true → length ws < 7 → CallChanges (Loads file) few_loaded ws ws lent lent 131072
  load_short h s = few_counts (rw (h, lt-ltb (length ws) 7 s)) refl refl refl

  pub load_made : (a : Result Counts Refusal) (ws' : List ℕ) (left : Counts → Tables) (r : ℕ) → sized file ≡ true → 7 ≤ length ws
      → ((m : Counts) → Loads file (lent m) a (left (counts_after a m)))
      → r ≡ spoken (answer_gives a) → ws' ≡ overlay (values_in (answer_gives a)) ws
      → CallChanges (Loads file) few_loaded ws ws' lent left r
  load_made a ws' left r h s p =
      change_answered (Loads file) ws lent few_loaded a (counts_in ws) ws' left r (rw (h, le-ltb (length ws) 7 s)) refl (p (counts_in ws))
