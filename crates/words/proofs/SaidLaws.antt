-- A call that is lent words enough; and a call that changes the tables, that is lent too few or that the engine answers.
--   counts_after_lem    the count words after an answer hold the counts after it
-- Assumes nothing.
use mathlib.Core.Path.{◌≡◌, refl, ap, sym, ◌∙◌, subst}
use mathlib.Core.Bool.{Bool, false, ◌||◌}
use mathlib.Core.List.{List}
use Prim.Native.Nat.{ℕ, ◌≤◌, ◌<◌}
use lib.ListN.{length}
use borrow.Author.Tests.{lt-ltb, le-ltb, ltb-false}
use Rattle.lists.specs.Lists.{overlay}
use Rattle.lists.proofs.TestsLaws.{or_left, or_right}
use Rattle.kinds.specs.Given.{spoken}
use Rattle.tables.specs.declared.Counts.{Counts}
use Rattle.tables.specs.Tables.{Tables, answer_gives, counts_after}
use Rattle.words.specs.Words.{counts_in, values_in}
use Rattle.words.specs.Said.{short, CallChanges, few_counts, changed}
use Rattle.std.specs.Prelude.{Result, Ok, Err}
use Rattle.kinds.specs.declared.answers.Refusal.{Refusal}

-- Seven count words are lent, and n for the answer.
module _ (ws fs : List ℕ) (n : ℕ) (h : (short ws 7 || short fs n) ≡ false) where
  pub enough_counts : 7 ≤ length ws
  enough_counts = ltb-false (length ws) 7 (or_left (short ws 7) (short fs n) h)

  pub enough_found : n ≤ length fs
  enough_found = ltb-false (length fs) n (or_right (short ws 7) (short fs n) h)

-- The count words after an answer.
counts_after_lem : (a : Result Counts Refusal) (ws : List ℕ) → counts_in (overlay (values_in (answer_gives a)) ws) ≡ counts_after a (counts_in ws)
unfolding counts_in overlay
counts_after_lem (Ok m) ws = refl
counts_after_lem (Err x) ws = refl

-- A call that changes the tables.
module _ (P : Tables → Result Counts Refusal → Tables → Type 0) (ws : List ℕ) (lent : Counts → Tables) where
  pub change_short : length ws < 7 → CallChanges P (short ws 7) ws ws lent lent 131072
  change_short h = few_counts (lt-ltb (length ws) 7 h) refl refl refl

  pub change_answered : (few : Bool) (a : Result Counts Refusal) (m : Counts) (ws' : List ℕ) (left : Counts → Tables) (r : ℕ) → few ≡ false → m ≡ counts_in ws
      → P (lent m) a (left (counts_after a m)) → r ≡ spoken (answer_gives a) → ws' ≡ overlay (values_in (answer_gives a)) ws
      → CallChanges P few ws ws' lent left r
  change_answered few a m ws' left r h q p n w =
      let p' : P (lent (counts_in ws)) a (left (counts_after a (counts_in ws))) =
      subst (λ (k : Counts). P (lent k) a (left (counts_after a k))) q p in
      changed a h (subst (λ (k : Counts). P (lent (counts_in ws)) a (left k)) (sym (ap counts_in w ∙ counts_after_lem a ws)) p') n w

  pub change_made : (a : Result Counts Refusal) (m : Counts) (ws' : List ℕ) (left : Counts → Tables) (r : ℕ) → 7 ≤ length ws → m ≡ counts_in ws
      → P (lent m) a (left (counts_after a m)) → r ≡ spoken (answer_gives a) → ws' ≡ overlay (values_in (answer_gives a)) ws
      → CallChanges P (short ws 7) ws ws' lent left r
  change_made a m ws' left r h = change_answered (short ws 7) a m ws' left r (le-ltb (length ws) 7 h)
