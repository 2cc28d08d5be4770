-- A round and run until calm, lent too few words or answered by the engine; every number that a change gives back is at most 28, at position 0.
--   counts_after_run_lem    the count words after a run hold the counts after it
-- Assumes nothing.
use mathlib.Core.Path.{◌≡◌, refl, ap, sym, ◌∙◌, subst}
use mathlib.Core.Bool.{Bool, true, false, cond, not, ◌&&◌, ◌||◌, true≢false}
use mathlib.Core.List.{List, [], ◌∷◌}
use Prim.Native.Nat.{ℕ, ◌≤◌, ◌<◌}
use native.Mathlib.Omega.{arith}
use borrow.Author.Tests.{le-ltb}
use lib.ListN.{length, take, drop}
use lib.Dec.{leb, ltb}
use Rattle.lists.specs.Lists.{◌if◌, overlay}
use Rattle.value.specs.Value.{of_width, fits}
use Rattle.kinds.specs.declared.Kind.TheVariants.{Switch, Input}
use Rattle.kinds.specs.Kinds.{is, input_width, output_width}
use Rattle.kinds.specs.Given.{Given, giving, spoken}
use Rattle.tables.specs.declared.Counts.{Counts}
use Rattle.tables.specs.Tables.{Tables, fields_at, answer_gives, counts_after}
use Rattle.net.specs.Net.{net_number}
use Rattle.simulator.specs.declared.Ran.{Ran}
use Rattle.simulator.specs.Calls.{round_number, driven, edit_number, ran_gives, counts_after_run}
use Rattle.rounds.specs.Round.{is_order}
use Rattle.simulator.specs.Ordered.{ordered_number}
use Rattle.words.specs.Words.{counts_in, values_in}
use Rattle.words.specs.Said.{short}
use Rattle.words.proofs.PlainLaws.{chosen_small, refusal_small, net_small, on_net_small, Plain, giving_plain, plain_as}
use Rattle.words.proofs.SaidLaws.{change_short, change_made}
use Rattle.changing.specs.Changing.{CallMoves, CallRuns, few_to_run, ran}
use Rattle.std.specs.Prelude.{Result, Ok, Err}
use Rattle.kinds.specs.declared.answers.Refusal.{Refusal}

-- The count words after a run.
counts_after_run_lem : (a : Result (Ran Counts) Refusal) (ws : List ℕ) → counts_in (overlay (drop 3 (values_in (ran_gives a))) ws) ≡ counts_after_run a (counts_in ws)
unfolding counts_in overlay
counts_after_run_lem (Ok a) ws = refl
counts_after_run_lem (Err x) ws = refl

-- A round, in stored order or in one that is handed in.
module _ (P : List ℕ → Tables → Result Counts Refusal → Tables → Type 0) (ws bs : List ℕ) (lent : Counts → Tables) where
  pub round_short : length ws < 7 → CallMoves (P bs) (short ws 7) ws ws bs bs lent lent 131072
  round_short h = (change_short _ ws lent h, λ e. refl)

  pub round_answered : (a : Result Counts Refusal) (m : Counts) (ws' bs' : List ℕ) (left : Counts → Tables) (r : ℕ) → 7 ≤ length ws → m ≡ counts_in ws
      → P bs' (lent m) a (left (counts_after a m)) → r ≡ spoken (answer_gives a) → ws' ≡ overlay (values_in (answer_gives a)) ws
      → CallMoves (P bs') (short ws 7) ws ws' bs bs' lent left r
  round_answered a m ws' bs' left r h q p n w =
      (change_made _ ws lent a m ws' left r h q p n w, λ e. absurd (true≢false (sym e ∙ le-ltb (length ws) 7 h)))

-- Run until calm.
module _ (P : Tables → Result (Ran Counts) Refusal → Tables → Type 0) (ws fs : List ℕ) (lent : Counts → Tables) where
  abbrev few_words : Bool
  few_words = short ws 7 || short fs 3

  pub run_short : few_words ≡ true → CallRuns P few_words ws ws fs fs lent lent 131072
  run_short h = few_to_run h refl refl refl refl

  pub run_made : (a : Result (Ran Counts) Refusal) (m : Counts) (ws' fs' : List ℕ) (left : Counts → Tables) (r : ℕ) → few_words ≡ false → m ≡ counts_in ws
      → P (lent m) a (left (counts_after_run a m)) → r ≡ spoken (ran_gives a) → ws' ≡ overlay (drop 3 (values_in (ran_gives a))) ws
      → fs' ≡ overlay (take 3 (values_in (ran_gives a))) fs
      → CallRuns P few_words ws ws' fs fs' lent left r
  run_made a m ws' fs' left r h q p n w f =
      let p' : P (lent (counts_in ws)) a (left (counts_after_run a (counts_in ws))) =
      subst (λ (k : Counts). P (lent k) a (left (counts_after_run a k))) q p in
      ran a h (subst (λ (k : Counts). P (lent (counts_in ws)) a (left k)) (sym (ap counts_in w ∙ counts_after_run_lem a ws)) p') n w f

-- What the changes give.
edit_number_small : (T : Tables) (i v : ℕ) → edit_number T i v ≤ 28
unfolding edit_number
edit_number_small T i v =
    on_net_small T _
    (refusal_small
    ((17 if leb T.counts.components i)
    ∷ (18 if not (is Switch (fields_at T i) || (is Input (fields_at T i) && not (driven T i))))
    ∷ (19 if not (fits (of_width (cond (is Switch (fields_at T i)) (output_width (fields_at T i)) (input_width (fields_at T i))) v))) ∷ [])
    (omega arith, (omega arith, (omega arith, omega arith))))

pub rounded_plain : (T : Tables) (bits : List ℕ) (g : Given) (xs : List ℕ) → g ≡ giving (round_number T bits) xs → Plain g
rounded_plain T bits g xs e =
    plain_as g (giving (round_number T bits) xs) e
    (giving_plain (round_number T bits) xs (chosen_small (ltb (length bits) 256) 2 (net_number T) (omega arith) (net_small T)))

pub ordered_plain : (T : Tables) (order bits : List ℕ) (g : Given) (xs : List ℕ) → g ≡ giving (ordered_number T order bits) xs → Plain g
unfolding ordered_number
ordered_plain T order bits g xs e =
    plain_as g (giving (ordered_number T order bits) xs) e
    (giving_plain (ordered_number T order bits) xs
    (chosen_small (ltb (length order) 1024 || ltb (length bits) 256) 2 _ (omega arith)
    (on_net_small T _ (refusal_small ((24 if not (is_order T.counts.wires order)) ∷ []) (omega arith, omega arith)))))

pub changed_plain : (T : Tables) (g : Given) (xs : List ℕ) → g ≡ giving (net_number T) xs → Plain g
changed_plain T g xs e = plain_as g (giving (net_number T) xs) e (giving_plain (net_number T) xs (net_small T))

pub edited_plain : (T : Tables) (i v : ℕ) (g : Given) (xs : List ℕ) → g ≡ giving (edit_number T i v) xs → Plain g
edited_plain T i v g xs e = plain_as g (giving (edit_number T i v) xs) e (giving_plain (edit_number T i v) xs (edit_number_small T i v))
