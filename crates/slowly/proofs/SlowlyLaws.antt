-- The slow engine's calls from C, lent too few words or answered by the engine; each number and position fits the answer.
--   IsSlow file v     v is a load's own verdict with a number of at most 28 behind it
-- Assumes nothing.
use mathlib.Core.Path.{◌≡◌, refl, sym, ap, ◌∙◌, subst}
use Prim.Native.Nat.{ℕ, ◌≤◌, ◌<◌}
use mathlib.Core.Bool.{Bool, true, false, cond, not, ◌&&◌, ◌||◌, true≢false}
use mathlib.Core.List.{List, [], ◌∷◌}
use mathlib.Core.Option.{Option, none, some}
use native.Mathlib.Omega.{arith}
use borrow.Author.Tests.{ltb-false}
use lib.ListN.{length, take, drop}
use lib.Dec.{eqb, leb}
use Rattle.lists.specs.Lists.{overlay, refusal, ◌if◌}
use Rattle.lists.proofs.TestsLaws.{and_right_false, or_left, or_right}
use Rattle.kinds.specs.declared.Kind.TheVariants.{Switch, Input}
use Rattle.kinds.specs.Kinds.{is, input_width, output_width}
use Rattle.kinds.specs.Given.{Given, done, spoken, refused_by, Verdict, verdict_gives}
use Rattle.value.specs.Value.{fits, of_width}
use Rattle.component.specs.Record.{record_at, record_count, sized}
use Rattle.flatten.specs.Verdict.{refused, and_then}
use Rattle.meeting.specs.Meeting.{judgement}
use Rattle.meeting.proofs.SpokenLaws.{spoken_of, judged_small, cond_small, by_verdict}
use Rattle.tables.specs.Tables.{fields_at}
use Rattle.laying.specs.Laid.{primitives}
use Rattle.words.specs.Words.{values_in}
use Rattle.words.specs.Said.{short}
use Rattle.words.proofs.PlainLaws.{refusal_small}
use Rattle.slow.specs.declared.SlowCounts.{SlowCounts}
use Rattle.simulator.specs.declared.Ran.{Ran}
use Rattle.slow.specs.Slow.{SlowTables, slow_full, drawn, led_into, slow_right, slow_number, slow_edit_number, slow_verdict, slow_load_verdict, slow_round_verdict, slow_edit_verdict, slow_run_verdict, slow_gives, slow_ran_gives, slow_counts_after, slow_counts_after_run, SlowRounds}
use Rattle.slowly.specs.Slowly.{slow_counts_in, few_slow, CallSlow, few_slow_counts, slow_changed, CallSlowRounds, CallSlowRuns, few_to_run_slowly, ran_slowly}
use Rattle.std.specs.Prelude.{Result, Ok, Err}
use Rattle.kinds.specs.declared.answers.Refusal.{Refusal}

-- The count words after a call.
counts_after_lem : (a : Result SlowCounts Refusal) (ws : List ℕ) → slow_counts_in (overlay (values_in (slow_gives a)) ws) ≡ slow_counts_after a (slow_counts_in ws)
unfolding slow_counts_in overlay
counts_after_lem (Ok m) ws = refl
counts_after_lem (Err x) ws = refl

counts_after_run_lem : (a : Result (Ran SlowCounts) Refusal) (ws : List ℕ) → slow_counts_in (overlay (drop 3 (values_in (slow_ran_gives a))) ws) ≡ slow_counts_after_run a (slow_counts_in ws)
unfolding slow_counts_in overlay
counts_after_run_lem (Ok a) ws = refl
counts_after_run_lem (Err x) ws = refl

-- A load, a round or an edit.
module _ (P : SlowTables → Result SlowCounts Refusal → SlowTables → Type 0) (few : Bool) (ws : List ℕ) (lent : SlowCounts → SlowTables) where
  pub call_short : few ≡ true → CallSlow P few ws ws lent lent 131072
  call_short e = few_slow_counts e refl refl refl

  pub call_made : (a : Result SlowCounts Refusal) (m : SlowCounts) (ws' : List ℕ) (left : SlowCounts → SlowTables) (r : ℕ) → few ≡ false → m ≡ slow_counts_in ws
      → P (lent m) a (left (slow_counts_after a m)) → r ≡ spoken (slow_gives a) → ws' ≡ overlay (values_in (slow_gives a)) ws
      → CallSlow P few ws ws' lent left r
  call_made a m ws' left r h q p n w =
      let p' : P (lent (slow_counts_in ws)) a (left (slow_counts_after a (slow_counts_in ws))) =
      subst (λ (k : SlowCounts). P (lent k) a (left (slow_counts_after a k))) q p in
      slow_changed a h (subst (λ (k : SlowCounts). P (lent (slow_counts_in ws)) a (left k)) (sym (ap slow_counts_in w ∙ counts_after_lem a ws)) p') n w

-- A round, with its bits.
module _ (file : List ℕ) (t : ℕ) (ws bs : List ℕ) (lent : SlowCounts → SlowTables) where
  pub round_short : few_slow file ws ≡ true → CallSlowRounds file t ws ws bs bs lent lent 131072
  round_short e = (call_short _ (few_slow file ws) ws lent e, λ h. refl)

  pub round_made : (a : Result SlowCounts Refusal) (m : SlowCounts) (ws' bs' : List ℕ) (left : SlowCounts → SlowTables) (r : ℕ) → few_slow file ws ≡ false
      → m ≡ slow_counts_in ws → SlowRounds file t bs (lent m) a (left (slow_counts_after a m)) bs' → r ≡ spoken (slow_gives a)
      → ws' ≡ overlay (values_in (slow_gives a)) ws → CallSlowRounds file t ws ws' bs bs' lent left r
  round_made a m ws' bs' left r h q p n w =
      (call_made _ (few_slow file ws) ws lent a m ws' left r h q p n w, λ e. absurd (true≢false (sym e ∙ h)))

-- Run until calm.
module _ (P : SlowTables → Result (Ran SlowCounts) Refusal → SlowTables → Type 0) (few : Bool) (ws fs : List ℕ) (lent : SlowCounts → SlowTables) where
  pub run_short : few ≡ true → CallSlowRuns P few ws ws fs fs lent lent 131072
  run_short h = few_to_run_slowly h refl refl refl refl

  pub run_made : (a : Result (Ran SlowCounts) Refusal) (m : SlowCounts) (ws' fs' : List ℕ) (left : SlowCounts → SlowTables) (r : ℕ) → few ≡ false → m ≡ slow_counts_in ws
      → P (lent m) a (left (slow_counts_after_run a m)) → r ≡ spoken (slow_ran_gives a) → ws' ≡ overlay (drop 3 (values_in (slow_ran_gives a))) ws
      → fs' ≡ overlay (take 3 (values_in (slow_ran_gives a))) fs → CallSlowRuns P few ws ws' fs fs' lent left r
  run_made a m ws' fs' left r h q p n w f =
      let p' : P (lent (slow_counts_in ws)) a (left (slow_counts_after_run a (slow_counts_in ws))) =
      subst (λ (k : SlowCounts). P (lent k) a (left (slow_counts_after_run a k))) q p in
      ran_slowly a h (subst (λ (k : SlowCounts). P (lent (slow_counts_in ws)) a (left k)) (sym (ap slow_counts_in w ∙ counts_after_run_lem a ws)) p') n w f

-- The verdicts of the calls.
pub record IsSlow (file : List ℕ) (v : Verdict) : Type 0 where
  pub long : Bool
  pub number : ℕ
  pub small : number ≤ 28
  pub behind : v ≡ slow_verdict file long number

module _ (file : List ℕ) (S : SlowTables) where
  number_small : slow_number (record_at file) (record_count file) S ≤ 28
  unfolding slow_number
  number_small = by_right (slow_right (record_at file) (record_count file) S)
    where
      by_right : (b : Bool) → refusal ((20 if not b) ∷ []) ≤ 28
      by_right true = omega arith
      by_right false = omega arith

  pub load_is : IsSlow file (slow_load_verdict file S)
  unfolding slow_load_verdict
  load_is = record { long = slow_full S; number = 0; small = omega arith; behind = refl }

  pub round_is : (bits : List ℕ) → IsSlow file (slow_round_verdict file S bits)
  unfolding slow_round_verdict
  round_is bits =
      record { long = slow_full S && leb 256 (length bits); number = slow_number (record_at file) (record_count file) S; small = number_small; behind = refl }

  pub run_is : IsSlow file (slow_run_verdict file S)
  unfolding slow_run_verdict
  run_is = record { long = slow_full S; number = slow_number (record_at file) (record_count file) S; small = number_small; behind = refl }

  edit_small : (i v : ℕ) → slow_edit_number (record_at file) (record_count file) S i v ≤ 28
  unfolding slow_edit_number
  edit_small i v =
      let f = fields_at (drawn (record_at file) (record_count file) S) i in
      let own =
      (17 if leb (length (primitives (record_at file) (record_count file))) i)
      ∷ (18 if not (is Switch f || (is Input f && not (led_into (record_at file) (record_count file) i))))
      ∷ (19 if not (fits (of_width (cond (is Switch f) (output_width f) (input_width f)) v))) ∷ [] in
      by_right (slow_right (record_at file) (record_count file) S) own
      (refusal_small own
      (omega arith, (omega arith, (omega arith, omega arith))))
    where
      by_right : (b : Bool) (cs : List (ℕ × Bool)) → refusal cs ≤ 28 → refusal ((20 if not b) ∷ cs) ≤ 28
      by_right true cs h = omega (arith, h)
      by_right false cs h = omega arith

  pub edit_is : (i v : ℕ) → IsSlow file (slow_edit_verdict file S i v)
  unfolding slow_edit_verdict
  edit_is i v = record { long = slow_full S; number = slow_edit_number (record_at file) (record_count file) S i v; small = edit_small i v; behind = refl }

-- Whether values are given.
abbrev some_of : Option (List ℕ) → Bool
some_of (some l) = true
some_of none = false

abbrev laid : Given → Bool
laid h = some_of h.values

-- So what is said fits.
module _ (file : List ℕ) (v : Verdict) (s : IsSlow file v) (g : Given) (xs : List ℕ) (e : g ≡ verdict_gives v xs) where
  verdict_small : (long : Bool) (k : ℕ) → k ≤ 28 → spoken_of (slow_verdict file long k) < 4294967296
  verdict_small long k h =
      cond_small (sized file) (cond long (and_then (judgement file) k) (refused 2 0)) (refused 1 0)
      (cond_small long (and_then (judgement file) k) (refused 2 0) (by_judgement (judgement file) refl) (omega arith)) (omega arith)
    where
      by_judgement : (u : Verdict) → judgement file ≡ u → spoken_of (and_then u k) < 4294967296
      by_judgement (Err r) j = judged_small file (Err r) j
      by_judgement (Ok _) j = cond_small (eqb k 0) (Ok tt) (Err (refused_by k)) (omega arith) (omega (arith, h))

  pub said_small : spoken g < 4294967296
  said_small =
      let same : spoken g ≡ spoken_of (slow_verdict file s.long s.number) = ap spoken e ∙ by_verdict v xs ∙ ap spoken_of s.behind in
      let small = verdict_small s.long s.number s.small in
      subst (λ (k : ℕ). k < 4294967296) (sym same) small

  -- And where the call is done, the file has a size.
  pub done_sized : (ys : List ℕ) → g ≡ done ys → sized file ≡ true
  done_sized ys d = by_size (sized file) s.long (sym d ∙ e ∙ ap (λ (u : Verdict). verdict_gives u xs) s.behind)
    where
      by_size : (a b : Bool) → done ys ≡ verdict_gives (cond a (cond b (and_then (judgement file) s.number) (refused 2 0)) (refused 1 0)) xs → a ≡ true
      by_size true b h = refl
      by_size false b h = absurd (true≢false (ap laid h))

-- Then the words that are lent have room.
pub room_counts : (file ws : List ℕ) → few_slow file ws ≡ false → sized file ≡ true → 5 ≤ length ws
room_counts file ws h s = ltb-false (length ws) 5 (and_right_false (sized file) (short ws 5) h s)

pub room_run : (file ws fs : List ℕ) → (sized file && (short ws 5 || short fs 3)) ≡ false → sized file ≡ true → (5 ≤ length ws) × (3 ≤ length fs)
room_run file ws fs h s =
    let e = and_right_false (sized file) (short ws 5 || short fs 3) h s in
    (ltb-false (length ws) 5 (or_left (short ws 5) (short fs 3) e), ltb-false (length fs) 3 (or_right (short ws 5) (short fs 3) e))
