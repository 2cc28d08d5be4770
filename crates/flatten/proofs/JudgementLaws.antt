-- Laws of specs/Verdict.antt, one for each way out of a function of src/judgement.rt: what the first record that fails a check says;
-- one check more, by the place that its number has in their list; the file's size.
-- Assumes nothing.
use mathlib.Core.Path.{◌≡◌, refl, sym, ap, ◌∙◌}
use mathlib.Core.Bool.{Bool, true, false, cond, not, ◌&&◌, false≢true}
use mathlib.Core.List.{List, [], ◌∷◌, ◌++◌, map}
use mathlib.Core.Option.{Option, none, some}
use Prim.Native.Nat.{ℕ, zero, suc, ◌+◌, ◌-◌, ◌/◌, ◌%◌, ◌≤◌, ◌<◌}
use native.Mathlib.Decide.{dec_lt}
use native.Mathlib.Omega.{arith}
use borrow.Author.Tests.{not-true, not-false, ltb-true, leb-true}
use lib.Dec.{eqb, ltb, leb}
use lib.ListN.{length, get_or, take, drop, take-append-drop}
use lib.Seq.{drop-cons, take-suc}
use Rattle.lists.specs.Lists.{from, every, first}
use Rattle.lists.proofs.TestsLaws.{and_left, and_right}
use Rattle.lists.proofs.MembersLaws.{first_nothing, from0_sound}
use Rattle.kinds.specs.declared.answers.Refusal.{Refusal}
use Rattle.kinds.proofs.GivenLaws.{done_declined, declined_refusal}
use Rattle.component.specs.Record.{record_at, sized}
use Rattle.component.specs.declared.Record.{Record}
use Rattle.component.specs.Reading.{Readable}
use Rattle.checks.specs.Checks.{IsFirst}
use Rattle.flatten.specs.Verdict.{checks, refused, or_later, judged, verdict}
use Rattle.flatten.specs.Searches.{fails_at, PassedBefore, Judged}
use Rattle.flatten.proofs.Accepted.{Check, not_accepted, refused_not, no_check, passed_check}
use Rattle.kinds.specs.Given.{Verdict, verdict_gives}
use Rattle.std.specs.Prelude.{Ok, Err}

-- What is found is one of the positions looked at.
first_below : (f : ℕ → Bool) (q k p : ℕ) → first f (from q k) ≡ some p → p < q + k
first_below f q zero p e = let z : ◌≡◌ {A = ℕ} 0 1 = cc in absurd (omega arith)
first_below f q (suc k) p e = by_test (f q) e (first_below f (suc q) k p)
  where
    by_test : (b : Bool) → cond b (some q) (first f (from (suc q) k)) ≡ some p → (first f (from (suc q) k) ≡ some p → p < suc q + k)
        → p < q + suc k
    by_test true e later = let z : q ≡ p = cc in omega arith
    by_test false e later = omega (arith, later e)

-- The first position that fails is what a search finds.
first_from : (f : ℕ → Bool) (q k r : ℕ) → q ≤ r → r < q + k → ((j : ℕ) → j < r → f j ≡ false) → f r ≡ true → first f (from q k) ≡ some r
first_from f q zero r a b h e = absurd (omega arith)
first_from f q (suc k) r a b h e = by_place (dec_lt q r) (λ l. first_from f (suc q) k r (omega arith) (omega arith) h e)
  where
    by_place : Dec (q < r) → (q < r → first f (from (suc q) k) ≡ some r) → first f (from q (suc k)) ≡ some r
    by_place (yes l) later = rw (h q l) (later l)
    by_place (no l) later = let z : q ≡ r = omega arith in rw (z, e)

-- What check k says where p is the first record that fails it; where none does.
module _ (f : ℕ → Bool) (n k p : ℕ) (h : IsFirst f n p) where
  pub refused_first : p < n → refused k p ≡ or_later k (first f (from 0 n)) (Ok tt)
  refused_first l =
      ap (λ (x : Option ℕ). or_later k x (Ok tt)) (sym (first_from f 0 n p (omega arith) (omega arith) h.before (h.here l)))

  pub accepted_first : n ≤ p → (Ok tt) ≡ or_later k (first f (from 0 n)) (Ok tt)
  accepted_first l =
      ap (λ (x : Option ℕ). or_later k x (Ok tt)) (sym (first_nothing f (from 0 n) (λ j m. h.before j (omega (arith, from0_sound n j m)))))

-- Checks numbered from m on: the one at place j has number m + j, and F says what fails it, if F says that of each.
pub number_at : (cs : List Check) (m j : ℕ) → map (λ (c : Check). c.0) cs ≡ from m (length cs) → j < length cs
    → (get_or cs j no_check).0 ≡ m + j
number_at [] m j e h = absurd (omega arith)
number_at (c ∷ cs) m zero e h = let z : c.0 ≡ m = cc in omega arith
number_at (c ∷ cs) m (suc j) e h =
    let z : map (λ (x : Check). x.0) cs ≡ from (suc m) (length cs) = cc in
    omega (arith, number_at cs (suc m) j z (omega arith))

-- What a check says that finds a record, or none, before the later ones.
later_refused : (k : ℕ) (x : Option ℕ) (v : Verdict) (r : Refusal) → or_later k x (Ok tt) ≡ Err r → or_later k x v ≡ Err r
later_refused k (some p) v r e = e
later_refused k none v r e = let z : ◌≡◌ {A = ℕ} 0 1 = cc in absurd (omega arith)

-- Checks that accept leave the judgement to those behind them.
pub judged_append : (n : ℕ) (xs ys : List Check) → judged n xs ≡ Ok tt → judged n (xs ++ ys) ≡ judged n ys
judged_append n [] ys e = refl
judged_append n (x ∷ xs) ys e = by_found (judged_append n xs ys) (first x.1 (from 0 n)) e
  where
    by_found : (judged n xs ≡ Ok tt → judged n (xs ++ ys) ≡ judged n ys) → (found : Option ℕ)
        → or_later x.0 found (judged n xs) ≡ Ok tt → or_later x.0 found (judged n (xs ++ ys)) ≡ judged n ys
    by_found later (some q) e = absurd (refused_not x.0 q e)
    by_found later none e = later e

-- The checks, of which those before k have passed and those from place k - 3 on are still to be made.
module _ (s : List ℕ) (n k : ℕ) (passed : PassedBefore (record_at s) n k) where
  abbrev all : List Check
  all = checks (record_at s) n

  check_at : 3 ≤ k → k < 16 → get_or all (k - 3) no_check ≡ (k, fails_at (record_at s) n k)
  check_at h l =
      let z : (get_or all (k - 3) no_check).0 ≡ k = let e = number_at all 3 (k - 3) refl (omega arith) in omega arith in
      λ j. (z j, fails_at (record_at s) n k)

  -- a record fails check k; none does; all checks are made
  module _ (g : Verdict) (e : g ≡ or_later k (first (fails_at (record_at s) n k) (from 0 n)) (Ok tt)) where
    pub judged_here : (r : Refusal) → 3 ≤ k → k < 16 → g ≡ Err r → Err r ≡ judged n (checks (record_at s) n)
    judged_here r h l d =
        let later = drop (suc (k - 3)) all in
        sym (later_refused k (first (fails_at (record_at s) n k) (from 0 n)) (judged n later) r (sym e ∙ d))
        ∙ ap (λ (c : Check). judged n (c ∷ later)) (sym (check_at h l))
        ∙ ap (judged n) (sym (drop-cons all (k - 3) no_check (omega arith)))
        ∙ sym (judged_append n (take (k - 3) all) (drop (k - 3) all) passed)
        ∙ ap (judged n) (take-append-drop (k - 3) all)

    pub passed_next : 3 ≤ k → k < 16 → g ≡ Ok tt → PassedBefore (record_at s) n (k + 1)
    passed_next h l d =
        let y : k + 1 - 3 ≡ suc (k - 3) = omega arith in
        ap (λ (m : ℕ). judged n (take m all)) y
        ∙ ap (judged n) (take-suc all (k - 3) no_check (omega arith))
        ∙ judged_append n (take (k - 3) all) (get_or all (k - 3) no_check ∷ []) passed
        ∙ ap (λ (c : Check). judged n (c ∷ [])) (check_at h l) ∙ sym e ∙ d

  pub judged_all_lem : k ≤ 16 → 16 ≤ k → (Ok tt) ≡ judged n (checks (record_at s) n)
  judged_all_lem h l =
      let z : k - 3 ≡ 13 = omega arith in
      sym (ap (λ (m : ℕ). judged n (take m (checks (record_at s) n))) (sym z) ∙ passed)

-- One check more, p being the first record that fails it: it refuses; it passes.
module _ (s : List ℕ) (n k p : ℕ) (passed : PassedBefore (record_at s) n k) (h : 3 ≤ k) (l : k < 16) (f : IsFirst (fails_at (record_at s) n k) n p) where
  pub judged_refused : p < n → Judged (k + 1) (record_at s) n (refused k p)
  judged_refused b =
      record {
        passed = λ z. absurd (not_accepted _ z);
        refused = λ r z. judged_here s n k passed (refused k p) (refused_first (fails_at (record_at s) n k) n k p f b) r h l z;
      }

  pub judged_passed : n ≤ p → Judged (k + 1) (record_at s) n (Ok tt)
  judged_passed b =
      record {
        passed = λ z. passed_next s n k passed (Ok tt) (accepted_first (fails_at (record_at s) n k) n k p f b) h l refl;
        refused = λ r y. absurd (not_accepted r (sym y));
      }

-- A check that has refused before check m is the verdict of those before m.
pub judged_before : (at : ℕ → Record) (n k m : ℕ) (v : Verdict) (r : Refusal) → Judged k at n v → v ≡ Err r → Judged m at n (Err r)
judged_before at n k m v r d e =
    record { passed = λ z. absurd (not_accepted r z); refused = λ q z. sym z ∙ d.refused r e }

-- The checks before 4 and before 12 leave what the later ones ask.
pub readable_before : (s : List ℕ) (k : ℕ) → 3 < k → PassedBefore (record_at s) (length s / 24) k → Readable s
readable_before s k h passed p l = passed_check (record_at s) (length s / 24) k 3 p passed (omega arith) l

-- Check 1.
module _ (s : List ℕ) (b : Bool) (e : b ≡ sized s) where
  pub sized_most : not b ≡ false → length s / 24 ≤ 1024
  sized_most h =
      leb-true (length s / 24) 1024
      (and_right (not (eqb (length s) 0) && eqb (length s % 24) 0) (leb (length s / 24) 1024) (sym e ∙ not-false b h))

  pub unsized : not b ≡ true → sized s ≡ true → ⊥
  unsized h z = false≢true (sym (not-true b h) ∙ e ∙ z)

  pub verdict_sized : not b ≡ true → refused 1 0 ≡ verdict s
  unfolding verdict
  verdict_sized h = rw (← e, not-true b h)

  pub verdict_judged : (v : Verdict) → not b ≡ false → v ≡ judged (length s / 24) (checks (record_at s) (length s / 24)) → v ≡ verdict s
  unfolding verdict
  verdict_judged v h d = d ∙ rw (← e, not-false b h)

  -- the checks before 12 refuse; those from 12 on refuse or accept
  pub verdict_early : (v : Verdict) (r : Refusal) → not b ≡ false → Judged 12 (record_at s) (length s / 24) v → v ≡ Err r → Err r ≡ verdict s
  verdict_early v r h d z = verdict_judged (Err r) h (d.refused r z)

  pub verdict_late : (v : Verdict) → not b ≡ false → Judged 16 (record_at s) (length s / 24) v → v ≡ verdict s
  verdict_late (Ok _) h d =
      verdict_judged (Ok tt) h (judged_all_lem s (length s / 24) 16 (d.passed refl) (omega arith) (omega arith))
  verdict_late (Err r) h d = verdict_judged (Err r) h (d.refused r refl)

-- Verdicts that give the same are the same.
pub verdict_gives-is : (a b : Verdict) → verdict_gives a [] ≡ verdict_gives b [] → a ≡ b
verdict_gives-is (Ok _) (Ok _) e = refl
verdict_gives-is (Ok _) (Err r) e = absurd (done_declined [] r e)
verdict_gives-is (Err r) (Ok _) e = absurd (done_declined [] r (sym e))
verdict_gives-is (Err r) (Err s) e = ap Err (declined_refusal r s e)

-- A refusal's number is at most 15, its position is below 1,024, and it names no earlier record.
judged_bound : (n : ℕ) (cs : List Check) (r : Refusal) → every (λ (c : Check). ltb c.0 16) cs ≡ true → judged n cs ≡ Err r
    → (r.number < 16) × (r.position < n) × (r.earlier ≡ 0)
judged_bound n [] r h e = let z : ◌≡◌ {A = ℕ} 0 1 = cc in absurd (omega arith)
judged_bound n (c ∷ cs) r h e =
    by_find (first c.1 (from 0 n)) refl e
    (judged_bound n cs r (and_right (ltb c.0 16) (every (λ (x : Check). ltb x.0 16) cs) h))
  where
    by_find : (x : Option ℕ) → first c.1 (from 0 n) ≡ x → or_later c.0 x (judged n cs) ≡ Err r
        → (judged n cs ≡ Err r → (r.number < 16) × (r.position < n) × (r.earlier ≡ 0))
        → (r.number < 16) × (r.position < n) × (r.earlier ≡ 0)
    by_find (some p) u d later =
        let z : record { number = c.0; position = p; earlier = 0 } ≡ r = cc in
        let y : c.0 ≡ r.number = ap (λ (x : Refusal). x.number) z in
        let w : p ≡ r.position = ap (λ (x : Refusal). x.position) z in
        let l : c.0 < 16 = ltb-true c.0 16 (and_left (ltb c.0 16) (every (λ (x : Check). ltb x.0 16) cs) h) in
        (omega arith, omega (arith, first_below c.1 0 n p u), sym (ap (λ (x : Refusal). x.earlier) z))
    by_find none u d later = later d

pub verdict_bound : (s : List ℕ) (r : Refusal) → verdict s ≡ Err r → (r.number < 16) × (r.position < 1024) × (r.earlier ≡ 0)
unfolding verdict
verdict_bound s r e = by_size (sized s) refl e
  where
    by_size : (b : Bool) → b ≡ sized s
        → cond b (judged (length s / 24) (checks (record_at s) (length s / 24))) (refused 1 0) ≡ Err r
        → (r.number < 16) × (r.position < 1024) × (r.earlier ≡ 0)
    by_size true h d =
        let z = judged_bound (length s / 24) (checks (record_at s) (length s / 24)) r refl d in
        (z.0, omega (arith, z.1, sized_most s true h refl), z.2)
    by_size false h d =
        let z : record { number = 1; position = 0; earlier = 0 } ≡ r = cc in
        let y : 1 ≡ r.number = ap (λ (x : Refusal). x.number) z in
        let w : 0 ≡ r.position = ap (λ (x : Refusal). x.position) z in
        (omega arith, omega arith, sym (ap (λ (x : Refusal). x.earlier) z))

-- What a search with a test ends with, where the test says what f does: the first position that f holds of.
pub first_by : {P : ℕ → Type 0} {Q : Type 0} (f : ℕ → Bool) (n r : ℕ) → (r ≤ n) × ((p : ℕ) → p < r → P p) × (r < n → Q)
    → ((p : ℕ) → P p → f p ≡ false) → (Q → f r ≡ true) → IsFirst f n r
first_by f n r e passes fails = record { within = e.0; before = λ p h. passes p (e.1 p h); here = λ h. fails (e.2 h) }
