-- A reader to whom the kinds end at a number, as one to whom a component of a later kind is newer: it takes its kind for none, and check 8 refuses that.
-- Checks 3 to 7 look at the kind only for a composite's or Custom's, which no later one is. With 14 for the number, what is newer is a Majority.
-- Assumes nothing.
use mathlib.Core.Path.{◌≡◌, refl, sym, ap, ◌∙◌}
use mathlib.Core.Bool.{Bool, true, false, ◌&&◌}
use mathlib.Core.List.{List}
use mathlib.Core.Option.{some}
use Prim.Native.Nat.{ℕ}
use native.Mathlib.Omega.{arith}
use borrow.Author.Tests.{ltb-true, ltb-false, leb-false, eq-eqb, ne_eqb}
use lib.Dec.{eqb, ltb}
use Rattle.lists.specs.Lists.{from, first}
use Rattle.lists.proofs.TestsLaws.{and_right}
use Rattle.kinds.specs.declared.Kind.TheVariants.{Majority}
use Rattle.kinds.specs.Kinds.{for_custom, unknown, is}
use Rattle.component.specs.declared.Record.{Record}
use Rattle.component.specs.Record.{numbers_in, record_count, record_at, fields_of}
use Rattle.component.specs.Drawing.{fails7, fails8}
use Rattle.flatten.specs.Verdict.{refused, verdict}
use Rattle.flatten.proofs.Accepted.{accepted_check}
use Rattle.meeting.specs.Meeting.{judgement}
use Rattle.earlier.specs.Reader.{unheard}
use Rattle.earlier.specs.Earlier.{later, file_to, EarlierChecks, EarlierLoads, EarlierRuns, LaterFiles}
use Rattle.earlier.proofs.TakenLaws.{numbers_by, place_by, is_newer, taken_by, itself, records_taken, Takes, newer_form}
use Rattle.earlier.proofs.AlikeHolds.{Refuses, checks_newer, loads_alike, runs_alike}
use Rattle.earlier.proofs.FirstHolds.{passing, judged_from7, found, judged_taken, answers_first}
use Rattle.std.specs.Prelude.{Ok}

-- The place of the kind in a record; what the reader makes of a later kind. C it leaves as it is.
abbrev at_kind : ℕ → Bool
at_kind i = eqb i 1

abbrev no_kind_of : ℕ → ℕ
no_kind_of k = unheard

-- Check 8 as a test of a record.
abbrev test8 : Record → Bool
test8 r = eqb r.form 1 && unknown (fields_of r).kind

module _ (last : ℕ) where
  takes : Takes at_kind (later last) no_kind_of itself
  takes s = by_test (is_newer (later last) (numbers_in s))
    where
      by_test : (t : Bool) → numbers_by (place_by at_kind s t) ≡ taken_by no_kind_of itself t (numbers_in s)
      by_test true = refl
      by_test false = refl

  check8 : Refuses (later last) no_kind_of itself 8 test8
  check8 =
      record {
        tested = λ at n p. refl;
        refuses = λ r e.
            let f = newer_form (later last) r e in
            ap (λ (t : Bool). test8 (taken_by no_kind_of itself t r)) e ∙ rw f;
      }

  -- A later kind is not the composite's.
  boxes : (r : Record) → is_newer (later last) r ≡ true → eqb (no_kind_of r.kind) 0 ≡ eqb r.kind 0
  boxes r e =
      let f = newer_form (later last) r e in
      let h : ltb last (fields_of r).kind ≡ true = and_right (eqb r.form 1) (later last (fields_of r)) e in
      let g : ltb last r.kind ≡ true = rw f at h in
      sym (ne_eqb r.kind 0 (λ z. omega (arith, ltb-true last r.kind g)))

  module _ (file : List ℕ) (accepted : verdict file ≡ Ok tt) where
    abbrev at : ℕ → Record
    at = record_at file

    abbrev seen : ℕ → Record
    seen = records_taken (later last) no_kind_of itself at

    -- No kind is not Custom's.
    taken7 : (p : ℕ) → fails7 at p ≡ false → fails7 seen p ≡ false
    taken7 p e = by_test (is_newer (later last) (at p)) refl
      where
        by_test : (t : Bool) → is_newer (later last) (at p) ≡ t
            → (eqb (at p).form 1 && for_custom (fields_of (taken_by no_kind_of itself t (at p))).kind) ≡ false
        by_test false u = e
        by_test true u = rw (newer_form (later last) (at p) u)

    later_refused : (p : ℕ) → first (λ q. is_newer (later last) (at q)) (from 0 (record_count file)) ≡ some p
        → judgement (file_to last file) ≡ refused 8 p
    later_refused p e =
        judged_taken file accepted (later last) no_kind_of itself at_kind takes 8 p refl
        (judged_from7 file accepted (later last) no_kind_of itself boxes
        ∙ rw (passing file accepted 7 (fails7 seen) taken7, found file accepted (later last) no_kind_of itself 8 test8 check8 p e))

pub earlier_checks : EarlierChecks
earlier_checks last = checks_newer at_kind (later last) no_kind_of itself (takes last) 8 test8 (check8 last) fails8 (λ at p. refl)

pub earlier_loads : EarlierLoads
earlier_loads last = loads_alike at_kind (later last) no_kind_of itself (takes last) 8 test8 (check8 last)

pub earlier_runs : EarlierRuns
earlier_runs last = runs_alike at_kind (later last) no_kind_of itself (takes last) 8 test8 (check8 last) 0

-- Past 14 there is one kind that check 8 passes.
later_majority : (r : Record) → test8 r ≡ false → is_newer (later 14) r ≡ is Majority (fields_of r)
later_majority r e = by_form (eqb r.form 1) refl
  where
    by_kind : (b : Bool) → ltb 14 r.kind ≡ b → unknown r.kind ≡ false → b ≡ eqb r.kind 15
    by_kind true q u = sym (eq-eqb r.kind 15 (omega (arith, ltb-true 14 r.kind q, leb-false 16 r.kind u)))
    by_kind false q u = sym (ne_eqb r.kind 15 (λ z. omega (arith, ltb-false 14 r.kind q)))

    by_form : (b : Bool) → eqb r.form 1 ≡ b → is_newer (later 14) r ≡ is Majority (fields_of r)
    by_form true f = rw f (by_kind (ltb 14 r.kind) refl (rw f at e))
    by_form false f = rw f

pub later_files : LaterFiles
later_files =
    answers_first at_kind (later 14) no_kind_of itself (takes 14) 8 (is Majority)
    (λ file a q l. later_majority (record_at file q) (accepted_check file a 8 q l)) (later_refused 14)
