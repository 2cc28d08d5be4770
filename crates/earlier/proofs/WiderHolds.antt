-- A reader to whom widths end at a number, as one to whom a component with a wider port is newer: it takes its C for one that no row of the table of kinds
-- has, and check 9 refuses that. Checks 3 to 8 ask nothing of C.
-- Assumes nothing.
use mathlib.Core.Path.{◌≡◌, refl, ap, ◌∙◌}
use mathlib.Core.Bool.{Bool, true, false, not, ◌&&◌}
use mathlib.Core.List.{List}
use mathlib.Core.Option.{some}
use Prim.Native.Nat.{ℕ, ◌/◌}
use native.Mathlib.Omega.{arith}
use lib.Dec.{eqb}
use Rattle.lists.specs.Lists.{from, first}
use Rattle.kinds.specs.declared.table.Fields.{Fields}
use Rattle.kinds.specs.Kinds.{for_custom, unknown, kind_of, obeys}
use Rattle.kinds.proofs.ObeysLaws.{obeys_row, row_width}
use Rattle.component.specs.declared.Record.{Record}
use Rattle.component.specs.Record.{numbers_in, record_count, record_at, fields_of}
use Rattle.component.specs.Drawing.{fails7, fails8, fails9}
use Rattle.flatten.specs.Verdict.{refused, verdict}
use Rattle.meeting.specs.Meeting.{judgement}
use Rattle.earlier.specs.Wider.{wider, file_within, NarrowChecks, NarrowLoads, NarrowRuns, WideFiles}
use Rattle.earlier.proofs.TakenLaws.{numbers_by, place_by, is_newer, taken_by, itself, records_taken, Takes, newer_form}
use Rattle.earlier.proofs.AlikeHolds.{Refuses, checks_newer, loads_alike, runs_alike}
use Rattle.earlier.proofs.FirstHolds.{passing, judged_from7, found, judged_taken, answers_first}
use Rattle.std.specs.Prelude.{Ok}

-- The places of C in a record; what the reader makes of the C of a wider component. Its kind it leaves as it is.
abbrev at_c : ℕ → Bool
at_c i = eqb (i / 2) 4

abbrev no_c : ℕ → ℕ
no_c c = 65535

-- Check 9 as a test of a record.
abbrev test9 : Record → Bool
test9 r = eqb r.form 1 && not (obeys (fields_of r))

-- No row of the table of kinds has such a C.
no_c-breaks : (f : Fields) → f.width ≡ 65535 → obeys f ≡ false
no_c-breaks f e = by_test (obeys f) refl
  where
    by_test : (b : Bool) → obeys f ≡ b → b ≡ false
    by_test false o = refl
    by_test true o = absurd (omega (arith, e, row_width (kind_of f.kind) f (obeys_row f o)))

-- The kind stays.
kind_kept : (r : Record) (t : Bool) → (fields_of (taken_by itself no_c t r)).kind ≡ (fields_of r).kind
kind_kept r false = refl
kind_kept r true = by_form (eqb r.form 1) refl
  where
    by_form : (b : Bool) → eqb r.form 1 ≡ b → (fields_of (taken_by itself no_c true r)).kind ≡ (fields_of r).kind
    by_form true e = rw e
    by_form false e = rw e

module _ (w : ℕ) where
  takes : Takes at_c (wider w) itself no_c
  takes s = by_test (is_newer (wider w) (numbers_in s))
    where
      by_test : (t : Bool) → numbers_by (place_by at_c s t) ≡ taken_by itself no_c t (numbers_in s)
      by_test true = refl
      by_test false = refl

  check9 : Refuses (wider w) itself no_c 9 test9
  check9 =
      record {
        tested = λ at n p. refl;
        refuses = λ r e.
            let f = newer_form (wider w) r e in
            let g : Fields = record { kind = r.kind; inputs = r.a; outputs = r.b; width = 65535; parameter = r.parameter } in
            ap (λ (t : Bool). test9 (taken_by itself no_c t r)) e ∙ rw (f, no_c-breaks g refl);
      }

  boxes : (r : Record) → is_newer (wider w) r ≡ true → eqb (itself r.kind) 0 ≡ eqb r.kind 0
  boxes r e = refl

  module _ (file : List ℕ) (accepted : verdict file ≡ Ok tt) where
    abbrev at : ℕ → Record
    at = record_at file

    abbrev seen : ℕ → Record
    seen = records_taken (wider w) itself no_c at

    kind_same : (q : ℕ) → (fields_of (seen q)).kind ≡ (fields_of (at q)).kind
    kind_same q = kind_kept (at q) (is_newer (wider w) (at q))

    taken7 : (q : ℕ) → fails7 seen q ≡ fails7 at q
    taken7 q = ap (λ (k : ℕ). eqb (at q).form 1 && for_custom k) (kind_same q)

    taken8 : (q : ℕ) → fails8 seen q ≡ fails8 at q
    taken8 q = ap (λ (k : ℕ). eqb (at q).form 1 && unknown k) (kind_same q)

    wider_refused : (p : ℕ) → first (λ q. is_newer (wider w) (at q)) (from 0 (record_count file)) ≡ some p
        → judgement (file_within w file) ≡ refused 9 p
    wider_refused p e =
        judged_taken file accepted (wider w) itself no_c at_c takes 9 p refl
        (judged_from7 file accepted (wider w) itself no_c boxes
        ∙ rw (
          passing file accepted 7 (fails7 seen) (λ q z. taken7 q ∙ z),
          passing file accepted 8 (fails8 seen) (λ q z. taken8 q ∙ z),
          found file accepted (wider w) itself no_c 9 test9 check9 p e,
        ))

pub narrow_checks : NarrowChecks
narrow_checks w = checks_newer at_c (wider w) itself no_c (takes w) 9 test9 (check9 w) fails9 (λ at p. refl)

pub narrow_loads : NarrowLoads
narrow_loads w = loads_alike at_c (wider w) itself no_c (takes w) 9 test9 (check9 w)

pub narrow_runs : NarrowRuns
narrow_runs w = runs_alike at_c (wider w) itself no_c (takes w) 9 test9 (check9 w) 2

-- What is no component has no port, and so none that is wider.
wider_component : (w : ℕ) (r : Record) → is_newer (wider w) r ≡ wider w (fields_of r)
wider_component w r = by_form (eqb r.form 1) refl
  where
    by_form : (b : Bool) → eqb r.form 1 ≡ b → is_newer (wider w) r ≡ wider w (fields_of r)
    by_form true e = rw e
    by_form false e = rw e

pub wide_files : WideFiles
wide_files w =
    answers_first at_c (wider w) itself no_c (takes w) 9 (wider w)
    (λ file a q l. wider_component w (record_at file q)) (wider_refused w)
