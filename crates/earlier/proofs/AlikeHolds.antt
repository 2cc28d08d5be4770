-- If a check of each single record refuses every component that is newer than a reader, as the reader takes it, then to the reader that check fails at
-- those besides: `ChecksNewer`. So a file that it accepts has none of them, and it takes the file for what it is, and all tables that calls reach from a load
-- of it: `LoadsAlike`, `RunsAlike`.
--   Refuses   what has to be known of a reader for that
-- Assumes nothing.
use mathlib.Core.Path.{◌≡◌, refl, sym, ap, ◌∙◌, subst}
use mathlib.Core.Logic.{⊎_elim}
use mathlib.Core.Bool.{Bool, true, false, ◌||◌, or-false, true≢false}
use mathlib.Core.List.{List}
use Prim.Native.Nat.{ℕ, ◌<◌}
use borrow.Author.Tests.{eq-eqb}
use lib.Dec.{eqb}
use Rattle.lists.proofs.TestsLaws.{and_right_false, or_second}
use Rattle.kinds.specs.declared.table.Fields.{Fields}
use Rattle.kinds.specs.Kinds.{primitive}
use Rattle.component.specs.declared.Record.{Record}
use Rattle.component.specs.Record.{record_count, record_at, loose_at, fields_of, is_primitive}
use Rattle.component.proofs.RecordLaws.{fields_cases}
use Rattle.component.proofs.LooseLaws.{loose_strict}
use Rattle.flatten.proofs.Accepted.{check_numbered, accepted_check}
use Rattle.meeting.specs.Meeting.{judgement}
use Rattle.meeting.proofs.MeetingLaws.{judgement_accepted}
use Rattle.tables.specs.Tables.{Tables, fields_at}
use Rattle.load.specs.Load.{load_verdict, load_tables}
use Rattle.loaded.proofs.LoadTheorems.{accepted_primitive}
use Rattle.demands.specs.Reached.{Reached}
use Rattle.demands.proofs.Called.{Origin, reached_kept}
use Rattle.demands.proofs.Demand3.{load_fresh}
use Rattle.earlier.specs.Reader.{file_taken, tables_taken, ChecksNewer, LoadsAlike, RunsAlike}
use Rattle.earlier.proofs.TakenLaws.{is_newer, taken_by, record_taken, Takes, taken_count, record_at-taken, file_same, tables_same}
use Rattle.std.specs.Prelude.{Ok}

-- The check of a number tests each record by itself, and refuses a newer component, as the reader takes it.
pub record Refuses (newer : Fields → Bool) (k c : ℕ → ℕ) (number : ℕ) (test : Record → Bool) : Type 0 where
  pub tested : (at : ℕ → Record) (n p : ℕ) → (check_numbered at n number).1 p ≡ test (at p)
  pub refuses : (r : Record) → is_newer newer r ≡ true → test (record_taken newer k c r) ≡ true

module _ (places : ℕ → Bool) (newer : Fields → Bool) (k c : ℕ → ℕ) (takes : Takes places newer k c)
    (number : ℕ) (test : Record → Bool) (check : Refuses newer k c number test) where
  pub checks_newer : (fails : (ℕ → Record) → ℕ → Bool) → ((at : ℕ → Record) (p : ℕ) → fails at p ≡ test (at p))
      → ChecksNewer (file_taken places newer) fails newer
  checks_newer fails alone file p =
      alone (record_at (file_taken places newer file)) p ∙ ap test (record_at-taken places newer file k c takes p)
      ∙ by_test (is_newer newer (record_at file p)) refl ∙ ap (λ (b : Bool). b || is_newer newer (record_at file p)) (sym (alone (record_at file) p))
    where
      by_test : (b : Bool) → is_newer newer (record_at file p) ≡ b → test (taken_by k c b (record_at file p)) ≡ (test (record_at file p) || b)
      by_test true e =
          ap (λ (b : Bool). test (taken_by k c b (record_at file p))) (sym e) ∙ check.refuses (record_at file p) e
          ∙ sym (or_second (test (record_at file p)) true refl)
      by_test false e = sym (or-false (test (record_at file p)))

  module _ (file : List ℕ) (accepted : judgement (file_taken places newer file) ≡ Ok tt) where
    abbrev taken : List ℕ
    taken = file_taken places newer file

    passes : (j p : ℕ) → p < record_count file → (check_numbered (record_at taken) (record_count taken) j).1 p ≡ false
    passes j p l =
        accepted_check taken (judgement_accepted taken accepted) j p (subst (λ (n : ℕ). p < n) (sym (taken_count places newer file)) l)

    none_newer : (p : ℕ) → p < record_count file → is_newer newer (record_at file p) ≡ false
    none_newer p l = by_test (is_newer newer (record_at file p)) refl
      where
        by_test : (b : Bool) → is_newer newer (record_at file p) ≡ b → is_newer newer (record_at file p) ≡ false
        by_test false e = e
        by_test true e =
            absurd (true≢false (sym (check.refuses (record_at file p) e) ∙ ap test (sym (record_at-taken places newer file k c takes p))
            ∙ sym (check.tested (record_at taken) (record_count taken) p) ∙ passes number p l))

    -- What a record is by its byte 0 it is, since check 3 refuses none.
    readable : (p : ℕ) → p < record_count file → loose_at file p ≡ record_at file p
    readable p l =
        loose_strict file p (ap (λ (r : Record). eqb r.form 0) (sym (record_at-taken places newer file k c takes p)) ∙ passes 3 p l)

    pub same_file : taken ≡ file
    same_file = file_same places newer file (λ p l. ap (is_newer newer) (readable p l) ∙ none_newer p l)

    -- No primitive of the drawing is newer, so no component is of tables with a load's wiring.
    primitive_old : (p : ℕ) → p < record_count file → is_primitive (record_at file p) ≡ true → newer (fields_of (record_at file p)) ≡ false
    primitive_old p l e =
        ⊎_elim (λ f.
        and_right_false (eqb (record_at file p).form 1) (newer (fields_of (record_at file p))) (none_newer p l) (eq-eqb (record_at file p).form 1 f))
        (λ z. absurd (true≢false (sym e ∙ ap primitive z))) (fields_cases (record_at file p))

    component_old : (T : Tables) → Origin file T → (i : ℕ) → i < T.counts.components → newer (fields_at T i) ≡ false
    component_old T o i l =
        let p = accepted_primitive file o.lent o.accepted T o.wiring i l in
        ap newer p.fields_are ∙ primitive_old p.number p.in_file p.of_primitive

  pub loads_alike : LoadsAlike (file_taken places newer)
  loads_alike file a =
      let e = sym (same_file file a) in (
        ap judgement e ∙ a,
        λ T. (ap (λ (s : List ℕ). load_verdict s T) e, ap (λ (s : List ℕ). load_tables s T) e),
      )

  pub runs_alike : (word : ℕ) → RunsAlike (file_taken places newer) (tables_taken word newer)
  runs_alike word file ran t T a r = (
    subst (λ (s : List ℕ). Reached s ran t T) (sym (same_file file a)) r,
    tables_same word newer T (component_old file a T (reached_kept file (load_fresh file) r).0),
  )
