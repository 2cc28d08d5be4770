-- Of a file that is accepted the checks 3 to 6 see the same in every record, as a reader takes it: they look at forms and owners, and of kinds only at
-- whether one is the composite's. Where no later check before its own finds a record, the check that refuses newer components finds the first of them;
-- where there is none, the file is taken for what it is. That is `AnswersFirst`, once the checks between are known to pass.
-- Assumes nothing.
use mathlib.Core.Path.{◌≡◌, refl, sym, ap, ◌∙◌}
use mathlib.Core.Bool.{Bool, true, false}
use mathlib.Core.List.{List}
use mathlib.Core.Option.{Option, none, some}
use Prim.Native.Nat.{ℕ, zero, suc, ◌<◌}
use lib.Dec.{eqb}
use lib.ListN.{drop}
use Rattle.lists.specs.Lists.{from, first}
use Rattle.lists.proofs.MembersLaws.{first_none, first_nothing, first_cong, from0_sound, from0_complete}
use Rattle.kinds.specs.declared.table.Fields.{Fields}
use Rattle.component.specs.declared.Record.{Record}
use Rattle.component.specs.Record.{record_count, record_at, fields_of, composite}
use Rattle.component.specs.Drawing.{deepest, holds, deeper, fails3, fails4, fails5, fails6}
use Rattle.component.proofs.LooseLaws.{loose_strict}
use Rattle.flatten.specs.Verdict.{refused, judged, checks, verdict}
use Rattle.flatten.proofs.Accepted.{check_numbered, accepted_sized, accepted_check, accepted_readable}
use Rattle.meeting.specs.Meeting.{judgement, against}
use Rattle.meeting.proofs.MeetingLaws.{judgement_accepted}
use Rattle.earlier.specs.Reader.{file_taken, AnswersFirst}
use Rattle.earlier.proofs.TakenLaws.{is_newer, taken_by, records_taken, Takes, taken_count, taken_sized, records_taken_lem, file_same}
use Rattle.earlier.proofs.AlikeHolds.{Refuses}
use Rattle.std.specs.Prelude.{Ok}

-- A record is a composite exactly if it is so taken, where its kind is not changed to or from a composite's.
composite_by : (k c : ℕ → ℕ) (r : Record) (t : Bool) → (t ≡ true → eqb (k r.kind) 0 ≡ eqb r.kind 0)
    → composite (taken_by k c t r) ≡ composite r
composite_by k c r false h = refl
composite_by k c r true h = by_form (eqb r.form 1) refl
  where
    by_form : (b : Bool) → eqb r.form 1 ≡ b → composite (taken_by k c true r) ≡ composite r
    by_form true e = rw e (h refl)
    by_form false e = rw e

-- The checks 3 to 6 of records, as the reader takes them, find what they find of the records.
module _ (newer : Fields → Bool) (k c : ℕ → ℕ) (boxes : (r : Record) → is_newer newer r ≡ true → eqb (k r.kind) 0 ≡ eqb r.kind 0)
    (at : ℕ → Record) where
  abbrev taken : ℕ → Record
  taken = records_taken newer k c at

  composite_taken : (q : ℕ) → composite (taken q) ≡ composite (at q)
  composite_taken q = composite_by k c (at q) (is_newer newer (at q)) (boxes (at q))

  holds_taken : (f o q : ℕ) → holds taken f o q ≡ holds at f o q
  holds_taken zero o q = refl
  holds_taken (suc f) o q = rw (holds_taken f o (at q).owner)

  deeper_taken : (d p : ℕ) → deeper taken d p ≡ deeper at d p
  deeper_taken zero p = refl
  deeper_taken (suc d) p = rw (deeper_taken d (at p).owner)

  taken4 : (p : ℕ) → fails4 taken p ≡ fails4 at p
  taken4 zero = refl
  taken4 (suc q) = refl

  taken5 : (p : ℕ) → fails5 taken p ≡ fails5 at p
  taken5 zero = refl
  taken5 (suc q) = rw (composite_taken (at (suc q)).owner, holds_taken q (at (suc q)).owner q)

  taken6 : (p : ℕ) → fails6 taken p ≡ fails6 at p
  taken6 p = rw (deeper_taken deepest p)

module _ (file : List ℕ) (accepted : verdict file ≡ Ok tt) where
  abbrev at : ℕ → Record
  at = record_at file

  abbrev n : ℕ
  n = record_count file

  -- No record fails a test that finds of each record what a check of the file finds.
  pub passing : (j : ℕ) (f : ℕ → Bool) → ((p : ℕ) → (check_numbered at n j).1 p ≡ false → f p ≡ false) → first f (from 0 n) ≡ none
  passing j f h = first_nothing f (from 0 n) (λ p m. h p (accepted_check file accepted j p (from0_sound n p m)))

  module _ (newer : Fields → Bool) (k c : ℕ → ℕ) where
    abbrev seen : ℕ → Record
    seen = records_taken newer k c at

    -- So the checks from 7 on decide.
    pub judged_from7 : ((r : Record) → is_newer newer r ≡ true → eqb (k r.kind) 0 ≡ eqb r.kind 0)
        → judged n (checks seen n) ≡ judged n (drop 4 (checks seen n))
    judged_from7 boxes =
        rw (
          passing 3 (fails3 seen) (λ q z. z),
          passing 4 (fails4 seen) (λ q z. taken4 newer k c boxes at q ∙ z),
          passing 5 (fails5 seen) (λ q z. taken5 newer k c boxes at q ∙ z),
          passing 6 (fails6 seen) (λ q z. taken6 newer k c boxes at q ∙ z),
        )

    -- The check that refuses newer components finds them, and no others.
    module _ (number : ℕ) (test : Record → Bool) (check : Refuses newer k c number test) where
      finds : (q : ℕ) → q < n → test (seen q) ≡ is_newer newer (at q)
      finds q l = by_test (is_newer newer (at q)) refl
        where
          by_test : (b : Bool) → is_newer newer (at q) ≡ b → test (taken_by k c b (at q)) ≡ b
          by_test true e = ap (λ (t : Bool). test (taken_by k c t (at q))) (sym e) ∙ check.refuses (at q) e
          by_test false e = sym (check.tested at n q) ∙ accepted_check file accepted number q l

      pub found : (p : ℕ) → first (λ q. is_newer newer (at q)) (from 0 n) ≡ some p → first (λ q. test (seen q)) (from 0 n) ≡ some p
      found p e = first_cong (λ q. test (seen q)) (λ q. is_newer newer (at q)) (from 0 n) (λ q m. finds q (from0_sound n q m)) ∙ e

    module _ (places : ℕ → Bool) (takes : Takes places newer k c) where
      -- What the checks answer of the records, as the reader takes them, is its judgement.
      pub judged_taken : (number p : ℕ) → eqb number 13 ≡ false → judged n (checks seen n) ≡ refused number p
          → judgement (file_taken places newer file) ≡ refused number p
      unfolding judgement verdict
      judged_taken number p h e =
          let v : verdict (file_taken places newer file) ≡ refused number p =
          rw (taken_sized places newer file, accepted_sized file accepted, taken_count places newer file, records_taken_lem places newer file k c takes) e in
          ap (against (record_at (file_taken places newer file))) v ∙ rw h

      pub none_newer : first (λ q. is_newer newer (at q)) (from 0 n) ≡ none → file_taken places newer file ≡ file
      none_newer e =
          file_same places newer file
          (λ p l. ap (is_newer newer) (loose_strict file p (accepted_readable file accepted p l))
          ∙ first_none (λ q. is_newer newer (at q)) p (from 0 n) e (from0_complete n p l))

-- So it answers the number of its check, if the check is its judgement wherever there is a newer component.
pub answers_first : (places : ℕ → Bool) (newer : Fields → Bool) (k c : ℕ → ℕ) → Takes places newer k c → (number : ℕ) (sort : Fields → Bool)
    → ((file : List ℕ) → verdict file ≡ Ok tt → (q : ℕ) → q < record_count file
    → is_newer newer (record_at file q) ≡ sort (fields_of (record_at file q)))
    → ((file : List ℕ) → verdict file ≡ Ok tt → (p : ℕ) → first (λ q. is_newer newer (record_at file q)) (from 0 (record_count file)) ≡ some p
    → judgement (file_taken places newer file) ≡ refused number p) → AnswersFirst (file_taken places newer) number sort
answers_first places newer k c takes number sort sorted decided file a not = by_first (first (λ q. is_newer newer (at q)) (from 0 n)) refl
  where
    accepted : verdict file ≡ Ok tt
    accepted = judgement_accepted file a

    at : ℕ → Record
    at = record_at file

    n : ℕ
    n = record_count file

    is_sort : ℕ → Bool
    is_sort q = sort (fields_of (record_at file q))

    same : first is_sort (from 0 n) ≡ first (λ q. is_newer newer (record_at file q)) (from 0 n)
    same =
        first_cong is_sort (λ q. is_newer newer (record_at file q)) (from 0 n)
        (λ q m. sym (sorted file accepted q (from0_sound n q m)))

    by_first : (o : Option ℕ) → first (λ q. is_newer newer (record_at file q)) (from 0 n) ≡ o
        → (p : ℕ) × (first is_sort (from 0 n) ≡ some p) × (judgement (file_taken places newer file) ≡ refused number p)
    by_first none e = absurd (not (ap judgement (none_newer file accepted newer k c places takes e) ∙ a))
    by_first (some p) e = (p, same ∙ e, decided file accepted p e)
