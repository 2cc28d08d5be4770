-- An accepted file comes out identical: `mend_identical`. No record fails check 12 or 13, and the components stand first, so none is dropped.
-- Assumes nothing.
use mathlib.Core.Path.{◌≡◌, refl, sym, ap, ◌∙◌}
use mathlib.Core.Logic.{◌⊎◌, inl, inr}
use mathlib.Core.Bool.{Bool, true, false, not, ◌&&◌, true≢false}
use mathlib.Core.List.{List, [], ◌∷◌, ◌++◌}
use Prim.Native.Nat.{ℕ, zero, suc, ◌+◌, ◌*◌, ◌%◌, ◌≤◌, ◌<◌}
use native.Mathlib.Decide.{dec_lt}
use native.Mathlib.Omega.{arith}
use borrow.Author.Tests.{eqb-true, eqb-false, leb-true, le-leb, not-true}
use lib.Dec.{eqb, leb}
use lib.ListN.{length, drop, take-append-drop, drop_of_length-le}
use lib.Seq.{drop-drop}
use Rattle.lists.specs.Lists.{from, any, joined, has, overlay}
use Rattle.lists.proofs.TestsLaws.{and_left, and_right, and_right_false}
use Rattle.lists.proofs.MembersLaws.{any_none, has_complete}
use Rattle.lists.proofs.MembersLaws.{from0_sound}
use Rattle.lists.proofs.KeepLaws.{keep_all, keep_no, any_no}
use Rattle.kinds.specs.Given.{done, Verdict, verdict_gives}
use Rattle.component.specs.declared.Record.{Record}
use Rattle.component.specs.Record.{record_at, loose_at, record_count, part_at, sized, entering, entering_as}
use Rattle.component.specs.Reading.{form_of}
use Rattle.component.proofs.EnteringLaws.{enters_as}
use Rattle.flatten.specs.Verdict.{verdict, list_by}
use Rattle.flatten.proofs.Accepted.{record_at-past, accepted_check, accepted_passed, accepted_sized, accepted_readable}
use Rattle.flatten.proofs.Components.{components_first, owner_composite}
use Rattle.meeting.specs.Meeting.{judgement}
use Rattle.meeting.proofs.MeetingLaws.{judgement_accepted, accepted_judgement}
use Rattle.mend.specs.declared.Mended.{Mended}
use Rattle.mend.specs.Mend.{refused12, kept_records, kept, mended, dropped, mend_verdict, mend_gives, Mends}
use Rattle.mend.specs.Sifting.{drops_plainly}
use Rattle.mend.proofs.AnswerLaws.{mend_gives-is}
use Rattle.mend.proofs.KeptLaws.{kept_records_lem}
use Rattle.mended.specs.Owed.{MendIdentical}
use Rattle.component.proofs.LooseLaws.{loose_none, loose_strict}
use Rattle.mended.proofs.Numbered.{refused12_same}
use Rattle.std.specs.Prelude.{Result, Ok}
use Rattle.kinds.specs.declared.answers.Refusal.{Refusal}

-- The parts of a file of whole records, one after the other, are the file.
parts_from : (file : List ℕ) (q k : ℕ) → length file ≡ 24 * (q + k) → joined (part_at file) (from q k) ≡ drop (24 * q) file
parts_from file q zero h = sym (drop_of_length-le file {i = 24 * q} (omega (arith, h)))
parts_from file q (suc k) h =
    let e : 24 * q + 24 ≡ 24 * suc q = omega arith in
    ap (λ (l : List ℕ). part_at file q ++ l)
    (parts_from file (suc q) k (omega (arith, h)) ∙ ap (λ (j : ℕ). drop j file) (sym e) ∙ sym (drop-drop 24 (24 * q) file))
    ∙ take-append-drop 24 (drop (24 * q) file)

module _ (file : List ℕ) (accepted : verdict file ≡ Ok tt) where
  abbrev n : ℕ
  n = record_count file

  abbrev at : ℕ → Record
  at = record_at file

  -- What check 1 passes.
  sized_file : sized file ≡ true
  sized_file = accepted_sized file accepted

  whole : length file % 24 ≡ 0
  whole =
      eqb-true (length file % 24) 0
      (and_right (not (eqb (length file) 0)) (eqb (length file % 24) 0)
      (and_left (not (eqb (length file) 0) && eqb (length file % 24) 0) (leb n 1024) sized_file))

  some_bytes : length file ≡ 0 → ⊥
  some_bytes =
      eqb-false (length file) 0
      (not-true (eqb (length file) 0)
      (and_left (not (eqb (length file) 0)) (eqb (length file % 24) 0)
      (and_left (not (eqb (length file) 0) && eqb (length file % 24) 0) (leb n 1024) sized_file)))

  most : n ≤ 1024
  most = leb-true n 1024 (and_right (not (eqb (length file) 0) && eqb (length file % 24) 0) (leb n 1024) sized_file)

  same : (p : ℕ) → loose_at file p ≡ record_at file p
  same p = by_place (dec_lt p n)
    where
      by_place : Dec (p < n) → loose_at file p ≡ record_at file p
      by_place (yes h) = loose_strict file p (accepted_readable file accepted p h)
      by_place (no h) = loose_none file p (omega (arith, h)) ∙ sym (record_at-past file p (omega (arith, h)))

  -- No record is dropped.
  module _ (p : ℕ) (h : p < n) where
    late : (form_of (at p) ≡ 2) ⊎ (form_of (at p) ≡ 3) → 2 ≤ form_of (at p)
    late (inl x) = omega (arith, x)
    late (inr x) = omega (arith, x)

    passes12 : entering (at p) ≡ true → refused12 at n (at p) ≡ false
    passes12 e =
        refused12_same at n (record_at-past file) (components_first at n (accepted_passed file accepted)) (at p)
        ∙ rw (owner_composite at n (accepted_passed file accepted) p h (late (enters_as (at p) e))) (accepted_check file accepted 12 p h)

    passes13 : entering (at p) ≡ true → any (λ q. entering_as (at p) (at q) && not (refused12 at n (at q))) (from 0 p) ≡ false
    passes13 e =
        let none = and_right_false (entering (at p)) (any (λ q. entering_as (at p) (at q)) (from 0 p)) (accepted_check file accepted 13 p h) e in
        any_no (λ q. entering_as (at p) (at q) && not (refused12 at n (at q))) (from 0 p)
        (λ q u t. true≢false
        (sym (and_left (entering_as (at p) (at q)) (not (refused12 at n (at q))) t)
        ∙ any_none (λ q. entering_as (at p) (at q)) q (from 0 p) none u))

    stays : not (drops_plainly at n p) ≡ true
    stays = by_enters (entering (at p)) refl
      where
        by_enters : (b : Bool) → entering (at p) ≡ b → not (drops_plainly at n p) ≡ true
        by_enters true e = rw (e, passes12 e, passes13 e)
        by_enters false e = rw e

  kept_all : kept file ≡ from 0 n
  kept_all =
      let e : loose_at file ≡ at = λ j p. same p j in
      ap (λ (f : ℕ → Record). kept_records f n) e ∙ kept_records_lem at n
      ∙ keep_all (λ p. not (drops_plainly at n p)) (from 0 n) (λ p u. stays p (from0_sound n p u))

  mended_same : mended file ≡ file
  unfolding mended
  mended_same =
      ap (joined (part_at file)) kept_all ∙ parts_from file 0 n (omega (arith, whole))

  dropped_none : dropped file ≡ []
  unfolding dropped
  dropped_none =
      rw (whole)
      (ap (λ (l : List ℕ). l ++ []) (keep_no (λ p. not (has p (kept file))) (from 0 n)
      (λ p u. ap not (ap (has p) kept_all ∙ has_complete p (from 0 n) u))))

  module _ (out list out' list' : List ℕ) (r : Result Mended Refusal) (a : length file ≤ length out) (b : 1025 ≤ length list)
      (m : Mends file out list r out' list') where
    found : mend_verdict file out list ≡ judgement (mended file)
    unfolding mend_verdict
    found =
        rw (le-leb 1 n (omega (arith, whole, some_bytes)), le-leb n 1024 most, le-leb (length file) (length out) a, le-leb 1025 (length list) b)

    is_accepted : mend_verdict file out list ≡ Ok tt
    is_accepted = found ∙ ap judgement mended_same ∙ accepted_judgement file accepted

    given : mend_gives r ≡ done (length file ∷ 0 ∷ [])
    given =
        m.0 ∙ ap (λ (v : Verdict). verdict_gives v (length (mended file) ∷ length (dropped file) ∷ [])) is_accepted
        ∙ ap (λ (l : List ℕ). done (length l ∷ length (dropped file) ∷ [])) mended_same
        ∙ ap (λ (l : List ℕ). done (length file ∷ length l ∷ [])) dropped_none

    written : out' ≡ overlay file out
    written =
        m.1 ∙ ap (λ (v : Verdict). list_by v (mended file) out) is_accepted ∙ ap (λ (l : List ℕ). overlay l out) mended_same

    unwritten : list' ≡ list
    unfolding overlay
    unwritten =
        m.2 ∙ ap (λ (v : Verdict). list_by v (dropped file) list) is_accepted ∙ ap (λ (l : List ℕ). overlay l list) dropped_none

pub mend_identical : MendIdentical
mend_identical file judged =
    let accepted = judgement_accepted file judged in (
      mended_same file accepted,
      dropped_none file accepted,
      λ out list out' list' r a b m. (
        mend_gives-is r (Ok (record { bytes = length file; positions = 0 })) (given file accepted out list out' list' r a b m),
        written file accepted out list out' list' r a b m,
        unwritten file accepted out list out' list' r a b m,
      ),
    )
