-- What is mended is never refused with 13, 22 or 23, and with 12 only for an output map: `mend_never`. Of two records that enter one input the later was
-- dropped; and components are never dropped, so what check 12 passed before mending it passes after.
-- Assumes nothing.
use mathlib.Core.Path.{◌≡◌, refl, sym, ap, ◌∙◌, subst}
use mathlib.Core.Logic.{◌⊎◌, inl, inr}
use mathlib.Core.Bool.{Bool, true, false, not, ◌&&◌, ◌||◌, and-false, true≢false}
use mathlib.Core.List.{List, map}
use Prim.Native.Nat.{ℕ, ◌≤◌, ◌<◌}
use native.Mathlib.Decide.{dec_lt}
use native.Mathlib.Omega.{arith}
use borrow.Author.Tests.{eqb-true, ne_eqb, not-true}
use lib.Dec.{eqb}
use lib.ListN.{length, get_or, length-map, get_or-map, get_or-eq_default}
use Rattle.lists.specs.Lists.{from, keep, any}
use Rattle.lists.proofs.TestsLaws.{and_left, and_right, and_both, and_right_false, or_left, or_right}
use Rattle.lists.proofs.MembersLaws.{in-get_or, any_none, from0_sound, from0_complete, keep_cong}
use Rattle.lists.proofs.OverlayLaws.{map_indexes}
use Rattle.lists.proofs.KeepLaws.{any_sound, keep_keep, keep_map, keep_rises}
use Rattle.kinds.specs.Given.{tells_of_two}
use Rattle.component.specs.declared.Record.{Record}
use Rattle.component.specs.Record.{record_at, loose_at, record_count, composite, entering, entering_as}
use Rattle.component.specs.Reading.{form_of}
use Rattle.component.specs.Drawing.{is_component, missing, fails12, fails13}
use Rattle.component.proofs.EnteringLaws.{enters_as, enters_sound}
use Rattle.flatten.specs.Verdict.{verdict, refused}
use Rattle.flatten.specs.Searches.{PassedBefore}
use Rattle.flatten.proofs.Accepted.{record_at-past, passed_check}
use Rattle.flatten.proofs.JudgementLaws.{verdict_bound}
use Rattle.flatten.proofs.Refusals.{first_at, verdict_first, forms_first}
use Rattle.meeting.proofs.MeetingLaws.{judgement_told, judgement_untold}
use Rattle.mend.specs.Mend.{components, component_numbered, refused12, kept, mended}
use Rattle.mend.specs.Sifting.{drops_plainly}
use Rattle.mend.proofs.KeptLaws.{kept_records_lem}
use Rattle.mended.specs.Owed.{MendNever}
use Rattle.component.proofs.LooseLaws.{loose_none, loose_strict}
use Rattle.mended.proofs.Parts.{kept_sound, kept_at, mended_count, mended_loose}
use Rattle.mended.proofs.Numbered.{refused12_same}
use Rattle.std.specs.Prelude.{Err}

-- A record that enters is one by its byte 0 too.
enters_loose : (file : List ℕ) (p : ℕ) → entering (record_at file p) ≡ true → loose_at file p ≡ record_at file p
enters_loose file p e = loose_strict file p (by_form (enters_as (record_at file p) e))
  where
    by_form : (form_of (record_at file p) ≡ 2) ⊎ (form_of (record_at file p) ≡ 3) → eqb (form_of (record_at file p)) 0 ≡ false
    by_form (inl x) = ne_eqb (form_of (record_at file p)) 0 (λ z. omega (arith, x, z))
    by_form (inr x) = ne_eqb (form_of (record_at file p)) 0 (λ z. omega (arith, x, z))

module _ (file : List ℕ) where
  abbrev n : ℕ
  n = record_count file

  abbrev lo : ℕ → Record
  lo = loose_at file

  abbrev g : List ℕ
  g = mended file

  abbrev plain : ℕ → Bool
  plain p = not (drops_plainly lo n p)

  abbrev meets : ℕ → ℕ → Bool
  meets p q = entering_as (lo p) (lo q) && not (refused12 lo n (lo q))

  -- A kept record that enters: check 12 passes it, and none before it that check 12 passes enters its input.
  stays : (p : ℕ) → plain p ≡ true → entering (lo p) ≡ true → (refused12 lo n (lo p) || any (meets p) (from 0 p)) ≡ false
  stays p k e = and_right_false (entering (lo p)) _ (not-true (drops_plainly lo n p) k) e

  -- Of what stands in what is mended, by its place there.
  module _ (i : ℕ) (h : i < record_count g) where
    there : i < length (kept file)
    there = omega (arith, h, mended_count file)

    stayed : entering (lo (kept_at file i)) ≡ true
        → (refused12 lo n (lo (kept_at file i)) || any (meets (kept_at file i)) (from 0 (kept_at file i))) ≡ false
    stayed = stays (kept_at file i) (kept_sound file (kept_at file i) (in-get_or (kept file) i n there)).0

    stands : entering (record_at g i) ≡ true → lo (kept_at file i) ≡ record_at g i
    stands e = sym (mended_loose file i) ∙ enters_loose g i e

  kept_rises : (i j : ℕ) → i < j → j < record_count g → kept_at file i < kept_at file j
  kept_rises i j h l =
      subst (λ (ks : List ℕ). get_or ks i n < get_or ks j n) (sym (kept_records_lem lo n))
      (keep_rises plain 0 n i j n h (omega (arith, l, mended_count file, ap length (kept_records_lem lo n))))

  -- No two records of what is mended enter one input.
  never_two : (p : ℕ) → p < record_count g → fails13 (record_at g) p ≡ true → ⊥
  never_two p h e =
      let enters : ℕ → Bool = λ q. entering_as (record_at g p) (record_at g q) in
      let q = get_or (keep enters (from 0 p)) 0 0 in
      let z = any_sound enters 0 (from 0 p) (and_right (entering (record_at g p)) (any enters (from 0 p)) e) in
      let below : q < p = from0_sound p q z.1 in
      let inside : q < record_count g = omega (arith, below, h) in
      let later : entering (record_at g p) ≡ true = and_left (entering (record_at g p)) (any enters (from 0 p)) e in
      let earlier : entering (record_at g q) ≡ true = (enters_sound (record_at g p) (record_at g q) z.0).enters in
      let a = stands p h later in
      let b = stands q inside earlier in
      let passes12 = or_left (refused12 lo n (lo (kept_at file q))) _ (stayed q inside (rw b earlier)) in
      let none = or_right (refused12 lo n (lo (kept_at file p))) _ (stayed p h (rw a later)) in
      let met : meets (kept_at file p) (kept_at file q) ≡ true =
      and_both (entering_as (lo (kept_at file p)) (lo (kept_at file q))) (not (refused12 lo n (lo (kept_at file q)))) (rw (a, b) z.0) (ap not passes12) in
      true≢false
      (sym met
      ∙ any_none (meets (kept_at file p)) (kept_at file q) (from 0 (kept_at file p)) none
      (from0_complete (kept_at file p) (kept_at file q) (kept_rises q p below h)))

  -- A component is kept, so the components of what is mended are those of the file.
  component_stays : (p : ℕ) → (plain p && is_component lo p) ≡ is_component lo p
  component_stays p = by_test (is_component lo p) refl
    where
      by_test : (b : Bool) → is_component lo p ≡ b → (plain p && b) ≡ b
      by_test true e =
          let z = eqb-true (form_of (lo p)) 1 e in
          rw (ne_eqb (form_of (lo p)) 2 (λ u. omega (arith, u, z)), ne_eqb (form_of (lo p)) 3 (λ u. omega (arith, u, z)))
      by_test false e = and-false (plain p)

  components_mended : components lo n ≡ map (kept_at file) (components (loose_at g) (record_count g))
  components_mended =
      sym (keep_keep (is_component lo) plain (from 0 n)
      ∙ keep_cong (λ p. plain p && is_component lo p) (is_component lo) (from 0 n) (λ p u. component_stays p))
      ∙ ap (keep (is_component lo)) (sym (kept_records_lem lo n) ∙ sym (map_indexes (kept_at file) n (kept file) (λ i h. refl)))
      ∙ keep_map (is_component lo) (kept_at file) (from 0 (length (kept file)))
      ∙ ap (λ (m : ℕ). map (kept_at file) (keep (λ i. is_component lo (kept_at file i)) (from 0 m))) (sym (mended_count file))
      ∙ ap (map (kept_at file))
      (keep_cong (λ i. is_component lo (kept_at file i)) (is_component (loose_at g)) (from 0 (record_count g))
      (λ i u. ap (λ (r : Record). eqb r.form 1) (sym (mended_loose file i))))

  numbered_mended : (o : ℕ) → component_numbered lo n o ≡ component_numbered (loose_at g) (record_count g) o
  numbered_mended o =
      let cs = components (loose_at g) (record_count g) in
      let e : kept_at file (record_count g) ≡ n =
      get_or-eq_default (kept file) n {n = record_count g} (omega (arith, mended_count file)) in
      ap (λ (l : List ℕ). lo (get_or l o n)) components_mended
      ∙ ap (λ (d : ℕ). lo (get_or (map (kept_at file) cs) o d)) (sym e)
      ∙ ap lo (get_or-map (kept_at file) cs o (record_count g))
      ∙ sym (mended_loose file (get_or cs o (record_count g)))

  refused12_mended : (r : Record) → refused12 lo n r ≡ refused12 (loose_at g) (record_count g) r
  unfolding refused12
  refused12_mended r =
      let f : component_numbered lo n ≡ component_numbered (loose_at g) (record_count g) = λ j o. numbered_mended o j in
      let k : length (components lo n) ≡ length (components (loose_at g) (record_count g)) =
      ap length components_mended ∙ length-map (components (loose_at g) (record_count g)) (kept_at file) in
      λ j. not (composite (f j r.owner)) || missing (f j) (k j) r

  -- What is mended, where the checks before 12 pass it: check 12 passes each record that enters.
  module _ (passed : PassedBefore (record_at g) (record_count g) 12) where
    same : (p : ℕ) → loose_at g p ≡ record_at g p
    same p = by_place (dec_lt p (record_count g))
      where
        by_place : Dec (p < record_count g) → loose_at g p ≡ record_at g p
        by_place (yes h) = loose_strict g p (passed_check (record_at g) (record_count g) 12 3 p passed (omega arith) h)
        by_place (no h) = loose_none g p (omega (arith, h)) ∙ sym (record_at-past g p (omega (arith, h)))

    first_ones : (c q : ℕ) → form_of (record_at g c) ≡ 1 → q ≤ c → form_of (record_at g q) ≡ 1
    first_ones c q e l = by_place (dec_lt c (record_count g))
      where
        by_place : Dec (c < record_count g) → form_of (record_at g q) ≡ 1
        by_place (yes h) = forms_first (record_at g) (record_count g) 12 passed (omega arith) c q h e l
        by_place (no h) = absurd (omega (arith, ap form_of (record_at-past g c (omega (arith, h))), e))

    enters_there : (p : ℕ) → p < record_count g → entering (record_at g p) ≡ true
        → missing (record_at g) (record_count g) (record_at g p) ≡ false
    enters_there p h e =
        let a = stands p h e in
        let strict : loose_at g ≡ record_at g = λ j q. same q j in
        let passes12 = or_left (refused12 lo n (lo (kept_at file p))) _ (stayed p h (rw a e)) in
        or_right (not (composite (record_at g (record_at g p).owner))) (missing (record_at g) (record_count g) (record_at g p))
        (sym (refused12_same (record_at g) (record_count g) (record_at-past g) first_ones (record_at g p))
        ∙ ap (λ (f : ℕ → Record). refused12 f (record_count g) (record_at g p)) (sym strict)
        ∙ sym (refused12_mended (record_at g p))
        ∙ ap (refused12 lo n) (sym a)
        ∙ passes12)

    -- So one that fails it is an output map.
    fails_output : (p : ℕ) → p < record_count g → fails12 (record_at g) (record_count g) p ≡ true → form_of (record_at g p) ≡ 4
    fails_output p h e = by_enters (entering (record_at g p)) refl
      where
        by_enters : (b : Bool) → entering (record_at g p) ≡ b → form_of (record_at g p) ≡ 4
        by_enters true u = absurd (true≢false (sym e ∙ enters_there p h u))
        by_enters false u =
            let z = rw (or_left (eqb (form_of (record_at g p)) 2) _ u, or_right (eqb (form_of (record_at g p)) 2) _ u) at e in
            eqb-true (form_of (record_at g p)) 4 (and_left (eqb (form_of (record_at g p)) 4) _ z)

pub mend_never : MendNever
mend_never file r e = by_told (tells_of_two r.number) refl
  where
    by_told : (b : Bool) → tells_of_two r.number ≡ b
        → (tells_of_two r.number ≡ false) × (r.number ≡ 12 → (record_at (mended file) r.position).form ≡ 4)
    by_told true t =
        let k = verdict_first (mended file) 13 r.position (λ z. omega (arith, z)) (judgement_told (mended file) r e t) in
        let f = first_at (fails13 (record_at (mended file))) 0 (record_count (mended file)) r.position k.found in
        absurd (never_two file r.position (omega (arith, f.most)) f.passes)
    by_told false t = (t, λ z. twelve z)
      where
        twelve : r.number ≡ 12 → (record_at (mended file) r.position).form ≡ 4
        twelve z =
            let v : verdict (mended file) ≡ Err r = judgement_untold (mended file) r e t in
            let none = (verdict_bound (mended file) r v).2 in
            let same : Err r ≡ refused 12 r.position =
            λ j. Err (record { number = z j; position = r.position; earlier = none j }) in
            let k = verdict_first (mended file) 12 r.position (λ u. omega (arith, u)) (v ∙ same) in
            let f = first_at (fails12 (record_at (mended file)) (record_count (mended file))) 0 (record_count (mended file)) r.position k.found in
            fails_output file k.passed r.position (omega (arith, f.most)) f.passes
