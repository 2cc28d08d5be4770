-- Laws of the checks: a load's own verdict with a number behind it, the clauses of 20, and what a call is handed past them.
-- Assumes nothing.
use mathlib.Core.Path.{◌≡◌, refl, sym, ap, ◌∙◌}
use Prim.Native.Nat.{ℕ, ◌≤◌, ◌<◌}
use mathlib.Core.Bool.{Bool, true, false, cond, ◌&&◌}
use mathlib.Core.List.{List, []}
use native.Mathlib.Omega.{arith}
use borrow.Author.Tests.{leb-true, eqb-true}
use lib.ListN.{length, take, replicate}
use lib.Dec.{eqb, leb}
use Rattle.lists.specs.Lists.{from, every, joined, overlay}
use Rattle.lists.proofs.TestsLaws.{and_left, and_right}
use Rattle.kinds.specs.declared.answers.Refusal.{Refusal}
use Rattle.kinds.specs.Given.{refused_by, Verdict}
use Rattle.component.specs.declared.Record.{Record}
use Rattle.component.specs.Record.{record_at, record_count, sized}
use Rattle.component.specs.Drawing.{inputs_before, outputs_before}
use Rattle.flatten.specs.Verdict.{refused, verdict, and_then}
use Rattle.flatten.proofs.Accepted.{not_accepted}
use Rattle.meeting.specs.Meeting.{judgement}
use Rattle.meeting.proofs.MeetingLaws.{judgement_accepted}
use Rattle.tables.specs.declared.Counts.{Counts}
use Rattle.tables.specs.Words.{RowInside}
use Rattle.laying.specs.declared.rows.Before.{Before}
use Rattle.laying.specs.Laid.{primitives, primitive_words}
use Rattle.laying.specs.Laying.{before_at}
use Rattle.net.specs.Net.{values_fit, consts_held, names}
use Rattle.net.specs.Parts.{lent, InputsInside, OutputsInside, obeyed_at, values_fit_at, held_at}
use Rattle.slow.specs.declared.SlowCounts.{SlowCounts}
use Rattle.slow.specs.Slow.{SlowTables, slow_full, drawn, slow_right, slow_number, slow_verdict, counts_for, drawn_words}
use Rattle.slow.specs.Sending.{prepared_verdict}
use Rattle.slow.proofs.DrawingLaws.{words_evaluate}
use Rattle.std.specs.Prelude.{Result, Ok, Err}

-- The five tables are of full size.
pub record SlowSizes (S : SlowTables) : Type 0 where
  pub inputs : 1024 ≤ length S.inputs
  pub outputs : 1024 ≤ length S.outputs
  pub current : 256 ≤ length S.current
  pub following : 256 ≤ length S.following
  pub standing : 256 ≤ length S.standing

pub slow_full-sound : (S : SlowTables) → slow_full S ≡ true → SlowSizes S
unfolding slow_full
slow_full-sound S e =
    let i = leb 1024 (length S.inputs) in
    let o = leb 1024 (length S.outputs) in
    let c = leb 256 (length S.current) in
    let f = leb 256 (length S.following) in
    let d = leb 256 (length S.standing) in
    let four = and_left (i && o && c && f) d e in
    let three = and_left (i && o && c) f four in
    let two = and_left (i && o) c three in
    record {
      inputs = leb-true 1024 _ (and_left i o two);
      outputs = leb-true 1024 _ (and_right i o two);
      current = leb-true 256 _ (and_right (i && o) c three);
      following = leb-true 256 _ (and_right (i && o && c) f four);
      standing = leb-true 256 _ (and_right (i && o && c && f) d e);
    }

-- A load's own verdict, by its ways out.
module _ (file : List ℕ) (long : Bool) where
  pub lent_unsized : (k : ℕ) → sized file ≡ false → Err (refused_by 1) ≡ slow_verdict file long k
  lent_unsized k e = rw e

  pub lent_short : (k : ℕ) → sized file ≡ true → long ≡ false → Err (refused_by 2) ≡ slow_verdict file long k
  lent_short k e f = rw (e, f)

  pub lent_judged : (v : Verdict) → sized file ≡ true → long ≡ true → v ≡ judgement file → v ≡ slow_verdict file long 0
  lent_judged v e f g = rw (e, f) (g ∙ plain (judgement file))
    where
      plain : (u : Verdict) → u ≡ and_then u 0
      plain (Ok _) = refl
      plain (Err r) = refl

  -- Refused, the number behind it plays no part;
  pub lent_refused : (r : Refusal) (k : ℕ) → Err r ≡ slow_verdict file long 0 → Err r ≡ slow_verdict file long k
  lent_refused r k e = by_cases (sized file) long (judgement file) e
    where
      by_cases : (a b : Bool) (v : Verdict) → Err r ≡ cond a (cond b (and_then v 0) (refused 2 0)) (refused 1 0)
          → Err r ≡ cond a (cond b (and_then v k) (refused 2 0)) (refused 1 0)
      by_cases true true (Err q) h = h
      by_cases true true (Ok _) h = absurd (not_accepted r h)
      by_cases true false v h = h
      by_cases false b v h = h

  -- accepted, it decides, and all is well with the file.
  module _ (h : (Ok tt) ≡ slow_verdict file long 0) where
    parts : (sized file ≡ true) × (long ≡ true) × (judgement file ≡ Ok tt)
    parts = by_cases (sized file) long (judgement file) h
      where
        by_cases : (a b : Bool) (v : Verdict) → (Ok tt) ≡ cond a (cond b (and_then v 0) (refused 2 0)) (refused 1 0)
            → (a ≡ true) × (b ≡ true) × (v ≡ Ok tt)
        by_cases true true (Err q) e = absurd (not_accepted q (sym e))
        by_cases true true (Ok _) e = (refl, refl, refl)
        by_cases true false v e = absurd (not_accepted _ (sym e))
        by_cases false b v e = absurd (not_accepted _ (sym e))

    pub lent_long : long ≡ true
    lent_long = parts.1

    pub lent_accepted : verdict file ≡ Ok tt
    lent_accepted = judgement_accepted file parts.2

    pub lent_then : (k : ℕ) → slow_verdict file long k ≡ and_then (Ok tt) k
    lent_then k = rw (parts.0, parts.1, parts.2)

-- 20, clause by clause.
module _ (file : List ℕ) (S : SlowTables) where
  abbrev at : ℕ → Record
  at = record_at file

  abbrev n : ℕ
  n = record_count file

  -- The clauses: the counts, the values, the Consts, the lists.
  abbrev pub counts_are : Bool
  counts_are =
      eqb S.counts.inputs (inputs_before at n) && eqb S.counts.outputs (outputs_before at n) && leb S.counts.current 256
      && leb S.counts.following 256 && leb S.counts.standing 256

  abbrev pub listed : Bool
  listed =
      let D = drawn at n S in
      names D (take S.counts.current S.current) && names D (take S.counts.following S.following)
      && names D (take S.counts.standing S.standing)

  pub right_counts : counts_are ≡ false → slow_right at n S ≡ false
  unfolding slow_right
  right_counts e = rw e

  pub right_values : counts_are ≡ true → values_fit (drawn at n S) ≡ false → slow_right at n S ≡ false
  unfolding slow_right
  right_values e f = rw (e, f)

  pub right_consts : counts_are ≡ true → values_fit (drawn at n S) ≡ true → consts_held (drawn at n S) ≡ false → slow_right at n S ≡ false
  unfolding slow_right
  right_consts e f g = rw (e, f, g)

  pub right_lists : counts_are ≡ true → values_fit (drawn at n S) ≡ true → consts_held (drawn at n S) ≡ true → (b : Bool) → listed ≡ b
      → slow_right at n S ≡ b
  unfolding slow_right
  right_lists e f g b h = rw (e, f, g, h)

  -- The verdict by whether all hold.
  module _ (long : Bool) (h : (Ok tt) ≡ slow_verdict file long 0) where
    pub verdict_20 : slow_right at n S ≡ false → Err (refused_by 20) ≡ slow_verdict file long (slow_number at n S)
    unfolding slow_number
    verdict_20 e = rw e (sym (lent_then file long h 20))

    pub verdict_right : slow_right at n S ≡ true → (Ok tt) ≡ slow_verdict file long (slow_number at n S)
    unfolding slow_number
    verdict_right e = rw e (sym (lent_then file long h 0))

-- What the counts are, where they are those of the file.
module _ (file : List ℕ) (m : SlowCounts) (b : Before) (eb : b ≡ before_at (record_at file) (record_count file) (record_count file)) where
  abbrev found : Bool
  found = eqb m.inputs b.inputs && eqb m.outputs b.outputs && leb m.current 256 && leb m.following 256 && leb m.standing 256

  pub counts_as : (S : SlowTables) → S.counts ≡ m → found ≡ counts_are file S
  counts_as S e = rw (eb, e)

  pub found_lists : found ≡ true → (m.current ≤ 256) × (m.following ≤ 256) × (m.standing ≤ 256)
  found_lists e =
      let i = eqb m.inputs b.inputs in
      let o = eqb m.outputs b.outputs in
      let c = leb m.current 256 in
      let f = leb m.following 256 in
      let d = leb m.standing 256 in
      let four = and_left (i && o && c && f) d e in
      let three = and_left (i && o && c) f four in
      (leb-true _ 256 (and_right (i && o) c three), leb-true _ 256 (and_right (i && o && c) f four), leb-true _ 256 (and_right (i && o && c && f) d e))

-- The words that were laid are those of the file's components.
pub laid_words : (file cs zs : List ℕ)
    → cs ≡ overlay (joined (primitive_words (record_at file) (record_count file)) (primitives (record_at file) (record_count file))) zs
    → zs ≡ replicate 2048 0 → cs ≡ drawn_words (record_at file) (record_count file)
laid_words file cs zs e f = e ∙ ap (overlay (joined (primitive_words (record_at file) (record_count file)) (primitives (record_at file) (record_count file)))) f

-- What a component of the file gives the tests of its values.
module _ (file cs is os : List ℕ) (accepted : verdict file ≡ Ok tt) (words : cs ≡ drawn_words (record_at file) (record_count file))
    (ins : 1024 ≤ length is) (outs : 1024 ≤ length os) (k : ℕ) (ek : k ≡ length (primitives (record_at file) (record_count file))) where
  pub row_given : (i : ℕ) → i < k → RowInside cs i × (obeyed_at cs i ≡ true) × InputsInside cs is i × OutputsInside cs os i
  row_given i h =
      let v = words_evaluate file cs is os accepted words ins outs i (omega (arith, h, ek)) in
      (v.row, v.obeyed, v.inputs_in, v.outputs_in)

-- The tests of values and of lists, on what was laid.
module _ (file cs : List ℕ) (words : cs ≡ drawn_words (record_at file) (record_count file)) (k : ℕ)
    (ek : k ≡ length (primitives (record_at file) (record_count file))) (S : SlowTables) where
  pub values_as : every (values_fit_at cs S.inputs S.outputs) (from 0 k) ≡ values_fit (drawn (record_at file) (record_count file) S)
  unfolding values_fit
  values_as = rw (words, ek)

  pub consts_as : every (held_at cs S.outputs) (from 0 k) ≡ consts_held (drawn (record_at file) (record_count file) S)
  unfolding consts_held
  consts_as = rw (words, ek)

  pub names_as : (m : Counts) → m ≡ counts_for S.counts k → (xs : List ℕ)
      → names (lent [] [] [] [] m) xs ≡ names (drawn (record_at file) (record_count file) S) xs
  unfolding names
  names_as m em xs = rw (em, ek)

-- An answer is ready or refused, and ready with one number.
pub not_ready : (r : Refusal) (k : ℕ) → ◌≡◌ {A = Result ℕ Refusal} (Err r) (Ok k) → ⊥
not_ready r k e = not_accepted r (sym (ap prepared_verdict (sym e)))

abbrev counted_as : Result ℕ Refusal → ℕ
counted_as (Ok k) = k
counted_as (Err r) = 0

pub ready_is : (j k : ℕ) → ◌≡◌ {A = Result ℕ Refusal} (Ok j) (Ok k) → k ≡ j
ready_is j k e = sym (ap counted_as e)

-- Accepted with a number behind it, all that is lent is long enough.
pub lent_room : (file : List ℕ) (long : Bool) (k : ℕ) → (Ok tt) ≡ slow_verdict file long k → long ≡ true
lent_room file long k e = by_cases (sized file) long e
  where
    by_cases : (a b : Bool) → (Ok tt) ≡ cond a (cond b (and_then (judgement file) k) (refused 2 0)) (refused 1 0) → b ≡ true
    by_cases true true h = refl
    by_cases true false h = absurd (not_accepted _ (sym h))
    by_cases false b h = absurd (not_accepted _ (sym h))

-- Where 0 behind a load's own verdict is accepted, any number behind it decides.
pub accepted_behind : (file : List ℕ) (long : Bool) (j k : ℕ) → j ≡ 0 → (Ok tt) ≡ slow_verdict file long j → slow_verdict file long k ≡ and_then (Ok tt) k
accepted_behind file long j k z h = lent_then file long (h ∙ ap (slow_verdict file long) z) k

-- Accepted with a number behind it, the number is 0, and the file is accepted.
pub lent_number : (file : List ℕ) (long : Bool) (k : ℕ) → (Ok tt) ≡ slow_verdict file long k → (k ≡ 0) × (verdict file ≡ Ok tt)
lent_number file long k e = by_cases (sized file) long (judgement file) refl e
  where
    by_number : (b : Bool) → eqb k 0 ≡ b → ◌≡◌ {A = Verdict} (Ok tt) (cond b (Ok tt) (Err (refused_by k))) → k ≡ 0
    by_number true h y = eqb-true k 0 h
    by_number false h y = absurd (not_accepted _ (sym y))

    by_cases : (a b : Bool) (v : Verdict) → judgement file ≡ v → (Ok tt) ≡ cond a (cond b (and_then v k) (refused 2 0)) (refused 1 0)
        → (k ≡ 0) × (verdict file ≡ Ok tt)
    by_cases true true (Err r) j h = absurd (not_accepted r (sym h))
    by_cases true true (Ok _) j h = (by_number (eqb k 0) refl h, judgement_accepted file j)
    by_cases true false v j h = absurd (not_accepted _ (sym h))
    by_cases false b v j h = absurd (not_accepted _ (sym h))
